-- The class whose methods an object has, and the method that it has for a named one.
use Rattle.eval_sound.proofs.Members.{bodiless}
use Rattle.std.proofs.Common.{◌≡◌, ℕ, List, Option, Some, None, refl, sym, ap, subst, ◌∙◌, inl, inr}
use Rattle.std.specs.Prelude.{Bool, true, false, ◌||◌, ◌⊎◌, slice_get, nat_lt, if◌then◌else◌}
use Rattle.std.proofs.lemmas.Option.{same_Some}
use Rattle.je_base.specs.declared.span.NameId.{NameId}
use Rattle.je_core.specs.declared.object.Obj.{Obj}
use Rattle.je_core.specs.declared.object.Obj.TheVariants.{Instance, Array, Text, Builder, Row, Cap}
use Rattle.je_core.specs.declared.types.ClassId.{ClassId}
use Rattle.je_core.specs.declared.types.Ty.{Ty}
use Rattle.je_core.specs.declared.value.ObjId.{ObjId}
use Rattle.je_core.specs.declared.value.Value.TheVariants.{Ref}
use Rattle.je_core.specs.Core.{CoreMethod, CoreClass, CoreProgram}
use Rattle.je_table.specs.declared.classes.LibraryClass.TheVariants as class
use Rattle.je_table.specs.Library.{class_row}
use Rattle.je_classes.specs.Hierarchy.{class_at, library_class, same_class, is_below, object_class}
use Rattle.je_classes.specs.Subtypes.{class_type, array_of}
use Rattle.je_classes.proofs.Below.{same_class-equal, below-to, below-from}
use Rattle.je_fitting.specs.Classes.{IsInstanceMethod}
use Rattle.je_fitting.specs.Expressions.{method_at, is_constructor, can_be_made}
use Rattle.je_fitting.specs.Types.{agrees}
use Rattle.je_fitting.proofs.ClassesDecided.{at-place}
use Rattle.je_java.specs.LibraryClasses.{string_class, builder_class}
use Rattle.je_java.specs.Steps.{bind, ret, on_some, receiving_class, get_type, get_receiving_class}
use Rattle.je_java.specs.World.{World, type_in, type_of}
use Rattle.je_sound.specs.Objects.{const_row, int_row, text_row, is_row_class, is_device_interface, IsObject, an_instance, an_array, a_text, a_builder, a_row, a_capability, ObjectFits}
use Rattle.je_sound.specs.Values.{ValueFits}
use Rattle.je_sound.specs.Worlds.{Sound}
use Rattle.je_sound.proofs.Dispatched.{calls_are_dispatched}
use Rattle.je_sound.proofs.Library.{alone, there-too}
use Rattle.je_sound.proofs.Values.{agree-on}
use Rattle.je_sound.proofs.Members.{classes-agree, array-agrees, no-interface, object-above}
use Rattle.library_classes.specs.Library.{LibraryStands, all_due, class_due, rows}
use Rattle.eval_sound.specs.Premises.{Dispatches, ComesTo, Premises, has_objects}
use Rattle.eval_sound.specs.Safety.{Setting, Context, Grows, HasDevice, Safe, EndFits}
use Rattle.eval_sound.proofs.Growth.{grows-refl}
use Rattle.eval_sound.proofs.Moves.{fits-more}
use Rattle.eval_sound.proofs.Operators.{either-way}
use Rattle.eval_sound.proofs.Reached.{reached}
use Rattle.eval_sound.proofs.Types.{Known, agree-itself, below-agrees}

-- a class that is there, of which objects are made
pub record IsMade (p : CoreProgram) (k : ClassId) : Type 0 where
  pub class : CoreClass
  pub there : class_at p k ≡ Some class
  pub made : can_be_made class ≡ true

record MadeDue (number : List ℕ → NameId) (k : ClassId) : Type 0 where
  class : CoreClass
  there : slice_get (all_due number) k.0 ≡ Some class
  made : can_be_made class ≡ true

object-due : (number : List ℕ → NameId) → MadeDue number object_class
unfolding library_class object_class all_due rows
object-due number = record { class = class_due number 0 (class_row class.Object); there = refl; made = refl }

string-due : (number : List ℕ → NameId) → MadeDue number string_class
unfolding library_class string_class all_due rows
string-due number = record { class = class_due number 1 (class_row class.String); there = refl; made = refl }

builder-due : (number : List ℕ → NameId) → MadeDue number builder_class
unfolding library_class builder_class all_due rows
builder-due number = record { class = class_due number 2 (class_row class.StringBuilder); there = refl; made = refl }

const-due : (number : List ℕ → NameId) → MadeDue number const_row
unfolding library_class const_row all_due rows
const-due number = record { class = class_due number 15 (class_row class.ConstRow); there = refl; made = refl }

int-due : (number : List ℕ → NameId) → MadeDue number int_row
unfolding library_class int_row all_due rows
int-due number = record { class = class_due number 16 (class_row class.IntRow); there = refl; made = refl }

text-due : (number : List ℕ → NameId) → MadeDue number text_row
unfolding library_class text_row all_due rows
text-due number = record { class = class_due number 17 (class_row class.TextRow); there = refl; made = refl }

module _ (p : CoreProgram) (s : LibraryStands p) where
  made-too : {k : ClassId} → MadeDue s.number k → IsMade p k
  made-too {k = k} d = record { class = d.class; there = there-too p s k d.class d.there; made = d.made }

  row-made : (k : ClassId) → is_row_class k ≡ true → IsMade p k
  row-made k e = either-way (same_class k const_row || same_class k int_row) (same_class k text_row) e
      (λ q. either-way (same_class k const_row) (same_class k int_row) q (λ h. at (same_class-equal k const_row h) (const-due s.number)) (λ h. at (same_class-equal k int_row h) (int-due s.number)))
      (λ q. at (same_class-equal k text_row q) (text-due s.number))
    where
      at : {d : ClassId} → k ≡ d → MadeDue s.number d → IsMade p k
      at e d = subst (λ (x : ClassId). IsMade p x) (sym e) (made-too d)

-- a class of objects that are made, or a device's interface, where one was there at first
pub data Kind (S : Setting) (own : ClassId) : Type 0 where
  a_made : IsMade S.program own → Kind S own
  a_device : HasDevice S.first → is_device_interface own ≡ true → Kind S own

-- an object has the methods of a class, which stands below a class of which it is
record Received (S : Setting) (class : ClassId) (object : ObjId) (objects : List Obj) (own : ClassId) : Type 0 where
  fits : ValueFits S.program objects (class_type own) (Ref object)
  agree : agrees S.program (class_type own) (class_type class) ≡ true
  kind : Kind S own

-- the same of an object of a type
pub record Receives (S : Setting) (t : Ty) (class : ClassId) (object : ObjId) (objects : List Obj) (own : ClassId) : Type 0 where
  pub type : Ty
  pub real : has_objects type ≡ true
  pub of_type : agrees S.program type t ≡ true
  pub is : receiving_class type.dims type.base ≡ own
  pub fits : ValueFits S.program objects (class_type own) (Ref object)
  pub agree : agrees S.program (class_type own) (class_type class) ≡ true
  pub kind : Kind S own

-- an object's type is one that an object has
object-type : (objects : List Obj) (id : ℕ) (own : Ty) → type_of objects id ≡ Some own → has_objects own ≡ true
object-type objects id own e = by (slice_get objects id) e
  where
    is : {t : Ty} → has_objects t ≡ true → Some t ≡ Some own → has_objects own ≡ true
    is {t = t} h q = subst (λ (u : Ty). has_objects u ≡ true) (same_Some t own q) h

    of-array : (element : Ty) (few : Bool) → (if few then Some (array_of element) else None) ≡ Some own → has_objects own ≡ true
    of-array element true q = is {t = array_of element} refl q
    of-array element false q = absurd cc

    by : (x : Option Obj) → type_in x ≡ Some own → has_objects own ≡ true
    by None q = absurd cc
    by (Some (Instance k slots)) q = is refl q
    by (Some (Array element slots)) q = of-array element (nat_lt element.dims 255) q
    by (Some (Text units)) q = is refl q
    by (Some (Builder units)) q = is refl q
    by (Some (Row k slots)) q = is refl q
    by (Some (Cap device k)) q = is refl q

module _ {S : Setting} (fit : Known S.program) where
  received : (objects : List Obj) (o : ObjId) (class k : ClassId) (own : Ty) → type_of objects o.0 ≡ Some own → Some (class_type k) ≡ Some own → agrees S.program own (class_type class) ≡ true →
      Kind S k → Received S class o objects (receiving_class own.dims own.base)
  received objects o class k own e q a kind =
      let is : class_type k ≡ own = same_Some (class_type k) own q in
      subst (λ (u : Ty). Received S class o objects (receiving_class u.dims u.base)) is (record {
        fits = record { own = class_type k; has = e ∙ sym q; agree = agree-itself S.program fit (class_type k) refl };
        agree = subst (λ (u : Ty). agrees S.program u (class_type class) ≡ true) (sym is) a;
        kind = kind;
      })

  receives : (world : World) (o : ObjId) (class : ClassId) → Sound S.program world → Grows S.first world.objects → (f : ValueFits S.program world.objects (class_type class) (Ref o)) →
      Received S class o world.objects (receiving_class f.own.dims f.own.base)
  receives world o class s grown f = by (slice_get world.objects o.0) refl f.has
    where
      kind : (x : Obj) → slice_get world.objects o.0 ≡ Some x → IsObject S.program x
      kind x q = (at-place (ObjectFits S.program world.objects) world.objects o.0 x s.objects q).kind

      of-instance : (k : ClassId) (x : Obj) → IsObject S.program x → (slots : List _) → x ≡ Instance k slots → IsMade S.program k
      of-instance k _ (an_instance {class = d} {c = c} there made has) slots e =
          let one : d ≡ k = ap class-in e in subst (λ (y : ClassId). IsMade S.program y) one (record { class = c; there = there; made = made })
        where
          class-in : Obj → ClassId
          class-in (Instance y slots) = y
          class-in _ = k
      of-instance k _ (an_array v w) slots e = absurd cc
      of-instance k _ a_text slots e = absurd cc
      of-instance k _ a_builder slots e = absurd cc
      of-instance k _ (a_row v w) slots e = absurd cc
      of-instance k _ (a_capability v w) slots e = absurd cc

      of-array : (element : Ty) (b : Bool) → (if b then Some (array_of element) else None) ≡ Some f.own → Received S class o world.objects (receiving_class f.own.dims f.own.base)
      of-array element true h =
          let is : array_of element ≡ f.own = same_Some (array_of element) f.own h in
          let top : class ≡ object_class = same_class-equal class object_class (array-agrees S.program element class (subst (λ (u : Ty). agrees S.program u (class_type class) ≡ true) (sym is) f.agree)) in
          subst (λ (u : Ty). Received S class o world.objects (receiving_class u.dims u.base)) is
          (subst (λ (d : ClassId). Received S d o world.objects object_class) (sym top) (record {
            fits = subst (λ (d : ClassId). ValueFits S.program world.objects (class_type d) (Ref o)) top f;
            agree = agree-itself S.program fit (class_type object_class) refl;
            kind = a_made (made-too S.program fit.library (object-due fit.library.number));
          }))
      of-array element false h = absurd cc

      by : (x : Option Obj) → slice_get world.objects o.0 ≡ x → type_in x ≡ Some f.own → Received S class o world.objects (receiving_class f.own.dims f.own.base)
      by None q h = absurd cc
      by (Some (Instance k slots)) q h = received world.objects o class k f.own f.has h f.agree (a_made (of-instance k (Instance k slots) (kind _ q) slots refl))
      by (Some (Array element slots)) q h = of-array element (nat_lt element.dims 255) h
      by (Some (Text units)) q h = received world.objects o class string_class f.own f.has h f.agree (a_made (made-too S.program fit.library (string-due fit.library.number)))
      by (Some (Builder units)) q h = received world.objects o class builder_class f.own f.has h f.agree (a_made (made-too S.program fit.library (builder-due fit.library.number)))
      by (Some (Row k slots)) q h = received world.objects o class k f.own f.has h f.agree (a_made (row-made S.program fit.library k (of-row (kind _ q))))
        where
          of-row : IsObject S.program (Row k slots) → is_row_class k ≡ true
          of-row (a_row there is) = is
      by (Some (Cap device k)) q h = received world.objects o class k f.own f.has h f.agree (a_device (grown.devices (record { id = o.0; object = Cap device k; there = q; device = refl })) (of-cap (kind _ q)))
        where
          of-cap : IsObject S.program (Cap device k) → is_device_interface k ≡ true
          of-cap (a_capability there is) = is

  pub safe-get_receiving_class : {c : Context} {w : List Obj} {t : Ty} (class : ClassId) {o : ObjId} → agrees S.program t (class_type class) ≡ true → ValueFits S.program w t (Ref o) →
      Safe S c w (Receives S t class o) (get_receiving_class o)
  unfolding get_receiving_class get_type bind ret
  safe-get_receiving_class {t = t} class {o = o} up f = record {
    run = λ go exits g x. record {
      from = λ s l st.
          let now = fits-more l f in
          let r = receives s.world o class st.world.sound st.world.grown (record { own = now.own; has = now.has; agree = agree-on fit.decided S.program (alone S.program fit.library) now.own t (class_type class) now.agree up }) in
          subst (λ y. EndFits S (on_some y (λ own. go (receiving_class own.dims own.base) s))) (sym now.has)
          ((g s.world.objects l _ (record { type = now.own; real = object-type s.world.objects o.0 now.own now.has; of_type = now.agree; is = refl; fits = r.fits; agree = r.agree; kind = r.kind })).from s grows-refl st);
    };
  }

  -- the method that the object's class has
  pub dispatches : (premises : Premises S) (own class : ClassId) (at : ℕ) (named : CoreMethod) → ComesTo S own class at → method_at S.program class at ≡ Some named → named.flags.is_static ≡ false →
      is_constructor S.program named ≡ false → agrees S.program (class_type own) (class_type class) ≡ true → Kind S own → Dispatches S own class at named
  dispatches premises own class at named names is instance method agree (a_device first device) = premises.library.devices first own class at named names device agree is
  dispatches premises own class at named names is instance method agree (a_made k) =
      let d = calls_are_dispatched S.program own class k.class at named fit.whole k.there k.made below is instance method in
      let r = reached S.program fit.whole own class k.class at named k.there k.made (below-to S.program own class below) is method d.0 d.1 d.3 d.2 in
      record {
        member = d.0;
        method = d.1;
        found = d.2;
        there = d.3;
        above = up d.0.class (below-from S.program r.below);
        instance = d.4.own;
        plain = r.plain;
        params = d.4.params;
        result = d.4.result;
        library = λ none. premises.library.dispatched_to own class at named k.class d.0 d.1 names k.there k.made called d.2 (bodiless S.program fit.whole premises.no_native d.0.class d.0.at d.1 d.3 d.4.concrete none);
      }
    where
      below : is_below S.program own class ≡ true
      below = by (classes-agree S.program own class agree)
        where
          by : (same_class class object_class ≡ true) ⊎ (is_below S.program own class ≡ true) → is_below S.program own class ≡ true
          by (inl h) = subst (λ (x : ClassId). is_below S.program own x ≡ true) (sym (same_class-equal class object_class h)) (object-above S.program fit.whole own k.class k.there (no-interface k.class k.made))
          by (inr h) = h

      called : IsInstanceMethod S.program own class at named
      called = record { there = is; is_above = below; own = instance; no_constructor = method }

      up : (d : ClassId) → is_below S.program own d ≡ true → agrees S.program (class_type own) (class_type d) ≡ true
      up d h = below-agrees S.program own d h
