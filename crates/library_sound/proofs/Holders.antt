-- What receivers hold: strings and builders have units, and rows have values.
use Rattle.std.proofs.Common.{◌≡◌, ℕ, List, [], ◌∷◌, Option, Some, None, refl, sym, ap, subst, ◌∙◌}
use Rattle.std.specs.Prelude.{true, false, slice_get, codes}
use Rattle.std.proofs.lemmas.Option.{same_Some}
use Rattle.je_base.specs.declared.span.NameId.{NameId}
use Rattle.je_core.specs.declared.object.Obj.{Obj}
use Rattle.je_core.specs.declared.object.Obj.TheVariants.{Instance, Array, Text, Builder, Row, Cap}
use Rattle.je_core.specs.declared.types.ClassId.{ClassId}
use Rattle.je_core.specs.declared.types.Ty.{Ty}
use Rattle.je_core.specs.declared.value.ObjId.{ObjId}
use Rattle.je_core.specs.declared.value.Value.{Value}
use Rattle.je_core.specs.declared.value.Value.TheVariants.{Ref}
use Rattle.je_core.specs.Core.{CoreProgram}
use Rattle.je_table.specs.declared.classes.LibraryClass.TheVariants as class
use Rattle.je_table.specs.Library.{class_row}
use Rattle.je_classes.specs.Hierarchy.{library_class, object_class, same_class}
use Rattle.je_classes.specs.Subtypes.{class_type, is_reference}
use Rattle.je_classes.proofs.Below.{same_class-refl}
use Rattle.je_fitting.specs.Types.{string}
use Rattle.je_java.specs.LibraryClasses.{string_class, builder_class}
use Rattle.je_java.specs.Steps.{Computation, bind, deref, get_units, on_some, put_units, with_objects}
use Rattle.je_java.specs.World.{World, class_in, held_in, held_by, units_in, units_of, with_units_at}
use Rattle.je_sound.specs.Objects.{throwable_class, token_class, const_row, int_row, text_row, device_interfaces, has_instances, is_row_class, is_device_interface, IsObject, an_instance, a_row, a_capability}
use Rattle.je_sound.specs.Values.{ValueFits}
use Rattle.je_sound.specs.Worlds.{Sound}
use Rattle.je_sound.proofs.Worlds.{units_keep}
use Rattle.library_classes.specs.Library.{all_due, class_due, rows}
use Rattle.eval_sound.specs.Safety.{Any, Context, EndFits, Grows, Safe, Setting}
use Rattle.library_fits.proofs.Table.{apart}
use Rattle.eval_sound.proofs.Finals.{FinalDue, object-of}
use Rattle.eval_sound.proofs.Growth.{grows-refl, grows-on, grows-united}
use Rattle.eval_sound.proofs.Made.{bind_object, safe-deref}
use Rattle.eval_sound.proofs.Moves.{any, fits-more, own-more, safe-bind}
use Rattle.eval_sound.proofs.Steps.{goes}
use Rattle.eval_sound.proofs.Texts.{string-units}
use Rattle.eval_sound.proofs.Types.{Known}

-- ---- the final classes

builder-due : (number : List ℕ → NameId) → FinalDue number builder_class
unfolding library_class object_class builder_class throwable_class token_class all_due rows
builder-due number = record {
  class = class_due number 2 (class_row class.StringBuilder);
  there = refl;
  final = refl;
  plain = refl;
  round = builder_class ∷ object_class ∷ [];
  is_round = record { closed = refl; among = refl };
  not_throwable = refl;
  not_object = refl;
  bare = refl;
}

pub const-row-due : (number : List ℕ → NameId) → FinalDue number const_row
unfolding library_class object_class const_row throwable_class token_class all_due rows
const-row-due number = record {
  class = class_due number 15 (class_row class.ConstRow);
  there = refl;
  final = refl;
  plain = refl;
  round = const_row ∷ object_class ∷ library_class (codes "org.joe_e.Immutable") ∷ [];
  is_round = record { closed = refl; among = refl };
  not_throwable = refl;
  not_object = refl;
  bare = refl;
}

pub int-row-due : (number : List ℕ → NameId) → FinalDue number int_row
unfolding library_class object_class int_row throwable_class token_class all_due rows
int-row-due number = record {
  class = class_due number 16 (class_row class.IntRow);
  there = refl;
  final = refl;
  plain = refl;
  round = int_row ∷ object_class ∷ library_class (codes "org.joe_e.Powerless") ∷ library_class (codes "org.joe_e.Immutable") ∷ [];
  is_round = record { closed = refl; among = refl };
  not_throwable = refl;
  not_object = refl;
  bare = refl;
}

pub text-row-due : (number : List ℕ → NameId) → FinalDue number text_row
unfolding library_class object_class text_row throwable_class token_class all_due rows
text-row-due number = record {
  class = class_due number 17 (class_row class.TextRow);
  there = refl;
  final = refl;
  plain = refl;
  round = text_row ∷ object_class ∷ library_class (codes "org.joe_e.Powerless") ∷ library_class (codes "org.joe_e.Immutable") ∷ [];
  is_round = record { closed = refl; among = refl };
  not_throwable = refl;
  not_object = refl;
  bare = refl;
}

builder-no-text : same_class string_class builder_class ≡ false
unfolding library_class string_class builder_class
builder-no-text = refl

builder-no-row : is_row_class builder_class ≡ false
unfolding library_class builder_class const_row int_row text_row
builder-no-row = refl

builder-no-device : is_device_interface builder_class ≡ false
unfolding library_class builder_class device_interfaces
builder-no-device = refl

builder-differs : ¬ (string_class ≡ builder_class)
builder-differs e = apart (subst (λ (x : ClassId). same_class string_class x ≡ true) e (same_class-refl string_class)) builder-no-text

-- ---- units

held-units : (o : Option Obj) (units : List ℕ) → held_in o ≡ Some units → units_in o ≡ Some units
held-units None units e = absurd cc
held-units (Some (Instance k slots)) units e = absurd cc
held-units (Some (Array element slots)) units e = absurd cc
held-units (Some (Text us)) units e = absurd cc
held-units (Some (Builder us)) units e = e
held-units (Some (Row k slots)) units e = absurd cc
held-units (Some (Cap device k)) units e = absurd cc

-- what fits a type has units
pub record HasUnits (S : Setting) (t : Ty) : Type 0 where
  pub reference : is_reference t ≡ true
  pub units : (world : World) (o : ObjId) → Sound S.program world → ValueFits S.program world.objects t (Ref o) → (units : List ℕ) × (units_of world.objects o.0 ≡ Some units)

module _ (p : CoreProgram) (known : Known p) where
  -- what is a builder holds units
  builder-held : (world : World) (o : ObjId) → Sound p world → ValueFits p world.objects (class_type builder_class) (Ref o) → (units : List ℕ) × (held_by world.objects o.0 ≡ Some units)
  builder-held world o s f = let x = object-of p known builder_class (builder-due known.library.number) world o s f in
      let u = by x.no_instance x.object x.class x.kind in (u.0, ap held_in x.there ∙ u.1)
    where
      by : ¬ (has_instances p builder_class ≡ true) → (x : Obj) → class_in (Some x) ≡ Some builder_class → IsObject p x → (units : List ℕ) × (held_in (Some x) ≡ Some units)
      by none (Instance k slots) e (an_instance there made has) = absurd (none (subst (λ (x : ClassId). has_instances p x ≡ true) (same_Some k builder_class e) has))
      by none (Array element slots) e k = absurd cc
      by none (Text units) e k = absurd (builder-differs (same_Some string_class builder_class e))
      by none (Builder units) e k = (units, refl)
      by none (Row k slots) e (a_row there is) = apart (subst (λ (x : ClassId). is_row_class x ≡ true) (same_Some k builder_class e) is) builder-no-row
      by none (Cap device k) e (a_capability there is) = apart (subst (λ (x : ClassId). is_device_interface x ≡ true) (same_Some k builder_class e) is) builder-no-device

module _ {S : Setting} (fit : Known S.program) where
  pub string-holds : HasUnits S string
  string-holds = record { reference = refl; units = string-units S.program fit }

  pub builder-holds : HasUnits S (class_type builder_class)
  builder-holds = record {
    reference = refl;
    units = λ world o s f. let u = builder-held S.program fit world o s f in (u.0, held-units (slice_get world.objects o.0) u.0 u.1);
  }

  pub safe-get_units : {c : Context} {w : List Obj} {t : Ty} {o : ObjId} → HasUnits S t → ValueFits S.program w t (Ref o) → Safe S c w Any (get_units o)
  unfolding get_units
  safe-get_units {o = o} has f = record { run = λ go exits g x. record { from = λ s l st. let u = has.units s.world o st.world.sound (fits-more l f) in goes u.0 u.1 g l st any } }

  pub safe-put_units : {c : Context} {w : List Obj} {o : ObjId} (units : List ℕ) → ValueFits S.program w (class_type builder_class) (Ref o) → Safe S c w Any (put_units o units)
  unfolding put_units
  safe-put_units {o = o} units f = record {
    run = λ go exits g x. record {
      from = λ s l st.
          let held = builder-held S.program fit s.world o st.world.sound (fits-more l f) in
          let on = grows-united s.world.objects o.0 units in
          subst (λ y. EndFits S (on_some y (λ old. go tt (with_objects s (with_units_at s.world.objects o.0 units))))) (sym held.1)
          ((g _ (grows-on l on) tt any).from _ grows-refl (record {
            world = record { sound = units_keep S.program s.world o.0 units st.world.sound; grown = grows-on st.world.grown on };
            own = own-more on st.own;
          }));
    };
  }

  -- a receiver, and its units
  pub receive : {A : Type 0} {Q : List Obj → A → Type 0} {c : Context} {w : List Obj} {t : Ty} {this : Value} {f : ObjId → List ℕ → Computation A} → HasUnits S t → ValueFits S.program w t this →
      ((later : List Obj) → Grows w later → (o : ObjId) → ValueFits S.program later t (Ref o) → (units : List ℕ) → Safe S c later Q (f o units)) →
      Safe S c w Q (bind (deref S.program this) λ o. bind (get_units o) λ units. f o units)
  receive has f k = bind_object (safe-deref fit has.reference f) λ later l o h. safe-bind (safe-get_units has h) λ last l' units q. k last (grows-on l l') o (fits-more l' h) units
