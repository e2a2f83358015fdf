-- Strings that are joined: each value comes to its text, an object by its `toString()`.
use Rattle.std.proofs.Common.{◌≡◌, ℕ, List, [], ◌++◌, Some, refl, sym, ap, subst, ◌∙◌}
use Rattle.std.specs.Prelude.{Bool, true, false, slice_get, codes, if◌then◌else◌}
use Rattle.std.specs.List.{list_any}
use Rattle.std.specs.Str.{bytes_eq}
use Rattle.je_base.specs.declared.span.NameId.{NameId}
use Rattle.je_core.specs.declared.object.Obj.{Obj}
use Rattle.je_core.specs.declared.types.Ty.{Ty}
use Rattle.je_core.specs.declared.value.ObjId.{ObjId}
use Rattle.je_core.specs.declared.value.Value.{Value}
use Rattle.je_core.specs.declared.value.Value.TheVariants as value
use Rattle.je_core.specs.Core.{CoreMethod, CoreProgram}
use Rattle.je_classes.specs.Hierarchy.{library_class, object_class}
use Rattle.je_classes.specs.Members.{methods_in}
use Rattle.je_classes.specs.Subtypes.{class_type, is_reference}
use Rattle.je_classes.proofs.Same.{same_type-equal}
use Rattle.class_names.specs.Words.{library_words, class_words, member_words, further_words}
use Rattle.je_fitting.specs.Expressions.{method_at, is_constructor}
use Rattle.je_fitting.specs.Types.{agrees, string, is_void}
use Rattle.je_java.specs.LibraryClasses.{string_class, to_string_place}
use Rattle.je_java.specs.Meaning.{Meanings, to_string}
use Rattle.je_java.specs.Steps.{receiving_class, Computation, bind, get_units}
use Rattle.je_java.specs.Texts.{is_string, units_told, text_of, concatenated}
use Rattle.je_sound.specs.Values.{ValueFits, ValuesFit}
use Rattle.library_classes.specs.Library.{LibraryStands, all_due, rows}
use Rattle.eval_sound.specs.Premises.{ComesTo, Premises, has_objects}
use Rattle.eval_sound.specs.Safety.{Any, Setting, Fitting, Context, Safe}
use Rattle.eval_sound.proofs.Bodies.{safe-run_virtual}
use Rattle.eval_sound.proofs.Made.{bind_object, safe-make_text}
use Rattle.eval_sound.proofs.Moves.{any, fits-more, safe-ret, safe-bind, safe-need}
use Rattle.eval_sound.specs.Laws.{MeaningsAreSafe}
use Rattle.eval_sound.proofs.Results.{whole}
use Rattle.eval_sound.proofs.Steps.{IsOf, goes, safe-get_type}
use Rattle.eval_sound.proofs.Texts.{string-units}
use Rattle.library_fits.proofs.Named.{method-named, method-there}
use Rattle.eval_sound.proofs.Types.{Known, object-up, string-itself}
use Rattle.eval_sound.proofs.Values.{Formed, bool, byte, short, char, int, long, null, reference, formed}

-- ---- Object's `toString()`

record ToStringDue (number : List ℕ → NameId) : Type 0 where
  method : CoreMethod
  there : slice_get (methods_in (slice_get (all_due number) object_class.0)) to_string_place ≡ Some method
  instance : method.flags.is_static ≡ false
  params : method.params ≡ []
  returns : method.returns ≡ string
  name : method.name ≡ number (codes "toString")

to-string-due : (number : List ℕ → NameId) → ToStringDue number
unfolding library_class object_class all_due rows to_string_place
to-string-due number = record { method = _; there = refl; instance = refl; params = refl; returns = refl; name = refl }

to-string-word : list_any (bytes_eq (codes "toString")) library_words ≡ true
unfolding library_words class_words member_words further_words
to-string-word = refl

words-differ : bytes_eq (codes "new") (codes "toString") ≡ false
words-differ = refl

record HasToString (p : CoreProgram) : Type 0 where
  method : CoreMethod
  there : method_at p object_class to_string_place ≡ Some method
  instance : method.flags.is_static ≡ false
  plain : is_constructor p method ≡ false
  params : method.params ≡ []
  returns : method.returns ≡ string

has-to-string : (p : CoreProgram) → LibraryStands p → HasToString p
has-to-string p s = let d = to-string-due s.number in record {
  method = d.method;
  there = method-there p s object_class to_string_place d.method d.there;
  instance = d.instance;
  plain = method-named p s d.method (codes "toString") d.name to-string-word words-differ;
  params = d.params;
  returns = d.returns;
}

-- how an object tells itself
pub record Tells (S : Setting) (c : Context) (t : Ty) (tell : ObjId → Computation Value) : Type 0 where
  pub told : (w : List Obj) (o : ObjId) → is_reference t ≡ true → ValueFits S.program w t (value.Ref o) → Safe S c w (Fitting S.program string) (tell o)

module _ {S : Setting} (fit : Known S.program) where
  safe-get_units : {c : Context} {w : List Obj} {o : ObjId} → ValueFits S.program w string (value.Ref o) → Safe S c w Any (get_units o)
  unfolding get_units
  safe-get_units {o = o} f = record { run = λ go exits g x. record { from = λ s l st. let u = string-units S.program fit s.world o st.world.sound (fits-more l f) in goes u.0 u.1 g l st any } }

  safe-units_told : {c : Context} {w : List Obj} {v : Value} → ValueFits S.program w string v → Safe S c w Any (units_told v)
  safe-units_told {c = c} {w = w} f = by refl (formed f) f
    where
      by : {t : Ty} {v : Value} → is_reference t ≡ true → Formed t v → ValueFits S.program w string v → Safe S c w Any (units_told v)
      by e bool h = absurd cc
      by e byte h = absurd cc
      by e short h = absurd cc
      by e char h = absurd cc
      by e int h = absurd cc
      by e long h = absurd cc
      by e (null r) h = safe-need _ refl any
      by e (reference r) h = safe-get_units h

  safe-text_of : {c : Context} {w : List Obj} {t : Ty} {v : Value} (tell : ObjId → Computation Value) → Tells S c t tell → ValueFits S.program w t v → Safe S c w Any (text_of tell v)
  safe-text_of {c = c} {w = w} tell told f = by (formed f) told f
    where
      of-object : {later : List Obj} {t : Ty} (o : ObjId) (own : Ty) → is_reference t ≡ true → Tells S c t tell → IsOf S t o later own → (b : Bool) → is_string own ≡ b →
          Safe S c later Any (if b then get_units o else bind (tell o) λ v. units_told v)
      of-object o own r told i true q = safe-get_units (record { own = class_type string_class; has = i.has ∙ ap Some (same_type-equal own (class_type string_class) q); agree = string-itself S.program fit })
      of-object {later = later} o own r told i false q = safe-bind (told.told later o r (record { own = own; has = i.has; agree = i.agree })) λ last l v z. safe-units_told z

      by : {t : Ty} {v : Value} → Formed t v → Tells S c t tell → ValueFits S.program w t v → Safe S c w Any (text_of tell v)
      by bool told h = safe-need _ refl any
      by byte told h = safe-need _ refl any
      by short told h = safe-need _ refl any
      by char told h = safe-need _ refl any
      by int told h = safe-need _ refl any
      by long told h = safe-need _ refl any
      by (null r) told h = safe-need _ refl any
      by (reference {o = o} r) told h = safe-bind (safe-get_type h) λ later l own i. of-object o own r told i (is_string own) refl

  pub safe-concatenated : {c : Context} {w : List Obj} {s t : Ty} {a b : Value} (tell : ObjId → Computation Value) → Tells S c s tell → Tells S c t tell → ValueFits S.program w s a →
      ValueFits S.program w t b → Safe S c w (Fitting S.program string) (concatenated tell a b)
  unfolding concatenated
  safe-concatenated tell left right f h = safe-bind (safe-text_of tell left f) λ w1 l1 front q. safe-bind (safe-text_of tell right (fits-more l1 h)) λ w2 l2 back r.
      bind_object (safe-make_text fit (front ++ back)) λ w3 l3 o z. safe-ret _ z

  -- `toString()` where the program comes to it
  pub tells : (premises : Premises S) {m : Meanings} (g : MeaningsAreSafe S m) (t : Ty) →
      ((own : Ty) → has_objects own ≡ true → agrees S.program own t ≡ true → ComesTo S (receiving_class own.dims own.base) object_class to_string_place) → (c : Context) → Tells S c t (to_string S.program m)
  tells premises {m = m} g t comes c = record {
    told = λ w o r f.
        let d = has-to-string S.program fit.library in
        subst (λ (u : Ty). Safe S c w (Fitting S.program u) (to_string S.program m o)) d.returns
        (whole (ap is_void d.returns) (safe-run_virtual fit premises g t object_class to_string_place d.method comes d.there d.instance d.plain r (object-up S.program fit t r) f
        (record { each = subst (λ ts. ValuesFit S.program w ts []) (sym d.params) tt })));
  }
