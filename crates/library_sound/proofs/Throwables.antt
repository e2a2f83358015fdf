-- What the members of Throwable, of the classes below it, of Refused and of Object do is safe.
use Rattle.std.proofs.Common.{◌≡◌, ℕ, zero, suc, List, Option, Some, None, refl, sym, ap, subst, ◌∙◌, arith}
use Rattle.std.specs.Prelude.{Bool, true, false, ◌||◌, slice_get}
use Rattle.std.specs.List.{Contains, list_any}
use Rattle.je_base.specs.declared.span.NameId.{NameId}
use Rattle.je_core.specs.declared.object.Obj.{Obj}
use Rattle.je_core.specs.declared.types.ClassId.{ClassId}
use Rattle.je_core.specs.declared.types.Ty.{Ty}
use Rattle.je_core.specs.declared.value.Value.{Value}
use Rattle.je_core.specs.Core.{CoreClass, CoreField, CoreProgram}
use Rattle.je_table.specs.declared.classes.LibraryClass.TheVariants as class
use Rattle.je_table.specs.Library.{class_row}
use Rattle.je_classes.specs.Fields.{fields_in}
use Rattle.je_classes.specs.Hierarchy.{library_class, object_class, same_class, supers_in, supers_of, Below, same, above}
use Rattle.je_classes.specs.Subtypes.{class_type, is_reference}
use Rattle.je_classes.proofs.Below.{below-from, same_class-equal}
use Rattle.je_classes.proofs.Lists.{contains-any}
use Rattle.je_fitting.specs.Expressions.{field_at}
use Rattle.je_fitting.specs.Types.{agrees, int, bool as truth, string}
use Rattle.je_java.specs.Equality.{same_reference}
use Rattle.je_java.specs.Steps.{read_field}
use Rattle.je_java.specs.library.Objects.{identity}
use Rattle.je_java.specs.library.Throwables.{refused_class, throwable_class, with_message}
use Rattle.je_sound.specs.Values.{ValueFits}
use Rattle.je_sound.proofs.Library.{there-too}
use Rattle.library_classes.specs.Library.{all_due, class_due, rows}
use Rattle.eval_sound.specs.Safety.{Any, Context, Fitting, Safe, Setting}
use Rattle.eval_sound.proofs.Made.{bind_value, safe-read_field, safe-write_field}
use Rattle.eval_sound.proofs.Moves.{any, bind_need, fits-more, safe-ret}
use Rattle.eval_sound.proofs.Operators.{either-way}
use Rattle.eval_sound.proofs.Types.{Known, below-agrees}
use Rattle.eval_sound.proofs.Values.{Formed, bool, byte, short, char, int as an_int, long, null, reference, formed, truth-fits}
use Rattle.library_sound.proofs.Arguments.{IsGiven, safe-argument}

-- references are to one object or they aren't
compared : {t u : Ty} {this other : Value} → is_reference t ≡ true → Formed t this → is_reference u ≡ true → Formed u other → (b : Bool) × (same_reference this other ≡ Some b)
compared r bool e y = absurd cc
compared r byte e y = absurd cc
compared r short e y = absurd cc
compared r char e y = absurd cc
compared r an_int e y = absurd cc
compared r long e y = absurd cc
compared r (null x) e bool = absurd cc
compared r (null x) e byte = absurd cc
compared r (null x) e short = absurd cc
compared r (null x) e char = absurd cc
compared r (null x) e an_int = absurd cc
compared r (null x) e long = absurd cc
compared r (null x) e (null y) = (true, refl)
compared r (null x) e (reference y) = (false, refl)
compared r (reference x) e bool = absurd cc
compared r (reference x) e byte = absurd cc
compared r (reference x) e short = absurd cc
compared r (reference x) e char = absurd cc
compared r (reference x) e an_int = absurd cc
compared r (reference x) e long = absurd cc
compared r (reference x) e (null y) = (false, refl)
compared r (reference x) e (reference y) = (_, refl)

-- ---- the one field of Throwable, and of Refused

record FieldDue (number : List ℕ → NameId) (k : ClassId) (t : Ty) : Type 0 where
  class : CoreClass
  there : slice_get (all_due number) k.0 ≡ Some class
  field : CoreField
  first : slice_get class.fields 0 ≡ Some field
  instance : field.is_static ≡ false
  type : field.ty ≡ t

message-due : (number : List ℕ → NameId) → FieldDue number throwable_class string
unfolding library_class throwable_class all_due rows
message-due number = record { class = class_due number 9 (class_row class.Throwable); there = refl; field = _; first = refl; instance = refl; type = refl }

code-due : (number : List ℕ → NameId) → FieldDue number refused_class int
unfolding library_class refused_class all_due rows
code-due number = record { class = class_due number 23 (class_row class.Refused); there = refl; field = _; first = refl; instance = refl; type = refl }

-- ---- what stands below Throwable

-- a class of the library, or one within so many steps above it, is Throwable
abbrev pub climbs : (List ℕ → NameId) → ℕ → ClassId → Bool
climbs number zero k = same_class k throwable_class
climbs number (suc n) k = same_class k throwable_class || list_any (climbs number n) (supers_in (slice_get (all_due number) k.0))

module _ (p : CoreProgram) (known : Known p) where
  pub below-throwable : (n : ℕ) (k : ClassId) → climbs known.library.number n k ≡ true → Below p k throwable_class
  below-throwable zero k e = subst (Below p k) (same_class-equal k throwable_class e) same
  below-throwable (suc n) k e = either-way (same_class k throwable_class) (list_any (climbs known.library.number n) (supers_in (slice_get (all_due known.library.number) k.0))) e
      (λ q. subst (Below p k) (same_class-equal k throwable_class q) same)
      (λ q. let x = contains-any (climbs known.library.number n) (supers_in (slice_get (all_due known.library.number) k.0)) q in
      above (over (slice_get (all_due known.library.number) k.0) refl x.element x.there) (below-throwable n x.element x.passes))
    where
      over : (o : Option CoreClass) → slice_get (all_due known.library.number) k.0 ≡ o → (d : ClassId) → Contains (supers_in o) d → Contains (supers_of p k) d
      over None q d h = absurd (omega (arith, h.1))
      over (Some c) q d h = subst (λ xs. Contains xs d) (sym (ap supers_in (there-too p known.library k c q))) h

  pub thrown-agrees : (n : ℕ) (k : ClassId) → climbs known.library.number n k ≡ true → agrees p (class_type k) (class_type throwable_class) ≡ true
  thrown-agrees n k e = below-agrees p k throwable_class (below-from p (below-throwable n k e))

  there-field : (k : ClassId) (t : Ty) (due : FieldDue known.library.number k t) → field_at p k 0 ≡ Some due.field
  there-field k t due = ap (λ o. slice_get (fields_in o) 0) (there-too p known.library k due.class due.there) ∙ due.first

module _ {S : Setting} (fit : Known S.program) where
  pub safe-message : {c : Context} {w : List Obj} {this : Value} → ValueFits S.program w (class_type throwable_class) this → Safe S c w (Fitting S.program string) (read_field S.program throwable_class 0 this)
  safe-message {c = c} {w = w} {this = this} f = let due = message-due fit.library.number in
      subst (λ t. Safe S c w (Fitting S.program t) (read_field S.program throwable_class 0 this)) due.type
      (safe-read_field fit throwable_class 0 due.field (there-field S.program fit throwable_class string due) due.instance f)

  pub safe-code : {c : Context} {w : List Obj} {this : Value} → ValueFits S.program w (class_type refused_class) this → Safe S c w (Fitting S.program int) (read_field S.program refused_class 0 this)
  safe-code {c = c} {w = w} {this = this} f = let due = code-due fit.library.number in
      subst (λ t. Safe S c w (Fitting S.program t) (read_field S.program refused_class 0 this)) due.type
      (safe-read_field fit refused_class 0 due.field (there-field S.program fit refused_class int due) due.instance f)

  pub safe-with_message : {c : Context} {w : List Obj} {this : Value} {given : List Value} → ValueFits S.program w (class_type throwable_class) this → IsGiven S w given 0 string →
      Safe S c w Any (with_message S.program this given)
  unfolding with_message
  safe-with_message f h = let due = message-due fit.library.number in
      bind_value (safe-argument fit h) λ later l v g. safe-write_field fit throwable_class 0 due.field (there-field S.program fit throwable_class string due) due.instance (fits-more l f)
      (subst (λ t. ValueFits S.program later t v) (sym due.type) g) (λ last l'. any)

  -- ---- one object is equal to itself alone

  pub safe-identity : {c : Context} {w : List Obj} {this : Value} {given : List Value} → ValueFits S.program w (class_type object_class) this → IsGiven S w given 0 (class_type object_class) →
      Safe S c w (Fitting S.program truth) (identity this given)
  unfolding identity
  safe-identity f h = bind_value (safe-argument fit h) λ later l other g. let s = compared refl (formed f) refl (formed g) in bind_need _ s.0 s.1 (safe-ret _ (truth-fits S.program later s.0))
