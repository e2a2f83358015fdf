-- What arguments come to, and what a member costs.
use Rattle.std.proofs.Common.{◌≡◌, ◌+◌, ◌≤◌, ℕ, zero, suc, List, Option, Some, None, refl, ap, ◌∙◌, arith}
use Rattle.std.specs.Prelude.{true, slice_get}
use Rattle.je_core.specs.declared.object.Obj.{Obj}
use Rattle.je_core.specs.declared.types.Base.TheVariants as base
use Rattle.je_core.specs.declared.types.ClassId.{ClassId}
use Rattle.je_core.specs.declared.types.Ty.{Ty}
use Rattle.je_core.specs.declared.value.ObjId.{ObjId}
use Rattle.je_core.specs.declared.value.Value.{Value}
use Rattle.je_table.specs.declared.members.CostKind.TheVariants as cost
use Rattle.je_classes.specs.Subtypes.{array_of, is_reference}
use Rattle.je_fitting.specs.Types.{of, int, bool as truth, string}
use Rattle.je_java.specs.declared.array.Extent.{Extent}
use Rattle.je_java.specs.LibraryMembers.{pay, receiver_length}
use Rattle.je_java.specs.Steps.{or_raise}
use Rattle.je_java.specs.library.Arguments.{argument, char_argument, char_in, elements_argument, int_argument, int_in, long_argument, long_in, slots_from, text_argument, text_or_null, truth_argument, truth_in, units_unless_null}
use Rattle.je_sound.specs.Values.{ValueFits}
use Rattle.je_sound.proofs.Lists.{zip-at}
use Rattle.eval_sound.specs.Safety.{AllFitting, Any, Context, Fitting, Grows, Safe, Setting}
use Rattle.eval_sound.proofs.Arrays.{AllOf, HasExtent, element-slot, extent-more, safe-get_extent}
use Rattle.eval_sound.proofs.Made.{bind_object, bind_value, safe-deref, safe-raise}
use Rattle.eval_sound.proofs.Moves.{any, fits-more, safe-bind, safe-need, safe-ret}
use Rattle.eval_sound.proofs.Standing.{CanRaise}
use Rattle.eval_sound.proofs.Steps.{safe-charge, safe-get_slot}
use Rattle.eval_sound.proofs.Types.{Known, fits-above}
use Rattle.eval_sound.proofs.Values.{Formed, bool, byte, short, char, int as an_int, long, null, reference, formed, bool-of, char-of, int-of, long-of}
use Rattle.library_sound.proofs.Holders.{HasUnits, safe-get_units, string-holds}

-- an argument of a type
pub record IsGiven (S : Setting) (w : List Obj) (given : List Value) (at : ℕ) (t : Ty) : Type 0 where
  pub value : Value
  pub there : slice_get given at ≡ Some value
  pub fits : ValueFits S.program w t value

pub given-at : {S : Setting} {w : List Obj} {ts : List Ty} {given : List Value} {t : Ty} (at : ℕ) → AllFitting S.program ts w given → slice_get ts at ≡ Some t → IsGiven S w given at t
given-at {S = S} {w = w} {ts = ts} {given = given} {t = t} at h e = let v = zip-at (ValueFits S.program w) ts given h.each at t e in record { value = v.0; there = v.1; fits = v.2 }

pub given-more : {S : Setting} {w later : List Obj} {given : List Value} {at : ℕ} {t : Ty} → Grows w later → IsGiven S w given at t → IsGiven S later given at t
given-more g h = record { value = h.value; there = h.there; fits = fits-more g h.fits }

module _ {S : Setting} (fit : Known S.program) where
  pub safe-argument : {c : Context} {w : List Obj} {given : List Value} {at : ℕ} {t : Ty} → IsGiven S w given at t → Safe S c w (Fitting S.program t) (argument given at)
  safe-argument h = safe-need h.value h.there h.fits

  pub safe-int : {c : Context} {w : List Obj} {given : List Value} {at : ℕ} → IsGiven S w given at int → Safe S c w Any (int_argument given at)
  safe-int h = let x = int-of refl h.fits in safe-need x.0 (ap int_in h.there ∙ ap (λ v. int_in (Some v)) x.1) any

  pub safe-long : {c : Context} {w : List Obj} {given : List Value} {at : ℕ} → IsGiven S w given at (of base.Long) → Safe S c w Any (long_argument given at)
  safe-long h = let x = long-of refl h.fits in safe-need x.0 (ap long_in h.there ∙ ap (λ v. long_in (Some v)) x.1) any

  pub safe-char : {c : Context} {w : List Obj} {given : List Value} {at : ℕ} → IsGiven S w given at (of base.Char) → Safe S c w Any (char_argument given at)
  safe-char h = let x = char-of refl h.fits in safe-need x.0 (ap char_in h.there ∙ ap (λ v. char_in (Some v)) x.1) any

  pub safe-truth : {c : Context} {w : List Obj} {given : List Value} {at : ℕ} → IsGiven S w given at truth → Safe S c w Any (truth_argument given at)
  safe-truth h = let x = bool-of refl h.fits in safe-need x.0 (ap truth_in h.there ∙ ap (λ v. truth_in (Some v)) x.1) any

  pub safe-text : {c : Context} {w : List Obj} {given : List Value} {at : ℕ} → IsGiven S w given at string → Safe S c w Any (text_argument S.program given at)
  safe-text h = bind_value (safe-argument h) λ later l v f. bind_object (safe-deref fit refl f) λ last l' o g. safe-get_units fit (string-holds fit) g

  pub safe-text_or_null : {c : Context} {w : List Obj} {given : List Value} {at : ℕ} → IsGiven S w given at string → Safe S c w Any (text_or_null given at)
  safe-text_or_null {c = c} h = bind_value (safe-argument h) λ later l v f. by refl (formed f) f
    where
      by : {later : List Obj} {t : Ty} {v : Value} → is_reference t ≡ true → Formed t v → ValueFits S.program later string v → Safe S c later Any (units_unless_null v)
      by e bool f = absurd cc
      by e byte f = absurd cc
      by e short f = absurd cc
      by e char f = absurd cc
      by e an_int f = absurd cc
      by e long f = absurd cc
      by e (null r) f = safe-ret _ any
      by e (reference r) f = safe-bind (safe-get_units fit (string-holds fit) f) λ last l units q. safe-ret _ any

  -- ---- the elements of an array

  safe-slots : {c : Context} {t : Ty} {o : ObjId} {extent : Extent} (count at : ℕ) → at + count ≤ extent.count → {w : List Obj} → HasExtent S t o w extent → Safe S c w (AllOf S t) (slots_from o count at)
  safe-slots zero at e h = safe-ret _ (record { each = tt })
  safe-slots {t = t} (suc count) at e h = bind_value (safe-get_slot at (element-slot h (omega arith))) λ later l v f.
      safe-bind (safe-slots count (suc at) (omega arith) (extent-more l h)) λ last l' vs q.
      safe-ret _ (record { each = (fits-above S.program fit (fits-more l' f) h.agree, q.each) })

  pub safe-elements : {c : Context} {w : List Obj} {given : List Value} {at : ℕ} {t : Ty} → IsGiven S w given at (array_of t) → Safe S c w (AllOf S t) (elements_argument S.program given at)
  safe-elements h = bind_value (safe-argument h) λ later l v f. bind_object (safe-deref fit refl f) λ last l' o g. safe-bind (safe-get_extent fit g) λ end l'' extent e.
      safe-slots extent.count 0 (omega arith) e

  -- ---- what is there, or an exception

  pub safe-or_raise : {A : Type 0} {c : Context} {w : List Obj} (class : ClassId) → CanRaise S.program class → (o : Option A) → Safe S c w Any (or_raise S.program class o)
  safe-or_raise class can None = safe-raise fit class can
  safe-or_raise class can (Some a) = safe-ret a any

  -- ---- costs

  safe-length : {c : Context} {w : List Obj} {t : Ty} {this : Value} → HasUnits S t → ValueFits S.program w t this → Safe S c w Any (receiver_length S.program this)
  safe-length has f = bind_object (safe-deref fit has.reference f) λ later l o h. safe-bind (safe-get_units fit has h) λ last l' units q. safe-ret _ any

  pub pay-receiver : {c : Context} {w : List Obj} {t : Ty} {this : Value} (given : List Value) → HasUnits S t → ValueFits S.program w t this → Safe S c w Any (pay cost.Receiver S.program this given)
  pay-receiver given has f = safe-bind (safe-length has f) λ later l count q. safe-charge count

  pub pay-product : {c : Context} {w : List Obj} {t : Ty} {this : Value} {given : List Value} → HasUnits S t → ValueFits S.program w t this → IsGiven S w given 0 string →
      Safe S c w Any (pay cost.Product S.program this given)
  pay-product has f h = safe-bind (safe-length has f) λ later l count q. safe-bind (safe-text_or_null (given-more l h)) λ last l' part r. safe-charge _

  pub pay-plain : {c : Context} {w : List Obj} (this : Value) (given : List Value) → Safe S c w Any (pay cost.Plain S.program this given)
  pay-plain this given = safe-ret _ any

  pub pay-result : {c : Context} {w : List Obj} (this : Value) (given : List Value) → Safe S c w Any (pay cost.Result S.program this given)
  pay-result this given = safe-ret _ any
