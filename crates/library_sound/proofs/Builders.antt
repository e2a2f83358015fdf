-- What the members of StringBuilder do is safe.
use Rattle.std.proofs.Common.{ℕ, List, length, Option, refl}
use Rattle.je_core.specs.declared.object.Obj.{Obj}
use Rattle.je_core.specs.declared.object.Obj.TheVariants.{Builder}
use Rattle.je_core.specs.declared.types.Base.TheVariants as base
use Rattle.je_core.specs.declared.types.Ty.{Ty}
use Rattle.je_core.specs.declared.value.ObjId.{ObjId}
use Rattle.je_core.specs.declared.value.Value.{Value}
use Rattle.je_core.specs.declared.value.Value.TheVariants.{Ref}
use Rattle.je_classes.specs.Subtypes.{class_type}
use Rattle.je_fitting.specs.Types.{of, int, bool, string}
use Rattle.je_java.specs.LibraryClasses.{builder_class}
use Rattle.je_java.specs.Raised.{illegal_state, string_index}
use Rattle.je_java.specs.library.Builders.{append, append_char, append_int, append_long, append_text, append_truth, builder_of_text, delete_char_at, new_builder, rewritten, set_char_at}
use Rattle.je_sound.specs.Objects.{a_builder}
use Rattle.je_sound.specs.Values.{ValueFits}
use Rattle.eval_sound.specs.Safety.{Any, Context, Fitting, Grows, Safe, Setting}
use Rattle.eval_sound.proofs.Growth.{grows-on}
use Rattle.eval_sound.proofs.Made.{bind_object}
use Rattle.eval_sound.proofs.Moves.{any, fits-more, safe-bind, safe-ret, safe-seq}
use Rattle.eval_sound.proofs.Standing.{raises-state, raises-string-index}
use Rattle.eval_sound.proofs.Steps.{safe-charge, safe-new_object}
use Rattle.eval_sound.proofs.Types.{Known, agree-itself}
use Rattle.library_sound.proofs.Arguments.{IsGiven, given-more, safe-char, safe-int, safe-long, safe-or_raise, safe-text, safe-text_or_null, safe-truth}
use Rattle.library_sound.proofs.Holders.{safe-put_units}

abbrev pub builder : Ty
builder = class_type builder_class

module _ {S : Setting} (fit : Known S.program) where
  pub safe-new_builder : {c : Context} {w : List Obj} (units : List ℕ) → Safe S c w (Fitting S.program builder) (new_builder units)
  unfolding new_builder
  safe-new_builder units = safe-seq (safe-charge (length units)) λ later l.
      bind_object (safe-new_object {object = Builder units} refl (λ last l'. record { kind = a_builder; slots = tt }) refl (agree-itself S.program fit builder refl)) λ last l' o h. safe-ret _ h

  pub safe-builder_of_text : {c : Context} {w : List Obj} {given : List Value} → IsGiven S w given 0 string → Safe S c w (Fitting S.program builder) (builder_of_text S.program given)
  unfolding builder_of_text
  safe-builder_of_text h = safe-bind (safe-text fit h) λ later l units q. safe-new_builder units

  -- ---- on a receiver

  safe-append : {c : Context} {w : List Obj} {o : ObjId} (units text : List ℕ) → ValueFits S.program w builder (Ref o) → Safe S c w (Fitting S.program builder) (append S.program o units text)
  unfolding append
  safe-append units text f = safe-bind (safe-or_raise fit illegal_state (raises-state S.program fit.library) _) λ later l new q. safe-seq (safe-charge (length text)) λ last l'.
      let g = fits-more (grows-on l l') f in safe-seq (safe-put_units fit new g) λ end l''. safe-ret _ (fits-more l'' g)

  pub safe-append_text : {c : Context} {w : List Obj} {given : List Value} {o : ObjId} (units : List ℕ) → ValueFits S.program w builder (Ref o) → IsGiven S w given 0 string →
      Safe S c w (Fitting S.program builder) (append_text S.program o units given)
  unfolding append_text
  safe-append_text units f h = safe-bind (safe-text_or_null fit h) λ later l text q. safe-append units _ (fits-more l f)

  pub safe-append_truth : {c : Context} {w : List Obj} {given : List Value} {o : ObjId} (units : List ℕ) → ValueFits S.program w builder (Ref o) → IsGiven S w given 0 bool →
      Safe S c w (Fitting S.program builder) (append_truth S.program o units given)
  unfolding append_truth
  safe-append_truth units f h = safe-bind (safe-truth fit h) λ later l holds q. safe-append units _ (fits-more l f)

  pub safe-append_char : {c : Context} {w : List Obj} {given : List Value} {o : ObjId} (units : List ℕ) → ValueFits S.program w builder (Ref o) → IsGiven S w given 0 (of base.Char) →
      Safe S c w (Fitting S.program builder) (append_char S.program o units given)
  unfolding append_char
  safe-append_char units f h = safe-bind (safe-char fit h) λ later l unit q. safe-append units _ (fits-more l f)

  pub safe-append_int : {c : Context} {w : List Obj} {given : List Value} {o : ObjId} (units : List ℕ) → ValueFits S.program w builder (Ref o) → IsGiven S w given 0 int →
      Safe S c w (Fitting S.program builder) (append_int S.program o units given)
  unfolding append_int
  safe-append_int units f h = safe-bind (safe-int fit h) λ later l number q. safe-append units _ (fits-more l f)

  pub safe-append_long : {c : Context} {w : List Obj} {given : List Value} {o : ObjId} (units : List ℕ) → ValueFits S.program w builder (Ref o) → IsGiven S w given 0 (of base.Long) →
      Safe S c w (Fitting S.program builder) (append_long S.program o units given)
  unfolding append_long
  safe-append_long units f h = safe-bind (safe-long fit h) λ later l number q. safe-append units _ (fits-more l f)

  -- with other units, and then the value
  safe-rewritten : {Q : List Obj → Value → Type 0} {c : Context} {w : List Obj} {o : ObjId} (changed : Option (List ℕ)) (v : Value) → ValueFits S.program w builder (Ref o) →
      ((later : List Obj) → Grows w later → Q later v) → Safe S c w Q (rewritten S.program o changed v)
  safe-rewritten changed v f q = safe-bind (safe-or_raise fit string_index (raises-string-index S.program fit.library) changed) λ later l new r.
      safe-seq (safe-put_units fit new (fits-more l f)) λ last l'. safe-ret v (q last (grows-on l l'))

  pub safe-delete_char_at : {c : Context} {w : List Obj} {given : List Value} {o : ObjId} (units : List ℕ) → ValueFits S.program w builder (Ref o) → IsGiven S w given 0 int →
      Safe S c w (Fitting S.program builder) (delete_char_at S.program o units given)
  unfolding delete_char_at
  safe-delete_char_at units f h = safe-bind (safe-int fit h) λ later l place q. let g = fits-more l f in safe-rewritten _ _ g λ last l'. fits-more l' g

  pub safe-set_char_at : {c : Context} {w : List Obj} {given : List Value} {o : ObjId} (units : List ℕ) → ValueFits S.program w builder (Ref o) → IsGiven S w given 0 int →
      IsGiven S w given 1 (of base.Char) → Safe S c w Any (set_char_at S.program o units given)
  unfolding set_char_at
  safe-set_char_at units f h k = safe-bind (safe-int fit h) λ later l place q. safe-bind (safe-char fit (given-more l k)) λ last l' unit r. safe-rewritten _ _ (fits-more (grows-on l l') f) λ end l''. any
