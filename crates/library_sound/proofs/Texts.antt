-- What the members of String do is safe.
use Rattle.std.proofs.Common.{◌≡◌, ℕ, List, [], ◌∷◌, map, Option, Some, refl, ap, ◌∙◌, arith}
use Rattle.std.specs.Prelude.{Bool, true, false, if◌then◌else◌}
use Rattle.je_core.specs.declared.object.Obj.{Obj}
use Rattle.je_core.specs.declared.types.Base.TheVariants as base
use Rattle.je_core.specs.declared.types.Ty.{Ty}
use Rattle.je_core.specs.declared.value.ObjId.{ObjId}
use Rattle.je_core.specs.declared.value.Value.{Value}
use Rattle.je_core.specs.declared.value.Value.TheVariants as value
use Rattle.je_core.specs.Core.{CoreProgram}
use Rattle.je_classes.specs.Hierarchy.{object_class}
use Rattle.je_classes.specs.Subtypes.{array_of, class_type, is_reference}
use Rattle.je_classes.proofs.Same.{same_type-equal}
use Rattle.je_fitting.specs.Types.{of, int, bool as truth, string}
use Rattle.je_java.specs.Arrays.{array_from}
use Rattle.je_java.specs.LibraryClasses.{string_class}
use Rattle.je_java.specs.Raised.{string_index}
use Rattle.je_java.specs.Steps.{bind, get_units, ret}
use Rattle.je_java.specs.Texts.{is_string}
use Rattle.je_java.specs.library.Strings.{char_at, char_type, comparison, equality, equals_value, joined, new_part, new_text, part_between, part_from, place_of_text, place_of_unit, replacement, tested_by, text_of_char, text_of_chars, text_of_int, text_of_long, text_of_truth, units_in_values}
use Rattle.je_sound.specs.Values.{ValueFits, ValuesFit}
use Rattle.text_members.specs.Comparing.{is_same_text}
use Rattle.eval_sound.specs.Safety.{Context, Fitting, Safe, Setting}
use Rattle.eval_sound.proofs.Arrays.{safe-array_from}
use Rattle.eval_sound.proofs.Made.{bind_object, bind_value, safe-make_text}
use Rattle.eval_sound.proofs.Moves.{bind_need, safe-bind, safe-ret}
use Rattle.eval_sound.proofs.Standing.{raises-string-index}
use Rattle.eval_sound.proofs.Steps.{IsOf, safe-get_type}
use Rattle.eval_sound.proofs.Types.{Known, string-itself}
use Rattle.eval_sound.proofs.Values.{Formed, bool, byte, short, char, int as an_int, long, null, reference, formed, char-fits, char-of, int-fits, truth-fits}
use Rattle.library_sound.proofs.Arguments.{IsGiven, given-more, safe-argument, safe-char, safe-elements, safe-int, safe-long, safe-or_raise, safe-text, safe-truth}
use Rattle.library_sound.proofs.Holders.{safe-get_units, string-holds}

module _ (p : CoreProgram) (w : List Obj) where
  -- chars have units, and units are chars
  units-there : (values : List Value) → ValuesFit p w (map (λ (v : Value). of base.Char) values) values → (units : List ℕ) × (units_in_values values ≡ Some units)
  units-there [] f = ([], refl)
  units-there (v ∷ values) f = by (char-of refl f.0) (units-there values f.1)
    where
      by : (n : ℕ) × (v ≡ value.Char n) → (units : List ℕ) × (units_in_values values ≡ Some units) → (units : List ℕ) × (units_in_values (v ∷ values) ≡ Some units)
      by (n, e) (units, h) = (n ∷ units, rw (e, h) refl)

  chars-fit : (units : List ℕ) → ValuesFit p w (map (λ (v : Value). char_type) (map value.Char units)) (map value.Char units)
  chars-fit [] = tt
  chars-fit (unit ∷ units) = (char-fits p w unit, chars-fit units)

module _ {S : Setting} (fit : Known S.program) where
  pub safe-new_text : {c : Context} {w : List Obj} (units : List ℕ) → Safe S c w (Fitting S.program string) (new_text units)
  unfolding new_text
  safe-new_text units = bind_object (safe-make_text fit units) λ later l o h. safe-ret _ h

  safe-new_part : {c : Context} {w : List Obj} (part : Option (List ℕ)) → Safe S c w (Fitting S.program string) (new_part S.program part)
  unfolding new_part
  safe-new_part part = safe-bind (safe-or_raise fit string_index (raises-string-index S.program fit.library) part) λ later l units q. safe-new_text units

  -- ---- without a receiver

  pub safe-text_of_chars : {c : Context} {w : List Obj} {given : List Value} → IsGiven S w given 0 (array_of (of base.Char)) → Safe S c w (Fitting S.program string) (text_of_chars S.program given)
  unfolding text_of_chars
  safe-text_of_chars h = safe-bind (safe-elements fit h) λ later l values a. let u = units-there S.program later values a.each in bind_need _ u.0 u.1 (safe-new_text u.0)

  pub safe-text_of_truth : {c : Context} {w : List Obj} {given : List Value} → IsGiven S w given 0 truth → Safe S c w (Fitting S.program string) (text_of_truth given)
  unfolding text_of_truth
  safe-text_of_truth h = safe-bind (safe-truth fit h) λ later l holds q. safe-new_text _

  pub safe-text_of_char : {c : Context} {w : List Obj} {given : List Value} → IsGiven S w given 0 (of base.Char) → Safe S c w (Fitting S.program string) (text_of_char given)
  unfolding text_of_char
  safe-text_of_char h = safe-bind (safe-char fit h) λ later l unit q. safe-new_text _

  pub safe-text_of_int : {c : Context} {w : List Obj} {given : List Value} → IsGiven S w given 0 int → Safe S c w (Fitting S.program string) (text_of_int given)
  unfolding text_of_int
  safe-text_of_int h = safe-bind (safe-int fit h) λ later l number q. safe-new_text _

  pub safe-text_of_long : {c : Context} {w : List Obj} {given : List Value} → IsGiven S w given 0 (of base.Long) → Safe S c w (Fitting S.program string) (text_of_long given)
  unfolding text_of_long
  safe-text_of_long h = safe-bind (safe-long fit h) λ later l number q. safe-new_text _

  -- ---- on a receiver's units

  pub safe-char_at : {c : Context} {w : List Obj} {given : List Value} (units : List ℕ) → IsGiven S w given 0 int → Safe S c w (Fitting S.program (of base.Char)) (char_at S.program units given)
  unfolding char_at
  safe-char_at units h = safe-bind (safe-int fit h) λ later l place q. safe-bind (safe-or_raise fit string_index (raises-string-index S.program fit.library) _) λ last l' unit r.
      safe-ret _ (char-fits S.program last unit)

  pub safe-comparison : {c : Context} {w : List Obj} {given : List Value} (units : List ℕ) → IsGiven S w given 0 string → Safe S c w (Fitting S.program int) (comparison S.program units given)
  unfolding comparison
  safe-comparison units h = safe-bind (safe-text fit h) λ later l other q. safe-ret _ (int-fits S.program later _)

  pub safe-joined : {c : Context} {w : List Obj} {given : List Value} (units : List ℕ) → IsGiven S w given 0 string → Safe S c w (Fitting S.program string) (joined S.program units given)
  unfolding joined
  safe-joined units h = safe-bind (safe-text fit h) λ later l other q. safe-new_text _

  pub safe-tested_by : {c : Context} {w : List Obj} {given : List Value} (Holds : List ℕ → List ℕ → Bool) (units : List ℕ) → IsGiven S w given 0 string →
      Safe S c w (Fitting S.program truth) (tested_by Holds S.program units given)
  unfolding tested_by
  safe-tested_by Holds units h = safe-bind (safe-text fit h) λ later l part q. safe-ret _ (truth-fits S.program later _)

  equals-object : {c : Context} {w : List Obj} {t : Ty} (units : List ℕ) (o : ObjId) (own : Ty) → IsOf S t o w own → (b : Bool) → is_string own ≡ b →
      Safe S c w (Fitting S.program truth) (if b then bind (get_units o) (λ other. ret (value.Bool (is_same_text units other))) else ret (value.Bool false))
  equals-object units o own i true e =
      let f : ValueFits S.program _ string (value.Ref o) = record { own = class_type string_class; has = i.has ∙ ap Some (same_type-equal own (class_type string_class) e); agree = string-itself S.program fit } in
      safe-bind (safe-get_units fit (string-holds fit) f) λ later l other q. safe-ret _ (truth-fits S.program later _)
  equals-object {w = w} units o own i false e = safe-ret _ (truth-fits S.program w _)

  pub safe-equality : {c : Context} {w : List Obj} {given : List Value} (units : List ℕ) → IsGiven S w given 0 (class_type object_class) → Safe S c w (Fitting S.program truth) (equality units given)
  unfolding equality
  safe-equality {c = c} units h = bind_value (safe-argument fit h) λ later l v f. by refl (formed f) f
    where
      by : {later : List Obj} {t : Ty} {v : Value} → is_reference t ≡ true → Formed t v → ValueFits S.program later t v → Safe S c later (Fitting S.program truth) (equals_value units v)
      by e bool f = absurd cc
      by e byte f = absurd cc
      by e short f = absurd cc
      by e char f = absurd cc
      by e an_int f = absurd cc
      by e long f = absurd cc
      by {later = later} e (null r) f = safe-ret _ (truth-fits S.program later _)
      by e (reference {o = o} r) f = safe-bind (safe-get_type f) λ last l own i. equals-object units o own i (is_string own) refl

  pub safe-place_of_text : {c : Context} {w : List Obj} {given : List Value} (units : List ℕ) → IsGiven S w given 0 string → Safe S c w (Fitting S.program int) (place_of_text S.program units given)
  unfolding place_of_text
  safe-place_of_text units h = safe-bind (safe-text fit h) λ later l part q. safe-ret _ (int-fits S.program later _)

  pub safe-place_of_unit : {c : Context} {w : List Obj} {given : List Value} (units : List ℕ) → IsGiven S w given 0 int → Safe S c w (Fitting S.program int) (place_of_unit units given)
  unfolding place_of_unit
  safe-place_of_unit units h = safe-bind (safe-int fit h) λ later l unit q. safe-ret _ (int-fits S.program later _)

  pub safe-replacement : {c : Context} {w : List Obj} {given : List Value} (units : List ℕ) → IsGiven S w given 0 (of base.Char) → IsGiven S w given 1 (of base.Char) →
      Safe S c w (Fitting S.program string) (replacement units given)
  unfolding replacement
  safe-replacement units h k = safe-bind (safe-char fit h) λ later l old q. safe-bind (safe-char fit (given-more l k)) λ last l' new r. safe-new_text _

  pub safe-part_from : {c : Context} {w : List Obj} {given : List Value} (units : List ℕ) → IsGiven S w given 0 int → Safe S c w (Fitting S.program string) (part_from S.program units given)
  unfolding part_from
  safe-part_from units h = safe-bind (safe-int fit h) λ later l begin q. safe-new_part _

  pub safe-part_between : {c : Context} {w : List Obj} {given : List Value} (units : List ℕ) → IsGiven S w given 0 int → IsGiven S w given 1 int →
      Safe S c w (Fitting S.program string) (part_between S.program units given)
  unfolding part_between
  safe-part_between units h k = safe-bind (safe-int fit h) λ later l begin q. safe-bind (safe-int fit (given-more l k)) λ last l' end r. safe-new_part _

  pub safe-chars : {c : Context} {w : List Obj} (units : List ℕ) → Safe S c w (Fitting S.program (array_of char_type)) (array_from (array_of char_type) (map value.Char units))
  safe-chars {w = w} units = safe-array_from fit char_type (map value.Char units) refl (omega arith) (record { each = chars-fit S.program w units })
