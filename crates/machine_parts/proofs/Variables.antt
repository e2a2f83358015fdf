-- The places of class variables and constant strings, from what stands in memory.
use Rattle.std.proofs.Common.{◌≡◌, ◌<◌, ◌≤◌, ℕ, suc, ◌+◌, List, ◌∷◌, length, map, drop, get_or, Option, Some, None, refl, sym, ap, ◌∙◌, add-one, arith}
use Rattle.std.specs.Prelude.{true, false, if◌then◌else◌, count_by, take, slice_get, option_map}
use Rattle.std.specs.Str.{bytes_eq}
use Rattle.std.proofs.Math.Seq.{drop-cons}
use Rattle.std.proofs.Math.ListN.{drop_of_length-le}
use Rattle.std.proofs.lemmas.List.{length-map, take-map}
use Rattle.std.proofs.lemmas.Option.{slice_get-map, slice_get-get_or, slice_get_within}
use Rattle.je_base.specs.Names.{place_of}
use Rattle.je_core.specs.declared.program.Class.{Class}
use Rattle.je_core.specs.declared.program.Field.{Field}
use Rattle.je_core.specs.Core.{CoreClass}
use Rattle.je_core.specs.View.{field_view, class_view}
use Rattle.je_classes.specs.Statics.{is_static, static_after}
use Rattle.je_java.specs.Classes.{statics_of}

-- the field of a number

field_found : (fs : List Field) (at : ℕ) (found : Option Field) (before : ℕ) → slice_get fs at ≡ found →
    static_after (slice_get (map field_view fs) at) (before + count_by is_static (take at (map field_view fs))) ≡ static_after (option_map field_view found) (before + count_by is_static (map field_view (take at fs)))
field_found fs at found before e =
    ap (λ o. static_after o (before + count_by is_static (take at (map field_view fs)))) (slice_get-map field_view fs at ∙ ap (option_map field_view) e)
    ∙ ap (λ xs. static_after (option_map field_view found) (before + count_by is_static xs)) (take-map field_view at fs)

there : (fs : List Field) (at : ℕ) (f : Field) → at < length fs → f ≡ get_or fs at f → slice_get fs at ≡ Some f
there fs at f below e = slice_get-get_or fs at f below ∙ ap Some (sym e)

pub static_found : (fs : List Field) (at : ℕ) (f : Field) (before n : ℕ) → at < length fs → f ≡ get_or fs at f → f.is_static ≡ true → n ≡ count_by is_static (map field_view (take at fs)) →
    Some (before + n) ≡ static_after (slice_get (map field_view fs) at) (before + count_by is_static (take at (map field_view fs)))
static_found fs at f before n below e s h =
    let all = before + count_by is_static (map field_view (take at fs)) in
    ap (λ x. Some (before + x)) h ∙ ap (λ b. if b then Some all else None) (sym s) ∙ sym (field_found fs at (Some f) before (there fs at f below e))

pub none_found : (fs : List Field) (at : ℕ) (f : Field) (before : ℕ) → at < length fs → f ≡ get_or fs at f → f.is_static ≡ false →
    None ≡ static_after (slice_get (map field_view fs) at) (before + count_by is_static (take at (map field_view fs)))
none_found fs at f before below e s =
    let all = before + count_by is_static (map field_view (take at fs)) in
    ap (λ b. if b then Some all else None) (sym s) ∙ sym (field_found fs at (Some f) before (there fs at f below e))

pub classes_before : (cs : List Class) (at : ℕ) → statics_of (map class_view (take at cs)) ≡ statics_of (take at (map class_view cs))
classes_before cs at = ap statics_of (sym (take-map class_view at cs))

pub class_within : (cs : List Class) (at : ℕ) (c : CoreClass) → Some c ≡ slice_get (map class_view cs) at → at < length cs
class_within cs at c e = omega (arith, slice_get_within (map class_view cs) at c (sym e), length-map cs class_view)

-- the place of a text, from a place on

later : (at : ℕ) (o : Option ℕ) → option_map (λ n. at + n) (option_map suc o) ≡ option_map (λ n. suc at + n) o
later at None = refl
later at (Some n) = ap Some (omega arith)

place_first : (texts : List (List ℕ)) (units : List ℕ) (at : ℕ) (x : List ℕ) → at < length texts → x ≡ get_or texts at x →
    place_of (drop at texts) units ≡ (if bytes_eq units x then Some 0 else option_map suc (place_of (drop (suc at) texts) units))
place_first texts units at x below e = ap (λ xs. place_of xs units) (drop-cons texts at x below ∙ (λ i. sym e i ∷ drop (suc at) texts))

pub place_here : (texts : List (List ℕ)) (units : List ℕ) (at : ℕ) (x : List ℕ) → at < length texts → x ≡ get_or texts at x → bytes_eq units x ≡ true →
    option_map (λ n. at + n) (place_of (drop at texts) units) ≡ Some at
place_here texts units at x below e same =
    ap (option_map (λ n. at + n)) (place_first texts units at x below e ∙ ap (λ b. if b then Some 0 else option_map suc (place_of (drop (suc at) texts) units)) same)
    ∙ ap Some (omega arith)

pub place_step : (texts : List (List ℕ)) (units : List ℕ) (at : ℕ) (x : List ℕ) → at < length texts → x ≡ get_or texts at x → bytes_eq units x ≡ false →
    option_map (λ n. at + n) (place_of (drop at texts) units) ≡ option_map (λ n. (at + 1) + n) (place_of (drop (at + 1) texts) units)
place_step texts units at x below e same = rw add-one (
    ap (option_map (λ n. at + n)) (place_first texts units at x below e ∙ ap (λ b. if b then Some 0 else option_map suc (place_of (drop (suc at) texts) units)) same)
    ∙ later at (place_of (drop (suc at) texts) units))

pub place_end : (texts : List (List ℕ)) (units : List ℕ) (at : ℕ) → length texts ≤ at → option_map (λ n. at + n) (place_of (drop at texts) units) ≡ None
place_end texts units at h = ap (λ xs. option_map (λ n. at + n) (place_of xs units)) (drop_of_length-le texts h)
