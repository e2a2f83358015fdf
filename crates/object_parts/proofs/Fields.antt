-- The slot of a field, from what stands in memory.
use Rattle.std.proofs.Common.{◌≡◌, ◌<◌, ◌+◌, ℕ, List, length, map, get_or, Option, Some, None, sym, ap, ◌∙◌}
use Rattle.std.specs.Prelude.{true, false, if◌then◌else◌, count_by, take, slice_get, option_map}
use Rattle.std.proofs.lemmas.List.{take-map}
use Rattle.std.proofs.lemmas.Option.{slice_get-map, slice_get-get_or}
use Rattle.je_core.specs.declared.program.Field.{Field}
use Rattle.je_core.specs.View.{field_view}
use Rattle.je_classes.specs.Slots.{is_instance, slot_after}

there : (fs : List Field) (at : ℕ) (f : Field) → at < length fs → f ≡ get_or fs at f → slice_get (map field_view fs) at ≡ Some (field_view f)
there fs at f below e = slice_get-map field_view fs at ∙ ap (option_map field_view) (slice_get-get_or fs at f below) ∙ ap (λ x. Some (field_view x)) (sym e)

pub slot_found : (fs : List Field) (at : ℕ) (f : Field) (before n : ℕ) → at < length fs → f ≡ get_or fs at f → f.is_static ≡ false → n ≡ count_by is_instance (map field_view (take at fs)) →
    Some (before + n) ≡ slot_after (slice_get (map field_view fs) at) (before + count_by is_instance (take at (map field_view fs)))
slot_found fs at f before n below e s h =
    let all = before + count_by is_instance (take at (map field_view fs)) in
    ap (λ k. Some (before + k)) (h ∙ ap (count_by is_instance) (sym (take-map field_view at fs)))
    ∙ ap (λ b. if b then None else Some all) (sym s)
    ∙ ap (λ field. slot_after field all) (sym (there fs at f below e))

pub no_slot : (fs : List Field) (at : ℕ) (f : Field) (before : ℕ) → at < length fs → f ≡ get_or fs at f → f.is_static ≡ true →
    None ≡ slot_after (slice_get (map field_view fs) at) (before + count_by is_instance (take at (map field_view fs)))
no_slot fs at f before below e s =
    let all = before + count_by is_instance (take at (map field_view fs)) in
    ap (λ b. if b then None else Some all) (sym s) ∙ ap (λ field. slot_after field all) (sym (there fs at f below e))
