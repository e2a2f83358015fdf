-- The rows of the library's classes.
use Rattle.std.proofs.Common.{◌≡◌, ℕ, ◌<◌, ◌≤◌, List, Some, length, map, get_or, sym, ap, ◌∙◌}
use Rattle.std.specs.Prelude.{slice_get, option_map, is_some, if◌then◌else◌}
use Rattle.std.proofs.lemmas.Option.{slice_get-get_or, slice_get-map, slice_get_past}
use Rattle.je_table.specs.Library.{Class, classes}
use Rattle.je_table.specs.Rows.{class_said}
use Rattle.je_table.specs.declared.classes.ClassRow.{ClassRow}
use Rattle.je_scopes.specs.SourceTypes.{is_generic_row}

module _ (rows : List ClassRow) (k : ℕ) (are : map class_said rows ≡ classes) where
  pub no_row : length rows ≤ k → 0 ≡ is_generic_row (slice_get classes k)
  no_row past = sym (ap is_generic_row (slice_get-map class_said rows k ∙ ap (option_map class_said) (slice_get_past rows k past))) ∙ ap (λ (cs : List Class). is_generic_row (slice_get cs k)) are

  pub row_there : (row : ClassRow) → k < length rows → row ≡ get_or rows k row → (if is_some row.bound then 1 else 0) ≡ is_generic_row (slice_get classes k)
  row_there row inside is = sym (ap is_generic_row (slice_get-map class_said rows k ∙ ap (option_map class_said) (slice_get-get_or rows k row inside ∙ ap Some (sym is)))) ∙ ap (λ (cs : List Class). is_generic_row (slice_get cs k)) are
