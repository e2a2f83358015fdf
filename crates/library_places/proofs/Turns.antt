-- One row more of the search, and the row of the class.
use Rattle.std.proofs.Common.{◌≡◌, ℕ, zero, suc, ◌+◌, ◌-◌, ◌<◌, List, ◌∷◌, map, Some, None, refl, sym, ap, ◌∙◌, arith}
use Rattle.std.specs.Prelude.{Bool, true, false, option_map, slice_get}
use Rattle.std.proofs.lemmas.Option.{slice_get-map}
use Rattle.je_core.specs.declared.types.ClassId.{ClassId}
use Rattle.je_table.specs.declared.classes.ClassRow.{ClassRow}
use Rattle.je_table.specs.declared.members.MemberRow.{MemberRow}
use Rattle.je_table.specs.Library.{classes, library}
use Rattle.je_table.specs.Rows.{Row, class_said, row_of, row_said}
use Rattle.library_places.specs.Places.{is_row_of, place_from, place_in, library_place}

pub passed_by : (test : Row → Bool) (n before : ℕ) (row : Row) (rows : List Row) → test row ≡ false → place_from test n (row ∷ rows) before ≡ place_from test (n + 1) rows before
passed_by test n zero row rows e = let s : suc n ≡ n + 1 = omega arith in rw (e, s) refl
passed_by test n (suc before) row rows e = let s : suc n ≡ n + 1 = omega arith in rw (e, s) refl

pub counted : (test : Row → Bool) (n before : ℕ) (row : Row) (rows : List Row) → test row ≡ true → 0 < before → place_from test n (row ∷ rows) before ≡ place_from test (n + 1) rows (before - 1)
counted test n zero row rows e l = absurd (omega arith)
counted test n (suc before) row rows e l = let s : suc n ≡ n + 1 = omega arith in let t : suc before - 1 ≡ before = omega arith in rw (e, s, t) refl

pub there : (test : Row → Bool) (n : ℕ) (row : Row) (rows : List Row) → test row ≡ true → place_from test n (row ∷ rows) 0 ≡ Some n
there test n row rows e = rw e refl

-- ---- the class's row

pub no_class : (rows : List ClassRow) (class : ClassId) (is_field : Bool) (at : ℕ) → map class_said rows ≡ classes → slice_get rows class.0 ≡ None → library_place class is_field at ≡ None
unfolding library_place
no_class rows class is_field at e h = let s : slice_get classes class.0 ≡ None = ap (λ cs. slice_get cs class.0) (sym e) ∙ slice_get-map class_said rows class.0 ∙ ap (option_map class_said) h in
    ap (place_in (map row_of library) is_field at) s

pub of_class : (rows : List ClassRow) (row : ClassRow) (members : List MemberRow) (class : ClassId) (is_field : Bool) (at : ℕ) → map class_said rows ≡ classes → slice_get rows class.0 ≡ Some row →
    map row_said members ≡ map row_of library → library_place class is_field at ≡ place_from (is_row_of row.name.now is_field) 0 (map row_said members) at
unfolding library_place
of_class rows row members class is_field at e h m = let s : slice_get classes class.0 ≡ Some (class_said row) = ap (λ cs. slice_get cs class.0) (sym e) ∙ slice_get-map class_said rows class.0 ∙ ap (option_map class_said) h in
    ap (place_in (map row_of library) is_field at) s ∙ ap (λ rs. place_from (is_row_of row.name.now is_field) 0 rs at) (sym m)
