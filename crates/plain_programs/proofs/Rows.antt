-- One row more among those of a class's methods, and the rows of a class.
use Rattle.std.proofs.Common.{◌≡◌, ℕ, zero, suc, ◌-◌, ◌<◌, List, ◌∷◌, map, Some, None, refl, sym, ap, ◌∙◌, arith}
use Rattle.std.specs.Prelude.{true, false, Bool, filter, option_map, slice_get}
use Rattle.std.proofs.lemmas.Option.{slice_get-map}
use Rattle.je_core.specs.declared.types.ClassId.{ClassId}
use Rattle.je_classes.specs.Members.{Member}
use Rattle.je_table.specs.declared.classes.ClassRow.{ClassRow}
use Rattle.je_table.specs.declared.members.MemberRow.{MemberRow}
use Rattle.je_table.specs.Library.{classes, library}
use Rattle.je_table.specs.Rows.{Row, class_said, row_of, row_said}
use Rattle.library_classes.specs.Library.{rows}
use Rattle.plain_programs.specs.Wild.{is_method_row, is_wild, is_wild_row, rows_of}

pub passed_by : (test : Row → Bool) (n : ℕ) (row : Row) (more : List Row) → test row ≡ false → slice_get (filter test (row ∷ more)) n ≡ slice_get (filter test more) n
passed_by test n row more e = rw e refl

pub counted : (test : Row → Bool) (n : ℕ) (row : Row) (more : List Row) → test row ≡ true → 0 < n → slice_get (filter test (row ∷ more)) n ≡ slice_get (filter test more) (n - 1)
counted test zero row more e l = absurd (omega arith)
counted test (suc n) row more e l = let s : n ≡ suc n - 1 = omega arith in rw e (ap (slice_get (filter test more)) s)

pub there : (test : Row → Bool) (row : Row) (more : List Row) → test row ≡ true → slice_get (filter test (row ∷ more)) 0 ≡ Some row
there test row more e = rw e refl

pub ruleset rows_in_turn = (passed_by, counted, there)

-- ---- the class's row

pub no_class : (said : List ClassRow) (class : ClassId) (at : ℕ) → map class_said said ≡ classes → slice_get said class.0 ≡ None → is_wild (record { class = class; at = at }) ≡ false
unfolding is_wild
no_class said class at e h = let s : slice_get classes class.0 ≡ None = ap (λ cs. slice_get cs class.0) (sym e) ∙ slice_get-map class_said said class.0 ∙ ap (option_map class_said) h in
    ap (λ o. is_wild_row (slice_get (rows_of o) at)) s

pub of_class : (said : List ClassRow) (row : ClassRow) (members : List MemberRow) (class : ClassId) (at : ℕ) → map class_said said ≡ classes → slice_get said class.0 ≡ Some row →
    map row_said members ≡ map row_of library → is_wild (record { class = class; at = at }) ≡ is_wild_row (slice_get (filter (is_method_row row.name.now) (map row_said members)) at)
unfolding is_wild rows
of_class said row members class at e h m = let s : slice_get classes class.0 ≡ Some (class_said row) = ap (λ cs. slice_get cs class.0) (sym e) ∙ slice_get-map class_said said class.0 ∙ ap (option_map class_said) h in
    ap (λ o. is_wild_row (slice_get (rows_of o) at)) s ∙ ap (λ rs. is_wild_row (slice_get (filter (is_method_row row.name.now) rs) at)) (sym m)
