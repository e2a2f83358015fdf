use Rattle.std.proofs.Common.{◌≡◌, ◌<◌, ◌≤◌, length, get_or, refl, ap, ◌∙◌}
use Rattle.std.specs.Prelude.{Bool, true, false, is_some, if◌then◌else◌}
use mir.Val.{bool_byte}
use Rattle.name_types.proofs.Rows.{no_row, row_there}
use Rattle.name_types.proofs.counting.library_arity.Goals as goal

-- what a test is as a number
as_number : (b : Bool) → bool_byte b ≡ (if b then 1 else 0)
as_number true = refl
as_number false = refl

pub returns-in-None-clause-count : goal.returns-in-None-clause-count
returns-in-None-clause-count c = let past : length c.class_rows.result.now ≤ c.args.class.0 = c.in-None.ensures.lookup.3 in
    no_row c.class_rows.result.now c.args.class.0 c.class_rows.ensures past

pub returns-in-Some-clause-count : goal.returns-in-Some-clause-count
returns-in-Some-clause-count c =
    let there : c.args.class.0 < length c.class_rows.result.now = c.in-Some.ensures.lookup.3.0 in
    let row : c.in-Some.row.now ≡ get_or c.class_rows.result.now c.args.class.0 c.in-Some.row.now = c.in-Some.ensures.lookup.1 in
    ap bool_byte c.is_some.ensures ∙ as_number (is_some c.in-Some.row.now.bound) ∙ row_there c.class_rows.result.now c.args.class.0 c.class_rows.ensures c.in-Some.row.now there row
