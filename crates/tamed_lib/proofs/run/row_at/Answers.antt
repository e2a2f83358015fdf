use Rattle.std.proofs.Common.{◌≡◌, ◌≤◌, ◌<◌, ◌∙◌, sym, ap, length, get_or, Some}
use Rattle.std.specs.Prelude.{slice_get}
use Rattle.std.proofs.lemmas.Option.{slice_get-get_or, slice_get_past}
use Rattle.tamed_lib.proofs.Places.{row_lacks, row_there}
use Rattle.tamed_lib.proofs.run.row_at.Goals as goal

pub returns-in_default : goal.returns-in_default
returns-in_default c =
    let past : length c.member_rows.result.now ≤ c.args.place = c.in_default.ensures.lookup.3 in
    row_lacks c.member_rows.result.now c.args.place c.member_rows.ensures.rows (slice_get_past c.member_rows.result.now c.args.place past)

pub returns : goal.returns
returns c =
    let inside : c.args.place < length c.member_rows.result.now = c.in-Some.ensures.lookup.3.0 in
    let same : c.in-Some.row.now ≡ get_or c.member_rows.result.now c.args.place c.in-Some.row.now = c.in-Some.ensures.lookup.1 in
    let there : slice_get c.member_rows.result.now c.args.place ≡ Some c.in-Some.row.now =
    slice_get-get_or c.member_rows.result.now c.args.place c.in-Some.row.now inside ∙ ap Some (sym same) in
    row_there c.member_rows.result.now c.in-Some.row.now c.args.place c.member_rows.ensures.rows there
