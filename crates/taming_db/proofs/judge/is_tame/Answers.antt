use Rattle.std.proofs.Common.{◌≡◌, ◌≤◌, ◌<◌, ◌∙◌, sym, ap, length, get_or, Some}
use Rattle.std.proofs.lemmas.Option.{slice_get-get_or, slice_get_past}
use Rattle.taming_db.proofs.Places.{tame_none, tame_some}
use Rattle.taming_db.proofs.judge.is_tame.Goals as goal

pub returns-in-None : goal.returns-in-None
returns-in-None c = let past : length c.member_rows.result.now ≤ c.args.member = c.in-None.ensures.lookup.3 in
    tame_none c.member_rows.result.now c.args.member c.member_rows.ensures.rows (slice_get_past c.member_rows.result.now c.args.member past)

pub returns-in-Some : goal.returns-in-Some
returns-in-Some c = let inside : c.args.member < length c.member_rows.result.now = c.in-Some.ensures.lookup.3.0 in
    let same : c.in-Some.row.now ≡ get_or c.member_rows.result.now c.args.member c.in-Some.row.now = c.in-Some.ensures.lookup.1 in
    tame_some c.member_rows.result.now c.args.member c.in-Some.row.now c.member_rows.ensures.rows (slice_get-get_or c.member_rows.result.now c.args.member c.in-Some.row.now inside ∙ ap Some (sym same))
