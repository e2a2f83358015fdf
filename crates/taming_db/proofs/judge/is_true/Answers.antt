use Rattle.std.proofs.Common.{◌≡◌, ◌≤◌, ◌<◌, ◌∙◌, sym, ap, length, get_or, Some}
use Rattle.std.proofs.lemmas.Option.{slice_get-get_or, slice_get_past}
use Rattle.taming_db.proofs.Places.{true_none, true_some}
use Rattle.taming_db.proofs.judge.is_true.Goals as goal

pub returns-in-None : goal.returns-in-None
returns-in-None c = let past : length c.class_rows.result.now ≤ c.args.class = c.in-None.ensures.lookup.3 in
    true_none c.args.marker c.class_rows.result.now c.args.class c.class_rows.ensures (slice_get_past c.class_rows.result.now c.args.class past)

pub returns-in-Some : goal.returns-in-Some
returns-in-Some c = let inside : c.args.class < length c.class_rows.result.now = c.in-Some.ensures.lookup.3.0 in
    let same : c.in-Some.row.now ≡ get_or c.class_rows.result.now c.args.class c.in-Some.row.now = c.in-Some.ensures.lookup.1 in
    c.is_in.ensures ∙ true_some c.args.marker c.class_rows.result.now c.args.class c.in-Some.row.now c.class_rows.ensures (slice_get-get_or c.class_rows.result.now c.args.class c.in-Some.row.now inside ∙ ap Some (sym same))
