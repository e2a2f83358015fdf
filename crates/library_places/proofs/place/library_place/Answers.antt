use Rattle.std.proofs.Common.{◌≡◌, ◌≤◌, ◌<◌, ◌∙◌, sym, ap, length, get_or, Some}
use Rattle.std.specs.Prelude.{slice_get}
use Rattle.std.proofs.lemmas.Option.{slice_get-get_or, slice_get_past}
use Rattle.library_places.proofs.Turns.{no_class, of_class}
use Rattle.library_places.proofs.place.library_place.Goals as goal

pub returns-in_default : goal.returns-in_default
returns-in_default c = let past : length c.class_rows.result.now ≤ c.args.class.0 = c.in_default.ensures.lookup.3 in
    sym (no_class c.class_rows.result.now c.args.class c.args.is_field c.args.at c.class_rows.ensures (slice_get_past c.class_rows.result.now c.args.class.0 past))

pub returns : goal.returns
returns c = let inside : c.args.class.0 < length c.class_rows.result.now = c.in-Some.ensures.lookup.3.0 in
    let same : c.in-Some.row.now ≡ get_or c.class_rows.result.now c.args.class.0 c.in-Some.row.now = c.in-Some.ensures.lookup.1 in
    let there : slice_get c.class_rows.result.now c.args.class.0 ≡ Some c.in-Some.row.now = slice_get-get_or c.class_rows.result.now c.args.class.0 c.in-Some.row.now inside ∙ ap Some (sym same) in
    c.place_among.ensures ∙ sym (of_class c.class_rows.result.now c.in-Some.row.now c.member_rows.result.now c.args.class c.args.is_field c.args.at c.class_rows.ensures there c.member_rows.ensures.rows)
