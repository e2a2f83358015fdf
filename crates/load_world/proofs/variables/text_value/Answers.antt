use Rattle.std.proofs.Common.{◌<◌, length, sym, ◌∙◌, arith}
use Rattle.load_world.proofs.Statics.{place_within}
use Rattle.load_world.proofs.variables.text_value.Goals as goal

pub overflow_add-result : goal.overflow_add-result
overflow_add-result c =
    let place = c.in-Some.place in
    let below : place < length c.args.texts.now = place_within c.args.texts.now c.args.units.now place (sym c.place_of.ensures ∙ c.in-Some.is) in
    omega arith
