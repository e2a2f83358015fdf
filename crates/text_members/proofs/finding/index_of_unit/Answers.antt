use Rattle.std.proofs.Common.{arith}
use Rattle.std.proofs.lemmas.Int.{ints}
use Rattle.text_members.proofs.Places.{unit_place}
use Rattle.text_members.proofs.finding.index_of_unit.Goals as goal

pub returns : goal.returns
returns c =
    unit_place c.args.units.now c.args.value _ c.place_of.result (omega (arith, ints)) c.place_of.ensures
