use Rattle.parse_decl.proofs.Files.{unit_some, unit_given}
use Rattle.parse_decl.proofs.units.unit.Goals as goal

pub returns-in-Some-clause-unit : goal.returns-in-Some-clause-unit
returns-in-Some-clause-unit c =
    let f = c.args.tokens.now in
    let g = unit_given f.names f.texts.items f.list.items _ (unit_some _ _ c.in-Some.is c.in_ok-unit.ensures) in
    record { spelled = g.0; within = g.1; small = g.2 }
