use Rattle.std.proofs.lemmas.Bool.{ne_eqb}
use Rattle.type_faults.specs.Program.{source_in}
use Rattle.name_judge.proofs.Back.{none_back}
use Rattle.name_judge.proofs.cycles.Cycles.leads_back.Goals as goal

pub returns-then-not-may_depend_on_itself : goal.returns-then-not-may_depend_on_itself
returns-then-not-may_depend_on_itself c = none_back (source_in c.args.program.now) c.args.class.0 c.args.named.0 c.requires.named
    (c.may_depend_on_itself.ensures (source_in c.args.program.now) c.requires.cycles c.if-not-may_depend_on_itself.true) (ne_eqb c.args.named.0 c.args.class.0 c.if-named-class.false)
