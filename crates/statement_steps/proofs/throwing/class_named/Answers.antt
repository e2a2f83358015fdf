use Rattle.statement_steps.proofs.Named.{the_class}
use Rattle.statement_steps.proofs.throwing.class_named.Goals as goal

pub returns : goal.returns
returns c = the_class c.args.ty.now c.class_of.result c.if-ty-ne0.false c.class_of.ensures
