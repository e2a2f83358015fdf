use Rattle.class_heads.specs.View.{classes_of}
use Rattle.call_steps.proofs.choosing.methods_of.Goals as goal

pub returns : goal.returns
returns c = c.in_ok-methods.ensures (classes_of c.args.caller.classes) c.requires
