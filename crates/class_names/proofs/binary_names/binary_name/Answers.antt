use Rattle.std.proofs.Common.{◌∙◌, ap, ◌++◌}
use Rattle.je_core.specs.View.{program_view}
use Rattle.class_names.proofs.Joining.{inwards, pieces}
use Rattle.class_names.proofs.binary_names.binary_name.Goals as goal

pub loop-inner-preserved : goal.loop-inner-preserved
loop-inner-preserved c =
    ap (λ name. name ++ pieces (program_view c.args.program.now) c.args.names.now c.pop-in-loop-inner.new.self.items) c.in_ok-add_inner.ensures ∙
    inwards (program_view c.args.program.now) c.args.names.now c.loop-inner.name.items c.loop-inner.round.items c.pop-in-loop-inner.new.self.items
    c.in-Some-pop.inner c.in-Some-pop.ensures.items ∙
    c.loop-inner.invariant
