use Rattle.std.proofs.Common.{replicate, ◌∙◌, ap, arith}
use Rattle.std.specs.Prelude.{false}
use Rattle.je_core.specs.View.{program_view}
use Rattle.class_tables.proofs.Orders.{begins}
use Rattle.class_tables.proofs.order.in_order.Goals as goal

pub loop-at-init : goal.loop-at-init
loop-at-init c = (begins (program_view c.args.program.now) _ c.new.ensures.items (c.in_ok-vec.ensures.items_if_clones_equal (λ y h. h) ∙ ap (λ n. replicate n false) c.class_count-count.ensures), λ k l. absurd (omega (arith, l)))
