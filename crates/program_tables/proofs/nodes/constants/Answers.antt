use Rattle.std.proofs.Common.{refl, ℕ, ap, ◌∙◌}
use Rattle.std.specs.declared.alloc.Global.{Global}
use Rattle.std.specs.declared.rc.Rc.{Rc}
use Rattle.je_core.specs.declared.expr.Expr.{Expr}
use Rattle.je_core.specs.View.{view}
use Rattle.je_ast.specs.declared.name.Identifier.{Identifier}
use Rattle.program_tables.specs.way.Words.{constant_in, constants_of}
use Rattle.program_tables.proofs.Placed.{placed_further}
use Rattle.program_tables.proofs.nodes.constants.Goals as goal

pub loop-at-preserved : goal.loop-at-preserved
loop-at-preserved c =
    placed_further (λ (n : Rc Expr Global). view n.value) (constants_of c.args.of)
    (λ (at : ℕ) (id : Identifier). constant_in c.args.of at c.args.of.span) (λ at id ids. refl) c.args.of.constants.now
    (record { name = record { 0 = 0 }; span = c.args.of.span }) c.loop-at.at c.loop-at.values.items _ c.in_ok-new.field-0 _
    c.loop-at-test.true c.loop-at.invariant c.in_ok-push.ensures.items (ap view c.in_ok-new.ensures.ok ∙ c.in_ok-value.ensures)
