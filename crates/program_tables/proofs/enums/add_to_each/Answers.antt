use Rattle.std.proofs.Common.{refl, arith}
use Rattle.class_typing.specs.Programs.{all_with_methods}
use Rattle.declarations.specs.View.{class_shown}
use Rattle.program_tables.specs.way.Texts.{with_texts}
use Rattle.program_tables.proofs.Each.{written_behind}
use Rattle.program_tables.proofs.enums.add_to_each.Goals as goal

pub returns : goal.returns
returns c =
    written_behind class_shown (all_with_methods (with_texts c.args.names.now)) (λ at. refl) c.loop-at.classes
    c.args.classes.now c.loop-at.at c.args.first (omega (arith, c.loop-at.auto.classes, c.loop-at-test.false))
    c.loop-at.invariant
