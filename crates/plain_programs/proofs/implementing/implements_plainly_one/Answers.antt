use Rattle.std.proofs.Common.{◌≡◌, Some, sym, arith}
use Rattle.std.specs.Prelude.{false}
use Rattle.je_core.specs.View.{class_view, program_view}
use Rattle.je_classes.specs.Members.{methods_of}
use Rattle.je_fitting.specs.Expressions.{is_interface_sort}
use Rattle.plain_programs.proofs.AboveAlone.{passed_over}
use Rattle.plain_programs.proofs.implementing.implements_plainly_one.Goals as goal

pub returns-then-not-is_interface : goal.returns-then-not-is_interface
returns-then-not-is_interface c =
    let p = program_view c.args.program.now in
    let other : is_interface_sort (class_view c.in-Some.class.now).kind.sort ≡ false = grind (arith, c.if-not-is_interface.true, c.is_interface.ensures) in
    passed_over p c.args.id c.args.above (class_view c.in-Some.class.now) (sym c.in-Some.ensures) other 0 (methods_of p c.args.above)
