use Rattle.std.proofs.Common.{◌≡◌, Some, sym, ap, ◌∙◌, arith}
use Rattle.std.specs.Prelude.{false}
use Rattle.je_core.specs.Core.{CoreProgram}
use Rattle.je_core.specs.View.{class_view}
use Rattle.je_classes.specs.Hierarchy.{class_at}
use Rattle.je_classes.specs.Members.{methods_of}
use Rattle.je_fitting.specs.Expressions.{is_interface_sort}
use Rattle.je_types.specs.Views.{program_of}
use Rattle.taming_db.specs.View.{rows}
use Rattle.class_uses.proofs.AboveAlone.{passed_over}
use Rattle.class_uses.proofs.implemented.implements_methods_of.Goals as goal

pub returns-then-not-is_interface : goal.returns-then-not-is_interface
returns-then-not-is_interface c =
    let p = program_of c.args.typed.now in
    let there : class_at p c.args.above ≡ Some (class_view c.in-Some.class.now) = ap (λ (q : CoreProgram). class_at q c.args.above) (sym c.program.ensures) ∙ sym c.in-Some.ensures in
    let other : is_interface_sort (class_view c.in-Some.class.now).kind.sort ≡ false = grind (arith, c.if-not-is_interface.true, c.is_interface.ensures) in
    passed_over p (rows c.args.taming.now) c.args.id c.args.above (class_view c.in-Some.class.now) there other 0 (methods_of p c.args.above)
