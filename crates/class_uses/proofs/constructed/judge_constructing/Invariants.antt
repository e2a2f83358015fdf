use Rattle.std.proofs.Common.{◌≡◌, drop, map}
use Rattle.je_core.specs.View.{class_view, method_view}
use Rattle.je_types.specs.Views.{program_of}
use Rattle.rule_breaks.specs.Breaks.{of_each}
use Rattle.rule_breaks.specs.way.Found.{followed_by}
use Rattle.taming_db.specs.View.{rows}
use Rattle.class_uses.specs.Constructed.{implicit_breaks}
use Rattle.class_uses.proofs.constructed.judge_constructing.Given as goal

abbrev pub invariant-loop-method : goal.invariant-loop-method
invariant-loop-method l = followed_by l.found (of_each (implicit_breaks (program_of l.typed) (rows l.taming) (class_view l.class).superclass (class_view l.class).span) (map method_view (drop l.method-index l.class.methods.items)))
    ≡ followed_by l.fn.found (of_each (implicit_breaks (program_of l.typed) (rows l.taming) (class_view l.class).superclass (class_view l.class).span) (map method_view l.class.methods.items))
