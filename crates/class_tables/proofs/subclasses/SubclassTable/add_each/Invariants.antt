use Rattle.std.proofs.Common.{take}
use Rattle.je_core.specs.declared.types.ClassId.{ClassId}
use Rattle.je_core.specs.View.{program_view}
use Rattle.je_classes.specs.Members.{In}
use Rattle.class_tables.specs.way.Above.{AreKnown, IsKnown}
use Rattle.class_tables.proofs.subclasses.SubclassTable.add_each.Given as goal

abbrev pub invariant-loop-class : goal.invariant-loop-class
invariant-loop-class l = AreKnown (program_view l.program) l.self
    × ((c : ClassId) → In (take l.class-index l.classes) c → IsKnown (program_view l.program) l.self c)
