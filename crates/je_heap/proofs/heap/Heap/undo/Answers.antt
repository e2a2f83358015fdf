use Rattle.std.proofs.Common.{List, sym, ◌∙◌, ap, arith}
use Rattle.std.specs.Prelude.{is_some}
use Rattle.std.proofs.lemmas.List.{set_past}
use Rattle.je_core.specs.declared.object.Obj.{Obj}
use Rattle.je_core.specs.declared.value.Value.{Value}
use Rattle.je_java.specs.World.{World}
use Rattle.je_heap.proofs.Journals.{not_found, no_builder_left, no_builder_shortened}
use Rattle.je_heap.proofs.heap.Heap.undo.Goals as goal

pub returns-else-is_some-clause-world : goal.returns-else-is_some-clause-world
returns-else-is_some-clause-world c =
    let none = ap is_some (sym c.slot.ensures) ∙ (sym c.is_some.ensures ∙ c.if-is_some.false) in
    let with_objects : List Obj → World = λ os. record { objects = os; statics = c.self.inside.statics } in
    rw c.in-Slot.is (rw (sym c.self.view_is) (ap with_objects (not_found c.self.inside.objects c.in-Slot.id.0 c.in-Slot.at c.in-Slot.old none)))

pub returns-else-is_builder-clause-world : goal.returns-else-is_builder-clause-world
returns-else-is_builder-clause-world c =
    let none = sym c.is_builder.ensures ∙ c.if-is_builder.false in
    let with_objects : List Obj → World = λ os. record { objects = os; statics = c.self.inside.statics } in
    rw c.in-Units.is (rw (sym c.self.view_is) (ap with_objects (no_builder_left c.self.inside.objects c.in-Units.id.0 c.in-Units.old none)))

pub returns-else-is_builder-2-clause-world : goal.returns-else-is_builder-2-clause-world
returns-else-is_builder-2-clause-world c =
    let none = sym c.is_builder-in-Length.ensures ∙ c.if-is_builder-2.false in
    let with_objects : List Obj → World = λ os. record { objects = os; statics = c.self.inside.statics } in
    rw c.in-Length.is (rw (sym c.self.view_is) (ap with_objects (no_builder_shortened c.self.inside.objects c.in-Length.id.0 c.in-Length.count none)))

pub returns-else-at-len-clause-world : goal.returns-else-at-len-clause-world
returns-else-at-len-clause-world c =
    let past = c.if-at-len.false in
    let count = c.len.ensures in
    let with_statics : List Value → World = λ vs. record { objects = c.self.inside.objects; statics = vs } in
    rw c.in-Variable.is (rw (sym c.self.view_is) (ap with_statics (sym (set_past c.self.inside.statics c.in-Variable.at c.in-Variable.old (omega arith)))))
