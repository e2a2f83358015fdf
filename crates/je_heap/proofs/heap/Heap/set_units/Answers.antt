use Rattle.std.proofs.Common.{rules, ◌∙◌, ap}
use Rattle.je_heap.specs.Contents.{world_before}
use Rattle.je_heap.proofs.Journals.{kept_by_units}
use Rattle.je_heap.proofs.heap.Heap.set_units.Goals as goal

pub returns-in-Some-clause-ok : goal.returns-in-Some-clause-ok
returns-in-Some-clause-ok c = search rules

pub returns-in-Some-clause-before : goal.returns-in-Some-clause-before
returns-in-Some-clause-before c = ap world_before (returns-in-Some-clause-ok c) ∙ kept_by_units c.args.self.now c.args.id c.args.units
