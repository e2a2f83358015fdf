use Rattle.std.proofs.Common.{rules, ◌∙◌, ap}
use Rattle.je_heap.specs.Contents.{world_before}
use Rattle.je_heap.proofs.Journals.{kept_by_variable}
use Rattle.je_heap.proofs.heap.Heap.set_static.Goals as goal

pub returns-clause-ok : goal.returns-clause-ok
returns-clause-ok c = search rules

pub returns-clause-before : goal.returns-clause-before
returns-clause-before c = ap world_before (returns-clause-ok c) ∙ kept_by_variable c.args.self.now c.args.at c.args.value
