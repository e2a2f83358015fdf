use Rattle.std.proofs.Common.{rules, ◌∙◌, ap}
use Rattle.je_heap.specs.Contents.{world_before}
use Rattle.je_heap.proofs.Journals.{kept_by_length}
use Rattle.je_heap.proofs.heap.Heap.add_units.Goals as goal

pub returns-in_ok-lengthen-in-Some-clause-ok : goal.returns-in_ok-lengthen-in-Some-clause-ok
returns-in_ok-lengthen-in-Some-clause-ok c = search rules

pub returns-in_ok-lengthen-in-Some-clause-before : goal.returns-in_ok-lengthen-in-Some-clause-before
returns-in_ok-lengthen-in-Some-clause-before c =
    ap world_before (returns-in_ok-lengthen-in-Some-clause-ok c) ∙ kept_by_length c.args.self.now c.args.id c.args.more.now
