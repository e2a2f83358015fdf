use Rattle.std.proofs.Common.{rules, ◌∙◌, ap, subst}
use Rattle.std.specs.Prelude.{IfSome, length, ◌≤◌}
use Rattle.je_heap.specs.Contents.{Contents, world_before}
use Rattle.je_heap.proofs.Journals.{kept_by_object}
use Rattle.je_heap.proofs.heap.Heap.alloc_obj.Goals as goal

pub returns-clause-ok : goal.returns-clause-ok
returns-clause-ok c = search rules

pub returns-clause-before : goal.returns-clause-before
returns-clause-before c =
    let few = subst (λ (h : Contents). IfSome h.turn (λ t. t.made_before ≤ length h.world.objects)) c.self.view_is c.self.invariant in
    ap world_before (returns-clause-ok c) ∙ kept_by_object c.args.self.now c.args.obj few
