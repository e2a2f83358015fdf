use Rattle.std.proofs.Common.{sym, ◌∙◌, arith}
use Rattle.std.specs.List.{list_all}
use Rattle.class_heads.specs.View.{classes_of}
use Rattle.source_subtypes.specs.View.{heads_of}
use Rattle.class_methods.specs.View.{table_seen}
use Rattle.class_methods.specs.way.Rounds.{list_to, next_methods, next_settled}
use Rattle.class_methods.proofs.Rounds.{all_settled, one_round}
use Rattle.class_methods.proofs.hierarchy.all_methods.Goals as goal

pub returns-then-all_true : goal.returns-then-all_true
returns-then-all_true c =
    all_settled (heads_of c.args.heads.now) (classes_of c.args.classes) c.loop.counter (table_seen c.loop.table.items) c.loop.settled.items c.args.count
    c.requires.heads c.requires.classes c.loop.invariant (omega (arith, c.loop-test.true, c.len-end.ensures)) (omega arith)
    (sym (sym c.if-all_true.true ∙ c.all_true.ensures ∙ (λ i. list_all (λ b. b) (c.deref.ensures.value i))))

pub loop-preserved : goal.loop-preserved
loop-preserved c =
    one_round (heads_of c.args.heads.now) (classes_of c.args.classes) c.loop.counter (table_seen c.loop.table.items) c.loop.settled.items c.args.count
    c.requires.heads c.requires.classes c.loop.invariant _ _
    (c.in_ok-table.ensures ∙ (λ i. list_to (next_methods (heads_of c.args.heads.now) (classes_of c.args.classes) (table_seen (c.deref-in-loop.ensures.value i))) c.args.count))
    (c.in_ok-settled.ensures ∙ (λ i. list_to (next_settled (heads_of c.args.heads.now) (c.deref-in-loop-2.ensures.value i)) c.args.count))
