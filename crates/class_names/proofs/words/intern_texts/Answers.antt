use Rattle.class_names.proofs.Interning.{turn}
use Rattle.class_names.proofs.words.intern_texts.Goals as goal

pub loop-word-preserved : goal.loop-word-preserved
loop-word-preserved c =
    turn (λ w. w.now) c.args.words.now c.loop-word.word-index _ c.args.names.now c.loop-word.names c.intern.new.self c.loop-word-test.true c.loop-word.invariant c.in_ok-intern.ensures.names
