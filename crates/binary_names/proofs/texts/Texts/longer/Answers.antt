use Rattle.std.proofs.Common.{◌+◌, arith}
use Rattle.std.specs.List.{list_any}
use Rattle.binary_names.specs.Steps.{same_step}
use Rattle.binary_names.specs.Texts.{IsText, Stays}
use Rattle.binary_names.proofs.Spelling.{stays_spelled, spelled_longer}
use Rattle.binary_names.proofs.texts.Texts.longer.Goals as goal

pub returns-clause-stays : goal.returns-clause-stays
unfolding IsText Stays
returns-clause-stays c = stays_spelled c.args.self.now.steps.keys c.insert_full.new.self.keys (c.args.text, c.args.byte) (c.args.text, c.args.byte)
    (list_any (same_step (c.args.text, c.args.byte)) c.args.self.now.steps.keys) c.in_ok-at.ensures.keys

pub returns-clause-text : goal.returns-clause-text
unfolding IsText
returns-clause-text c = let s = c.in_ok-at.ensures.stored in
    spelled_longer c.args.self.now.steps.keys c.insert_full.new.self.keys (c.args.text, c.args.byte) s.0
    (list_any (same_step (c.args.text, c.args.byte)) c.args.self.now.steps.keys) c.in_ok-at.ensures.keys
    c.in_ok-at.at (c.in_ok-at.at + 1) (omega arith) s.1 s.2
