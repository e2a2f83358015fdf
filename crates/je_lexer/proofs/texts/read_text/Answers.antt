-- Each turn reads the piece at the front.
use Rattle.std.proofs.Common.{sym}
use Rattle.je_lexer.specs.way.Views.{piece_said}
use Rattle.je_lexer.proofs.Bodies.{underway_more, underway_done, underway_fails}
use Rattle.je_lexer.proofs.texts.read_text.Goals as goal

pub returns-in_default-text_piece-clause-fault : goal.returns-in_default-text_piece-clause-fault
returns-in_default-text_piece-clause-fault c = underway_fails c.args.body.now _ _ c.loop-c.units c.in-Some.c.now c.loop-c.invariant c.in-Some.ensures.cases.0 (sym c.in_default-text_piece.ensures.value)

pub loop-c-preserved : goal.loop-c-preserved
loop-c-preserved c =
    rw c.in_ok-push_units.ensures
    (underway_more c.args.body.now _ _ c.loop-c.units c.in-Some.c.now (piece_said c.in-Some-text_piece.piece) c.loop-c.invariant c.in-Some.ensures.cases.0 (sym c.in-Some-text_piece.ensures.value))

pub returns-clause-ok : goal.returns-clause-ok
returns-clause-ok c = underway_done c.args.body.now _ c.loop-c.units c.loop-c.invariant c.in_default.ensures.cases
