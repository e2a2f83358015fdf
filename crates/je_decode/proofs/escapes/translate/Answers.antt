-- Each turn translates the piece at the front.
use Rattle.std.proofs.Common.{sym}
use Rattle.je_decode.specs.way.Views.{piece_said}
use Rattle.je_decode.proofs.Translating.{underway_more, underway_done, underway_fails}
use Rattle.je_decode.proofs.escapes.translate.Goals as goal

pub returns-in_default-piece-clause-fault : goal.returns-in_default-piece-clause-fault
returns-in_default-piece-clause-fault c =
    underway_fails c.args.raw.now _ _ c.loop-c.all.items c.loop-c.odd c.in-Some.c.now c.loop-c.invariant c.in-Some.ensures.cases.0 (sym c.in_default-piece.ensures.value)

pub loop-c-preserved : goal.loop-c-preserved
loop-c-preserved c =
    rw (c.turns-odd.ensures, c.in_ok-push.ensures.items)
    (underway_more c.args.raw.now _ _ c.loop-c.all.items c.loop-c.odd c.in-Some.c.now (piece_said c.in-Some-piece.piece) c.loop-c.invariant c.in-Some.ensures.cases.0 (sym c.in-Some-piece.ensures.value) c.in-Some-piece.ensures.shorter)

pub returns-clause-ok : goal.returns-clause-ok
returns-clause-ok c = underway_done c.args.raw.now _ c.loop-c.all.items c.loop-c.odd c.loop-c.invariant c.in_default.ensures.cases
