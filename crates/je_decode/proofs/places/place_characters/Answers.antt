-- Each turn places the next character.
use Rattle.std.proofs.Common.{arith, ◌+◌}
use Rattle.std.specs.Str.{chars}
use Rattle.std.proofs.lemmas.Iterator.{YieldsList-from_chars}
use Rattle.std.proofs.lemmas.Iterator.Consumers.{YieldsList-turn, YieldsList-end}
use Rattle.std.proofs.lemmas.List.{length_push}
use Rattle.je_decode.proofs.Placing.{placed_more, placed_all, few_placed}
use Rattle.je_decode.proofs.places.place_characters.Goals as goal

pub loop-c-preserved : goal.loop-c-preserved
loop-c-preserved c =
    let t = YieldsList-turn (YieldsList-from_chars c.args.text.now c.utf8.text cc) c.loop-c.yielded _ c.loop-c.yielded_by _ _ c.in-Some.c c.in-Some.is c.next.ensures.steps in
    let n = length_push c.loop-c.yielded c.in-Some.c in
    let more = placed_more (chars c.args.text.now) _ c.loop-c.start (c.loop-c.start + c.len_utf8.result) c.in-Some.c c.loop-c.all.items c.loop-c.invariant t.0 t.1 (omega (arith, c.len_utf8.ensures.len)) (omega (arith, c.len_utf8.ensures.len, c.len_utf8.ensures.upper_bound)) in
    rw (n, c.in_ok-push.ensures.items) more

pub returns : goal.returns
returns c =
    let t = YieldsList-end (YieldsList-from_chars c.args.text.now c.utf8.text cc) c.loop-c.yielded _ c.loop-c.yielded_by _ _ c.in-None.is c.next.ensures.steps in
    let value = placed_all (chars c.args.text.now) _ _ _ c.loop-c.invariant t.1 in
    record { value = value; few = few_placed c.args.text.now _ c.utf8.text value }
