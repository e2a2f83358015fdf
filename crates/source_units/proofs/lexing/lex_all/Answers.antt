-- Each turn reads one file more.
use Rattle.std.proofs.Common.{length, ap, arith, length-append, ◌∷◌, []}
use Rattle.std.proofs.lemmas.Result.{err_from_is_err_and}
use Rattle.source_units.proofs.Lexed.{begins, goes_on, fails}
use Rattle.source_units.proofs.lexing.lex_all.Goals as goal

pub loop-bytes-init : goal.loop-bytes-init
loop-bytes-init c = (rw c.new-all.ensures.items (begins c.args.files.now), ap length c.new-all.ensures.items)

pub loop-bytes-preserved : goal.loop-bytes-preserved
loop-bytes-preserved c =
    let all = c.loop-bytes.all.items in
    let t = c.in_ok-tokens.tokens in
    let size = ap length c.in_ok-push.ensures.items in
    let sum = length-append all (t ∷ []) in (
      rw c.in_ok-push.ensures.items (goes_on c.args.files.now c.loop-bytes.bytes-index c.bytes-item.result all t (omega arith) c.bytes-item.is _ _
          (omega (arith, c.len.ensures, c.loop-bytes.invariant.1)) c.deref.ensures.value c.in_ok-tokens.ensures.ok c.in_ok-tokens.ensures.ready c.loop-bytes.invariant.0),
      omega (arith, size, sum, c.loop-bytes.invariant.1),
    )

pub returns-in_err-tokens-clause-err : goal.returns-in_err-tokens-clause-err
returns-in_err-tokens-clause-err c =
    let p = err_from_is_err_and c.from_residual.result c.from_residual.ensures.1 in
    rw (p.1, p.2) (fails c.args.files.now c.loop-bytes.bytes-index c.bytes-item.result c.loop-bytes.all.items _ (omega arith) c.bytes-item.is _ _
    (omega (arith, c.len.ensures, c.loop-bytes.invariant.1)) c.deref.ensures.value c.in_err-tokens.ensures.err c.loop-bytes.invariant.0)
