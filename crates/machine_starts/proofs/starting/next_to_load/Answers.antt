use Rattle.std.proofs.Common.{◌<◌, ◌+◌, ◌-◌, ◌∙◌, arith}
use Rattle.je_core.specs.View.{program_view}
use Rattle.je_java.specs.Steps.{with_outside}
use Rattle.je_load.specs.Loading.{no_exits}
use Rattle.machine_parts.specs.Starts.{load_from}
use Rattle.machine_starts.proofs.Loading.{loads_more}
use Rattle.machine_starts.proofs.starting.next_to_load.Goals as goal

pub returns-in-Some-clause-goes : goal.returns-in-Some-clause-goes
returns-in-Some-clause-goes c = λ m s.
    let p = program_view c.args.program.now in
    let go = load_from p m (c.loop-count.next + 1) (c.loop-count.count - 1) in
    let some : 0 < c.loop-count.count = omega arith in
    c.in-Some.ensures.goes m go (with_outside s c.mark.new.starts)
    ∙ c.in_ok-path.ensures m go no_exits s
    ∙ loads_more p m c.loop-count.next c.loop-count.count (with_outside s c.loop-count.starts) some
    ∙ c.loop-count.invariant.same m s

pub loop-count-preserved : goal.loop-count-preserved
loop-count-preserved c = record {
  same = λ m s.
      let p = program_view c.args.program.now in
      let go = load_from p m (c.loop-count.next + 1) (c.loop-count.count - 1) in
      let some : 0 < c.loop-count.count = omega arith in
      c.in_default.ensures.goes m go (with_outside s c.mark.new.starts)
      ∙ c.in_ok-path.ensures m go no_exits s
      ∙ loads_more p m c.loop-count.next c.loop-count.count (with_outside s c.loop-count.starts) some
      ∙ c.loop-count.invariant.same m s;
  all = omega (arith, c.loop-count.invariant.all, c.loop-count-test.true);
}
