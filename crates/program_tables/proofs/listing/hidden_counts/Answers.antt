use Rattle.std.proofs.Common.{arith}
use Rattle.core_making.specs.Known.{captured_seen}
use Rattle.type_faults.specs.Program.{source_in}
use Rattle.program_tables.proofs.HiddenFields.{all_counted}
use Rattle.program_tables.proofs.listing.hidden_counts.Goals as goal

pub returns-clause-each : goal.returns-clause-each
returns-clause-each c =
    all_counted (source_in c.args.layout.source) (captured_seen c.args.layout.captured.now) c.loop-at.counts.items
    (omega (
      arith,
      c.loop-at.invariant.as_many,
      c.loop-at.auto.at-end,
      c.loop-at-test.false,
      c.len-at-end.ensures.count,
    ))
    (λ k l. c.loop-at.invariant.each k (omega (arith, l, c.loop-at-test.false, c.len-at-end.ensures.count)))
