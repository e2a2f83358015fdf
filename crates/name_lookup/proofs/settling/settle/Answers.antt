use Rattle.name_sites.specs.View.{source_of}
use Rattle.name_lookup.proofs.Tables.{none-settling, all-settled}
use Rattle.name_lookup.proofs.settling.settle.Goals as goal

pub loop-headers-init : goal.loop-headers-init
loop-headers-init c = none-settling (source_of c.args.sites.now) c.in_ok-headers.headers c.in_ok-headers.ensures.whole c.in_ok-headers.ensures.none

pub loop-headers-preserved : goal.loop-headers-preserved
loop-headers-preserved c = c.in_ok-read_once.ensures.settling

pub loop-headers-smaller : goal.loop-headers-smaller
loop-headers-smaller c = c.in_ok-read_once.ensures.fewer c.if-branch.true

pub returns : goal.returns
returns c = let s = c.in_ok-read_once.ensures.settling in record {
  fits = s.fit;
  settled = all-settled (source_of c.args.sites.now) c.read_once.new.self s (c.in_ok-read_once.ensures.rest c.if-branch.false);
}
