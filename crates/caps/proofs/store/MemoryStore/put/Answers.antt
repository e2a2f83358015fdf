use Rattle.std.proofs.Common.{arith}
use Rattle.caps.proofs.store.MemoryStore.put.Goals as goal
use Rattle.caps.proofs.Stores.{kept_small}

pub invariant_of-self : goal.invariant_of-self
invariant_of-self c = record { small = kept_small c.args.key.now c.args.text.now c.args.self.now.pairs.items c.keep.new.pairs.items c.keep.result c.args.self.now.small (grind (arith, c.refusal.ensures, c.in_default.is, c.deref.ensures.value)) c.keep.ensures.ok c.keep.ensures.err }
