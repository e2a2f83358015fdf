use Rattle.std.proofs.Common.{sym}
use Rattle.name_lookup.specs.View.{numbers}
use Rattle.name_lookup.proofs.headers.Headers.inherited.Goals as goal

pub among-requires-clause-within : goal.among-requires-clause-within
among-requires-clause-within c = λ d q. c.requires.within c.args.class.0 d (numbers c.in-Some.supers.now) (sym c.in-Some.ensures) q
