-- What is left of a negation in a type's bits.
use Rattle.std.proofs.lemmas.Int.{wraps}

-- std's lemmas on wrapping
pub ruleset wrapped = (wraps)
