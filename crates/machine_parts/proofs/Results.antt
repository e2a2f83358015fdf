-- What is known of a result.
use Rattle.std.specs.Prelude.{IfOk, Result, Ok, Err}

-- a fact of the value, if there is one, from another
pub if_ok-map : {T E : Type 0} {P Q : T → Type 0} (r : Result T E) → ((v : T) → P v → Q v) → IfOk r P → IfOk r Q
if_ok-map (Ok v) f h = f v h
if_ok-map (Err e) f h = tt
