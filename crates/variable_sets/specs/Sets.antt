-- Sets of variables, each as its test.
use Rattle.std.specs.Prelude.{ℕ, Bool, true, false, ◌&&◌, ◌||◌, nat_eq, if◌then◌else◌}

pub record Set : Type 0 where
  pub has : ℕ → Bool

unfoldable pub everything : Set
everything = record { has = λ v. true }

unfoldable pub nothing : Set
nothing = record { has = λ v. false }

-- the variables that are in both sets
unfoldable pub both : Set → Set → Set
both a b = record { has = λ v. a.has v && b.has v }

-- the variables that are in one of the sets
unfoldable pub either : Set → Set → Set
either a b = record { has = λ v. a.has v || b.has v }

-- of the variables in x those in a, and of all others those in b
unfoldable pub pick : Set → Set → Set → Set
pick x a b = record { has = λ v. if x.has v then a.has v else b.has v }

-- the set and this variable
unfoldable pub adding : ℕ → Set → Set
adding x a = record { has = λ v. if nat_eq v x then true else a.has v }

-- the set but for this variable
unfoldable pub removing : ℕ → Set → Set
removing x a = record { has = λ v. if nat_eq v x then false else a.has v }
