-- What a sink has taken: `None` where nothing is told of it.
use Rattle.std.specs.Prelude.{◌≡◌, ℕ, List, ◌++◌, take, option_map}
use Rattle.std.specs.declared.option.Option.{Option}

-- the bytes taken before, and then these
abbrev pub grown : Option (List ℕ) → List ℕ → Option (List ℕ)
grown taken bytes = option_map (λ before. before ++ bytes) taken

-- the bytes taken grew by a front of these
abbrev pub GrewByFront : Option (List ℕ) → Option (List ℕ) → List ℕ → Type 0
GrewByFront before now bytes = (n : ℕ) × (now ≡ grown before (take n bytes))
