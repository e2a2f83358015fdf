-- How the reading of files by name ends before its end.
use Rattle.std.specs.Prelude.{⊤, ◌≡◌, ◌≢◌, ◌⊎◌, ℕ, List, [], ◌∷◌, IfSome, IfNone, IsSomeAnd, None}
use Rattle.std.specs.declared.option.Option.{Option}
use Rattle.je_top.specs.Files.{Held, IsTooLong, IsWhole}
use Rattle.je_top.specs.Outcome.{Outcome, missing, too_long, failed}

-- Where it is told what is held: there is no file of this name, or one that is too long, or one whose reading failed.
abbrev pub Stops : Option Held → List ℕ → Outcome → Type 0
Stops held name (missing n) = IfSome held (λ files. files name ≡ None) × (n ≡ name)
Stops held name (too_long n) = IfSome held (λ files. IsSomeAnd (files name) IsTooLong) × (n ≡ name)
Stops held name (failed n) = IfSome held (λ files. files name ≢ None) × (n ≡ name)
Stops held name _ = ⊥

-- the first of these files that isn't read whole
abbrev pub StopsAmong : Option Held → List (List ℕ) → Outcome → Type 0
StopsAmong held [] o = ⊥
StopsAmong held (name ∷ names) o = Stops held name o ⊎ ((bytes : List ℕ) × IsWhole held name bytes × StopsAmong held names o)

-- the reading of a file failed
abbrev pub IsFailed : Outcome → Type 0
IsFailed (failed name) = ⊤
IsFailed _ = ⊥

-- Where nothing is told of files, the count of faults rose for what can't be told from one. A file whose reading failed is
-- the last such.
abbrev pub IsCaused : Option Held → Type 0 → List ℕ → Outcome → Type 0
IsCaused held rose last (missing name) = IfNone held rose
IsCaused held rose last (too_long name) = IfNone held rose
IsCaused held rose last (failed name) = rose × (name ≡ last)
IsCaused held rose last _ = ⊤
