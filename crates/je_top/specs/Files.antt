-- Files by name, and what a read of a name may answer. What is held is an option: `None` where nothing is told of it.
use Rattle.std.specs.Prelude.{◌≡◌, ℕ, ◌+◌, ◌<◌, ◌≤◌, List, [], length, take, Result, Ok, Err, IfSome, MatchOption, Some, None}
use Rattle.std.specs.declared.option.Option.{Option}
use Rattle.je_top.specs.declared.files.FileFault.{FileFault}
use Rattle.je_top.specs.declared.files.FileFault.TheVariants.{NotThere, TooLong, Failed, Memory}

-- the most bytes that a file may have to be read whole: a mebibyte
abbrev pub file_limit : ℕ
file_limit = 1048576

-- the bytes of each name that has a file
abbrev pub Held : Type 0
Held = List ℕ → Option (List ℕ)

-- a file longer than the limit
abbrev pub IsTooLong : List ℕ → Type 0
IsTooLong file = file_limit < length file

-- the bytes are the whole file of this name, within the limit
pub record IsWhole (held : Option Held) (name bytes : List ℕ) : Type 0 where
  pub within : length bytes ≤ file_limit
  pub told : IfSome held (λ files. files name ≡ Some bytes)

-- the bytes are the front of the file of this name, which is too long: one byte more than the limit
pub record IsFront (held : Option Held) (name bytes : List ℕ) : Type 0 where
  pub past_limit : length bytes ≡ file_limit + 1
  pub told : IfSome held (λ files.
      (file : List ℕ) × (files name ≡ Some file) × IsTooLong file
      × (bytes ≡ take (file_limit + 1) file))

-- no file of this name is held; where nothing is told, the count rose
abbrev pub IsMissing : Option Held → List ℕ → Type 0 → Type 0
IsMissing held name rose = MatchOption held rose (λ files. files name ≡ None)

-- what a read of a name that isn't held answers
abbrev pub SaysMissing : Result Unit FileFault → Type 0
SaysMissing (Ok done) = ⊥
SaysMissing (Err NotThere) = Unit {0}
SaysMissing (Err TooLong) = ⊥
SaysMissing (Err Failed) = ⊥
SaysMissing (Err Memory) = Unit {0}

-- the count stays after `Ok` and `Memory`, and where files tell after everything but `Failed`
abbrev pub KeepsCount : Option Held → Result Unit FileFault → Type 0 → Type 0
KeepsCount held (Ok done) same = same
KeepsCount held (Err NotThere) same = IfSome held (λ files. same)
KeepsCount held (Err TooLong) same = IfSome held (λ files. same)
KeepsCount held (Err Failed) same = Unit {0}
KeepsCount held (Err Memory) same = same

-- the name of the last read that answered `Failed`
abbrev pub last_after : Result Unit FileFault → List ℕ → List ℕ → List ℕ
last_after (Ok done) name last = last
last_after (Err NotThere) name last = last
last_after (Err TooLong) name last = last
last_after (Err Failed) name last = name
last_after (Err Memory) name last = last

-- the bytes are left empty by each refusal but `TooLong`
abbrev pub LeavesNothing : Result Unit FileFault → List ℕ → Type 0
LeavesNothing (Ok done) bytes = Unit {0}
LeavesNothing (Err NotThere) bytes = bytes ≡ []
LeavesNothing (Err TooLong) bytes = Unit {0}
LeavesNothing (Err Failed) bytes = bytes ≡ []
LeavesNothing (Err Memory) bytes = bytes ≡ []
