-- What a call of the program puts and answers.
use Rattle.std.specs.Prelude.{◌≡◌, ℕ, List}
use Rattle.std.specs.declared.option.Option.{Option}
use Rattle.je_top.specs.declared.status.Status.{Status}
use Rattle.je_top.specs.declared.status.Status.TheVariants as status
use Rattle.je_top.specs.Due.{IsDue}
use Rattle.je_top.specs.Files.{Held}
use Rattle.je_top.specs.Outcome.{Outcome, status_of}
use Rattle.je_top.specs.Reading.{IsCaused}
use Rattle.je_top.specs.Sink.{grown, GrewByFront}
use Rattle.je_top.specs.Texts.{text_of}
use Rattle.je_top.specs.Words.{Command}

-- true unless memory was wanting
abbrev pub UnlessMemory : Status → Type 0 → Type 0
UnlessMemory status.Memory P = Unit {0}
UnlessMemory _ P = P

-- true unless the text couldn't be written or memory was wanting
abbrev pub UnlessCut : Status → Type 0 → Type 0
UnlessCut status.WriteFault P = Unit {0}
UnlessCut status.Memory P = Unit {0}
UnlessCut _ P = P

-- true unless a file couldn't be read, the text couldn't be written or memory was wanting
abbrev pub UnlessFailed : Status → Type 0 → Type 0
UnlessFailed status.ReadFault P = Unit {0}
UnlessFailed status.WriteFault P = Unit {0}
UnlessFailed status.Memory P = Unit {0}
UnlessFailed _ P = P

-- What is due has this status, and the bytes taken grew by its text. `last` is the name of the last file whose reading failed.
pub record Puts (held : Option Held) (rose : Type 0) (last : List ℕ) (c : Option Command) (s : Status) (before after : Option (List ℕ)) : Type 0 where
  pub outcome : Outcome
  pub due : IsDue held c outcome
  pub caused : IsCaused held rose last outcome
  pub status : s ≡ status_of outcome
  pub grew : after ≡ grown before (text_of outcome)

-- the bytes taken grew by a front of the text of what is due
pub record PutsFront (held : Option Held) (rose : Type 0) (last : List ℕ) (c : Option Command) (before after : Option (List ℕ)) : Type 0 where
  pub outcome : Outcome
  pub due : IsDue held c outcome
  pub caused : IsCaused held rose last outcome
  pub grew : GrewByFront before after (text_of outcome)
