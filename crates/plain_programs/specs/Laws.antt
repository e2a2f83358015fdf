-- What the tests decide.
use Rattle.std.specs.Prelude.{◌≡◌, ◌↔◌, true}
use Rattle.je_core.specs.Core.{CoreProgram}
use Rattle.plain_programs.specs.Plain.{IsPlain}
use Rattle.plain_programs.specs.way.Deciding.{is_plain}

abbrev pub PlainIsDecided : Type 0
PlainIsDecided = (program : CoreProgram) → (is_plain program ≡ true) ↔ IsPlain program
