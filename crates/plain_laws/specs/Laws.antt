-- A program that fits and breaks none of the rules is plain, where a taming text enables tame members alone.
use Rattle.std.specs.Prelude.{◌≡◌, true, false, List}
use Rattle.je_core.specs.Core.{CoreProgram}
use Rattle.je_fitting.specs.Program.{FitsProgram}
use Rattle.je_fitting.specs.Types.{string}
use Rattle.library_classes.specs.Library.{LibraryStands}
use Rattle.plain_programs.specs.Plain.{IsPlain}
use Rattle.plain_programs.specs.Wild.{is_wild_text}
use Rattle.taming_db.specs.Rows.{Row}
use Rattle.taming_db.specs.Tame.{enable_tame}
use Rattle.static_rules.specs.StaticRules.{static_breaks}
use Rattle.use_rules.specs.Programs.{program_breaks}
use Rattle.use_laws.specs.Laws.{EnablesNoneWild, IsUnbroken}

-- Guests may use no wild member.
abbrev pub TameIsNotWild : Type 0
TameIsNotWild = (rows : List Row) → enable_tame rows ≡ true → EnablesNoneWild rows

-- The text of a String isn't wild.
abbrev pub StringsAreNotWild : Type 0
StringsAreNotWild = (p : CoreProgram) → LibraryStands p → is_wild_text p string ≡ false

-- Of the rules only those on static state, and on what a program uses, are asked of it.
abbrev pub UnbrokenIsPlain : Type 0
UnbrokenIsPlain = (p : CoreProgram) (rows : List Row) → LibraryStands p → FitsProgram p → enable_tame rows ≡ true →
    IsUnbroken (static_breaks p rows) → IsUnbroken (program_breaks p rows) → IsPlain p
