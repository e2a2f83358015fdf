-- By what a program is elaborated: what is met in its bodies, what its classes capture, and what their members come to.
use Rattle.std.specs.Prelude.{◌≡◌, ℕ, ◌<◌, ◌≤◌, List, drop, length, Some, slice_get}
use Rattle.je_core.specs.Core.{CoreClass, CoreProgram}
use Rattle.je_classes.specs.Hierarchy.{class_at}
use Rattle.je_scopes.specs.Source.{Source}
use Rattle.source_types.specs.Erasure.{class_numbered}
use Rattle.je_typing.specs.Judged.{gives}
use Rattle.name_typing.specs.Program.{Program}
use Rattle.signature_typing.specs.Signatures.{signatures}
use Rattle.library_classes.specs.Library.{all_due}
use Rattle.class_typing.specs.Captures.{captured_locals}
use Rattle.class_typing.specs.Classes.{core_class}
use Rattle.class_typing.specs.Elaboration.{BodiesMet, World, constants_first, first_bodies, first_program}
use Rattle.class_typing.specs.Elaboration.{first_world, members_of, setting, whole_world}
use Rattle.class_typing.specs.Members.{MembersDone}
use Rattle.class_typing.specs.Places.{round_met}
use Rattle.class_typing.specs.Programs.{CapturedLocal, classes, library_count, number}
use Rattle.class_typing.specs.Texts.{texts}

-- by what is met in all bodies
module _ (source : Source) (first : BodiesMet) where
  abbrev pub captured_by : ℕ → List CapturedLocal
  captured_by = captured_locals (first_program source) first.met (round_met source.sites first.met)

  abbrev pub world_of : World
  world_of = whole_world source captured_by first

  -- what names and types are looked up in
  abbrev pub program_of : Program
  program_of = world_of.program

  -- a class of the source, by what its members come to
  pub record IsMade (c : ℕ) (class : CoreClass) : Type 0 where
    pub done : MembersDone
    pub walked : members_of source world_of captured_by first.met c ≡ gives done
    pub is : class ≡ core_class program_of captured_by c done

  -- The classes of the library stand first, and those of the source behind them; a class's number is its place.
  pub record HasClasses (program : CoreProgram) : Type 0 where
    pub library : (c : ℕ) → c < library_count source →
        class_at program (class_numbered c) ≡ slice_get (all_due (number source)) c
    pub guests : (c : ℕ) (class : CoreClass) → library_count source ≤ c →
        class_at program (class_numbered c) ≡ Some class → IsMade c class
    pub count : length program.classes ≡ length (classes source)

-- No header or signature has a fault (JLS 8, 9), bodies are walked, and the texts are those of the source's classes.
pub record IsElaborated (source : Source) (program : CoreProgram) : Type 0 where
  pub signed : signatures (setting source ((first_world source (constants_first source)).program)) ≡ gives tt
  pub first : BodiesMet
  pub met : first_bodies source ≡ gives first
  pub has : HasClasses source first program
  pub texts : program.texts ≡ texts (drop (library_count source) program.classes)
