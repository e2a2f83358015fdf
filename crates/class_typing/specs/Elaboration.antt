-- The core program of all units, or the first fault of a type: headers and signatures of all classes in reading
-- order, and then the bodies of all classes in that order, those of a class inside another one behind the whole of
-- that one (JLS 8, 9). Bodies are walked twice: what each class captures is known when all bodies were met, and then
-- their code is.
use Rattle.std.specs.Prelude.{ℕ, zero, suc, ◌-◌, Bool, false, List, [], ◌∷◌, ◌++◌, length, Option, Some, None, is_some}
use Rattle.std.specs.List.{position}
use Rattle.je_base.specs.declared.span.NameId.{NameId}
use Rattle.je_core.specs.Core.{CoreClass, CoreProgram}
use Rattle.je_classes.specs.Members.{Member}
use Rattle.je_scopes.specs.Headers.{is_guest, same_name, site_at}
use Rattle.je_scopes.specs.Source.{Source}
use Rattle.declarations.specs.Declarations.{DeclaredField, type_at}
use Rattle.je_typing.specs.Judged.{Judged, gives, ◌>>=◌, ◌>>◌}
use Rattle.library_classes.specs.Library.{all_due}
use Rattle.name_typing.specs.Fields.{fields_of, member}
use Rattle.name_typing.specs.Program.{Constant, Frame, Program}
use Rattle.body_typing.specs.Expressions.{Known}
use Rattle.signature_typing.specs.Signatures.{Setting, signatures}
use Rattle.body_typing.specs.Bodies.{Met}
use Rattle.class_typing.specs.Captures.{captured_locals, captures}
use Rattle.class_typing.specs.Classes.{core_class}
use Rattle.class_typing.specs.ConstantFields.{constants_of, constants_shifted, is_blank, library_constants}
use Rattle.class_typing.specs.Members.{MembersDone, class_members}
use Rattle.class_typing.specs.Places.{is_placed, round_met}
use Rattle.class_typing.specs.Programs.{CapturedLocal, classes, hidden_fields, library_count, number, plain_program}
use Rattle.class_typing.specs.Texts.{texts}

-- ---- what bodies are judged by

-- the program, and what is known beside it
pub record World : Type 0 where
  pub program : Program
  pub known : Known

-- what was met in the bodies of classes, and the fields that are constant variables, as far as that is told behind them
pub record BodiesMet : Type 0 where
  pub met : List Met
  pub constants : Member → Option Constant

module _ (source : Source) where
  abbrev pub hidden_count : (ℕ → List CapturedLocal) → ℕ → ℕ
  hidden_count captured c = length (hidden_fields source captured c)

  abbrev pub nothing_captured : ℕ → List CapturedLocal
  nothing_captured c = []

  -- before it is known what classes capture
  abbrev pub first_program : Program
  first_program = plain_program source nothing_captured

  abbrev pub with_constants : Program → (Member → Option Constant) → Program
  with_constants p constants = record p { constants = constants }

  -- ---- constants: of a class that stands in a body, by its locals, when that body was walked, and without them before

  abbrev pub constants_told : (ℕ → Bool) → List Met → (Member → Option Constant) → Member → Option Constant
  constants_told is_asked met known =
      constants_of first_program (hidden_count nothing_captured) (round_met source.sites met) is_asked known

  abbrev pub is_guest_class : ℕ → Bool
  is_guest_class c = is_guest (site_at source.sites c).written

  abbrev pub constants_first : Member → Option Constant
  constants_first = constants_told is_guest_class [] (library_constants source)

  -- of the classes that stand where something was met newly, behind what was met before it
  abbrev pub constants_behind : List Met → List Met → (Member → Option Constant) → Member → Option Constant
  constants_behind met new known = constants_told (is_placed source.sites new) (met ++ new) known

  -- ---- headers and signatures (JLS 8, 9), where no locals round a class are known

  -- whether the first field of a name is a constant variable
  abbrev pub has_name : NameId → DeclaredField → Bool
  has_name x f = same_name f.name.name x

  abbrev pub is_constant_at : Program → ℕ → Option ℕ → Bool
  is_constant_at p c None = false
  is_constant_at p c (Some at) = is_some (p.constants (member c at))

  abbrev pub is_constant : Program → ℕ → NameId → Bool
  is_constant p c x = is_constant_at p c (position (has_name x) (fields_of p.classes c))

  abbrev pub setting : Program → Setting
  setting p = record {
    sites = source.sites;
    classes = classes source;
    heads = p.heads;
    means = type_at source;
    is_constant = is_constant p;
  }

  -- ---- bodies

  abbrev pub members_of : World → (ℕ → List CapturedLocal) → List Met → ℕ → Judged MembersDone
  members_of w captured met c =
      class_members w.program w.known c (round_met source.sites met c) met (hidden_count captured c)

  abbrev pub guest_count : ℕ
  guest_count = length source.sites - library_count source

  -- the first walk, for what is met

  abbrev pub nothing_round : ℕ → List Frame
  nothing_round c = []

  abbrev pub first_world : (Member → Option Constant) → World
  first_world constants =
      let p = with_constants first_program constants in
      record {
        program = p;
        known = record {
          captures = captures p nothing_captured nothing_round;
          is_blank = is_blank first_program (hidden_count nothing_captured);
        };
      }

  -- of so many classes from one on, behind what was met in those before it
  abbrev pub bodies_from : (Member → Option Constant) → List Met → ℕ → ℕ → Judged BodiesMet
  bodies_from constants met c zero = gives (record { met = met; constants = constants })
  bodies_from constants met c (suc n) = do
    d ← members_of (first_world constants) nothing_captured met c
    bodies_from (constants_behind met d.met constants) (met ++ d.met) (suc c) n

  abbrev pub first_bodies : Judged BodiesMet
  first_bodies = bodies_from constants_first [] (library_count source) guest_count

  -- the second one, for the code, where it is known what each class captures

  abbrev pub captured_count : (ℕ → List CapturedLocal) → ℕ → ℕ
  captured_count captured c = length (captured c)

  abbrev pub whole_program : (ℕ → List CapturedLocal) → BodiesMet → Program
  whole_program captured first =
      with_constants (plain_program source captured) (constants_shifted (captured_count captured) first.constants)

  abbrev pub whole_world : (ℕ → List CapturedLocal) → BodiesMet → World
  whole_world captured first =
      let p = whole_program captured first in
      record {
        program = p;
        known = record {
          captures = captures p captured (round_met source.sites first.met);
          is_blank = is_blank p (hidden_count captured);
        };
      }

  -- so many classes from one on
  abbrev pub core_classes : World → (ℕ → List CapturedLocal) → List Met → ℕ → ℕ → Judged (List CoreClass)
  core_classes w captured met c zero = gives []
  core_classes w captured met c (suc n) = do
    d ← members_of w captured met c
    rest ← core_classes w captured met (suc c) n
    gives (core_class w.program captured c d ∷ rest)

  -- ---- the core program

  abbrev pub core_program : List CoreClass → CoreProgram
  core_program guests = record { classes = all_due (number source) ++ guests; texts = texts guests }

  abbrev pub with_captures : (ℕ → List CapturedLocal) → BodiesMet → Judged CoreProgram
  with_captures captured first = do
    guests ← core_classes (whole_world captured first) captured first.met (library_count source) guest_count
    gives (core_program guests)

  unfoldable pub elaborated : Judged CoreProgram
  elaborated = do
    signatures (setting ((first_world constants_first).program))
    first ← first_bodies
    with_captures (captured_locals first_program first.met (round_met source.sites first.met)) first
