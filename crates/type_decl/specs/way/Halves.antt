-- The two halves of elaboration: headers, signatures and the first walk; and the second walk behind them.
use Rattle.std.specs.Prelude.{◌≡◌, ℕ, List}
use Rattle.std.specs.declared.vec.Vec.{Vec}
use Rattle.std.specs.declared.alloc.Global.{Global}
use Rattle.body_places.specs.declared.tables.Captured.{Captured}
use Rattle.body_places.specs.Tables.{captured_in}
use Rattle.body_scopes.specs.View.{blank_seen}
use Rattle.class_typing.specs.Captures.{captured_locals}
use Rattle.class_typing.specs.ConstantFields.{field_value, is_blank}
use Rattle.class_typing.specs.Elaboration.{BodiesMet, constants_first, core_classes, first_bodies, first_program}
use Rattle.class_typing.specs.Elaboration.{first_world, guest_count, hidden_count, setting, whole_world}
use Rattle.class_typing.specs.Places.{round_met}
use Rattle.class_typing.specs.Programs.{CapturedLocal, captured_place, classes, library_count, with_hidden}
use Rattle.declarations.specs.Declarations.{DeclaredClass}
use Rattle.field_values.specs.Values.{count_at, value_at}
use Rattle.je_core.specs.Core.{CoreClass}
use Rattle.je_scopes.specs.Source.{Source}
use Rattle.je_typing.specs.Judged.{Judged, ◌>>=◌, ◌>>◌}
use Rattle.name_typing.specs.Program.{Program}
use Rattle.signature_typing.specs.Signatures.{signatures}
use Rattle.body_typing.specs.Bodies.{Met}
use Rattle.type_decl.specs.declared.ground.Fields.{Fields}

-- what all classes declare, and that with hidden fields
abbrev pub AreClasses : Source → List DeclaredClass → Type 0
AreClasses source ds = ds ≡ classes source

abbrev pub AreWithHidden : Source → (ℕ → List CapturedLocal) → List DeclaredClass → Type 0
AreWithHidden source captured ds = ds ≡ with_hidden source captured 0 (classes source)

-- the places of the fields that keep captured locals
abbrev pub ArePlaces : Source → (ℕ → List CapturedLocal) → List (Vec Captured Global) → Type 0
ArePlaces source captured places =
    captured_in places (with_hidden source captured 0 (classes source)) ≡ captured_place source captured

-- the fields of classes that capture these locals
pub record AreFieldsOf (source : Source) (captured : ℕ → List CapturedLocal) (fields : Fields) : Type 0 where
  pub hidden_are : count_at fields.hidden.items ≡ hidden_count source captured
  pub values_are : (p : Program) → p.source ≡ source → value_at fields.values.items
      ≡ field_value p (hidden_count source captured)
  pub blank_are : (p : Program) → p.source ≡ source → blank_seen fields.blank.items
      ≡ is_blank p (hidden_count source captured)

-- ---- the halves

abbrev pub judged_first : Source → Judged (Unit {0})
judged_first source = signatures (setting source (first_world source (constants_first source)).program)

abbrev pub begun : Source → Judged BodiesMet
begun source = judged_first source >> first_bodies source

-- what each class captures, behind what was met
abbrev pub captured_behind : Source → List Met → ℕ → List CapturedLocal
captured_behind source met = captured_locals (first_program source) met (round_met source.sites met)

abbrev pub code_with : Source → (ℕ → List CapturedLocal) → BodiesMet → Judged (List CoreClass)
code_with source captured first =
    core_classes source (whole_world source captured first) captured first.met (library_count source) (guest_count source)

abbrev pub code_behind : Source → BodiesMet → Judged (List CoreClass)
code_behind source first = code_with source (captured_behind source first.met) first

abbrev pub code : Source → Judged (List CoreClass)
code source = begun source >>= code_behind source
