-- What elaborated programs are shown to have of what fits (JLS 8, 9): part by part, and as a whole.
use Rattle.std.specs.Prelude.{◌≡◌, ℕ, ◌≤◌, Some, slice_get}
use Rattle.std.specs.List.{All}
use Rattle.je_core.specs.Core.{CoreClass, CoreField, CoreMethod, CoreProgram}
use Rattle.je_classes.specs.Hierarchy.{class_at}
use Rattle.je_fitting.specs.Classes.{BridgeFits, ClassFits}
use Rattle.je_fitting.specs.Members.{FieldFits, InitializerFits, MethodFits}
use Rattle.je_fitting.specs.Program.{FitsProgram}
use Rattle.je_scopes.specs.Source.{Source}
use Rattle.source_types.specs.Erasure.{class_numbered}
use Rattle.class_typing.specs.Programs.{library_count}
use Rattle.elaborated_laws.specs.Elaborated.{IsElaborated}
use Rattle.program_laws.specs.Parts.{ClassCodeFits}
use Rattle.program_laws.specs.Premises.{BodiesStand, ClassesStand, ImplementationsAgree, PartsStand}
use Rattle.program_laws.specs.Premises.{SourceIsSound, declared, named_first}

module _ (source : Source) (program : CoreProgram) (e : IsElaborated source program) where
  -- of each class of the source
  abbrev pub OfGuests : (ℕ → CoreClass → Type 0) → Type 0
  OfGuests P = (c : ℕ) (class : CoreClass) → library_count source ≤ c →
      class_at program (class_numbered c) ≡ Some class → P c class

  -- the code of a class fits, with its own constant strings among the texts of the program
  abbrev pub CodeFits : Type 0
  CodeFits = SourceIsSound source program e → OfGuests (λ c class. BodiesStand source program e c →
      ClassCodeFits program (class_numbered c) class (named_first (declared source program e) c))

  -- JLS 8.3
  abbrev pub FieldsFit : Type 0
  FieldsFit = SourceIsSound source program e → OfGuests (λ c class. PartsStand program (class_numbered c) class →
      (at : ℕ) (f : CoreField) → slice_get class.fields at ≡ Some f → FieldFits program (class_numbered c) f)

  -- JLS 8.3.2, 8.6, 8.7
  abbrev pub InitializersFit : Type 0
  InitializersFit = SourceIsSound source program e → OfGuests (λ c class. BodiesStand source program e c →
      All (InitializerFits program (class_numbered c)) class.initializers)

  -- JLS 8.4, 8.8
  abbrev pub MethodsFit : Type 0
  MethodsFit = SourceIsSound source program e → OfGuests (λ c class. BodiesStand source program e c →
      (at : ℕ) (m : CoreMethod) → slice_get class.methods at ≡ Some m →
      MethodFits program (class_numbered c) class m)

  -- JLS 8.4.8, 15.12.4.5
  abbrev pub BridgesFit : Type 0
  BridgesFit = SourceIsSound source program e → OfGuests (λ c class. ImplementationsAgree source program e c →
      All (BridgeFits program (class_numbered c)) class.bridges)

  -- JLS 8.1, 9.1
  abbrev pub ClassesFit : Type 0
  ClassesFit = SourceIsSound source program e →
      OfGuests (λ c class. BodiesStand source program e c → PartsStand program (class_numbered c) class →
      ImplementationsAgree source program e c → ClassFits program (class_numbered c) class)

  -- the whole program
  abbrev pub ProgramFits : Type 0
  ProgramFits = SourceIsSound source program e → ClassesStand source program e → FitsProgram program
