-- What an elaborated program is: the classes of its source (JLS 8, 9, 13.1).
use Rattle.std.specs.Prelude.{◌≡◌, ℕ, ◌<◌, ◌≤◌, true, false, List, length, Some, slice_get, codes}
use Rattle.std.specs.List.{Contains}
use Rattle.je_core.specs.declared.types.ClassId.{ClassId}
use Rattle.je_core.specs.Core.{CoreClass, CoreMethod, CoreProgram}
use Rattle.je_classes.specs.Hierarchy.{class_at}
use Rattle.je_classes.specs.Members.{Member, names_constructors}
use Rattle.je_fitting.specs.Classes.{HiddenFit}
use Rattle.je_fitting.specs.Expressions.{is_constructor, method_at}
use Rattle.je_fitting.specs.Members.{is_guest}
use Rattle.je_ast.specs.Trees.{CompilationUnit}
use Rattle.je_scopes.specs.Source.{Source, source}
use Rattle.je_scopes.specs.SourceTypes.{SourceType}
use Rattle.source_types.specs.Erasure.{class_numbered}
use Rattle.source_types.specs.Heads.{supers_of}
use Rattle.declarations.specs.Declarations.{DeclaredField, DeclaredMethod}
use Rattle.je_typing.specs.Judged.{gives}
use Rattle.name_typing.specs.Fields.{field_at}
use Rattle.overriding.specs.Methods.{methods_in}
use Rattle.typing_laws.specs.Correspondence.{StandsAbove}
use Rattle.fitting_laws.specs.Methods.{HasDefault, HasMethods, MethodStands}
use Rattle.fitting_laws.specs.Represented.{FieldStands, HeadStands, IsThere, Represents}
use Rattle.override_laws.specs.Fitting.{IsDeclared}
use Rattle.class_typing.specs.Elaboration.{elaborated}
use Rattle.class_typing.specs.Programs.{library_count, number}
use Rattle.elaborated_laws.specs.Elaborated.{IsElaborated, program_of}
use Rattle.elaborated_laws.specs.Sound.{AreConcrete, MethodsAreSound, TypesAreSound, VariablesAreSound}
use Rattle.elaborated_laws.specs.TextsOnce.{TextsStandOnce}
use Rattle.elaborated_laws.specs.Premises.{HasSites, HasWords, HeadsAreClasses, IsDeclaredClass}

abbrev pub ProgramsAreElaborated : Type 0
ProgramsAreElaborated = (source : Source) (program : CoreProgram) → elaborated source ≡ gives program →
    IsElaborated source program

-- what is asked of where classes are written, and of member classes, holds of all units
abbrev pub SourcesStand : Type 0
SourcesStand = (texts : List (List ℕ)) (units : List CompilationUnit) → HasSites (source texts units)

module _ (source : Source) (program : CoreProgram) (e : IsElaborated source program) where
  -- each class of the source is there
  abbrev pub ClassesAreThere : Type 0
  ClassesAreThere = (c : ℕ) → c < length source.sites → IsThere program c

  -- the name of constructors is the word `new`
  abbrev pub ConstructorsAreNamed : Type 0
  ConstructorsAreNamed = names_constructors program (number source (codes "new")) ≡ true

  -- a class of the core program is of the kind of its header
  abbrev pub KindsStand : Type 0
  KindsStand = (c : ℕ) (class : CoreClass) → class_at program (class_numbered c) ≡ Some class →
      HeadStands (program_of source e.first).heads c class

  -- the classes that a header names stand directly above its class (JLS 8.1.4, 8.1.5, 9.1.3)
  abbrev pub SupersStand : Type 0
  SupersStand = HeadsAreClasses source → (c : ℕ) (t : SourceType) →
      Contains (supers_of (program_of source e.first).heads c) t → StandsAbove program c t

  -- the fields of a class stand at their places, the hidden ones first (JLS 8.1.3, 8.3, 8.9)
  abbrev pub FieldsStand : Type 0
  FieldsStand = HasSites source → (m : Member) (f : DeclaredField) →
      field_at (program_of source e.first).classes m ≡ Some f →
      FieldStands program (program_of source e.first).heads m f

  -- the hidden fields of a class of the source are those with what is round it, and an enum's two (JLS 8.1.3, 8.9)
  abbrev pub HiddenFieldsFit : Type 0
  HiddenFieldsFit = (c : ℕ) (class : CoreClass) → is_guest (class_numbered c) ≡ true →
      class_at program (class_numbered c) ≡ Some class → HiddenFit class

  -- the constant strings of a class of the source are texts of the program, each once (JLS 3.10.5)
  abbrev pub TextsStand : Type 0
  TextsStand = (c : ℕ) (class : CoreClass) → library_count source ≤ c →
      class_at program (class_numbered c) ≡ Some class → TextsStandOnce program.texts class

  -- methods and constructors stand at their places, with their erased types (JLS 8.4, 8.8, 8.9)
  abbrev pub MethodsStand : Type 0
  MethodsStand = HasSites source → HasWords source → (c at : ℕ) (m : DeclaredMethod) →
      slice_get (methods_in (slice_get (program_of source e.first).classes c)) at ≡ Some m →
      MethodStands program (program_of source e.first).heads c at m

  -- and none but those that are declared there, constructors aside
  abbrev pub MethodsAreDeclared : Type 0
  MethodsAreDeclared = HasSites source → HasWords source → (c : ClassId) (at : ℕ) (m : CoreMethod) →
      method_at program c at ≡ Some m → is_constructor program m ≡ false →
      IsDeclared (program_of source e.first) c at m

  -- where names and types are sound, the program has what the classes of its source declare
  abbrev pub SourcesAreRepresented : Type 0
  SourcesAreRepresented = HasSites source → HeadsAreClasses source → VariablesAreSound (program_of source e.first) →
      TypesAreSound (program_of source e.first) program → Represents (program_of source e.first) program

  -- and it has the methods that they declare
  abbrev pub MethodsAreThere : Type 0
  MethodsAreThere = HasSites source → HasWords source →
      MethodsAreSound (program_of source e.first) program → AreConcrete (program_of source e.first) →
      HasMethods (program_of source e.first) program

  -- a class without constructors has the default one where it is asked for (JLS 8.8.9)
  abbrev pub DefaultsStand : Type 0
  DefaultsStand = HasSites source → HasWords source → (c : ℕ) → IsDeclaredClass source c →
      HasDefault (program_of source e.first) program c
