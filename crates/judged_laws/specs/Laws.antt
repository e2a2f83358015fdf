-- What is known of an elaborated program by its headers and signatures, which have no fault.
use Rattle.std.specs.Prelude.{◌≡◌, ℕ, ◌<◌, ◌≤◌, true, Some, length, slice_get}
use Rattle.je_core.specs.Core.{CoreClass, CoreField, CoreMethod, CoreProgram}
use Rattle.je_classes.specs.Hierarchy.{class_at}
use Rattle.je_classes.specs.Members.{In}
use Rattle.je_fitting.specs.Expressions.{is_interface_sort}
use Rattle.je_scopes.specs.Source.{Source}
use Rattle.signature_typing.specs.Signatures.{Setting}
use Rattle.class_typing.specs.Elaboration.{constants_first, first_world, setting}
use Rattle.class_typing.specs.Programs.{library_count}
use Rattle.source_types.specs.Erasure.{class_numbered}
use Rattle.source_types.specs.Laws.{IsAcyclic}
use Rattle.override_laws.specs.Fitting.{AreGood}
use Rattle.elaborated_laws.specs.Elaborated.{IsElaborated, program_of}
use Rattle.elaborated_laws.specs.Premises.{HasSites, HasWords, HeadsAreClasses}
use Rattle.fitting_laws.specs.Sound.{HeadsAreSound}
use Rattle.elaborated_laws.specs.Sound.{AreConcrete, VariablesAreSound}
use Rattle.judged_laws.specs.Judged.{IsJudged}
use Rattle.judged_laws.specs.Names.{NamesAreGood}
use Rattle.judged_laws.specs.Written.{HeadersAreWritten, InterfacesAreStatic, NoneIsBelowVariables}
use Rattle.judged_laws.specs.Parts.{HeaderStands, IsImplemented, SignatureStands}

-- by what headers and signatures are judged
abbrev pub signed : Source → Setting
signed source = setting source ((first_world source (constants_first source)).program)

module _ (source : Source) (program : CoreProgram) (e : IsElaborated source program) where
  -- each class of the source is judged without fault
  abbrev pub ClassesAreJudged : Type 0
  ClassesAreJudged = HasSites source → (c : ℕ) → library_count source ≤ c → c < length source.sites →
      IsJudged (signed source) c

  -- no fault of overriding stands at its methods (JLS 8.4.2, 8.4.8)
  abbrev pub MethodsAreGood : Type 0
  MethodsAreGood = HasSites source → HasWords source → (c : ℕ) → library_count source ≤ c →
      AreGood (program_of source e.first) c

  -- no class or type variable is above itself (JLS 8.1.2, 8.1.4, 9.1.3)
  abbrev pub HeadsAreAcyclic : Type 0
  HeadsAreAcyclic = HasSites source → NamesAreGood source → HeadersAreWritten source → HeadsAreClasses source →
      IsAcyclic (program_of source e.first).heads

  -- methods and constructors of a class stand as their signatures say (JLS 8.4, 8.8, 9.4)
  abbrev pub SignaturesStand : Type 0
  SignaturesStand = HasSites source → HasWords source → VariablesAreSound (program_of source e.first) →
      HeadsAreSound program (program_of source e.first).heads → (c : ℕ) (class : CoreClass) → library_count source ≤ c →
      class_at program (class_numbered c) ≡ Some class → (m : CoreMethod) → In class.methods m →
      SignatureStands program class m

  -- static and private methods have bodies (JLS 8.4.3)
  abbrev pub MethodsAreConcrete : Type 0
  MethodsAreConcrete = HasSites source → AreConcrete (program_of source e.first)

  -- what stands above a class of the source may stand there (JLS 8.1.4, 8.1.5, 9.1.3)
  abbrev pub HeadersStand : Type 0
  HeadersStand = HasSites source → HeadsAreClasses source → (c : ℕ) (class : CoreClass) → library_count source ≤ c →
      class_at program (class_numbered c) ≡ Some class → HeaderStands program (class_numbered c) class

  -- what a header names as above its class is a class (JLS 8.1.4, 8.1.5, 9.1.3)
  abbrev pub HeadsNameClasses : Type 0
  HeadsNameClasses = HasSites source → NamesAreGood source → HeadersAreWritten source → NoneIsBelowVariables source →
      HeadsAreClasses source

  -- the bound of a type variable is a class or a type variable, and has its erasure (JLS 4.4, 4.6)
  abbrev pub VariablesStand : Type 0
  VariablesStand = HasSites source → NamesAreGood source → HeadersAreWritten source → HeadsAreClasses source →
      VariablesAreSound (program_of source e.first)

  -- no fault stands at what a class of the source inherits (JLS 8.1.1.1, 8.4.8)
  abbrev pub ClassesInheritWell : Type 0
  ClassesInheritWell = HasSites source → (c : ℕ) → library_count source ≤ c → c < length source.sites →
      IsImplemented (program_of source e.first).heads (program_of source e.first).classes c

  -- fields of interfaces are static (JLS 9.3)
  abbrev pub FieldsAreStatic : Type 0
  FieldsAreStatic = HasSites source → InterfacesAreStatic source → (c : ℕ) (class : CoreClass) →
      library_count source ≤ c → class_at program (class_numbered c) ≡ Some class →
      is_interface_sort class.kind.sort ≡ true → (at : ℕ) (f : CoreField) → slice_get class.fields at ≡ Some f →
      f.is_static ≡ true
