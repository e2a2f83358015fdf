-- What declarations and names give of the types of a source, where headers and signatures have no fault: classes that
-- are there, arguments below the bounds of their variables, no more than 255 dimensions, and constants of their types.
use Rattle.std.specs.Prelude.{◌≡◌, ℕ, ◌||◌, true, false, Some, slice_get}
use Rattle.je_core.specs.Core.{CoreProgram}
use Rattle.je_classes.specs.Members.{In, Member}
use Rattle.je_scopes.specs.SourceTypes.{SourceType, of_variable}
use Rattle.source_types.specs.Erasure.{erased}
use Rattle.source_types.specs.Heads.{bound_of}
use Rattle.declarations.specs.Declarations.{DeclaredField, DeclaredMethod}
use Rattle.overriding.specs.Methods.{Method, has_within, is_private, methods_in}
use Rattle.name_typing.specs.Fields.{field_at}
use Rattle.name_typing.specs.Program.{Constant, Program}
use Rattle.typing_laws.specs.Fitting.{BoundsFit}
use Rattle.fitting_laws.specs.Methods.{MethodIsSound}
use Rattle.fitting_laws.specs.Represented.{IsConstantOf}
use Rattle.fitting_laws.specs.Sound.{HeadsAreSound, IsSound}

-- a type variable has a class or another variable as its bound, and none leads back to itself (JLS 4.4, 4.6, 8.1.2)
pub record VariablesAreSound (p : Program) : Type 0 where
  pub bounds : BoundsFit p.heads
  pub erased_alike : (c at : ℕ) → erased p.heads (of_variable c at 0) ≡ erased p.heads (bound_of p.heads c at)

pub record TypesAreSound (p : Program) (program : CoreProgram) : Type 0 where
  pub heads : HeadsAreSound program p.heads
  pub fields : (m : Member) (f : DeclaredField) → field_at p.classes m ≡ Some f → IsSound program p.heads 254 f.ty
  -- JLS 15.28
  pub constants : (m : Member) (f : DeclaredField) (k : Constant) → field_at p.classes m ≡ Some f →
      p.constants m ≡ Some k → IsConstantOf f.ty k

-- methods have sound types
pub record MethodsAreSound (p : Program) (program : CoreProgram) : Type 0 where
  pub sound : (n c : ℕ) (m : Method) → In (has_within p.heads p.classes n c) m → MethodIsSound program p.heads m
  pub parameters : (c at : ℕ) (m : DeclaredMethod) → slice_get (methods_in (slice_get p.classes c)) at ≡ Some m →
      (t : SourceType) → In m.parameters t → IsSound program p.heads 254 t

-- a static method and a private one have a body (JLS 8.4.3)
abbrev pub AreConcrete : Program → Type 0
AreConcrete p = (c at : ℕ) (m : DeclaredMethod) → slice_get (methods_in (slice_get p.classes c)) at ≡ Some m →
    (m.flags.is_static || is_private m.flags.access) ≡ true → m.flags.is_abstract ≡ false
