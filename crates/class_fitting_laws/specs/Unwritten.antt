-- What is known of members that no source writes: those of an enum (JLS 8.9), and the constructor of a class with a
-- body behind `new` (JLS 15.9.5.1).
use Rattle.std.specs.Prelude.{◌≡◌, ℕ, ◌+◌, ◌<◌, true, false, List, [], ◌∷◌, length, Option, Some}
use Rattle.std.specs.List.{find}
use Rattle.je_base.specs.declared.span.Span.{Span}
use Rattle.je_core.specs.declared.types.ClassId.{ClassId}
use Rattle.je_core.specs.declared.types.Ty.{Ty}
use Rattle.je_core.specs.Core.{CoreClass, CoreField, CoreMethod, CoreProgram}
use Rattle.je_ast.specs.Trees.{Expressions}
use Rattle.je_ast.specs.Types.{TypeName}
use Rattle.je_classes.specs.Hierarchy.{class_at}
use Rattle.je_classes.specs.Subtypes.{class_type}
use Rattle.je_fitting.specs.Expressions.{can_be_made, field_at, handed_over, is_constructor, method_at}
use Rattle.je_fitting.specs.Members.{AreVariables}
use Rattle.je_fitting.specs.Types.{int, string}
use Rattle.je_scopes.specs.Headers.{constants_in, site_at}
use Rattle.je_scopes.specs.Sites.{Written, behind_new, declared, in_library}
use Rattle.source_types.specs.Erasure.{class_numbered}
use Rattle.declarations.specs.Declarations.{is_enum_sort}
use Rattle.je_typing.specs.Judged.{gives}
use Rattle.name_typing.specs.Program.{Program}
use Rattle.call_typing.specs.Overloads.{Candidate}
use Rattle.body_typing.specs.Bodies.{Met, stands_behind_new}
use Rattle.body_typing.specs.Expressions.{Known}
use Rattle.body_typing.specs.FinalVariables.{Scope}
use Rattle.class_typing.specs.Constructors.{chosen_for, declared_parameters}
use Rattle.class_typing.specs.Enums.{first_constant, name_place, ordinal_place}
use Rattle.class_typing.specs.Places.{stands_at}

-- ---- enums

-- a hidden field, of a type
pub record HiddenStands (program : CoreProgram) (c at : ℕ) (t : Ty) : Type 0 where
  pub field : CoreField
  pub there : field_at program (class_numbered c) at ≡ Some field
  pub type : field.ty ≡ t
  pub own : field.is_static ≡ false

-- the field of a constant
pub record ConstantStands (program : CoreProgram) (c at : ℕ) : Type 0 where
  pub field : CoreField
  pub there : field_at program (class_numbered c) (first_constant + at) ≡ Some field
  pub type : field.ty ≡ class_type (class_numbered c)
  pub is_static : field.is_static ≡ true

-- An enum with so many constants: objects of it can be made, by its first method, and get nothing from round it.
pub record EnumStands (program : CoreProgram) (c count : ℕ) : Type 0 where
  pub name : HiddenStands program c name_place string
  pub ordinal : HiddenStands program c ordinal_place int
  pub constants : (at : ℕ) → at < count → ConstantStands program c at
  pub class : CoreClass
  pub class_there : class_at program (class_numbered c) ≡ Some class
  pub made : can_be_made class ≡ true
  pub method : CoreMethod
  pub method_there : method_at program (class_numbered c) 0 ≡ Some method
  pub builds : is_constructor program method ≡ true
  pub params : method.params ≡ string ∷ int ∷ []
  pub nothing_handed : handed_over program (class_numbered c) ≡ []

-- ---- classes behind `new`

-- the constructor of the class directly above to which arguments are handed on
pub record IsHandedTo (p : Program) (program : CoreProgram) (superclass : Option ClassId) (m : Candidate)
    : Type 0 where
  pub above : superclass ≡ Some (class_numbered m.class)
  pub method : CoreMethod
  pub there : method_at program (class_numbered m.class) m.place ≡ Some method
  pub builds : is_constructor program method ≡ true
  pub params : method.params ≡ declared_parameters p m
  pub variables : AreVariables program (declared_parameters p m)

-- ---- of a class, where `met` is what was met in the bodies round it
abbrev pub UnwrittenStands : Program → Known → CoreProgram → ℕ → Option ClassId → List Met → Written → Type 0
UnwrittenStands p k program c superclass met in_library = Unit {0}
UnwrittenStands p k program c superclass met (declared d) =
    is_enum_sort (site_at p.source.sites c).sort ≡ true →
    EnumStands program c (length (constants_in (site_at p.source.sites c).written))
UnwrittenStands p k program c superclass met (behind_new own of written) =
    (d : ℕ) (s : Scope) (word : Span) (t : TypeName) (es : Expressions) (m : Candidate) →
    find (stands_at c) met ≡ Some (stands_behind_new d s word t es) → chosen_for p k s word t es ≡ gives m →
    IsHandedTo p program superclass m
