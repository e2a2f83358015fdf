-- When a core program has the classes of headers: above each class stand those that its header names, and the erasure of
-- a type variable is that of its bound (JLS 4.6). Types of a source have no more than 255 dimensions (JVMS 4.3.2).
use Rattle.std.specs.Prelude.{◌≡◌, ℕ, ◌≤◌, true, List}
use Rattle.std.specs.List.{Contains}
use Rattle.je_core.specs.Core.{CoreProgram}
use Rattle.je_classes.specs.Hierarchy.{supers_of as core_supers_of}
use Rattle.je_classes.specs.Subtypes.{is_subtype as is_core_subtype}
use Rattle.je_scopes.specs.SourceTypes.{SourceType, SourceTypes, of_class, of_variable}
use Rattle.source_types.specs.Erasure.{class_numbered, erased}
use Rattle.source_types.specs.Heads.{ClassHead, bound_of, supers_of}
use Rattle.source_types.specs.Subtypes.{dims_of, is_subtype}
use Rattle.typing_laws.specs.Fitting.{BoundsFit}

-- a type is a class that stands directly above another one
pub record StandsAbove (program : CoreProgram) (c : ℕ) (t : SourceType) : Type 0 where
  pub class : ℕ
  pub arguments : SourceTypes
  pub is : t ≡ of_class class arguments 0
  pub above : Contains (core_supers_of program (class_numbered c)) (class_numbered class)

pub record HasHeads (program : CoreProgram) (heads : List ClassHead) : Type 0 where
  pub supers : (c : ℕ) (t : SourceType) → Contains (supers_of heads c) t → StandsAbove program c t
  pub bounds : BoundsFit heads
  pub variables : (c at : ℕ) → erased heads (of_variable c at 0) ≡ erased heads (bound_of heads c at)

-- subtypes are erased to subtypes (JLS 4.10)
abbrev pub SubtypesAreErased : Type 0
SubtypesAreErased = (program : CoreProgram) (heads : List ClassHead) → HasHeads program heads → (s t : SourceType) →
    dims_of s ≤ 255 → dims_of t ≤ 255 → is_subtype heads s t ≡ true →
    is_core_subtype program (erased heads s) (erased heads t) ≡ true
