-- Types of a source as a core program knows them: their classes are there, the erasure of a type argument is below
-- that of its variable (JLS 4.5), and no array has more than 255 dimensions (JVMS 4.3.2).
use Rattle.std.specs.Prelude.{◌≡◌, ℕ, suc, ◌≤◌, ◌⊎◌, true, List, is_some}
use Rattle.std.specs.List.{Contains}
use Rattle.je_core.specs.declared.types.Base.{Base}
use Rattle.je_core.specs.declared.types.Base.TheVariants as base
use Rattle.je_core.specs.declared.types.Ty.{Ty}
use Rattle.je_core.specs.Core.{CoreProgram}
use Rattle.je_classes.specs.Hierarchy.{class_at}
use Rattle.je_classes.specs.Subtypes.{is_subtype}
use Rattle.je_fitting.specs.Types.{is_there}
use Rattle.je_scopes.specs.SourceTypes.{SourceType, SourceTypes, plain, of_class, of_variable, no_source_types}
use Rattle.je_scopes.specs.SourceTypes.{more_source_types}
use Rattle.source_types.specs.Erasure.{class_numbered, erased}
use Rattle.source_types.specs.Heads.{ClassHead, bound_of, supers_of}
use Rattle.je_typing.specs.Typed.{is_primitive_base}

-- the same type, or a subtype
abbrev pub SameOrBelow : CoreProgram → Ty → Ty → Type 0
SameOrBelow program s t = (s ≡ t) ⊎ (is_subtype program s t ≡ true)

-- Arrays of a type variable have so many dimensions at most: 255, and in declarations, where an array of anything may
-- be put in, one less.
module _ (program : CoreProgram) (heads : List ClassHead) (most : ℕ) where
  mutual
    -- the type of a variable
    pub data IsSound : SourceType → Type 0 where
      sound_primitive : {b : Base} {n : ℕ} → is_primitive_base b ≡ true → n ≤ 255 → IsSound (plain b n)
      sound_class : {c : ℕ} {args : SourceTypes} {n : ℕ} → is_some (class_at program (class_numbered c)) ≡ true →
          n ≤ 255 →
          AreSound c 0 args → IsSound (of_class c args n)
      sound_variable : {c at n : ℕ} → is_there program (erased heads (of_variable c at 0)) ≡ true → n ≤ most →
          IsSound (of_variable c at n)

    -- arguments for the variables of a class, from a place on
    pub data AreSound : ℕ → ℕ → SourceTypes → Type 0 where
      no_arguments : {c at : ℕ} → AreSound c at no_source_types
      more_arguments : {c at : ℕ} {t : SourceType} {ts : SourceTypes} → IsSound t →
          is_subtype program (erased heads t) (erased heads (of_variable c at 0)) ≡ true → AreSound c (suc at) ts →
          AreSound c at (more_source_types t ts)

-- the type of an expression: that of a variable, that of `null`, or `void`
pub data IsType (program : CoreProgram) (heads : List ClassHead) : SourceType → Type 0 where
  a_type : {t : SourceType} → IsSound program heads 255 t → IsType program heads t
  of_null : IsType program heads (plain base.Null 0)
  of_void : IsType program heads (plain base.Void 0)

-- what headers name
pub record HeadsAreSound (program : CoreProgram) (heads : List ClassHead) : Type 0 where
  pub supers : (c : ℕ) (t : SourceType) → Contains (supers_of heads c) t → IsSound program heads 254 t
  pub bounds : (c at : ℕ) → IsSound program heads 254 (bound_of heads c at)
