-- Erasure: a type without its arguments, in which a type variable is its bound (JLS 4.6).
use Rattle.std.specs.Prelude.{ℕ, zero, suc, ◌+◌, min, List}
use Rattle.je_core.specs.declared.types.Base.{Base}
use Rattle.je_core.specs.declared.types.Base.TheVariants as base
use Rattle.je_core.specs.declared.types.ClassId.{ClassId}
use Rattle.je_core.specs.declared.types.Ty.{Ty}
use Rattle.je_classes.specs.Hierarchy.{object_class}
use Rattle.je_scopes.specs.SourceTypes.{SourceType, plain, of_class, of_variable}
use Rattle.source_types.specs.Heads.{ClassHead, bound_of, variable_count}

abbrev pub type : Base → ℕ → Ty
type b n = record { base = b; dims = n }

abbrev pub class_numbered : ℕ → ClassId
class_numbered c = record { 0 = c }

-- of no more than 255 dimensions
abbrev pub erased_array : Ty → ℕ → Ty
erased_array t n = type t.base (min 255 (t.dims + n))

-- where bounds lead on from variable to variable in so many steps at most
abbrev pub erased_within : List ClassHead → ℕ → SourceType → Ty
erased_within heads steps (plain b n) = type b n
erased_within heads steps (of_class c ts n) = type (base.Class (class_numbered c)) n
erased_within heads zero (of_variable c at n) = type (base.Class object_class) n
erased_within heads (suc steps) (of_variable c at n) = erased_array (erased_within heads steps (bound_of heads c at)) n

-- No variable leads back to itself, so none is come by twice.
unfoldable pub erased : List ClassHead → SourceType → Ty
erased heads t = erased_within heads (variable_count heads) t
