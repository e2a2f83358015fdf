-- What types see of each class: its kind, the bounds of its type parameters, and the types directly above it, as its header
-- names them (JLS 8.1.2, 8.1.4, 8.1.5, 9.1.2, 9.1.3).
use Rattle.std.specs.Prelude.{ℕ, List, [], length, Option, Some, None, slice_get}
use Rattle.std.specs.List.{sum_by}
use Rattle.je_core.specs.declared.program.Kind.{Kind}
use Rattle.je_classes.specs.Hierarchy.{object_class}
use Rattle.je_scopes.specs.SourceTypes.{SourceType, of_class, no_source_types}

-- `bounds` has Object where no bound is written; a class has its superclass first among `supers`, Object where it names none
pub record ClassHead : Type 0 where
  pub kind : Kind
  pub bounds : List SourceType
  pub supers : List SourceType

abbrev pub object_type : SourceType
object_type = of_class object_class.0 no_source_types 0

abbrev pub bounds_in : Option ClassHead → List SourceType
bounds_in None = []
bounds_in (Some head) = head.bounds

abbrev pub supers_in : Option ClassHead → List SourceType
supers_in None = []
supers_in (Some head) = head.supers

abbrev pub head_at : List ClassHead → ℕ → Option ClassHead
head_at heads c = slice_get heads c

-- the types directly above a class, as its header has them
abbrev pub supers_of : List ClassHead → ℕ → List SourceType
supers_of heads c = supers_in (head_at heads c)

abbrev pub or_object : Option SourceType → SourceType
or_object None = object_type
or_object (Some t) = t

-- the bound of a type variable, by its class and place
abbrev pub bound_of : List ClassHead → ℕ → ℕ → SourceType
bound_of heads c at = or_object (slice_get (bounds_in (head_at heads c)) at)

abbrev pub bound_count : ClassHead → ℕ
bound_count head = length head.bounds

-- how many type variables there are
abbrev pub variable_count : List ClassHead → ℕ
variable_count heads = sum_by bound_count heads
