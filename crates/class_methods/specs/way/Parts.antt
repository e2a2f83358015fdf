-- A type by its class and type arguments, and methods that are listed by class.
use Rattle.std.specs.Prelude.{ℕ, Bool, true, not, nat_eq, List, [], map, filter, Option, Some, None, slice_get}
use Rattle.je_scopes.specs.SourceTypes.{SourceType, SourceTypes, of_class}
use Rattle.overriding.specs.Methods.{Method, is_inheritable, put_in}

pub record Parts : Type 0 where
  pub class : ℕ
  pub arguments : SourceTypes

abbrev pub parts_of : SourceType → Option Parts
parts_of (of_class c args n) = Some (record { class = c; arguments = args })
parts_of _ = None

abbrev pub put_arguments : Parts → Method → Method
put_arguments p m = put_in (of_class p.class p.arguments 0) m

abbrev pub seen_by : Parts → List Method → List Method
seen_by p ms = map (put_arguments p) (filter is_inheritable ms)

abbrev pub seen_if : (ℕ → List Method) → Option Parts → List Method
seen_if f None = []
seen_if f (Some p) = seen_by p (f p.class)

-- whether a type is of another class
abbrev pub is_other_if : ℕ → Option Parts → Bool
is_other_if c None = true
is_other_if c (Some p) = not (nat_eq c p.class)

-- what a list by class has of one
abbrev pub or_none : Option (List Method) → List Method
or_none None = []
or_none (Some ms) = ms

abbrev pub in_table : List (List Method) → ℕ → List Method
in_table table c = or_none (slice_get table c)
