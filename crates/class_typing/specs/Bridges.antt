-- Methods that are reached through others (JLS 8.4.8, 15.12.4.5): where a class has for a method one that overrides or
-- implements it, and whose parameter types are erased to others, a call of the first runs the second.
use Rattle.std.specs.Prelude.{ℕ, Bool, not, ◌&&◌, ◌||◌, List, [], ◌∷◌, map, filter, flat_map, Option, Some, None, nat_lt, nat_eq, if◌then◌else◌}
use Rattle.std.specs.List.{find, list_any}
use Rattle.je_core.specs.declared.program.Bridge.{Bridge}
use Rattle.je_core.specs.declared.types.Ty.{Ty}
use Rattle.je_classes.specs.Subtypes.{same_types}
use Rattle.source_types.specs.Erasure.{class_numbered, erased}
use Rattle.source_types.specs.Heads.{ClassHead}
use Rattle.declarations.specs.Declarations.{DeclaredClass}
use Rattle.overriding.specs.Methods.{Method, have_one_name, methods_above}
use Rattle.overriding.specs.Overrides.{has_methods, is_override}

-- where a method is declared: the class, and the place there
abbrev pub place_of : Method → ℕ × ℕ
place_of m = (m.holder, m.place)

abbrev pub is_same_place : ℕ × ℕ → ℕ × ℕ → Bool
is_same_place p q = nat_eq p.0 q.0 && nat_eq p.1 q.1

-- in order of the classes, and of the places there
abbrev pub stands_before : ℕ × ℕ → ℕ × ℕ → Bool
stands_before p q = nat_lt p.0 q.0 || (nat_eq p.0 q.0 && nat_lt p.1 q.1)

abbrev pub inserted : ℕ × ℕ → List (ℕ × ℕ) → List (ℕ × ℕ)
inserted p [] = p ∷ []
inserted p (q ∷ qs) = if stands_before p q then p ∷ q ∷ qs else q ∷ inserted p qs

-- each once
abbrev pub sorted : List (ℕ × ℕ) → List (ℕ × ℕ)
sorted [] = []
sorted (p ∷ ps) = if list_any (is_same_place p) ps then sorted ps else inserted p (sorted ps)

module _ (heads : List ClassHead) (classes : List DeclaredClass) (c : ℕ) where
  abbrev pub erased_parameters : Method → List Ty
  erased_parameters m = map (erased heads) m.declared.parameters

  -- it has a body for an object, and the other one's name, but is erased to other parameter types
  abbrev pub has_body_beside : Method → Method → Bool
  has_body_beside n m =
      not (m.is_abstract || m.declared.flags.is_static)
      && have_one_name m n
      && not (same_types (erased_parameters m) (erased_parameters n))

  -- It overrides the other one by the class that declares it (JLS 8.4.8.1), or implements it, which is abstract (JLS
  -- 8.4.8.4).
  abbrev pub runs_for : Method → Method → Bool
  runs_for n m = has_body_beside n m && is_override heads classes m n

  abbrev pub is_instance_method : Method → Bool
  is_instance_method n = not n.declared.flags.is_static

  -- those that classes above it declare, as it sees them
  abbrev pub instance_methods : List Method
  instance_methods = filter is_instance_method (methods_above heads classes c)

  abbrev pub runs_for_place : ℕ × ℕ → Method → Bool
  runs_for_place at m = list_any (λ n. is_same_place at (place_of n) && runs_for n m) instance_methods

  abbrev pub bridge_to : ℕ × ℕ → Option Method → List Bridge
  bridge_to at None = []
  bridge_to at (Some m) =
      record { method = (class_numbered at.0, at.1); by = (class_numbered m.holder, m.place) } ∷ []

  abbrev pub bridge_from : ℕ × ℕ → List Bridge
  bridge_from at = bridge_to at (find (runs_for_place at) (has_methods heads classes c))

  unfoldable pub bridges : List Bridge
  bridges = flat_map bridge_from (sorted (map place_of instance_methods))
