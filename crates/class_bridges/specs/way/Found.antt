-- What runs for the methods above a class: by the places where they are declared.
use Rattle.std.specs.Prelude.{ℕ, Bool, ◌&&◌, List, [], Option, Some, None, option_map, if◌then◌else◌}
use Rattle.std.specs.List.{find, list_any}
use Rattle.std.specs.declared.cmp.Ordering.{Ordering}
use Rattle.std.specs.Ordering.{nat_cmp, ordering_then}
use Rattle.je_core.specs.declared.program.Bridge.{Bridge}
use Rattle.source_types.specs.Erasure.{class_numbered}
use Rattle.source_types.specs.Heads.{ClassHead}
use Rattle.declarations.specs.Declarations.{DeclaredClass}
use Rattle.overriding.specs.Methods.{Method}
use Rattle.class_typing.specs.Bridges.{has_body_beside, is_instance_method, is_same_place, place_of, runs_for}

abbrev pub place_order : ℕ × ℕ → ℕ × ℕ → Ordering
place_order p q = ordering_then (nat_cmp p.0 q.0) (nat_cmp p.1 q.1)

-- a method and what runs for it, by their places
abbrev pub bridge_of : (ℕ × ℕ) × (ℕ × ℕ) → Bridge
bridge_of e = record { method = (class_numbered e.0.0, e.0.1); by = (class_numbered e.1.0, e.1.1) }

-- what there is, else this one where it runs
abbrev pub else_by : Option (ℕ × ℕ) → Bool → Method → Option (ℕ × ℕ)
else_by (Some by) runs m = Some by
else_by None runs m = if runs then Some (place_of m) else None

-- it is an instance method, and this one has a body beside it; which classes there are doesn't matter
abbrev pub has_body_beside_instance : List ClassHead → Method → Method → Bool
has_body_beside_instance heads n m = is_instance_method heads [] 0 n && has_body_beside heads [] 0 n m

module _ (heads : List ClassHead) (classes : List DeclaredClass) where
  -- it is an instance method, and this one runs for it, in whichever class
  abbrev pub is_run_for : Method → Method → Bool
  is_run_for n m = is_instance_method heads classes 0 n && runs_for heads classes 0 n m

  -- one of these is declared at a place, and this one runs for it
  abbrev pub runs_at : List Method → ℕ × ℕ → Method → Bool
  runs_at above at m = list_any (λ n. is_same_place at (place_of n) && is_run_for n m) above

  -- the place of the first that runs
  abbrev pub by_at : List Method → List Method → ℕ × ℕ → Option (ℕ × ℕ)
  by_at above methods at = option_map place_of (find (runs_at above at) methods)
