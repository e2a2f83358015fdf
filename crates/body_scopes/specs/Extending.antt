-- A scope that has all of an earlier one, and more in front.
use Rattle.std.specs.Prelude.{◌≡◌, List, ◌++◌}
use Rattle.body_typing.specs.FinalVariables.{Scope}
use Rattle.body_typing.specs.Bodies.{in_frame}

abbrev pub IsEndOf : {A : Type 0} → List A → List A → Type 0
IsEndOf {A = A} xs ys = (front : List A) × (ys ≡ front ++ xs)

-- the locals and local classes of another scope, and its final locals that have their value
abbrev pub with_lists_of : Scope → Scope → Scope
with_lists_of other s = record (in_frame (record (s.place.here) {
  locals = other.place.here.locals;
  local_classes = other.place.here.local_classes;
}) s) { given = other.given }

pub record Extends (before after : Scope) : Type 0 where
  pub locals : IsEndOf before.place.here.locals after.place.here.locals
  pub local_classes : IsEndOf before.place.here.local_classes after.place.here.local_classes
  pub given : IsEndOf before.given after.given
  pub kept : with_lists_of before after ≡ before
