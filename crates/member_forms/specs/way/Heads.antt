-- Calls of another constructor of the class at a head, by their word.
use Rattle.std.specs.Prelude.{ℕ, List, map}
use Rattle.je_base.specs.declared.span.Span.{Span}
use Rattle.je_core.specs.Core.{form_of}
use Rattle.je_typing.specs.Typed.{TypedNode}
use Rattle.class_typing.specs.Constructors.{OwnCall, place_called}

abbrev pub own_calls_at : ℕ → Span → List TypedNode → List OwnCall
own_calls_at at word calls =
    map (λ (t : TypedNode). record { place = at; word = word; to = place_called (form_of t.node) }) calls
