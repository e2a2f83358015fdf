use Rattle.std.proofs.Common.{◌≡◌, ◌-◌}
use Rattle.je_scopes.specs.SourceTypes.{of_variable}
use Rattle.je_typing.specs.Castable.{bounded_within}
use Rattle.source_types.specs.Heads.{variable_count}
use Rattle.source_subtypes.specs.View.{heads_of}
use Rattle.reference_tests.proofs.bounds.bounded_variable.Given as goal

abbrev pub invariant-loop : goal.invariant-loop
invariant-loop l =
    bounded_within (heads_of l.heads) (variable_count (heads_of l.heads) - l.counter) (of_variable l.next.0.0 l.next.1 l.outer) ≡
    bounded_within (heads_of l.heads) (variable_count (heads_of l.heads)) (of_variable l.fn.class.0 l.fn.at l.fn.dims)
