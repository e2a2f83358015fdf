-- What is so after an expression, as contracts see it.
use Rattle.variable_sets.specs.SetView.{set_view}
use Rattle.assigned_expressions.specs.declared.expressions.After.{After as HeldAfter}
use Rattle.assigned_expressions.specs.declared.expressions.After.TheVariants as held
use Rattle.assigned_expressions.specs.Expressions.{After, plain, split}

abbrev pub after_view : HeldAfter → After
after_view (held.Plain a) = plain (set_view a)
after_view (held.Split t f) = split (set_view t) (set_view f)
