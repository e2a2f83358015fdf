-- What exits in memory are seen as.
use Rattle.variable_sets.specs.declared.exits.Exits.{Exits as HeldExits}
use Rattle.variable_sets.specs.ExitSets.{Exits}
use Rattle.variable_sets.specs.way.Lists.{exits_of}

unfoldable pub exits_view : HeldExits → Exits
exits_view x = exits_of x.list.items
