-- Which names were met.
use Rattle.std.specs.Prelude.{Bool, nat_eq}
use Rattle.std.specs.HashSet.{contains}
use Rattle.je_base.specs.declared.span.NameId.{NameId}
use Rattle.name_faults.specs.declared.met.Met.{Met}

unfoldable pub is_met : Met → NameId → Bool
is_met m x = contains nat_eq m.numbers x.0
