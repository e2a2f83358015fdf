use Rattle.std.proofs.Common.{◌≡◌, ℕ, Option, drop}
use Rattle.je_base.specs.declared.span.NameId.{NameId}
use Rattle.name_sites.specs.ByName.{kept, or_else}
use Rattle.name_sites.specs.First.{first_keyed}
use Rattle.name_sites.proofs.indexes.declared_by_name.Given as goal

abbrev pub invariant-loop-at : goal.invariant-loop-at
invariant-loop-at l = (p : Option ℕ) (x : NameId) → or_else (kept l.declared p x) (first_keyed l.at (drop l.at l.classes) p x) ≡ first_keyed 0 l.classes p x
