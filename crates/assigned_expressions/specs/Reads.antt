-- The faults of reads: a variable that is read where it isn't assigned (JLS 16), by an expression or in a class that stands there. `b`
-- is the set before.
use Rattle.std.specs.Prelude.{ℕ, not, List, [], ◌∷◌, Option, Some, None, if◌then◌else◌}
use Rattle.je_base.specs.declared.span.Span.{Span}
use Rattle.captured_reads.specs.declared.reads.CapturedRead.{CapturedRead}
use Rattle.captured_reads.specs.Standing.{Standing}
use Rattle.flow_base.specs.declared.faults.FaultKind.TheVariants as kind
use Rattle.flow_base.specs.FaultSets.{Faults, none, ◌∪◌, fault_where}
use Rattle.variable_sets.specs.Numbers.{local_number}
use Rattle.variable_sets.specs.Sets.{Set}
use Rattle.assignment_rules.specs.declared.rules.Rule.{Rule}
use Rattle.assignment_rules.specs.declared.rules.Rule.TheVariants.{Assigned, Unassigned}
use Rattle.assignment_rules.specs.declared.sites.Site.{Site}
use Rattle.assignment_rules.specs.Sites.{stands_at}

-- 16: what is read is assigned before.
abbrev pub read_faults : Rule → Span → Set → Option ℕ → Faults
read_faults rule at b None = none
read_faults Assigned at b (Some v) = fault_where (not (b.has v)) kind.NotAssigned at
read_faults Unassigned at b (Some v) = none

-- 8.1.3: what a class reads of the locals round it is assigned where the class stands.
abbrev pub captured_faults : Rule → Set → List CapturedRead → Faults
captured_faults rule b [] = none
captured_faults rule b (r ∷ rs) = read_faults rule r.span b (Some (local_number r.local)) ∪ captured_faults rule b rs

-- those of the classes that stand at a place
abbrev pub standing_faults : Rule → Site → Set → List Standing → Faults
standing_faults rule site b [] = none
standing_faults rule site b (s ∷ ss) = (if stands_at site s then captured_faults rule b s.reads else none) ∪ standing_faults rule site b ss
