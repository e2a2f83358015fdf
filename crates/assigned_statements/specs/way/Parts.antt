-- A group and a catch by themselves, and a statement that is no block.
use Rattle.std.specs.Prelude.{Option, None}
use Rattle.je_base.specs.declared.span.NameId.{NameId}
use Rattle.je_core.specs.declared.types.ClassId.{ClassId}
use Rattle.je_core.specs.Core.{CoreGroup, CoreCatch, CoreStmtForm, group, catch}
use Rattle.flow_base.specs.FaultSets.{Faults}
use Rattle.variable_sets.specs.Numbers.{local_number}
use Rattle.variable_sets.specs.Sets.{Set}
use Rattle.assignment_rules.specs.Rules.{Follow, marking}
use Rattle.assigned_statements.specs.Untouched.{parts_untouched, statement_untouched}
use Rattle.assignment_rules.specs.Ends.{Ends, ends, entering}
use Rattle.assigned_statements.specs.Statements.{first_byte, parts_end, parts_faults, statement_ends, statement_faults, form_faults}

abbrev pub group_ends : Follow → Set → Ends → CoreGroup → Ends
group_ends f start before (group labels parts) = parts_end f (ends (entering start labels before.after) before.exits) parts

abbrev pub group_faults : Follow → Set → Ends → CoreGroup → Faults
group_faults f start before (group labels parts) = parts_faults f (first_byte labels) 0 (ends (entering start labels before.after) before.exits) parts

abbrev pub catch_ends : Follow → Set → CoreCatch → Ends
catch_ends f b (catch local class span body) = statement_ends f None (marking f.rule (local_number local) b) body

abbrev pub catch_faults : Follow → Set → CoreCatch → Faults
catch_faults f b (catch local class span body) = statement_faults f None (marking f.rule (local_number local) b) body

abbrev pub group_untouched : Option ClassId → Set → CoreGroup → Set
group_untouched home b (group labels parts) = parts_untouched home b parts

abbrev pub catch_untouched : Option ClassId → Set → CoreCatch → Set
catch_untouched home b (catch local class span body) = statement_untouched home b body

-- The faults of one that is no block are the same wherever it begins.
abbrev pub anywhere_faults : Follow → Option NameId → Set → CoreStmtForm → Faults
anywhere_faults f label b form = form_faults f label (record { file = 0; start = 0; end = 0 }) b form
