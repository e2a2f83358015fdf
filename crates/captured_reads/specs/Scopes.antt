-- Which local a name means (JLS 6.3, 6.4.1): in one body at most one local of a name is in scope.
use Rattle.std.specs.Prelude.{Bool, false, ◌&&◌, take, drop, ℕ, ◌-◌, ◌^◌, not, List, [], ◌∷◌, filter, filter_map, Option, Some, None, slice_get, is_some, nat_eq, nat_lt, if◌then◌else◌}
use Rattle.std.specs.List.{range_with_len}
use Rattle.je_base.specs.declared.span.NameId.{NameId}
use Rattle.je_base.specs.declared.span.Span.{Span}
use Rattle.je_core.specs.declared.program.Local.{Local}
use Rattle.je_core.specs.Core.{CoreClass, CoreField}
use Rattle.je_fitting.specs.Expressions.{outer_count}
use Rattle.captured_reads.specs.declared.scopes.LocalName.{LocalName}

-- A local's number has 32 bits.
abbrev pub most_params : ℕ
most_params = 2 ^ 32 - 1

-- the parameters, which are a body's first locals
abbrev pub first_locals : ℕ → List ℕ
first_locals params = range_with_len 0 (if nat_lt params most_params then params else most_params)

-- A local is in scope behind the name in its declaration.
abbrev pub has_name_before : Span → NameId → Option Local → Bool
has_name_before at name None = false
has_name_before at name (Some l) = nat_eq l.name.0 name.0 && nat_lt l.span.start at.start

-- the local of a name that is in scope at a place, where blocks round it declare these locals
abbrev pub local_in_scope : List Local → List ℕ → Span → NameId → Option LocalName
local_in_scope locals [] at name = None
local_in_scope locals (n ∷ ns) at name =
    if has_name_before at name (slice_get locals n) then Some (record { name = name; local = n }) else local_in_scope locals ns at name

-- the hidden fields of the locals that a class captures (8.1.3), behind that of the object round it
abbrev pub captured_fields : CoreClass → List CoreField
captured_fields c = take c.captured (drop (outer_count c.enclosing) c.fields)

abbrev pub names_of : List Local → List ℕ → Span → List CoreField → List LocalName
names_of locals scope at fields = filter_map (λ f. local_in_scope locals scope at f.name) fields

-- the locals in scope at a place that a class captures, by name
abbrev pub names_at : List Local → List ℕ → Span → Option CoreClass → List LocalName
names_at locals scope at None = []
names_at locals scope at (Some c) = names_of locals scope at (captured_fields c)

abbrev pub local_named : NameId → List LocalName → Option ℕ
local_named name [] = None
local_named name (n ∷ ns) = if nat_eq n.name.0 name.0 then Some n.local else local_named name ns

-- the names that aren't shadowed by these
abbrev pub unshadowed : List LocalName → List LocalName → List LocalName
unshadowed shadows names = filter (λ n. not (is_some (local_named n.name shadows))) names
