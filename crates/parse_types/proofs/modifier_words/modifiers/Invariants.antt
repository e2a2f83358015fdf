use Rattle.std.proofs.Common.{◌≡◌, ◌-◌, length}
use Rattle.parse_laws.specs.way.Types.{modifiers_at, more_modifiers_at}
use Rattle.parse_types.proofs.modifier_words.modifiers.Given as goal

abbrev pub invariant-loop : goal.invariant-loop
invariant-loop l = more_modifiers_at l.names (length l.fn.tokens - l.counter) l.list.items l.rest ≡ modifiers_at l.names l.fn.tokens
