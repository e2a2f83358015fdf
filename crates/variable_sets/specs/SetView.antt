-- What a set of variables in memory is seen as.
use Rattle.variable_sets.specs.declared.sets.Variables.{Variables}
use Rattle.variable_sets.specs.Sets.{Set}
use Rattle.variable_sets.specs.way.Words.{words_hold}

unfoldable pub set_view : Variables → Set
set_view v = words_hold v.words.items v.rest
