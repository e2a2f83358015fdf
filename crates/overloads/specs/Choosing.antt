-- What contracts see of a choice.
use Rattle.call_typing.specs.Overloads as words
use Rattle.overloads.specs.declared.choosing.Choice.{Choice}
use Rattle.overloads.specs.declared.choosing.Choice.TheVariants.{NoneAccepts, NoneAccessible, Unclear, One}
use Rattle.overloads.specs.View.{candidate_seen}

abbrev pub choice_seen : Choice → words.Choice
choice_seen NoneAccepts = words.none_accepts
choice_seen NoneAccessible = words.none_accessible
choice_seen Unclear = words.unclear
choice_seen (One m) = words.one (candidate_seen m.now)
