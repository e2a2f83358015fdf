-- What contracts see of what is met in bodies.
use Rattle.je_ast.specs.Types.{type_view}
use Rattle.je_ast.specs.View.{views_of}
use Rattle.body_typing.specs.Bodies as words
use Rattle.body_walks.specs.declared.met.Met.{Met}
use Rattle.body_walks.specs.declared.met.Met.TheVariants.{Captures, Makes, Stands, StandsBehindNew}
use Rattle.body_walks.specs.Standings.{standing_seen}

abbrev pub met_seen : Met → words.Met
met_seen (Captures within owner local) = words.captures within.0 owner.0 local
met_seen (Makes within made) = words.makes within.0 made.0
met_seen (Stands class scope) = words.stands class.0 (standing_seen scope)
met_seen (StandsBehindNew class scope word ty arguments) =
    words.stands_behind_new class.0 (standing_seen scope) word (type_view ty.now) (views_of arguments.now)
