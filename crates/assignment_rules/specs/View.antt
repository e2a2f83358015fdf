-- What is followed, and what a statement leaves, as contracts see it.
use Rattle.std.specs.Prelude.{map}
use Rattle.captured_reads.specs.View.{standing_view}
use Rattle.variable_sets.specs.SetView.{set_view}
use Rattle.variable_sets.specs.ExitsView.{exits_view}
use Rattle.assignment_rules.specs.declared.ends.Ends.{Ends as HeldEnds}
use Rattle.assignment_rules.specs.declared.rules.Follow.{Follow as HeldFollow}
use Rattle.assignment_rules.specs.Rules.{Follow}
use Rattle.assignment_rules.specs.Ends.{Ends, ends}

abbrev pub ends_view : HeldEnds → Ends
ends_view e = ends (set_view e.after) (exits_view e.exits)

abbrev pub follow_view : HeldFollow → Follow
follow_view f = record { rule = f.rule; home = f.home; finals = set_view f.finals; standing = map standing_view f.standing.items }
