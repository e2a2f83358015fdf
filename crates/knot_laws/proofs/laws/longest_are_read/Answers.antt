use Rattle.knot_laws.proofs.Longest.{expressions_longest, statements_longest, members_longest, declarations_longest}
use Rattle.knot_laws.proofs.laws.longest_are_read.Goals as goal

pub returns : goal.returns
returns c = record { expressions = expressions_longest; statements = statements_longest; members = members_longest; declarations = declarations_longest }
