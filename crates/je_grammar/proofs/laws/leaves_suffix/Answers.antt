use Rattle.je_grammar.proofs.Suffixes.{expressions_leave_suffix, statements_leave_suffix, members_leave_suffix, declarations_leave_suffix}
use Rattle.je_grammar.proofs.laws.leaves_suffix.Goals as goal

pub returns : goal.returns
returns c = record {
  expressions = expressions_leave_suffix;
  statements = statements_leave_suffix;
  members = members_leave_suffix;
  declarations = declarations_leave_suffix;
}
