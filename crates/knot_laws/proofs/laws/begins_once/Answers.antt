use Rattle.je_ast.specs.Height.{member_height, declaration_height}
use Rattle.je_grammar.specs.Grammar.{SpellsMember, SpellsDeclaration}
use Rattle.parse_laws.specs.way.Knot.{at, declaration_at}
use Rattle.knot_laws.proofs.Knots.{declaration_is_read}
use Rattle.knot_laws.proofs.Longest.{begins_once, members_read}
use Rattle.knot_laws.proofs.laws.begins_once.Goals as goal

pub returns : goal.returns
returns c = record {
  members = λ names texts. begins_once (SpellsMember names texts) member_height (λ most. (at names texts most).member) (members_read names texts);
  declarations = λ names texts. begins_once (SpellsDeclaration names texts) declaration_height (declaration_at names texts) (declaration_is_read names texts);
}
