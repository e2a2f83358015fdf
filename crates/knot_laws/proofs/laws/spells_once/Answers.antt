use Rattle.je_ast.specs.Height.{height, statement_height, member_height, declaration_height}
use Rattle.je_grammar.specs.Operators.{level}
use Rattle.je_grammar.specs.Grammar.{Spells, SpellsBlockStatement, SpellsMember, SpellsDeclaration}
use Rattle.std.proofs.Common.{◌≤◌}
use Rattle.parse_laws.specs.way.Readers.{reach, GoesOn, any, never}
use Rattle.parse_laws.specs.way.Knot.{at, declaration_at}
use Rattle.knot_laws.proofs.Knots.{declaration_is_read}
use Rattle.knot_laws.proofs.Longest.{spells_once, expressions_read, any_expression, statements_read, members_read}
use Rattle.knot_laws.proofs.Cuts.{cut-Spells, cut-SpellsBlockStatement, cut-SpellsMember, cut-SpellsDeclaration}
use Rattle.knot_laws.proofs.Once.{once_by}
use Rattle.knot_laws.proofs.laws.spells_once.Goals as goal

pub returns : goal.returns
returns c = record {
  expressions = λ names texts. once_by (Spells names texts) (λ tail t ts rest r d e. cut-Spells tail names texts d r e) (spells_once (Spells names texts) height (λ e. 1 ≤ level e) (λ e rest. 1 ≤ reach rest) (any_expression names texts) (λ most. (at names texts most).expression 1) (expressions_read names texts));
  statements = λ names texts. once_by (SpellsBlockStatement names texts) (λ tail t ts rest r d e. cut-SpellsBlockStatement tail names texts d r e) (spells_once (SpellsBlockStatement names texts) statement_height any GoesOn (λ b ts rest d. tt) (λ most. (at names texts most).block_statement) (statements_read names texts));
  members = λ names texts. once_by (SpellsMember names texts) (λ tail t ts rest r d e. cut-SpellsMember tail names texts d r e) (spells_once (SpellsMember names texts) member_height any never (λ m ts rest d. tt) (λ most. (at names texts most).member) (members_read names texts));
  declarations = λ names texts. once_by (SpellsDeclaration names texts) (λ tail t ts rest r d e. cut-SpellsDeclaration tail names texts d r e) (spells_once (SpellsDeclaration names texts) declaration_height any never (λ m ts rest d. tt) (declaration_at names texts) (declaration_is_read names texts));
}
