-- What reads the height below.
use Rattle.std.specs.Prelude.{ℕ, List}
use Rattle.je_base.specs.declared.span.Span.{Span}
use Rattle.je_token.specs.declared.token.Token.{Token}
use Rattle.je_ast.specs.Trees.{Expression, Statement, Statements, Member}
use Rattle.parse_laws.specs.way.Tokens.{Read}

-- the span of a block's `{`, its statements, and the span of its `}`
pub record BlockTree : Type 0 where
  pub opening : Span
  pub statements : Statements
  pub closing : Span

-- an expression of at least the level that it is given, and the others
pub record Below : Type 0 where
  pub expression : ℕ → List Token → Read Expression
  pub initializer : List Token → Read Expression
  pub statement : List Token → Read Statement
  pub block_statement : List Token → Read Statement
  pub block : List Token → Read BlockTree
  pub member : List Token → Read Member
