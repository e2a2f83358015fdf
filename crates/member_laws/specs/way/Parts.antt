-- What members rest on where variables and statements stand in them.
use Rattle.std.specs.Prelude.{◌≡◌, ℕ, ◌≤◌, List, ◌∷◌, Some, IfSome}
use Rattle.je_base.specs.declared.span.Span.{Span}
use Rattle.je_token.specs.declared.symbol.Symbol.TheVariants as symbol
use Rattle.je_token.specs.declared.token.Token.{Token}
use Rattle.je_ast.specs.Trees.{Variables, Statements}
use Rattle.je_ast.specs.Height.{variables_height, statements_height}
use Rattle.je_grammar.specs.Tokens.{IsSymbol}
use Rattle.je_grammar.specs.Grammar.{SpellsVariables, SpellsBlock}
use Rattle.parse_laws.specs.way.Below.{Below}
use Rattle.parse_laws.specs.way.Statements.{variables_at, block_statements_at}

module _ (names texts : List (List ℕ)) where
  pub record AreVariables (most : ℕ) (ts : List Token) (x : Variables × List Token) : Type 0 where
    pub spelled : SpellsVariables names texts x.0 ts x.1
    pub within : variables_height x.0 ≤ most

  pub record AreStatements (most : ℕ) (ts : List Token) (x : Statements × Span × List Token) : Type 0 where
    pub spelled : SpellsBlock names texts x.0 x.1 ts x.2
    pub within : statements_height x.0 ≤ most

  -- Variables before a `;`, and the statements of a block up to its `}`, with trees of at most this height, are read right.
  pub record ReadStatements (most : ℕ) (p : Below) : Type 0 where
    pub variables_sound : (ts : List Token) → IfSome (variables_at most p ts) (AreVariables most ts)
    pub variables_exact : (vs : Variables) (c : Token) (ts rest : List Token) → SpellsVariables names texts vs ts (c ∷ rest) → IsSymbol symbol.Semicolon c → variables_height vs ≤ most →
        variables_at most p ts ≡ Some (vs, c ∷ rest)
    pub block_sound : (ts : List Token) → IfSome (block_statements_at most p ts) (AreStatements most ts)
    pub block_exact : (bs : Statements) (c : Span) (ts rest : List Token) → SpellsBlock names texts bs c ts rest → statements_height bs ≤ most → block_statements_at most p ts ≡ Some (bs, c, rest)
