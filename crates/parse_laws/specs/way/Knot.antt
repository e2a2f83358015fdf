-- The recursion: what reads a height is one layer over what reads the height below. And whole files.
use Rattle.std.specs.Prelude.{ℕ, zero, suc, ◌||◌, List, [], ◌∷◌, ◌++◌, length, Option, Some, None, if◌then◌else◌, Bool, false}
use Rattle.je_token.specs.declared.keyword.Keyword.TheVariants as word
use Rattle.je_token.specs.declared.symbol.Symbol.TheVariants as symbol
use Rattle.je_token.specs.declared.token.Token.{Token}
use Rattle.je_token.specs.declared.token.TokenKind.TheVariants as kind
use Rattle.je_ast.specs.Types.{QualifiedName}
use Rattle.je_ast.specs.Trees.{Expression, Statement, Member, Declaration, CompilationUnit}
use Rattle.je_ast.specs.Trees as tree
use Rattle.parse_laws.specs.way.Tokens.{Read, ◌>>=◌, with, behind, behind_word, same, is_symbol, is_word}
use Rattle.parse_laws.specs.way.Types.{name_at, begins_local_at}
use Rattle.parse_laws.specs.way.Below.{Below}
use Rattle.parse_laws.specs.way.Expressions.{expression_layer, array_initializer_layer}
use Rattle.parse_laws.specs.way.Statements.{statement_layer, local_at, block_layer}
use Rattle.parse_laws.specs.way.Members.{member_layer, declaration_layer, local_class_at, begins_local_class_at, class_body_at}

-- the file's end, and nothing behind it
abbrev pub is_end : List Token → Bool
is_end (t ∷ []) = same t.kind kind.End
is_end _ = false

module _ (names texts : List (List ℕ)) where
  module _ (h : ℕ) (p : Below) where
    unfoldable pub expression_over : ℕ → List Token → Read Expression
    expression_over least ts = expression_layer texts h p (class_body_at texts names h p) least ts

    unfoldable pub initializer_over : List Token → Read Expression
    initializer_over ts = if is_symbol symbol.OpenBrace ts then array_initializer_layer texts h p (class_body_at texts names h p) ts else expression_over 1 ts

    unfoldable pub block_statement_over : List Token → Read Statement
    block_statement_over ts =
        if begins_local_class_at (length ts) ts then (local_class_at texts names h p ts >>= λ d. Some (tree.local_class d.0, d.1))
        else if is_word word.Final ts || begins_local_at h ts then local_at h p ts
        else statement_layer h p ts

    unfoldable pub layer : Below
    layer = record {
      expression = expression_over;
      initializer = initializer_over;
      statement = statement_layer h p;
      block_statement = block_statement_over;
      block = block_layer h p;
      member = member_layer texts names h p;
    }

  -- nothing is of height 0
  unfoldable pub nothing : Below
  nothing = record {
    expression = λ least ts. None;
    initializer = λ ts. None;
    statement = λ ts. None;
    block_statement = λ ts. None;
    block = λ ts. None;
    member = λ ts. None;
  }

  -- what is read of at most this height
  unfoldable pub at : ℕ → Below
  at zero = nothing
  at (suc h) = layer h (at h)

  unfoldable pub declaration_at : ℕ → List Token → Read Declaration
  declaration_at zero ts = None
  declaration_at (suc h) ts = declaration_layer texts names h (at h) ts

  -- "import" Name ";"
  unfoldable pub import_at : List Token → Read QualifiedName
  import_at ts = behind_word word.Import ts >>= name_at >>= λ n. behind symbol.Semicolon n.1 >>= λ rest. Some (n.0, rest)

  -- The numbers below bound how many items come.
  unfoldable pub imports_at : ℕ → List QualifiedName → List Token → List QualifiedName × List Token
  imports_at zero front ts = (front, ts)
  imports_at (suc n) front ts = with (import_at ts) (λ x. imports_at n (front ++ x.0 ∷ []) x.1) (front, ts)

  unfoldable pub declarations_at : ℕ → ℕ → List Declaration → List Token → Option (List Declaration)
  declarations_at zero most front ts = None
  declarations_at (suc n) most front ts = if is_end ts then Some front
      else with (behind symbol.Semicolon ts) (declarations_at n most front) (declaration_at most ts >>= λ d. declarations_at n most (front ++ d.0 ∷ []) d.1)

  unfoldable pub unit_at : ℕ → List Token → Option CompilationUnit
  unit_at most ts = let is = imports_at (length ts) [] ts in declarations_at (length ts) most [] is.1 >>= λ ds. Some (record { imports = is.0; declarations = ds })
