-- What is read of a height, by what is read of the height below.
use Rattle.std.proofs.Common.{◌≡◌, ℕ, zero, suc, ◌-◌, ◌<◌, ◌||◌, true, false, List, length, Some, None, sub-one, refl, arith}
use Rattle.je_token.specs.declared.keyword.Keyword.TheVariants as word
use Rattle.je_token.specs.declared.symbol.Symbol.TheVariants as symbol
use Rattle.je_token.specs.declared.token.Token.{Token}
use Rattle.je_ast.specs.Trees.{Statement, Declaration}
use Rattle.je_ast.specs.Trees as tree
use Rattle.parse_laws.specs.way.Tokens.{Read, ◌>>=◌, is_symbol, is_word}
use Rattle.parse_laws.specs.way.Types.{begins_local_at}
use Rattle.parse_laws.specs.way.Expressions.{expression_layer, array_initializer_layer}
use Rattle.parse_laws.specs.way.Statements.{statement_layer, block_layer, local_at}
use Rattle.parse_laws.specs.way.Members.{member_layer, declaration_layer, local_class_at, begins_local_class_at, class_body_at}
use Rattle.parse_laws.specs.way.Knot.{nothing, layer, at, expression_over, initializer_over, block_statement_over, declaration_at}
use Rattle.parse_expr.specs.way.Readings.{as_statements}

mapped : (o : Read Declaration) → (o >>= λ d. Some (tree.local_class d.0, d.1)) ≡ as_statements o
mapped None = refl
mapped (Some d) = refl

module _ (names texts : List (List ℕ)) where
  -- ---- nothing is of height 0

  pub expression_zero : (least : ℕ) (ts : List Token) → (at names texts 0).expression least ts ≡ None
  unfolding at nothing
  expression_zero least ts = refl

  pub initializer_zero : (ts : List Token) → (at names texts 0).initializer ts ≡ None
  unfolding at nothing
  initializer_zero ts = refl

  pub statement_zero : (ts : List Token) → (at names texts 0).statement ts ≡ None
  unfolding at nothing
  statement_zero ts = refl

  pub block_statement_zero : (ts : List Token) → (at names texts 0).block_statement ts ≡ None
  unfolding at nothing
  block_statement_zero ts = refl

  pub block_zero : (ts : List Token) → (at names texts 0).block ts ≡ None
  unfolding at nothing
  block_zero ts = refl

  pub member_zero : (ts : List Token) → (at names texts 0).member ts ≡ None
  unfolding at nothing
  member_zero ts = refl

  pub declaration_zero : (ts : List Token) → declaration_at names texts 0 ts ≡ None
  unfolding declaration_at
  declaration_zero ts = refl

  -- ---- one layer over the height below

  pub expression_step : (h least : ℕ) (ts : List Token) → 0 < h →
      (at names texts h).expression least ts ≡ expression_layer texts (h - 1) (at names texts (h - 1)) (class_body_at texts names (h - 1) (at names texts (h - 1))) least ts
  unfolding at layer expression_over
  expression_step zero least ts lt = absurd (omega arith)
  expression_step (suc b) least ts lt = rw sub-one refl

  pub array_step : (h : ℕ) (ts : List Token) → 0 < h → is_symbol symbol.OpenBrace ts ≡ true →
      (at names texts h).initializer ts ≡ array_initializer_layer texts (h - 1) (at names texts (h - 1)) (class_body_at texts names (h - 1) (at names texts (h - 1))) ts
  unfolding at layer initializer_over
  array_step zero ts lt e = absurd (omega arith)
  array_step (suc b) ts lt e = rw (sub-one, e) refl

  pub value_step : (h : ℕ) (ts : List Token) → is_symbol symbol.OpenBrace ts ≡ false → (at names texts h).initializer ts ≡ (at names texts h).expression 1 ts
  unfolding at nothing layer initializer_over
  value_step zero ts e = refl
  value_step (suc b) ts e = rw e refl

  pub statement_step : (h : ℕ) (ts : List Token) → 0 < h → (at names texts h).statement ts ≡ statement_layer (h - 1) (at names texts (h - 1)) ts
  unfolding at layer
  statement_step zero ts lt = absurd (omega arith)
  statement_step (suc b) ts lt = rw sub-one refl

  pub local_class_step : (h : ℕ) (ts : List Token) → 0 < h → begins_local_class_at (length ts) ts ≡ true →
      (at names texts h).block_statement ts ≡ as_statements (local_class_at texts names (h - 1) (at names texts (h - 1)) ts)
  unfolding at layer block_statement_over
  local_class_step zero ts lt e = absurd (omega arith)
  local_class_step (suc b) ts lt e = rw (sub-one, e) (mapped (local_class_at texts names b (at names texts b) ts))

  pub local_step : (h : ℕ) (ts : List Token) → 0 < h → begins_local_class_at (length ts) ts ≡ false → (is_word word.Final ts || begins_local_at (h - 1) ts) ≡ true →
      (at names texts h).block_statement ts ≡ local_at (h - 1) (at names texts (h - 1)) ts
  unfolding at layer block_statement_over
  local_step zero ts lt e f = absurd (omega arith)
  local_step (suc b) ts lt e f = let g : (is_word word.Final ts || begins_local_at b ts) ≡ true = rw sub-one at f in rw (sub-one, e, g) refl

  pub other_step : (h : ℕ) (ts : List Token) → 0 < h → begins_local_class_at (length ts) ts ≡ false → (is_word word.Final ts || begins_local_at (h - 1) ts) ≡ false →
      (at names texts h).block_statement ts ≡ (at names texts h).statement ts
  unfolding at layer block_statement_over
  other_step zero ts lt e f = absurd (omega arith)
  other_step (suc b) ts lt e f = let g : (is_word word.Final ts || begins_local_at b ts) ≡ false = rw sub-one at f in rw (e, g) refl

  pub block_step : (h : ℕ) (ts : List Token) → 0 < h → (at names texts h).block ts ≡ block_layer (h - 1) (at names texts (h - 1)) ts
  unfolding at layer
  block_step zero ts lt = absurd (omega arith)
  block_step (suc b) ts lt = rw sub-one refl

  pub member_step : (h : ℕ) (ts : List Token) → 0 < h → (at names texts h).member ts ≡ member_layer texts names (h - 1) (at names texts (h - 1)) ts
  unfolding at layer
  member_step zero ts lt = absurd (omega arith)
  member_step (suc b) ts lt = rw sub-one refl

  pub declaration_step : (h : ℕ) (ts : List Token) → 0 < h → declaration_at names texts h ts ≡ declaration_layer texts names (h - 1) (at names texts (h - 1)) ts
  unfolding declaration_at
  declaration_step zero ts lt = absurd (omega arith)
  declaration_step (suc b) ts lt = rw sub-one refl
