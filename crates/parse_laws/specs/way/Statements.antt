-- Reading statements, one definition for each function of the parser, over what reads the height below.
use Rattle.std.specs.Prelude.{ℕ, zero, suc, Bool, false, ◌||◌, List, [], ◌∷◌, ◌++◌, length, Option, Some, None, if◌then◌else◌}
use Rattle.je_base.specs.declared.span.Span.{Span}
use Rattle.je_token.specs.declared.keyword.Keyword.TheVariants as word
use Rattle.je_token.specs.declared.symbol.Symbol.{Symbol}
use Rattle.je_token.specs.declared.symbol.Symbol.TheVariants as symbol
use Rattle.je_token.specs.declared.token.Token.{Token}
use Rattle.je_token.specs.declared.token.TokenKind.{TokenKind}
use Rattle.je_token.specs.declared.token.TokenKind.TheVariants as kind
use Rattle.je_ast.specs.declared.name.Identifier.{Identifier}
use Rattle.je_ast.specs.Types.{QualifiedName}
use Rattle.je_ast.specs.Trees.{Expression, Expressions, MaybeExpression, Statement, Statements, ForInitializer, Variables, Groups, Labels, Catches}
use Rattle.je_ast.specs.Trees as tree
use Rattle.je_ast.specs.Spans.{join, statement_span}
use Rattle.je_grammar.specs.Tokens.{first_span}
use Rattle.je_grammar.specs.Context.{is_step, ends_short, has_catch}
use Rattle.parse_laws.specs.way.Tokens.{Read, ◌>>=◌, with, is_some, behind, behind_word, is_symbol, is_word, identifier_at}
use Rattle.parse_laws.specs.way.Types.{name_at, dims_at, type_at, past_type_at, final_at, begins_local_at}
use Rattle.parse_laws.specs.way.Below.{Below, BlockTree}
use Rattle.parse_laws.specs.way.Lists.{expressions, statements, VariableTree, variables}
use Rattle.parse_laws.specs.way.Expressions.{Closed}

-- a catch
pub record CatchTree : Type 0 where
  pub is_final : Bool
  pub class : QualifiedName
  pub name : Identifier
  pub block : BlockTree

abbrev pub catches : List CatchTree → Catches
catches [] = tree.no_catches
catches (c ∷ cs) = tree.more_catches c.is_final c.class c.name c.block.opening c.block.statements c.block.closing (catches cs)

-- a label in a `switch`: an expression, or the span of the word `default`
pub data LabelTree : Type 0 where
  case_label : Expression → LabelTree
  default_label : Span → LabelTree

abbrev pub labels : List LabelTree → Labels
labels [] = tree.no_labels
labels (case_label e ∷ ls) = tree.case_label e (labels ls)
labels (default_label s ∷ ls) = tree.default_label s (labels ls)

pub record GroupTree : Type 0 where
  pub labels : Labels
  pub statements : Statements

abbrev pub groups : List GroupTree → Groups
groups [] = tree.no_groups
groups (g ∷ gs) = tree.more_groups g.labels g.statements (groups gs)

-- id ":"
abbrev pub label_before : List Token → Read Identifier
label_before ts = identifier_at ts >>= λ x. behind symbol.Colon x.1 >>= λ rest. Some (x.0, rest)

-- whether `["final"] Ty id ":"` stands here
unfoldable pub is_for_each_at : ℕ → List Token → Bool
is_for_each_at h ts = with (past_type_at h (final_at ts).1) (λ rest. is_some (label_before rest)) false

abbrev pub begins_label : List Token → Bool
begins_label ts = is_word word.Case ts || is_word word.Default ts

module _ (h : ℕ) (p : Below) where
  -- id Dims ["=" Init]
  unfoldable pub variable_at : List Token → Read VariableTree
  variable_at ts = identifier_at ts >>= λ x. let d = dims_at x.0.span x.1 in
      with (behind symbol.Assign d.2) (λ mid. p.initializer mid >>= λ y. Some (record { name = x.0; dims = d.0; init = tree.an_expression y.0 }, y.1))
      (Some (record { name = x.0; dims = d.0; init = tree.no_expression }, d.2))

  -- The numbers below bound how many items come.
  unfoldable pub more_variables_at : ℕ → List VariableTree → List Token → Read Variables
  more_variables_at zero front ts = None
  more_variables_at (suc n) front ts = variable_at ts >>= λ x.
      with (behind symbol.Comma x.1) (λ mid. more_variables_at n (front ++ x.0 ∷ []) mid) (Some (variables (front ++ x.0 ∷ []), x.1))

  unfoldable pub variables_at : List Token → Read Variables
  variables_at ts = more_variables_at (length ts) [] ts

  unfoldable pub more_statements_at : ℕ → List Statement → List Token → Closed Statements
  more_statements_at zero front ts = None
  more_statements_at (suc n) front ts = with (behind symbol.CloseBrace ts) (λ rest. Some (statements front, first_span ts, rest))
      (p.block_statement ts >>= λ x. more_statements_at n (front ++ x.0 ∷ []) x.1)

  -- {BlockStmt} "}"
  unfoldable pub block_statements_at : List Token → Closed Statements
  block_statements_at ts = more_statements_at (length ts) [] ts

  unfoldable pub block_layer : List Token → Read BlockTree
  block_layer ts = behind symbol.OpenBrace ts >>= block_statements_at >>= λ x. Some (record { opening = first_span ts; statements = x.0; closing = x.1 }, x.2)

  unfoldable pub inner_block_at : List Token → Read Statement
  inner_block_at ts = behind symbol.OpenBrace ts >>= block_statements_at >>= λ x. Some (tree.block (first_span ts) x.0 x.1, x.2)

  -- "(" Expr ")"
  unfoldable pub condition_at : List Token → Read Expression
  condition_at ts = behind symbol.OpenParen ts >>= p.expression 1 >>= λ x. behind symbol.CloseParen x.1 >>= λ rest. Some (x.0, rest)

  -- the statement behind an `else` that is no inner `if`'s
  unfoldable pub else_at : Statement → List Token → Read Statement
  else_at x ts = if ends_short x then None else behind_word word.Else ts >>= p.statement

  unfoldable pub if_at : Span → List Token → Read Statement
  if_at w ts = condition_at ts >>= λ c. p.statement c.1 >>= λ x.
      with (else_at x.0 x.1) (λ y. Some (tree.if_else w c.0 x.0 y.0 (join w (statement_span y.0)), y.1))
      (Some (tree.if_only w c.0 x.0 (join w (statement_span x.0)), x.1))

  unfoldable pub while_at : Span → List Token → Read Statement
  while_at w ts = condition_at ts >>= λ c. p.statement c.1 >>= λ b. Some (tree.while w c.0 b.0 (join w (statement_span b.0)), b.1)

  unfoldable pub do_at : Span → List Token → Read Statement
  do_at w ts = p.statement ts >>= λ b. behind_word word.While b.1 >>= condition_at >>= λ c. behind symbol.Semicolon c.1 >>= λ rest.
      Some (tree.do_while w b.0 c.0 (join w (first_span c.1)), rest)

  unfoldable pub labelled_at : Identifier → List Token → Read Statement
  labelled_at n ts = p.statement ts >>= λ b. Some (tree.labelled n b.0 (join n.span (statement_span b.0)), b.1)

  -- [id]
  abbrev pub label_at : List Token → Option Identifier × List Token
  label_at ts = with (identifier_at ts) (λ x. (Some x.0, x.1)) (None, ts)

  unfoldable pub break_at : Span → List Token → Read Statement
  break_at w ts = let l = label_at ts in behind symbol.Semicolon l.1 >>= λ rest. Some (tree.break w l.0 (join w (first_span l.1)), rest)

  unfoldable pub continue_at : Span → List Token → Read Statement
  continue_at w ts = let l = label_at ts in behind symbol.Semicolon l.1 >>= λ rest. Some (tree.continue w l.0 (join w (first_span l.1)), rest)

  unfoldable pub return_at : Span → List Token → Read Statement
  return_at w ts = with (behind symbol.Semicolon ts) (λ rest. Some (tree.return w tree.no_expression (join w (first_span ts)), rest))
      (p.expression 1 ts >>= λ e. behind symbol.Semicolon e.1 >>= λ rest. Some (tree.return w (tree.an_expression e.0) (join w (first_span e.1)), rest))

  unfoldable pub throw_at : Span → List Token → Read Statement
  throw_at w ts = p.expression 1 ts >>= λ e. behind symbol.Semicolon e.1 >>= λ rest. Some (tree.throw w e.0 (join w (first_span e.1)), rest)

  unfoldable pub expression_statement_at : List Token → Read Statement
  expression_statement_at ts = p.expression 1 ts >>= λ e. behind symbol.Semicolon e.1 >>= λ rest.
      if is_step e.0 then Some (tree.expression_statement (first_span ts) e.0 (join (first_span ts) (first_span e.1)), rest) else None

  -- [Step {"," Step}], and this symbol
  unfoldable pub more_steps_at : ℕ → Symbol → List Expression → List Token → Read Expressions
  more_steps_at zero end front ts = None
  more_steps_at (suc n) end front ts = p.expression 1 ts >>= λ x.
      if is_step x.0 then
      with (behind symbol.Comma x.1) (λ mid. more_steps_at n end (front ++ x.0 ∷ []) mid)
      (behind end x.1 >>= λ rest. Some (expressions (front ++ x.0 ∷ []), rest))
      else None

  unfoldable pub steps_before_at : Symbol → List Token → Read Expressions
  steps_before_at end ts = with (behind end ts) (λ rest. Some (tree.no_expressions, rest)) (more_steps_at (length ts) end [] ts)

  -- ["final"] Ty Var {"," Var} ";"
  unfoldable pub start_locals_at : List Token → Read ForInitializer
  start_locals_at ts = let f = final_at ts in type_at h f.1 >>= λ t. variables_at t.1 >>= λ vs. behind symbol.Semicolon vs.1 >>= λ rest.
      Some (tree.locals f.0 t.0 vs.0, rest)

  -- [ForInit] ";"
  unfoldable pub start_at : List Token → Read ForInitializer
  start_at ts = if is_word word.Final ts || begins_local_at h ts then start_locals_at ts
      else steps_before_at symbol.Semicolon ts >>= λ x. Some (tree.steps x.0, x.1)

  -- [Expr] ";"
  unfoldable pub ended_condition_at : List Token → Read MaybeExpression
  ended_condition_at ts = with (behind symbol.Semicolon ts) (λ rest. Some (tree.no_expression, rest))
      (p.expression 1 ts >>= λ e. behind symbol.Semicolon e.1 >>= λ rest. Some (tree.an_expression e.0, rest))

  unfoldable pub plain_for_at : Span → List Token → Read Statement
  plain_for_at w ts = start_at ts >>= λ i. ended_condition_at i.1 >>= λ c. steps_before_at symbol.CloseParen c.1 >>= λ s. p.statement s.1 >>= λ b.
      Some (tree.for w i.0 c.0 s.0 b.0 (join w (statement_span b.0)), b.1)

  unfoldable pub for_each_at : Span → List Token → Read Statement
  for_each_at w ts = let f = final_at ts in type_at h f.1 >>= λ t. label_before t.1 >>= λ x. p.expression 1 x.1 >>= λ e.
      behind symbol.CloseParen e.1 >>= p.statement >>= λ b.
      Some (tree.for_each w f.0 t.0 x.0 e.0 b.0 (join w (statement_span b.0)), b.1)

  unfoldable pub for_at : Span → List Token → Read Statement
  for_at w ts = behind symbol.OpenParen ts >>= λ inside. if is_for_each_at h inside then for_each_at w inside else plain_for_at w inside

  -- "case" Expr ":" | "default" ":"
  unfoldable pub switch_label_at : List Token → Read LabelTree
  switch_label_at ts = with (behind_word word.Default ts) (λ end. behind symbol.Colon end >>= λ rest. Some (default_label (first_span ts), rest))
      (behind_word word.Case ts >>= p.expression 1 >>= λ e. behind symbol.Colon e.1 >>= λ rest. Some (case_label e.0, rest))

  unfoldable pub labels_at : ℕ → List LabelTree → List Token → Read Labels
  labels_at zero front ts = None
  labels_at (suc n) front ts = switch_label_at ts >>= λ x.
      if begins_label x.1 then labels_at n (front ++ x.0 ∷ []) x.1 else Some (labels (front ++ x.0 ∷ []), x.1)

  -- {BlockStmt} up to a label or `}`
  unfoldable pub group_statements_at : ℕ → List Statement → List Token → Read Statements
  group_statements_at zero front ts = None
  group_statements_at (suc n) front ts = if begins_label ts || is_symbol symbol.CloseBrace ts then Some (statements front, ts)
      else p.block_statement ts >>= λ x. group_statements_at n (front ++ x.0 ∷ []) x.1

  unfoldable pub group_at : List Token → Read GroupTree
  group_at ts = labels_at (length ts) [] ts >>= λ ls. group_statements_at (length ls.1) [] ls.1 >>= λ bs.
      Some (record { labels = ls.0; statements = bs.0 }, bs.1)

  unfoldable pub groups_at : ℕ → List GroupTree → List Token → Closed Groups
  groups_at zero front ts = None
  groups_at (suc n) front ts = with (behind symbol.CloseBrace ts) (λ rest. Some (groups front, first_span ts, rest))
      (group_at ts >>= λ x. groups_at n (front ++ x.0 ∷ []) x.1)

  unfoldable pub switch_at : Span → List Token → Read Statement
  switch_at w ts = condition_at ts >>= λ e. behind symbol.OpenBrace e.1 >>= λ inside. groups_at (length inside) [] inside >>= λ gs.
      Some (tree.switch w e.0 gs.0 (join w gs.1), gs.2)

  -- Catch
  unfoldable pub catch_at : List Token → Read CatchTree
  catch_at ts = behind_word word.Catch ts >>= behind symbol.OpenParen >>= λ inside. let f = final_at inside in
      name_at f.1 >>= λ n. identifier_at n.1 >>= λ x. behind symbol.CloseParen x.1 >>= p.block >>= λ b.
      Some (record { is_final = f.0; class = n.0; name = x.0; block = b.0 }, b.1)

  unfoldable pub catches_at : ℕ → List CatchTree → Span → List Token → Catches × Span × List Token
  catches_at zero front s ts = (catches front, s, ts)
  catches_at (suc n) front s ts = with (catch_at ts) (λ x. catches_at n (front ++ x.0 ∷ []) x.0.block.closing x.1) (catches front, s, ts)

  unfoldable pub finally_at : List Token → Read BlockTree
  finally_at ts = behind_word word.Finally ts >>= p.block

  unfoldable pub try_at : Span → List Token → Read Statement
  try_at w ts = p.block ts >>= λ b. let cs = catches_at (length b.1) [] b.0.closing b.1 in
      with (finally_at cs.2)
      (λ l. Some (tree.try_finally w b.0.opening b.0.statements b.0.closing cs.0 (first_span cs.2) l.0.opening l.0.statements l.0.closing (join w l.0.closing), l.1))
      (if has_catch cs.0 then Some (tree.try w b.0.opening b.0.statements b.0.closing cs.0 (join w cs.1), cs.2) else None)

  -- what a statement is by its first token
  abbrev pub statement_by : TokenKind → Span → List Token → List Token → Read Statement
  statement_by (kind.Symbol symbol.OpenBrace) w ts rest = inner_block_at ts
  statement_by (kind.Symbol symbol.Semicolon) w ts rest = Some (tree.empty w, rest)
  statement_by (kind.Keyword word.If) w ts rest = if_at w rest
  statement_by (kind.Keyword word.While) w ts rest = while_at w rest
  statement_by (kind.Keyword word.Do) w ts rest = do_at w rest
  statement_by (kind.Keyword word.For) w ts rest = for_at w rest
  statement_by (kind.Keyword word.Switch) w ts rest = switch_at w rest
  statement_by (kind.Keyword word.Break) w ts rest = break_at w rest
  statement_by (kind.Keyword word.Continue) w ts rest = continue_at w rest
  statement_by (kind.Keyword word.Return) w ts rest = return_at w rest
  statement_by (kind.Keyword word.Throw) w ts rest = throw_at w rest
  statement_by (kind.Keyword word.Try) w ts rest = try_at w rest
  statement_by _ w ts rest = with (label_before ts) (λ x. labelled_at x.0 x.1) (expression_statement_at ts)

  unfoldable pub statement_layer : List Token → Read Statement
  statement_layer [] = None
  statement_layer (t ∷ rest) = statement_by t.kind t.span (t ∷ rest) rest

  -- ["final"] Ty Var {"," Var} ";"
  unfoldable pub local_at : List Token → Read Statement
  local_at ts = let f = final_at ts in type_at h f.1 >>= λ t. variables_at t.1 >>= λ vs. behind symbol.Semicolon vs.1 >>= λ rest.
      Some (tree.local (first_span ts) f.0 t.0 vs.0 (join (first_span ts) (first_span vs.1)), rest)
