-- The loops of the reading functions, at a count n of which i are used, and what stops them at once.
use Rattle.std.proofs.Common.{◌≡◌, ℕ, zero, suc, ◌+◌, ◌-◌, ◌<◌, ◌≤◌, ◌||◌, Some, None, List, [], ◌∷◌, ◌++◌, length, if◌then◌else◌, refl, arith}
use Rattle.je_base.specs.declared.span.Span.{Span}
use Rattle.je_token.specs.declared.symbol.Symbol.{Symbol}
use Rattle.je_token.specs.declared.symbol.Symbol.TheVariants as symbol
use Rattle.je_token.specs.declared.token.Token.{Token}
use Rattle.je_ast.specs.Trees.{Expression, Statement}
use Rattle.je_grammar.specs.Context.{is_step}
use Rattle.je_grammar.specs.Tokens.{first_span}
use Rattle.parse_laws.specs.way.Tokens.{with, ◌>>=◌, behind, is_symbol, identifier_at}
use Rattle.parse_laws.specs.way.Below.{Below}
use Rattle.parse_laws.specs.way.Lists.{VariableTree, variables, statements, expressions}
use Rattle.parse_laws.specs.way.Statements.{variable_at, variables_at, more_variables_at, more_statements_at, more_steps_at, LabelTree, GroupTree, CatchTree, labels, groups, catches, begins_label, switch_label_at, labels_at, group_statements_at, group_at, groups_at, catch_at, catches_at}

module _ (h : ℕ) (p : Below) where
  pub variables_step : (n i : ℕ) (front : List VariableTree) (ts : List Token) → i < n →
      more_variables_at h p (n - i) front ts ≡ (variable_at h p ts >>= λ x.
      with (behind symbol.Comma x.1) (λ mid. more_variables_at h p (n - (i + 1)) (front ++ x.0 ∷ []) mid) (Some (variables (front ++ x.0 ∷ []), x.1)))
  unfolding more_variables_at
  variables_step n i front ts lt =
      let eq : n - i ≡ suc (n - (i + 1)) = omega arith in
      rw eq refl

  pub variables_none : (n i : ℕ) (front : List VariableTree) (ts : List Token) → n ≤ i → more_variables_at h p (n - i) front ts ≡ None
  unfolding more_variables_at
  variables_none n i front ts le =
      let eq : n - i ≡ 0 = omega arith in
      rw eq refl

  pub statements_step : (n i : ℕ) (front : List Statement) (ts : List Token) → i < n →
      more_statements_at h p (n - i) front ts ≡ with (behind symbol.CloseBrace ts) (λ rest. Some (statements front, first_span ts, rest))
      (p.block_statement ts >>= λ x. more_statements_at h p (n - (i + 1)) (front ++ x.0 ∷ []) x.1)
  unfolding more_statements_at
  statements_step n i front ts lt =
      let eq : n - i ≡ suc (n - (i + 1)) = omega arith in
      rw eq refl

  pub statements_none : (n i : ℕ) (front : List Statement) (ts : List Token) → n ≤ i → more_statements_at h p (n - i) front ts ≡ None
  unfolding more_statements_at
  statements_none n i front ts le =
      let eq : n - i ≡ 0 = omega arith in
      rw eq refl

  pub steps_step : (n i : ℕ) (end : Symbol) (front : List Expression) (ts : List Token) → i < n →
      more_steps_at h p (n - i) end front ts ≡ (p.expression 1 ts >>= λ x. if is_step x.0 then
      with (behind symbol.Comma x.1) (λ mid. more_steps_at h p (n - (i + 1)) end (front ++ x.0 ∷ []) mid)
      (behind end x.1 >>= λ rest. Some (expressions (front ++ x.0 ∷ []), rest))
      else None)
  unfolding more_steps_at
  steps_step n i end front ts lt =
      let eq : n - i ≡ suc (n - (i + 1)) = omega arith in
      rw eq refl

  pub steps_none : (n i : ℕ) (end : Symbol) (front : List Expression) (ts : List Token) → n ≤ i → more_steps_at h p (n - i) end front ts ≡ None
  unfolding more_steps_at
  steps_none n i end front ts le =
      let eq : n - i ≡ 0 = omega arith in
      rw eq refl

  pub labels_step : (n i : ℕ) (front : List LabelTree) (ts : List Token) → i < n →
      labels_at h p (n - i) front ts ≡ (switch_label_at h p ts >>= λ x.
      if begins_label x.1 then labels_at h p (n - (i + 1)) (front ++ x.0 ∷ []) x.1 else Some (labels (front ++ x.0 ∷ []), x.1))
  unfolding labels_at
  labels_step n i front ts lt =
      let eq : n - i ≡ suc (n - (i + 1)) = omega arith in
      rw eq refl

  pub labels_none : (n i : ℕ) (front : List LabelTree) (ts : List Token) → n ≤ i → labels_at h p (n - i) front ts ≡ None
  unfolding labels_at
  labels_none n i front ts le =
      let eq : n - i ≡ 0 = omega arith in
      rw eq refl

  pub group_statements_step : (n i : ℕ) (front : List Statement) (ts : List Token) → i < n →
      group_statements_at h p (n - i) front ts ≡ (if begins_label ts || is_symbol symbol.CloseBrace ts then Some (statements front, ts)
      else p.block_statement ts >>= λ x. group_statements_at h p (n - (i + 1)) (front ++ x.0 ∷ []) x.1)
  unfolding group_statements_at
  group_statements_step n i front ts lt =
      let eq : n - i ≡ suc (n - (i + 1)) = omega arith in
      rw eq refl

  pub group_statements_none : (n i : ℕ) (front : List Statement) (ts : List Token) → n ≤ i → group_statements_at h p (n - i) front ts ≡ None
  unfolding group_statements_at
  group_statements_none n i front ts le =
      let eq : n - i ≡ 0 = omega arith in
      rw eq refl

  pub groups_step : (n i : ℕ) (front : List GroupTree) (ts : List Token) → i < n →
      groups_at h p (n - i) front ts ≡ with (behind symbol.CloseBrace ts) (λ rest. Some (groups front, first_span ts, rest))
      (group_at h p ts >>= λ x. groups_at h p (n - (i + 1)) (front ++ x.0 ∷ []) x.1)
  unfolding groups_at
  groups_step n i front ts lt =
      let eq : n - i ≡ suc (n - (i + 1)) = omega arith in
      rw eq refl

  pub groups_none : (n i : ℕ) (front : List GroupTree) (ts : List Token) → n ≤ i → groups_at h p (n - i) front ts ≡ None
  unfolding groups_at
  groups_none n i front ts le =
      let eq : n - i ≡ 0 = omega arith in
      rw eq refl

  pub catches_step : (n i : ℕ) (front : List CatchTree) (s : Span) (ts : List Token) → i < n →
      catches_at h p (n - i) front s ts ≡ with (catch_at h p ts) (λ x. catches_at h p (n - (i + 1)) (front ++ x.0 ∷ []) x.0.block.closing x.1) (catches front, s, ts)
  unfolding catches_at
  catches_step n i front s ts lt =
      let eq : n - i ≡ suc (n - (i + 1)) = omega arith in
      rw eq refl

  pub catches_none : (n i : ℕ) (front : List CatchTree) (s : Span) (ts : List Token) → n ≤ i → catches_at h p (n - i) front s ts ≡ (catches front, s, ts)
  unfolding catches_at
  catches_none n i front s ts le =
      let eq : n - i ≡ 0 = omega arith in
      rw eq refl

  no_variables : (n : ℕ) (ts : List Token) → identifier_at ts ≡ None → more_variables_at h p n [] ts ≡ None
  unfolding more_variables_at variable_at
  no_variables zero ts none = refl
  no_variables (suc n) ts none = rw none refl

  -- no variable begins without an identifier
  pub no_variables_behind : (ts : List Token) → identifier_at ts ≡ None → variables_at h p ts ≡ None
  unfolding variables_at
  no_variables_behind ts none = no_variables (length ts) ts none
