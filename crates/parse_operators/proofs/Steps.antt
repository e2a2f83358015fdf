-- The loops of the reading functions, at a count n of which i are used, and lists of trees that grow.
use Rattle.std.proofs.Common.{◌≡◌, ℕ, suc, ◌+◌, ◌-◌, ◌<◌, ◌≤◌, Some, None, List, [], ◌∷◌, ◌++◌, map, max, length, refl, arith}
use Rattle.std.specs.Prelude.{nat_lt, if◌then◌else◌}
use Rattle.std.proofs.lemmas.List.{map_push}
use Rattle.je_base.specs.declared.span.Span.{Span}
use Rattle.je_token.specs.declared.symbol.Symbol.TheVariants as symbol
use Rattle.je_token.specs.declared.token.Token.{Token}
use Rattle.je_ast.specs.declared.expr.Expr.{Expr}
use Rattle.je_ast.specs.Trees.{Expression, Members, no_expressions, more_expressions}
use Rattle.je_ast.specs.Trees as tree
use Rattle.je_ast.specs.Spans.{join, span_of}
use Rattle.je_ast.specs.Parts as parts
use Rattle.je_ast.specs.View.{view, views_of}
use Rattle.je_ast.specs.Height.{height, heights}
use Rattle.je_grammar.specs.Tokens.{first_span}
use Rattle.parse_laws.specs.way.Tokens.{with, ◌>>=◌, behind, is_symbol}
use Rattle.parse_laws.specs.way.Below.{Below}
use Rattle.parse_laws.specs.way.Lists.{expressions}
use Rattle.parse_laws.specs.way.Expressions.{Closed, arguments_at, more_arguments_at, length_at, more_lengths_at, selection_step as one_selection, selections_at, increments_at, postfix_operator, operation_step as one_operation, operations_at, values_at}

pub lists_same : (es : List Expression) → parts.expressions es ≡ expressions es
lists_same [] = refl
lists_same (e ∷ es) = rw (lists_same es) refl

pub views_push : (xs : List Expr) (x : Expr) → map view (xs ++ x ∷ []) ≡ map view xs ++ view x ∷ []
views_push xs x = map_push view xs x

pub list_height_push : (es : List Expression) (e : Expression) → heights (parts.expressions (es ++ e ∷ [])) ≡ max (heights (parts.expressions es)) (height e)
list_height_push [] e = omega arith
list_height_push (d ∷ es) e = omega (arith, list_height_push es e)

pub heights_push : (xs ys : List Expr) (x : Expr) → ys ≡ xs ++ x ∷ [] → heights (views_of ys) ≡ max (heights (views_of xs)) (height (view x))
heights_push xs ys x pushed = rw (pushed, views_push xs x) (list_height_push (map view xs) (view x))

module _ (texts : List (List ℕ)) (h : ℕ) (p : Below) (body : List Token → Closed Members) where
  pub arguments_step : (n i : ℕ) (front : List Expression) (ts : List Token) → i < n →
      more_arguments_at texts h p body (n - i) front ts ≡ (p.expression 1 ts >>= λ x.
      with (behind symbol.Comma x.1) (λ mid. more_arguments_at texts h p body (n - (i + 1)) (front ++ x.0 ∷ []) mid)
      (behind symbol.CloseParen x.1 >>= λ rest. Some (expressions (front ++ x.0 ∷ []), first_span x.1, rest)))
  unfolding more_arguments_at
  arguments_step n i front ts lt =
      let eq : n - i ≡ suc (n - (i + 1)) = omega arith in
      rw eq refl

  pub arguments_none : (n i : ℕ) (front : List Expression) (ts : List Token) → n ≤ i → more_arguments_at texts h p body (n - i) front ts ≡ None
  unfolding more_arguments_at
  arguments_none n i front ts le =
      let eq : n - i ≡ 0 = omega arith in
      rw eq refl

  pub lengths_step : (n i : ℕ) (front : List Expression) (s : Span) (ts : List Token) → i < n →
      more_lengths_at texts h p body (n - i) front s ts ≡ with (length_at texts h p body ts) (λ x. more_lengths_at texts h p body (n - (i + 1)) (front ++ x.0 ∷ []) x.1 x.2) (expressions front, s, ts)
  unfolding more_lengths_at
  lengths_step n i front s ts lt =
      let eq : n - i ≡ suc (n - (i + 1)) = omega arith in
      rw eq refl

  pub lengths_none : (n i : ℕ) (front : List Expression) (s : Span) (ts : List Token) → n ≤ i → more_lengths_at texts h p body (n - i) front s ts ≡ (expressions front, s, ts)
  unfolding more_lengths_at
  lengths_none n i front s ts le =
      let eq : n - i ≡ 0 = omega arith in
      rw eq refl

  pub arguments_absent : (ts : List Token) → behind symbol.OpenParen ts ≡ None → arguments_at texts h p body ts ≡ None
  unfolding arguments_at
  arguments_absent ts none = rw none refl

  pub arguments_some : (ts inside : List Token) → behind symbol.OpenParen ts ≡ Some inside → behind symbol.CloseParen inside ≡ None →
      arguments_at texts h p body ts ≡ more_arguments_at texts h p body (length inside) [] inside
  unfolding arguments_at
  arguments_some ts inside opened more = rw (opened, more) refl

  pub selections_step : (n i : ℕ) (e : Expression) (ts : List Token) → i < n →
      selections_at texts h p body (n - i) e ts ≡ one_selection texts h p body (selections_at texts h p body (n - (i + 1))) e ts
  unfolding selections_at
  selections_step n i e ts lt =
      let eq : n - i ≡ suc (n - (i + 1)) = omega arith in
      rw eq refl

  pub selections_none : (n i : ℕ) (e : Expression) (ts : List Token) → n ≤ i → selections_at texts h p body (n - i) e ts ≡ (e, ts)
  unfolding selections_at
  selections_none n i e ts le =
      let eq : n - i ≡ 0 = omega arith in
      rw eq refl

  pub increments_step : (n i : ℕ) (e : Expression) (ts : List Token) → i < n →
      increments_at texts h p body (n - i) e ts ≡ (if nat_lt h (height e) then (e, ts)
      else with (postfix_operator ts) (λ x. increments_at texts h p body (n - (i + 1)) (tree.postfix x.0 (first_span ts) e (join (span_of e) (first_span ts))) x.1) (e, ts))
  unfolding increments_at
  increments_step n i e ts lt =
      let eq : n - i ≡ suc (n - (i + 1)) = omega arith in
      rw eq refl

  pub increments_none : (n i : ℕ) (e : Expression) (ts : List Token) → n ≤ i → increments_at texts h p body (n - i) e ts ≡ (e, ts)
  unfolding increments_at
  increments_none n i e ts le =
      let eq : n - i ≡ 0 = omega arith in
      rw eq refl

  pub operations_step : (n i least most : ℕ) (e : Expression) (ts : List Token) → i < n →
      operations_at texts h p body (n - i) least most e ts ≡ one_operation texts h p body (operations_at texts h p body (n - (i + 1)) least) least most e ts
  unfolding operations_at
  operations_step n i least most e ts lt =
      let eq : n - i ≡ suc (n - (i + 1)) = omega arith in
      rw eq refl

  pub operations_none : (n i least most : ℕ) (e : Expression) (ts : List Token) → n ≤ i →
      operations_at texts h p body (n - i) least most e ts ≡ (e, ts)
  unfolding operations_at
  operations_none n i least most e ts le =
      let eq : n - i ≡ 0 = omega arith in
      rw eq refl

  pub values_step : (n i : ℕ) (front : List Expression) (ts : List Token) → i < n →
      values_at texts h p body (n - i) front ts ≡ with (behind symbol.CloseBrace ts) (λ rest. Some (expressions front, first_span ts, rest))
      (p.initializer ts >>= λ x. with (behind symbol.Comma x.1) (λ mid. values_at texts h p body (n - (i + 1)) (front ++ x.0 ∷ []) mid)
      (if is_symbol symbol.CloseBrace x.1 then values_at texts h p body (n - (i + 1)) (front ++ x.0 ∷ []) x.1 else None))
  unfolding values_at
  values_step n i front ts lt =
      let eq : n - i ≡ suc (n - (i + 1)) = omega arith in
      rw eq refl

  pub values_none : (n i : ℕ) (front : List Expression) (ts : List Token) → n ≤ i → values_at texts h p body (n - i) front ts ≡ None
  unfolding values_at
  values_none n i front ts le =
      let eq : n - i ≡ 0 = omega arith in
      rw eq refl
