-- The loops of the reading functions, at a count n of which i are used.
use Rattle.std.proofs.Common.{◌≡◌, ℕ, suc, ◌+◌, ◌-◌, ◌<◌, ◌≤◌, true, false, Some, None, List, [], ◌∷◌, ◌++◌, refl, arith}
use Rattle.je_token.specs.declared.symbol.Symbol.TheVariants as symbol
use Rattle.je_token.specs.declared.token.Token.{Token}
use Rattle.je_ast.specs.Types.{QualifiedName}
use Rattle.je_ast.specs.Trees.{Declaration}
use Rattle.parse_laws.specs.way.Tokens.{with, behind}
use Rattle.parse_laws.specs.way.Knot.{import_at, imports_at, is_end, declaration_at, declarations_at}

module _ (names texts : List (List ℕ)) where
  pub imports_step : (n i : ℕ) (front : List QualifiedName) (ts : List Token) → i < n →
      imports_at names texts (n - i) front ts ≡ with (import_at names texts ts) (λ x. imports_at names texts (n - (i + 1)) (front ++ x.0 ∷ []) x.1) (front, ts)
  unfolding imports_at
  imports_step n i front ts lt =
      let eq : n - i ≡ suc (n - (i + 1)) = omega arith in
      rw eq refl

  pub imports_none : (n i : ℕ) (front : List QualifiedName) (ts : List Token) → n ≤ i → imports_at names texts (n - i) front ts ≡ (front, ts)
  unfolding imports_at
  imports_none n i front ts le =
      let eq : n - i ≡ 0 = omega arith in
      rw eq refl

  module _ (most : ℕ) where
    pub end_step : (n i : ℕ) (front : List Declaration) (ts : List Token) → i < n → is_end ts ≡ true → declarations_at names texts (n - i) most front ts ≡ Some front
    unfolding declarations_at
    end_step n i front ts lt e =
        let eq : n - i ≡ suc (n - (i + 1)) = omega arith in
        rw (eq, e) refl

    pub semicolon_step : (n i : ℕ) (front : List Declaration) (ts rest : List Token) → i < n → is_end ts ≡ false → behind symbol.Semicolon ts ≡ Some rest →
        declarations_at names texts (n - i) most front ts ≡ declarations_at names texts (n - (i + 1)) most front rest
    unfolding declarations_at
    semicolon_step n i front ts rest lt e f =
        let eq : n - i ≡ suc (n - (i + 1)) = omega arith in
        rw (eq, e, f) refl

    pub declaration_step : (n i : ℕ) (front : List Declaration) (ts rest : List Token) (d : Declaration) → i < n → is_end ts ≡ false → behind symbol.Semicolon ts ≡ None → declaration_at names texts most ts ≡ Some (d, rest) →
        declarations_at names texts (n - i) most front ts ≡ declarations_at names texts (n - (i + 1)) most (front ++ d ∷ []) rest
    unfolding declarations_at
    declaration_step n i front ts rest d lt e f g =
        let eq : n - i ≡ suc (n - (i + 1)) = omega arith in
        rw (eq, e, f, g) refl

    pub stuck_step : (n i : ℕ) (front : List Declaration) (ts : List Token) → i < n → is_end ts ≡ false → behind symbol.Semicolon ts ≡ None → declaration_at names texts most ts ≡ None →
        declarations_at names texts (n - i) most front ts ≡ None
    unfolding declarations_at
    stuck_step n i front ts lt e f g =
        let eq : n - i ≡ suc (n - (i + 1)) = omega arith in
        rw (eq, e, f, g) refl

    pub declarations_none : (n i : ℕ) (front : List Declaration) (ts : List Token) → n ≤ i → declarations_at names texts (n - i) most front ts ≡ None
    unfolding declarations_at
    declarations_none n i front ts le =
        let eq : n - i ≡ 0 = omega arith in
        rw eq refl
