-- Each array initializer is read where it is spelled.
use Rattle.std.proofs.Common.{◌≡◌, ℕ, zero, suc, ◌<◌, ◌≤◌, List, [], ◌∷◌, ◌++◌, length, Some, None, refl, ap, ◌∙◌, arith, append_assoc}
use Rattle.je_base.specs.declared.span.Span.{Span}
use Rattle.je_token.specs.declared.symbol.Symbol.TheVariants as symbol
use Rattle.je_token.specs.declared.token.Token.{Token}
use Rattle.je_token.specs.declared.token.TokenKind.TheVariants as kind
use Rattle.je_ast.specs.Trees.{Expression, Expressions, Member, Members}
use Rattle.je_ast.specs.Trees as tree
use Rattle.je_ast.specs.Height.{height, heights}
use Rattle.je_ast.specs.Spans.{join}
use Rattle.je_grammar.specs.Tokens.{it_is, IsSymbol}
use Rattle.je_grammar.specs.Grammar.{Spells}
use Rattle.je_grammar.specs.Grammar.{SpellsInit, expression_init, array_init, SpellsArrayInit, is_array_init, SpellsInits, no_inits, comma_alone, some_inits, SpellsMoreInits, last_init, last_init_and_comma, more_inits}
use Rattle.parse_laws.specs.way.Tokens.{behind}
use Rattle.parse_laws.specs.way.Below.{Below}
use Rattle.parse_laws.specs.way.Lists.{expressions}
use Rattle.parse_laws.specs.way.Readers.{IsBelow, itself, longer, reach}
use Rattle.parse_laws.specs.way.Expressions.{Closed, behind_lone_comma, values_at, array_initializer_layer}
use Rattle.je_grammar.proofs.AtLeastOne.{expressions_spell_some}
use Rattle.je_grammar.proofs.Sizes.{size-SpellsInits}
use Rattle.parse_laws.proofs.Fronts.{Front, front}
use Rattle.expression_laws.proofs.Begins.{expression_begins}
use Rattle.expression_laws.proofs.Inner.{not_front, items_of, same_items}
use Rattle.expression_laws.proofs.Arrays.{close_brace_begins_no_value}

module _ (names texts : List (List ℕ)) where
  init_shorter : {e : Expression} {ts rest : List Token} → SpellsInit names texts e ts rest → length rest < length ts
  init_shorter (expression_init d) = expressions_spell_some names texts _ _ _ d
  init_shorter (array_init (is_array_init o i)) = let a = size-SpellsInits names texts i in omega arith

  comma_begins_none : {e : Expression} {ts behind_it rest : List Token} → Front (kind.Symbol symbol.Comma) ts behind_it → ¬ Spells names texts e ts rest
  comma_begins_none (front it_is) d = let b = expression_begins names texts d in cc

  comma_begins_no_value : {e : Expression} {ts behind_it rest : List Token} → Front (kind.Symbol symbol.Comma) ts behind_it → ¬ SpellsInit names texts e ts rest
  comma_begins_no_value f (expression_init d) = comma_begins_none f d
  comma_begins_no_value (front it_is) (array_init (is_array_init o i)) = elim o [ ]

  comma_begins_no_values : {es : Expressions} {c : Span} {ts behind_it rest : List Token} → Front (kind.Symbol symbol.Comma) ts behind_it → ¬ SpellsMoreInits names texts es c ts rest
  comma_begins_no_values f (last_init d c) = comma_begins_no_value f d
  comma_begins_no_values f (last_init_and_comma d k c) = comma_begins_no_value f d
  comma_begins_no_values f (more_inits d k l) = comma_begins_no_value f d

  module _ (h : ℕ) (p : Below) (body : List Token → Closed Members) (below : IsBelow names texts h p) where
    value_exact : {e : Expression} {ts rest : List Token} → SpellsInit names texts e ts rest → height e ≤ h → reach rest ≡ 0 → p.initializer ts ≡ Some (e, rest)
    value_exact {e} {ts} {rest} d low stops = elim (below.initializer.exact e ts rest d tt low) [
      | itself q ↦ q
      | longer q lt goes ↦ let g = goes.1 in absurd (omega arith)
    ]

    close_exact : (n : ℕ) (before : List Expression) {c : Token} (rest : List Token) → 0 < n → IsSymbol symbol.CloseBrace c → values_at texts h p body n before (c ∷ rest) ≡ Some (expressions before, c.span, rest)
    unfolding values_at
    close_exact zero before rest some c = absurd (omega arith)
    close_exact (suc n) before rest some it_is = refl

    last_step : (n : ℕ) (before : List Expression) {e : Expression} (ts : List Token) {c : Token} (rest : List Token) → behind symbol.CloseBrace ts ≡ None → p.initializer ts ≡ Some (e, c ∷ rest) → IsSymbol symbol.CloseBrace c →
        values_at texts h p body (suc n) before ts ≡ values_at texts h p body n (before ++ e ∷ []) (c ∷ rest)
    unfolding values_at
    last_step n before ts rest q e it_is = rw (q, e) refl

    comma_step : (n : ℕ) (before : List Expression) {e : Expression} (ts : List Token) {k : Token} (mid : List Token) → behind symbol.CloseBrace ts ≡ None → p.initializer ts ≡ Some (e, k ∷ mid) → IsSymbol symbol.Comma k →
        values_at texts h p body (suc n) before ts ≡ values_at texts h p body n (before ++ e ∷ []) mid
    unfolding values_at
    comma_step n before ts mid q e it_is = rw (q, e) refl

    close_stops : {c : Token} (rest : List Token) → IsSymbol symbol.CloseBrace c → reach (c ∷ rest) ≡ 0
    close_stops rest it_is = refl

    comma_stops : {c : Token} (rest : List Token) → IsSymbol symbol.Comma c → reach (c ∷ rest) ≡ 0
    comma_stops rest it_is = refl

    no_close : {e : Expression} (ts : List Token) {rest : List Token} → SpellsInit names texts e ts rest → behind symbol.CloseBrace ts ≡ None
    no_close ts d = not_front (kind.Symbol symbol.CloseBrace) ts (λ r f. close_brace_begins_no_value names texts f d)

    values_exact : (n : ℕ) (before : List Expression) {es : Expressions} {c : Span} {ts rest : List Token} → SpellsMoreInits names texts es c ts rest → heights es ≤ h → length ts ≤ n →
        values_at texts h p body n before ts ≡ Some (expressions (before ++ items_of es), c, rest)
    values_exact zero before (last_init d c) low le = absurd (let a = init_shorter d in omega arith)
    values_exact zero before (last_init_and_comma d k c) low le = absurd (let a = init_shorter d in omega arith)
    values_exact zero before (more_inits d k l) low le = absurd (let a = init_shorter d in omega arith)
    values_exact (suc n) before {ts = ts} {rest} (last_init {e} d c) low le =
        last_step n before ts rest (no_close ts d) (value_exact d (omega arith) (close_stops rest c)) c ∙ close_exact n (before ++ e ∷ []) rest (let a = init_shorter d in omega arith) c
    values_exact (suc n) before {ts = ts} {rest} (last_init_and_comma {e} {c = b} d k c) low le =
        comma_step n before ts (b ∷ rest) (no_close ts d) (value_exact d (omega arith) (comma_stops (b ∷ rest) k)) k ∙ close_exact n (before ++ e ∷ []) rest (let a = init_shorter d in omega arith) c
    values_exact (suc n) before {c = s} {ts = ts} {rest} (more_inits {e} {es} {mid = mid} d k l) low le =
        comma_step n before ts mid (no_close ts d) (value_exact d (omega arith) (comma_stops mid k)) k
        ∙ values_exact n (before ++ e ∷ []) l (omega arith) (let a = init_shorter d in omega arith)
        ∙ ap (λ (xs : List Expression). Some (expressions xs, s, rest)) (append_assoc before (e ∷ []) (items_of es))

    no_lone_comma : {es : Expressions} {c : Span} (ts : List Token) {rest : List Token} → SpellsMoreInits names texts es c ts rest → behind_lone_comma texts h p body ts ≡ ts
    unfolding behind_lone_comma
    no_lone_comma ts l = rw (not_front (kind.Symbol symbol.Comma) ts (λ r f. comma_begins_no_values f l)) refl

    a_lone_comma : {k c : Token} (rest : List Token) → IsSymbol symbol.Comma k → IsSymbol symbol.CloseBrace c → behind_lone_comma texts h p body (k ∷ c ∷ rest) ≡ c ∷ rest
    unfolding behind_lone_comma
    a_lone_comma rest it_is it_is = refl

    no_comma : {c : Token} (rest : List Token) → IsSymbol symbol.CloseBrace c → behind_lone_comma texts h p body (c ∷ rest) ≡ c ∷ rest
    unfolding behind_lone_comma
    no_comma rest it_is = refl

    inits_exact : {es : Expressions} {c : Span} {ts rest : List Token} → SpellsInits names texts es c ts rest → heights es ≤ h → values_at texts h p body (length ts) [] (behind_lone_comma texts h p body ts) ≡ Some (es, c, rest)
    inits_exact {rest = rest} (no_inits {c} i) low = rw (no_comma rest i) (close_exact (length (c ∷ rest)) [] rest (omega arith) i)
    inits_exact {rest = rest} (comma_alone {k} {c} i j) low = rw (a_lone_comma rest i j) (close_exact (length (k ∷ c ∷ rest)) [] rest (omega arith) j)
    inits_exact {es} {c} {ts} {rest} (some_inits l) low = rw (no_lone_comma ts l) (values_exact (length ts) [] l low (omega arith) ∙ ap (λ (xs : Expressions). Some (xs, c, rest)) (same_items es))

    array_by : {es : Expressions} {c : Span} {o : Token} (ts : List Token) {rest : List Token} → IsSymbol symbol.OpenBrace o → values_at texts h p body (length ts) [] (behind_lone_comma texts h p body ts) ≡ Some (es, c, rest) →
        array_initializer_layer texts h p body (o ∷ ts) ≡ Some (tree.array_init es (join o.span c), rest)
    unfolding array_initializer_layer
    array_by ts it_is e = rw e refl

    pub array_initializer_exact : {e : Expression} {ts rest : List Token} → SpellsArrayInit names texts e ts rest → height e ≤ suc h → array_initializer_layer texts h p body ts ≡ Some (e, rest)
    array_initializer_exact (is_array_init {ts = ts} o i) low = array_by ts o (inits_exact i (omega arith))
