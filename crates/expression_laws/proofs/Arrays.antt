-- What is read as an array initializer is spelled.
use Rattle.std.proofs.Common.{◌≡◌, ℕ, zero, suc, ◌≤◌, List, [], ◌∷◌, ◌++◌, length, IfSome, refl, ap, ◌∙◌, subst, arith, append_assoc}
use Rattle.je_base.specs.declared.span.Span.{Span}
use Rattle.je_token.specs.declared.symbol.Symbol.TheVariants as symbol
use Rattle.je_token.specs.declared.token.Token.{Token}
use Rattle.je_token.specs.declared.token.TokenKind.TheVariants as kind
use Rattle.je_ast.specs.Trees.{Expression, Expressions, Member, Members}
use Rattle.je_ast.specs.Trees as tree
use Rattle.je_ast.specs.Height.{height, heights}
use Rattle.je_ast.specs.Spans.{join}
use Rattle.je_grammar.specs.Tokens.{it_is, first_span}
use Rattle.je_grammar.specs.Grammar.{SpellsInit, expression_init, array_init, SpellsArrayInit, is_array_init, SpellsInits, no_inits, comma_alone, some_inits, SpellsMoreInits, last_init, last_init_and_comma, more_inits}
use Rattle.parse_laws.specs.way.Tokens.{behind, is_symbol}
use Rattle.parse_laws.specs.way.Below.{Below}
use Rattle.parse_laws.specs.way.Lists.{expressions}
use Rattle.parse_laws.specs.way.Readers.{IsRead, IsBelow, any}
use Rattle.parse_laws.specs.way.Expressions.{Closed, behind_lone_comma, values_at, array_initializer_layer}
use Rattle.parse_laws.proofs.Rules.{bind, either, choose, weaken}
use Rattle.parse_laws.proofs.Fronts.{Front, front, behind_front, behind_of}
use Rattle.expression_laws.proofs.Begins.{close_brace_begins_none}
use Rattle.expression_laws.proofs.Primaries.{front_of}

module _ (names texts : List (List ℕ)) where
  -- the values behind others, up to the brace
  data Values (h : ℕ) (before : List Expression) (ts : List Token) (y : Expressions × Span × List Token) : Type 0 where
    ended : {rest : List Token} → Front (kind.Symbol symbol.CloseBrace) ts rest → y ≡ (expressions before, first_span ts, rest) → Values h before ts y
    some_values : (items : List Expression) → y.0 ≡ expressions (before ++ items) → SpellsMoreInits names texts (expressions items) y.1 ts y.2 → heights (expressions items) ≤ h → Values h before ts y

  last_value : {e : Expression} {ts last rest : List Token} → SpellsInit names texts e ts last → Front (kind.Symbol symbol.CloseBrace) last rest →
      SpellsMoreInits names texts (tree.more_expressions e tree.no_expressions) (first_span last) ts rest
  last_value d (front c) = last_init d c

  last_value_and_comma : {e : Expression} {ts next last rest : List Token} → SpellsInit names texts e ts next → Front (kind.Symbol symbol.Comma) next last → Front (kind.Symbol symbol.CloseBrace) last rest →
      SpellsMoreInits names texts (tree.more_expressions e tree.no_expressions) (first_span last) ts rest
  last_value_and_comma d (front k) (front c) = last_init_and_comma d k c

  value_then : {e : Expression} {es : Expressions} {c : Span} {ts next mid rest : List Token} → SpellsInit names texts e ts next → Front (kind.Symbol symbol.Comma) next mid → SpellsMoreInits names texts es c mid rest →
      SpellsMoreInits names texts (tree.more_expressions e es) c ts rest
  value_then d (front k) l = more_inits d k l

  no_value : {ts rest : List Token} → Front (kind.Symbol symbol.CloseBrace) ts rest → SpellsInits names texts tree.no_expressions (first_span ts) ts rest
  no_value (front c) = no_inits c

  lone_comma : {ts mid rest : List Token} → Front (kind.Symbol symbol.Comma) ts mid → Front (kind.Symbol symbol.CloseBrace) mid rest → SpellsInits names texts tree.no_expressions (first_span mid) ts rest
  lone_comma (front k) (front c) = comma_alone k c

  array_in : {es : Expressions} {c : Span} {ts inside rest : List Token} → Front (kind.Symbol symbol.OpenBrace) ts inside → SpellsInits names texts es c inside rest →
      SpellsArrayInit names texts (tree.array_init es (join (first_span ts) c)) ts rest
  array_in (front o) i = is_array_init o i

  pub close_brace_begins_no_value : {e : Expression} {ts behind_it rest : List Token} → Front (kind.Symbol symbol.CloseBrace) ts behind_it → ¬ SpellsInit names texts e ts rest
  close_brace_begins_no_value f (expression_init d) = close_brace_begins_none names texts f d
  close_brace_begins_no_value (front it_is) (array_init (is_array_init o i)) = elim o [ ]

  close_brace_begins_no_values : {es : Expressions} {c : Span} {ts behind_it rest : List Token} → Front (kind.Symbol symbol.CloseBrace) ts behind_it → ¬ SpellsMoreInits names texts es c ts rest
  close_brace_begins_no_values f (last_init d c) = close_brace_begins_no_value f d
  close_brace_begins_no_values f (last_init_and_comma d k c) = close_brace_begins_no_value f d
  close_brace_begins_no_values f (more_inits d k l) = close_brace_begins_no_value f d

  -- what stands behind a comma that only a closing brace follows
  data Lone (ts : List Token) (mid : List Token) : Type 0 where
    the_same : mid ≡ ts → Lone ts mid
    skipped : {rest : List Token} → Front (kind.Symbol symbol.Comma) ts mid → Front (kind.Symbol symbol.CloseBrace) mid rest → Lone ts mid

  record GoodInits (h : ℕ) (ts : List Token) (y : Expressions × Span × List Token) : Type 0 where
    spelled : SpellsInits names texts y.0 y.1 ts y.2
    within : heights y.0 ≤ h

  module _ (h : ℕ) (p : Below) (body : List Token → Closed Members) (below : IsBelow names texts h p) where
    lone_sound : (ts : List Token) → Lone ts (behind_lone_comma texts h p body ts)
    unfolding behind_lone_comma
    lone_sound ts = either (behind symbol.Comma ts) _ ts (Front (kind.Symbol symbol.Comma) ts) (Lone ts) (behind_front (kind.Symbol symbol.Comma) ts)
        (λ rest k. choose (is_symbol symbol.CloseBrace rest) rest ts (Lone ts) (λ e. skipped k (front_of (kind.Symbol symbol.CloseBrace) rest e).1) (λ _. the_same refl)) (the_same refl)

    then_values : (before : List Expression) {e : Expression} {ts next mid : List Token} {y : Expressions × Span × List Token} → SpellsInit names texts e ts next → height e ≤ h → Front (kind.Symbol symbol.Comma) next mid →
        Values h (before ++ e ∷ []) mid y → Values h before ts y
    then_values before {e} d le k (ended c w) = some_values (e ∷ []) (ap (λ (z : Expressions × Span × List Token). z.0) w) (rw w (last_value_and_comma d k c)) (omega arith)
    then_values before {e} d le k (some_values items w l b) = some_values (e ∷ items) (w ∙ ap expressions (append_assoc before (e ∷ []) items)) (value_then d k l) (omega arith)

    values_close : (n : ℕ) (before : List Expression) {ts rest : List Token} → Front (kind.Symbol symbol.CloseBrace) ts rest → IfSome (values_at texts h p body n before ts) (λ y. y ≡ (expressions before, first_span ts, rest))
    unfolding values_at
    values_close zero before c = tt
    values_close (suc n) before c = rw (behind_of c) refl

    values_sound : (n : ℕ) (before : List Expression) (ts : List Token) → IfSome (values_at texts h p body n before ts) (Values h before ts)
    unfolding values_at
    values_sound zero before ts = tt
    values_sound (suc n) before ts =
        either (behind symbol.CloseBrace ts) _ _ (Front (kind.Symbol symbol.CloseBrace) ts) (λ o. IfSome o (Values h before ts)) (behind_front (kind.Symbol symbol.CloseBrace) ts) (λ rest f. ended f refl)
        (bind (p.initializer ts) _ (IsRead (SpellsInit names texts) height any h ts) (Values h before ts) (below.initializer.sound ts)
        (λ x g. either (behind symbol.Comma x.1) _ _ (Front (kind.Symbol symbol.Comma) x.1) (λ o. IfSome o (Values h before ts)) (behind_front (kind.Symbol symbol.Comma) x.1)
        (λ mid k. weaken _ (Values h (before ++ x.0 ∷ []) mid) (Values h before ts) (values_sound n (before ++ x.0 ∷ []) mid) (λ y v. then_values before g.spelled g.within k v))
        (choose (is_symbol symbol.CloseBrace x.1) _ _ (λ o. IfSome o (Values h before ts))
        (λ e. let c = front_of (kind.Symbol symbol.CloseBrace) x.1 e in
        weaken _ (λ y. y ≡ (expressions (before ++ x.0 ∷ []), first_span x.1, c.0)) (Values h before ts) (values_close n (before ++ x.0 ∷ []) c.1)
        (λ y w. some_values (x.0 ∷ []) (ap (λ (z : Expressions × Span × List Token). z.0) w) (rw w (last_value g.spelled c.1)) (let a = g.within in omega arith)))
        (λ _. tt))))

    inits_of : {ts mid : List Token} {y : Expressions × Span × List Token} → Lone ts mid → Values h [] mid y → GoodInits h ts y
    inits_of {mid = mid} (the_same e) (ended {rest} c w) = record { spelled = rw w (subst (λ u. SpellsInits names texts tree.no_expressions (first_span mid) u rest) e (no_value c)); within = rw w (omega arith) }
    inits_of {y = y} (the_same e) (some_values items w l b) = record { spelled = rw w (subst (λ u. SpellsInits names texts (expressions items) y.1 u y.2) e (some_inits l)); within = rw w b }
    inits_of (skipped k c) (ended d w) = record { spelled = rw w (lone_comma k d); within = rw w (omega arith) }
    inits_of (skipped k c) (some_values items w l b) = absurd (close_brace_begins_no_values c l)

    pub array_initializer_sound : (ts : List Token) → IfSome (array_initializer_layer texts h p body ts) (IsRead (SpellsArrayInit names texts) height any (suc h) ts)
    unfolding array_initializer_layer
    array_initializer_sound ts =
        bind (behind symbol.OpenBrace ts) _ (Front (kind.Symbol symbol.OpenBrace) ts) (IsRead (SpellsArrayInit names texts) height any (suc h) ts) (behind_front (kind.Symbol symbol.OpenBrace) ts)
        (λ inside o. bind (values_at texts h p body (length inside) [] (behind_lone_comma texts h p body inside)) _ (GoodInits h inside) (IsRead (SpellsArrayInit names texts) height any (suc h) ts)
        (weaken _ (Values h [] (behind_lone_comma texts h p body inside)) (GoodInits h inside) (values_sound (length inside) [] (behind_lone_comma texts h p body inside)) (λ y v. inits_of (lone_sound inside) v))
        (λ y i. record { spelled = array_in o i.spelled; fits = tt; within = let a = i.within in omega arith }))
