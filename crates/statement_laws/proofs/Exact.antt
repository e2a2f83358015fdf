-- Statements are read where they are spelled, or something longer where the next token goes on with them.
use Rattle.std.proofs.Common.{◌≡◌, ℕ, ◌<◌, ◌≤◌, true, false, List, [], ◌∷◌, length, Option, Some, None, IfSome, refl, arith}
use Rattle.je_base.specs.declared.span.Span.{Span}
use Rattle.je_token.specs.declared.keyword.Keyword.TheVariants as word
use Rattle.je_token.specs.declared.symbol.Symbol.TheVariants as symbol
use Rattle.je_token.specs.declared.token.Token.{Token}
use Rattle.je_token.specs.declared.token.TokenKind.TheVariants as kind
use Rattle.je_ast.specs.declared.name.Identifier.{Identifier}
use Rattle.je_ast.specs.Trees.{Expression, Expressions, MaybeExpression, Statement, Statements, ForInitializer, Variables, Groups}
use Rattle.je_ast.specs.Trees as tree
use Rattle.je_ast.specs.Height.{height, height_if}
use Rattle.je_ast.specs.Spans.{join, statement_span}
use Rattle.je_grammar.specs.Tokens.{it_is, IsWord, IsSymbol, first_span}
use Rattle.je_grammar.specs.Context.{is_step, ends_short}
use Rattle.je_grammar.specs.Grammar.{Spells, SpellsMaybe, nothing, something, SpellsMaybeLabel, no_label, a_label, SpellsCondition, condition}
use Rattle.parse_laws.specs.way.Tokens.{◌>>=◌, with, Read, is_word}
use Rattle.parse_laws.specs.way.Below.{Below}
use Rattle.parse_laws.specs.way.Readers.{IsBelow, Reads, itself, longer, continues, GoesOn}
use Rattle.parse_laws.specs.way.Statements.{inner_block_at, condition_at, else_at, if_at, while_at, do_at, labelled_at, break_at, continue_at, return_at, throw_at, expression_statement_at, switch_at, block_statements_at, groups_at}
use Rattle.statement_laws.proofs.Stops.{begins_expression, no_front, expression_first}
use Rattle.statement_laws.proofs.Groups.{whole}
use Rattle.statement_laws.proofs.Sound.{IsElse, else_sound}
use Rattle.je_grammar.specs.Grammar.{is_statement}
use Rattle.je_grammar.proofs.AtLeastOne.{statements_spell_some}
use Rattle.parse_laws.proofs.Rules.{weaken}
use Rattle.parse_laws.proofs.Fronts.{Front, front}

-- what goes on with a statement goes on with one that ends in it
pub through : {o : Read Statement} {b : Statement} {rest : List Token} {G H : Type 0} (f : Statement → Statement) → Reads o b rest G → (G → H) → Reads (o >>= λ x. Some (f x.0, x.1)) (f b) rest H
through f (itself q) g = rw q (itself refl)
through f (longer q lt s) g = rw q (longer refl lt (g s))

module _ (names texts : List (List ℕ)) (h : ℕ) (p : Below) (below : IsBelow names texts h p) where
  pub condition_exact : {e : Expression} {ts rest : List Token} → SpellsCondition names texts e ts rest → height e ≤ h → condition_at h p ts ≡ Some (e, rest)
  unfolding condition_at
  condition_exact (condition it_is d it_is) low = rw (whole names texts h p below d low refl) refl

  -- ---- what ends with its own token

  pub inner_block_exact : {bs : Statements} {c : Span} {o : Token} (ts : List Token) {rest : List Token} → IsSymbol symbol.OpenBrace o → block_statements_at h p ts ≡ Some (bs, c, rest) → inner_block_at h p (o ∷ ts) ≡ Some (tree.block o.span bs c, rest)
  unfolding inner_block_at
  inner_block_exact ts it_is e = rw e refl

  pub break_exact : (w : Span) {n : Option Identifier} {c : Token} {ts rest : List Token} → SpellsMaybeLabel n ts (c ∷ rest) → IsSymbol symbol.Semicolon c → break_at h p w ts ≡ Some (tree.break w n (join w c.span), rest)
  unfolding break_at
  break_exact w no_label it_is = refl
  break_exact w (a_label it_is) it_is = refl

  pub continue_exact : (w : Span) {n : Option Identifier} {c : Token} {ts rest : List Token} → SpellsMaybeLabel n ts (c ∷ rest) → IsSymbol symbol.Semicolon c → continue_at h p w ts ≡ Some (tree.continue w n (join w c.span), rest)
  unfolding continue_at
  continue_exact w no_label it_is = refl
  continue_exact w (a_label it_is) it_is = refl

  pub return_exact : (w : Span) {e : MaybeExpression} {c : Token} {ts rest : List Token} → SpellsMaybe names texts e ts (c ∷ rest) → IsSymbol symbol.Semicolon c → height_if e ≤ h → return_at h p w ts ≡ Some (tree.return w e (join w c.span), rest)
  unfolding return_at
  return_exact w nothing it_is low = refl
  return_exact w {ts = ts} (something d) it_is low = rw (no_front begins_expression (kind.Symbol symbol.Semicolon) ts refl (expression_first names texts d), whole names texts h p below d low refl) refl

  pub throw_exact : (w : Span) {e : Expression} {c : Token} {ts rest : List Token} → Spells names texts e ts (c ∷ rest) → IsSymbol symbol.Semicolon c → height e ≤ h → throw_at h p w ts ≡ Some (tree.throw w e (join w c.span), rest)
  unfolding throw_at
  throw_exact w d it_is low = rw (whole names texts h p below d low refl) refl

  pub expression_statement_exact : {e : Expression} {c : Token} {ts rest : List Token} → is_step e ≡ true → Spells names texts e ts (c ∷ rest) → IsSymbol symbol.Semicolon c → height e ≤ h →
      expression_statement_at h p ts ≡ Some (tree.expression_statement (first_span ts) e (join (first_span ts) c.span), rest)
  unfolding expression_statement_at
  expression_statement_exact s d it_is low = rw (whole names texts h p below d low refl, s) refl

  pub switch_exact : (w : Span) {e : Expression} {gs : Groups} {c : Span} {o : Token} (ts : List Token) {mid rest : List Token} → condition_at h p ts ≡ Some (e, o ∷ mid) → IsSymbol symbol.OpenBrace o → groups_at h p (length mid) [] mid ≡ Some (gs, c, rest) →
      switch_at h p w ts ≡ Some (tree.switch w e gs (join w c), rest)
  unfolding switch_at
  switch_exact w ts e it_is g = rw (e, g) refl

  -- ---- what ends with another statement

  statement_stop : {o : Read Statement} {b : Statement} {rest : List Token} → Reads o b rest (GoesOn b rest) → continues rest ≡ false → o ≡ Some (b, rest)
  statement_stop (itself q) s = q
  statement_stop (longer q lt g) s = absurd (let a = g.0 in cc)

  pub labelled_exact : (n : Identifier) {b : Statement} {ts rest : List Token} → Reads (p.statement ts) b rest (GoesOn b rest) →
      Reads (labelled_at h p n ts) (tree.labelled n b (join n.span (statement_span b))) rest (GoesOn (tree.labelled n b (join n.span (statement_span b))) rest)
  unfolding labelled_at
  labelled_exact n r = through (λ b. tree.labelled n b (join n.span (statement_span b))) r (λ g. g)

  pub while_exact : (w : Span) {e : Expression} {b : Statement} (ts : List Token) {mid rest : List Token} → condition_at h p ts ≡ Some (e, mid) → Reads (p.statement mid) b rest (GoesOn b rest) →
      Reads (while_at h p w ts) (tree.while w e b (join w (statement_span b))) rest (GoesOn (tree.while w e b (join w (statement_span b))) rest)
  unfolding while_at
  while_exact w {e} ts c r = rw c (through (λ b. tree.while w e b (join w (statement_span b))) r (λ g. g))

  while_stops : {l : Token} (ts : List Token) → IsWord word.While l → continues (l ∷ ts) ≡ false
  while_stops ts it_is = refl

  do_by : (w : Span) {e : Expression} {b : Statement} {l c : Token} {ts mid rest : List Token} → p.statement ts ≡ Some (b, l ∷ mid) → IsWord word.While l → condition_at h p mid ≡ Some (e, c ∷ rest) → IsSymbol symbol.Semicolon c →
      do_at h p w ts ≡ Some (tree.do_while w b e (join w c.span), rest)
  unfolding do_at
  do_by w q it_is e it_is = rw (q, e) refl

  pub do_exact : (w : Span) {e : Expression} {b : Statement} {l c : Token} {ts mid rest : List Token} → Reads (p.statement ts) b (l ∷ mid) (GoesOn b (l ∷ mid)) → IsWord word.While l → condition_at h p mid ≡ Some (e, c ∷ rest) → IsSymbol symbol.Semicolon c →
      do_at h p w ts ≡ Some (tree.do_while w b e (join w c.span), rest)
  do_exact w {mid = mid} r l e c = do_by w (statement_stop r (while_stops mid l)) l e c

  -- ---- `if`

  else_front : {rest mid : List Token} → Front (kind.Keyword word.Else) rest mid → (length mid < length rest) × (continues rest ≡ true)
  else_front (front it_is) = (omega arith, refl)

  else_facts : (x : Statement) (rest : List Token) → IfSome (else_at h p x rest) (λ y. (length y.1 < length rest) × (continues rest ≡ true))
  else_facts x rest = weaken (else_at h p x rest) (IsElse names texts h p below x rest) _ (else_sound names texts h p below x rest)
      (λ y e. let a = else_front e.stands in let b = statements_spell_some names texts _ _ _ (is_statement e.read.spelled) in (omega arith, a.1))

  with_else : (o : Read Statement) (f : Statement × List Token → Statement) (b : Statement) (rest : List Token) → IfSome o (λ y. (length y.1 < length rest) × (continues rest ≡ true)) →
      Reads (with o (λ y. Some (f y, y.1)) (Some (b, rest))) b rest (continues rest ≡ true)
  with_else (Some y) f b rest k = longer refl k.0 k.1
  with_else None f b rest k = itself refl

  with_less : {G : Type 0} (o : Read Statement) (f : Statement × List Token → Statement) (u b : Statement) (less rest : List Token) → IfSome o (λ y. (length y.1 < length less) × (continues less ≡ true)) → length less < length rest → G →
      Reads (with o (λ y. Some (f y, y.1)) (Some (u, less))) b rest G
  with_less (Some y) f u b less rest k lt g = longer refl (let a = k.0 in omega arith) g
  with_less None f u b less rest k lt g = longer refl lt g

  widen : {o : Read Statement} {b : Statement} {rest : List Token} {G H : Type 0} → Reads o b rest G → (G → H) → Reads o b rest H
  widen (itself q) g = itself q
  widen (longer q lt s) g = longer q lt (g s)

  pub if_only_exact : (w : Span) {e : Expression} {x : Statement} (ts : List Token) {mid rest : List Token} → condition_at h p ts ≡ Some (e, mid) → Reads (p.statement mid) x rest (GoesOn x rest) →
      Reads (if_at h p w ts) (tree.if_only w e x (join w (statement_span x))) rest (GoesOn (tree.if_only w e x (join w (statement_span x))) rest)
  unfolding if_at
  if_only_exact w {e} {x} ts {rest = rest} c (itself q) =
      rw (c, q) (widen (with_else (else_at h p x rest) (λ y. tree.if_else w e x y.0 (join w (statement_span y.0))) (tree.if_only w e x (join w (statement_span x))) rest (else_facts x rest)) (λ g. (g, λ _. refl)))
  if_only_exact w {e} {x} ts {rest = rest} c (longer {u} {less} q lt g) =
      rw (c, q) (with_less (else_at h p u less) (λ y. tree.if_else w e u y.0 (join w (statement_span y.0))) (tree.if_only w e u (join w (statement_span u))) (tree.if_only w e x (join w (statement_span x))) less rest (else_facts u less) lt (g.0, λ _. refl))

  else_word : {l : Token} (ts : List Token) → IsWord word.Else l → is_word word.Else (l ∷ ts) ≡ true
  else_word ts it_is = refl

  else_step : (x : Statement) {l : Token} (ts : List Token) → ends_short x ≡ false → IsWord word.Else l → else_at h p x (l ∷ ts) ≡ p.statement ts
  unfolding else_at
  else_step x ts s it_is = rw s refl

  if_else_by : (w : Span) (e : Expression) (x : Statement) {y : Statement} {l : Token} (ts : List Token) {mid last rest : List Token} {G : Type 0} → condition_at h p ts ≡ Some (e, mid) → p.statement mid ≡ Some (x, l ∷ last) → else_at h p x (l ∷ last) ≡ p.statement last →
      Reads (p.statement last) y rest G → Reads (if_at h p w ts) (tree.if_else w e x y (join w (statement_span y))) rest G
  unfolding if_at
  if_else_by w e x ts c q s (itself r) = rw (c, q, s, r) (itself refl)
  if_else_by w e x ts c q s (longer r lt g) = rw (c, q, s, r) (longer refl lt g)

  pub if_else_exact : (w : Span) {e : Expression} {x y : Statement} {l : Token} (ts : List Token) {mid last rest : List Token} → condition_at h p ts ≡ Some (e, mid) → ends_short x ≡ false → Reads (p.statement mid) x (l ∷ last) (GoesOn x (l ∷ last)) → IsWord word.Else l →
      Reads (p.statement last) y rest (GoesOn y rest) → Reads (if_at h p w ts) (tree.if_else w e x y (join w (statement_span y))) rest (GoesOn (tree.if_else w e x y (join w (statement_span y))) rest)
  if_else_exact w {e} {x} ts {last = last} c s (itself q) l r = if_else_by w e x ts c q (else_step x last s l) r
  if_else_exact w ts {last = last} c s (longer q lt g) l r = absurd (let a = g.1 (else_word last l) in cc)
