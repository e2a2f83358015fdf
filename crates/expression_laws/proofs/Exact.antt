-- Each expression is read where it is spelled, or something longer where what is behind it can go on.
use Rattle.std.proofs.Common.{◌≡◌, ℕ, zero, suc, ◌+◌, ◌<◌, ◌≤◌, min, max, true, false, List, ◌∷◌, Option, Some, None, refl, sym, ap, ◌∙◌, arith, nat_lt}
use Rattle.std.proofs.lemmas.Bool.{le-ltb}
use Rattle.je_token.specs.declared.keyword.Keyword.TheVariants as word
use Rattle.je_token.specs.declared.symbol.Symbol.{Symbol}
use Rattle.je_token.specs.declared.symbol.Symbol.TheVariants as symbol
use Rattle.je_token.specs.declared.token.Token.{Token}
use Rattle.je_ast.specs.declared.operator.BinaryOp.{BinaryOp}
use Rattle.je_ast.specs.declared.operator.PrefixOp.{PrefixOp}
use Rattle.je_ast.specs.declared.operator.PrefixOp.TheVariants as prefix_op
use Rattle.je_ast.specs.Types.{TypeName, primitive, class_type, no_types}
use Rattle.je_ast.specs.Trees.{Expression, Expressions, Member, Members}
use Rattle.je_ast.specs.Trees as tree
use Rattle.je_ast.specs.Height.{height}
use Rattle.je_ast.specs.Spans.{join, span_of, type_span}
use Rattle.je_grammar.specs.Tokens.{it_is, IsWord, IsSymbol}
use Rattle.je_grammar.specs.Operators.{level, operator_level, operator_symbol, prefix_symbol, assignment_symbol}
use Rattle.je_grammar.specs.Grammar.{Spells, is_primitive_cast, is_class_cast, is_prefix, is_binary, is_instance_of, is_conditional, is_assign}
use Rattle.parse_laws.specs.way.Tokens.{Read, ◌>>=◌}
use Rattle.parse_laws.specs.way.Types.{plain_type_at, is_cast_at}
use Rattle.parse_laws.specs.way.Below.{Below}
use Rattle.parse_laws.specs.way.Readers.{IsBelow, Reads, itself, longer, reach}
use Rattle.parse_laws.specs.way.Expressions.{Closed, postfix_at, may_be_cast, cast_at, prefix_at, unary_at, binary_step, operation_step, operations_at, choices_at, conditional_at, assignment_at, expression_layer}
use Rattle.expression_laws.specs.way.Parts.{ReadTypes, ReadBodies}
use Rattle.parse_laws.proofs.Fronts.{front}
use Rattle.expression_laws.proofs.Fronts.{a_primitive, a_class}
use Rattle.expression_laws.proofs.Begins.{operators_from, operators_to, lowest}
use Rattle.expression_laws.proofs.Moves.{Moves, still, moved, no_longer, operations_move, conditional_move, assignment_move, operator_goes_on, assignment_goes_on}
use Rattle.expression_laws.proofs.Inner.{whole}
use Rattle.expression_laws.proofs.Postfix.{Comes, by_it, past_it, postfix_exact}
use Rattle.expression_laws.proofs.Unary.{assignment_stands, binary_stands, no_instance, plain_of, plain_exact, plain_before, class_is_cast, primitive_is_cast, reads_map, Plain, plain, operand}

-- a longer reading, or the tree, each followed by a loop
then_moves : {o : Read Expression} {e : Expression} {rest : List Token} {g goes_on : Type 0} (loop : Expression → List Token → Expression × List Token) (turn : List Token → Type 0) → Reads o e rest g →
    ((u : Expression) (less : List Token) → Moves (turn less) u less (loop u less)) → (g → goes_on) → (turn rest → goes_on) → Reads (o >>= λ x. Some (loop x.0 x.1)) e rest goes_on
then_moves {e = e} {rest} loop turn (itself q) m k j = elim (m e rest) [
  | still s ↦ itself (ap (λ (o : Read Expression). o >>= λ x. Some (loop x.0 x.1)) q ∙ ap (λ (x : Expression × List Token). Some x) s)
  | moved lt t ↦ longer (ap (λ (o : Read Expression). o >>= λ x. Some (loop x.0 x.1)) q) lt (j t)
]
then_moves loop turn (longer {u} {less} q lt g) m k j = longer (ap (λ (o : Read Expression). o >>= λ x. Some (loop x.0 x.1)) q) (let a = no_longer (m u less) in omega arith) (k g)

module _ (names texts : List (List ℕ)) (h : ℕ) (p : Below) (body : List Token → Closed Members) (below : IsBelow names texts h p) (bodies : ReadBodies names texts h body) (types : ReadTypes h) where
  unary_plain : (ts : List Token) → Plain names texts ts → unary_at texts h p body ts ≡ postfix_at texts h p body ts
  unfolding unary_at
  unary_plain ts r = rw (r.no_prefix, r.no_cast) refl

  unary_prefix : (o : PrefixOp) {a : Token} (ts : List Token) → IsSymbol (prefix_symbol o) a → unary_at texts h p body (a ∷ ts) ≡ (p.expression 13 ts >>= λ x. Some (tree.prefix o a.span x.0 (join a.span (span_of x.0)), x.1))
  unfolding unary_at prefix_at
  unary_prefix prefix_op.Plus ts it_is = refl
  unary_prefix prefix_op.Minus ts it_is = refl
  unary_prefix prefix_op.Increment ts it_is = refl
  unary_prefix prefix_op.Decrement ts it_is = refl
  unary_prefix prefix_op.Not ts it_is = refl
  unary_prefix prefix_op.Tilde ts it_is = refl

  unary_cast : {t : TypeName} {o c : Token} (ts mid : List Token) → IsSymbol symbol.OpenParen o → is_cast_at (o ∷ ts) ≡ true → plain_type_at ts ≡ Some (t, c ∷ mid) → IsSymbol symbol.CloseParen c → may_be_cast texts h p body t mid ≡ true →
      unary_at texts h p body (o ∷ ts) ≡ (p.expression 13 mid >>= λ x. Some (tree.cast t x.0 (join o.span (span_of x.0)), x.1))
  unfolding unary_at cast_at
  unary_cast ts mid it_is e q it_is b = rw (e, q, b) refl

  exact_below : (least : ℕ) {e : Expression} {ts rest : List Token} → 0 < least → least ≤ 13 → Spells names texts e ts rest → least ≤ level e → height e ≤ h → Reads (p.expression least ts) e rest (least ≤ reach rest)
  exact_below least {e} {ts} {rest} above small d le low = (below.expression least above small).exact e ts rest d le low

  unary_exact : {e : Expression} {ts rest : List Token} → Spells names texts e ts rest → 13 ≤ level e → height e ≤ suc h → Reads (unary_at texts h p body ts) e rest (13 ≤ reach rest)
  unary_exact (is_prefix {op = o} {a = a} {ts = ts} x i d) le low = rw (unary_prefix o ts i) (reads_map (λ e. tree.prefix o a.span e (join a.span (span_of e))) (exact_below 13 (omega arith) (omega arith) d x (omega arith)))
  unary_exact (is_primitive_cast {p = q} {o} {t} {c} {n} {s} {ts = ts} {mid} x i w d j e) le low =
      rw (unary_cast (t ∷ ts) mid i (primitive_is_cast q ts i w) (plain_before types (a_primitive w d) (front j)) j refl)
      (reads_map (λ e. tree.cast (primitive q n s) e (join o.span (span_of e))) (exact_below 13 (omega arith) (omega arith) e x (omega arith)))
  unary_exact (is_class_cast {name = m} {o} {c} {n} {s} {ts = ts} {last = last} x i k d j e) le low =
      let r = operand names texts types e x in
      rw (unary_cast ts last i (class_is_cast types i k d (front j) r.0) (plain_before types (a_class k d) (front j)) j r.0)
      (reads_map (λ e. tree.cast (class_type m no_types n s) e (join o.span (span_of e))) (exact_below 13 (omega arith) (omega arith) e r.1 (omega arith)))
  unary_exact (is_binary {op = o} _ _ _ _ _) le low = absurd (omega (arith, operators_to o))
  unary_exact {ts = ts} d le low = rw (unary_plain ts (plain names texts types d (omega arith))) (postfix_exact names texts h p body below bodies types d (omega arith) low)

  -- ---- binary operators

  abbrev operations : ℕ → ℕ → Expression → List Token → Expression × List Token
  operations least n e rest = operations_at texts h p body n least (min 12 (level e)) e rest

  abbrev binary : ℕ → List Token → Read Expression
  binary least ts = unary_at texts h p body ts >>= λ x. Some (operations_at texts h p body (suc h) least 12 x.0 x.1)

  abbrev BinaryBy : ℕ → List Token → Expression → List Token → Type 0
  BinaryBy least ts e rest = Comes (binary least ts) (operations least) (suc (min 12 (level e)) ≤ reach rest) h e rest

  binary_of_unary : {e : Expression} (least : ℕ) (ts : List Token) {rest : List Token} → 0 < least → 13 ≤ level e → Reads (unary_at texts h p body ts) e rest (13 ≤ reach rest) → BinaryBy least ts e rest
  binary_of_unary {e} least ts {rest} above le (itself q) =
      let twelve : min 12 (level e) ≡ 12 = omega arith in
      by_it (suc h) (omega arith) (ap (λ (o : Read Expression). o >>= λ x. Some (operations_at texts h p body (suc h) least 12 x.0 x.1)) q ∙ ap (λ most. Some (operations_at texts h p body (suc h) least most e rest)) (sym twelve))
  binary_of_unary least ts above le (longer {u} {less} q lt g) =
      past_it (ap (λ (o : Read Expression). o >>= λ x. Some (operations_at texts h p body (suc h) least 12 x.0 x.1)) q)
      (let a = no_longer (operations_move names texts h p body below bodies types (suc h) least 12 u less above (omega arith)) in omega arith) (omega arith)

  binary_step_by : (o : BinaryOp) (n least most : ℕ) (l : Expression) {r : Expression} {a : Token} (mid : List Token) {rest : List Token} → height l ≤ h → least ≤ operator_level o → operator_level o ≤ most → IsSymbol (operator_symbol o) a →
      p.expression (operator_level o + 1) mid ≡ Some (r, rest) →
      operations_at texts h p body (suc n) least most l (a ∷ mid) ≡ operations_at texts h p body n least (operator_level o) (tree.binary o a.span l r (join (span_of l) (span_of r))) rest
  unfolding operations_at operation_step binary_step
  binary_step_by o n least most l mid low x y i q =
      let f : nat_lt h (height l) ≡ false = le-ltb _ _ low in
      let g : nat_lt (operator_level o) least ≡ false = le-ltb _ _ x in
      let k : nat_lt most (operator_level o) ≡ false = le-ltb _ _ y in
      rw (f, no_instance mid i, binary_stands o mid i, g, k, q) refl

  instance_step_by : (n least most : ℕ) (l : Expression) {t : TypeName} {w : Token} (mid : List Token) {rest : List Token} → height l ≤ h → least ≤ 9 → 9 ≤ most → IsWord word.InstanceOf w → plain_type_at mid ≡ Some (t, rest) →
      operations_at texts h p body (suc n) least most l (w ∷ mid) ≡ operations_at texts h p body n least 9 (tree.instance_of w.span l t (join (span_of l) (type_span t))) rest
  unfolding operations_at operation_step
  instance_step_by n least most l mid low x y it_is q =
      let f : nat_lt h (height l) ≡ false = le-ltb _ _ low in
      let g : nat_lt 9 least ≡ false = le-ltb _ _ x in
      let k : nat_lt most 9 ≡ false = le-ltb _ _ y in
      rw (f, g, k, q) refl

  one_more_operator : {o : BinaryOp} {a : Token} {l r : Expression} (least : ℕ) (ts : List Token) {mid rest : List Token} → 0 < least → least ≤ operator_level o → operator_level o ≤ level l → height l ≤ h → height r ≤ h → IsSymbol (operator_symbol o) a →
      Reads (p.expression (operator_level o + 1) mid) r rest (operator_level o + 1 ≤ reach rest) → BinaryBy least ts l (a ∷ mid) → BinaryBy least ts (tree.binary o a.span l r (join (span_of l) (span_of r))) rest
  one_more_operator least ts above x y low small i m (by_it zero ge q) = absurd (omega arith)
  one_more_operator {o} {a} {l} {r} least ts {mid} {rest} above x y low small i (itself e) (by_it (suc n) ge q) =
      let twelve = operators_to o in
      let same : min 12 (operator_level o) ≡ operator_level o = omega arith in
      by_it n (omega arith) (q ∙ ap (λ (z : Expression × List Token). Some z) (binary_step_by o n least (min 12 (level l)) l mid low x (omega arith) i e)
      ∙ ap (λ most. Some (operations_at texts h p body n least most (tree.binary o a.span l r (join (span_of l) (span_of r))) rest)) (sym same))
  one_more_operator {o} {a} {l} least ts {mid} above x y low small i (longer {u} {less} e lt g) (by_it (suc n) ge q) =
      let twelve = operators_to o in
      past_it (q ∙ ap (λ (z : Expression × List Token). Some z) (binary_step_by o n least (min 12 (level l)) l mid low x (omega arith) i e))
      (let b = no_longer (operations_move names texts h p body below bodies types n least (operator_level o) (tree.binary o a.span l u (join (span_of l) (span_of u))) less above twelve) in omega arith) (omega arith)
  one_more_operator {o} least ts {mid} above x y low small i m (past_it q lt g) = let twelve = operators_to o in absurd (let r = operator_goes_on o mid i in omega arith)

  instance_goes_on : {w : Token} (ts : List Token) → IsWord word.InstanceOf w → reach (w ∷ ts) ≡ 9
  instance_goes_on ts it_is = refl

  one_more_test : {w : Token} {l : Expression} {t : TypeName} (least : ℕ) (ts : List Token) {mid rest : List Token} → 0 < least → least ≤ 9 → 9 ≤ level l → height l ≤ h → IsWord word.InstanceOf w →
      Reads (plain_type_at mid) t rest (15 ≤ reach rest) → BinaryBy least ts l (w ∷ mid) → BinaryBy least ts (tree.instance_of w.span l t (join (span_of l) (type_span t))) rest
  one_more_test least ts above x y low i m (by_it zero ge q) = absurd (omega arith)
  one_more_test {w} {l} {t} least ts {mid} {rest} above x y low i (itself e) (by_it (suc n) ge q) =
      by_it n (omega arith) (q ∙ ap (λ (z : Expression × List Token). Some z) (instance_step_by n least (min 12 (level l)) l mid low x (omega arith) i e))
  one_more_test {w} {l} least ts {mid} above x y low i (longer {u} {less} e lt g) (by_it (suc n) ge q) =
      past_it (q ∙ ap (λ (z : Expression × List Token). Some z) (instance_step_by n least (min 12 (level l)) l mid low x (omega arith) i e))
      (let b = no_longer (operations_move names texts h p body below bodies types n least 9 (tree.instance_of w.span l u (join (span_of l) (type_span u))) less above (omega arith)) in omega arith) (omega arith)
  one_more_test least ts {mid} above x y low i m (past_it q lt g) = absurd (let r = instance_goes_on mid i in omega arith)

  binary_comes : (least : ℕ) {e : Expression} {ts rest : List Token} → Spells names texts e ts rest → 0 < least → least ≤ level e → 3 ≤ level e → height e ≤ suc h → BinaryBy least ts e rest
  binary_comes least {ts = ts} (is_binary {op = o} x y d i r) above le three low =
      let twelve = operators_to o in
      one_more_operator {o = o} least ts above le x (omega arith) (omega arith) i (exact_below (operator_level o + 1) (omega arith) (omega arith) r (omega arith) (omega arith))
      (binary_comes least d above (omega arith) (omega arith) (omega arith))
  binary_comes least {ts = ts} (is_instance_of x y d i t) above le three low =
      one_more_test least ts above le x (omega arith) i (plain_exact types (plain_of t y)) (binary_comes least d above (omega arith) (omega arith) (omega arith))
  binary_comes least (is_conditional _ _ _ _ _ _ _) above le three low = absurd (omega arith)
  binary_comes least (is_assign _ _ _ _ _) above le three low = absurd (omega arith)
  binary_comes least {ts = ts} d above le three low = binary_of_unary least ts above (omega arith) (unary_exact d (omega arith) low)

  binary_exact : (least : ℕ) {e : Expression} {ts rest : List Token} → Spells names texts e ts rest → 0 < least → least ≤ 13 → least ≤ level e → 3 ≤ level e → height e ≤ suc h → Reads (binary least ts) e rest (max least 3 ≤ reach rest)
  binary_exact least {e} {ts} {rest} d above small le three low = elim (binary_comes least d above le three low) [
    | by_it n ge q ↦ elim (operations_move names texts h p body below bodies types n least (min 12 (level e)) e rest above (omega arith)) [
      | still s ↦ itself (q ∙ ap (λ (x : Expression × List Token). Some x) s)
      | moved lt g ↦ longer q lt g
    ]
    | past_it q lt g ↦ longer q lt (omega arith)
  ]

  -- ---- the conditional operator and assignments

  abbrev conditional : ℕ → List Token → Read Expression
  conditional least ts = binary least ts >>= λ y. Some (conditional_at texts h p body least y.0 y.1)

  layer_by : (least : ℕ) (o : Read Expression) → (o >>= λ x. let y = operations_at texts h p body (suc h) least 12 x.0 x.1 in let z = conditional_at texts h p body least y.0 y.1 in Some (assignment_at texts h p body least z.0 z.1))
      ≡ (((o >>= λ x. Some (operations_at texts h p body (suc h) least 12 x.0 x.1)) >>= λ y. Some (conditional_at texts h p body least y.0 y.1)) >>= λ z. Some (assignment_at texts h p body least z.0 z.1))
  layer_by least (Some x) = refl
  layer_by least None = refl

  layer_parts : (least : ℕ) (ts : List Token) → expression_layer texts h p body least ts ≡ (conditional least ts >>= λ z. Some (assignment_at texts h p body least z.0 z.1))
  unfolding expression_layer
  layer_parts least ts = layer_by least (unary_at texts h p body ts)

  behind_binary : {e : Expression} (least : ℕ) (ts : List Token) {rest : List Token} → Reads (binary least ts) e rest (max least 3 ≤ reach rest) → Reads (conditional least ts) e rest (max least 2 ≤ reach rest)
  behind_binary least ts r = then_moves (conditional_at texts h p body least) (λ less. max least 2 ≤ reach less) r (λ u less. conditional_move names texts h p body below bodies types least u less) (λ g. omega arith) (λ g. g)

  behind_conditional : {e : Expression} (least : ℕ) (ts : List Token) {rest : List Token} → Reads (conditional least ts) e rest (max least 2 ≤ reach rest) → Reads (expression_layer texts h p body least ts) e rest (least ≤ reach rest)
  behind_conditional least ts r = rw (layer_parts least ts)
      (then_moves (assignment_at texts h p body least) (λ less. max least 1 ≤ reach less) r (λ u less. assignment_move names texts h p body below bodies types least u less) (λ g. omega arith) (λ g. omega arith))

  conditional_read : (least : ℕ) (c : Expression) {x u : Expression} {q k : Token} (mid last : List Token) {less : List Token} → least ≤ 2 → height c ≤ h → IsSymbol symbol.Question q → p.expression 1 mid ≡ Some (x, k ∷ last) → IsSymbol symbol.Colon k →
      p.expression 2 last ≡ Some (u, less) → conditional_at texts h p body least c (q ∷ mid) ≡ (tree.conditional q.span c x u (join (span_of c) (span_of u)), less)
  unfolding conditional_at choices_at
  conditional_read least c mid last le low it_is e it_is f =
      let a : nat_lt 2 least ≡ false = le-ltb _ _ le in
      let b : nat_lt h (height c) ≡ false = le-ltb _ _ low in
      rw (a, b, e, f) refl

  assignment_read : (least : ℕ) (o : Option BinaryOp) {y : Symbol} (l : Expression) {u : Expression} {a : Token} (mid : List Token) {less : List Token} → least ≤ 1 → height l ≤ h → 15 ≤ level l → assignment_symbol o ≡ Some y → IsSymbol y a →
      p.expression 1 mid ≡ Some (u, less) → assignment_at texts h p body least l (a ∷ mid) ≡ (tree.assign o a.span l u (join (span_of l) (span_of u)), less)
  unfolding assignment_at
  assignment_read least o l mid le low tight e i f =
      let a : nat_lt 1 least ≡ false = le-ltb _ _ le in
      let b : nat_lt h (height l) ≡ false = le-ltb _ _ low in
      let c : nat_lt (level l) 15 ≡ false = le-ltb _ _ tight in
      rw (a, b, c, assignment_stands o mid e i, f) refl

  question_goes_on : {q : Token} (ts : List Token) → IsSymbol symbol.Question q → reach (q ∷ ts) ≡ 2
  question_goes_on ts it_is = refl

  colon_stops : {k : Token} (ts : List Token) → IsSymbol symbol.Colon k → reach (k ∷ ts) ≡ 0
  colon_stops ts it_is = refl

  -- where nothing longer can be read
  only : {o : Read Expression} {e : Expression} {rest : List Token} {g : Type 0} → Reads o e rest g → ¬ g → o ≡ Some (e, rest)
  only (itself q) n = q
  only (longer q lt g) n = absurd (n g)

  conditional_exact : (least : ℕ) {c x y : Expression} {q k : Token} (ts : List Token) {mid last rest : List Token} → least ≤ 2 → height c ≤ h → IsSymbol symbol.Question q → p.expression 1 mid ≡ Some (x, k ∷ last) → IsSymbol symbol.Colon k →
      binary least ts ≡ Some (c, q ∷ mid) → Reads (p.expression 2 last) y rest (2 ≤ reach rest) → Reads (conditional least ts) (tree.conditional q.span c x y (join (span_of c) (span_of y))) rest (max least 2 ≤ reach rest)
  conditional_exact least {c} ts {mid} {last} le low i e j b (itself f) =
      itself (ap (λ (o : Read Expression). o >>= λ y. Some (conditional_at texts h p body least y.0 y.1)) b ∙ ap (λ (z : Expression × List Token). Some z) (conditional_read least c mid last le low i e j f))
  conditional_exact least {c} ts {mid} {last} le low i e j b (longer f lt g) =
      longer (ap (λ (o : Read Expression). o >>= λ y. Some (conditional_at texts h p body least y.0 y.1)) b ∙ ap (λ (z : Expression × List Token). Some z) (conditional_read least c mid last le low i e j f)) lt (omega arith)

  assignment_exact : (least : ℕ) {o : Option BinaryOp} {y : Symbol} {l r : Expression} {a : Token} (ts : List Token) {mid rest : List Token} → least ≤ 1 → height l ≤ h → 15 ≤ level l → assignment_symbol o ≡ Some y → IsSymbol y a →
      conditional least ts ≡ Some (l, a ∷ mid) → Reads (p.expression 1 mid) r rest (1 ≤ reach rest) → Reads (expression_layer texts h p body least ts) (tree.assign o a.span l r (join (span_of l) (span_of r))) rest (least ≤ reach rest)
  assignment_exact least {o} {l = l} ts {mid} le low tight e i b (itself f) =
      itself (layer_parts least ts ∙ ap (λ (o : Read Expression). o >>= λ z. Some (assignment_at texts h p body least z.0 z.1)) b ∙ ap (λ (z : Expression × List Token). Some z) (assignment_read least o l mid le low tight e i f))
  assignment_exact least {o} {l = l} ts {mid} le low tight e i b (longer f lt g) =
      longer (layer_parts least ts ∙ ap (λ (o : Read Expression). o >>= λ z. Some (assignment_at texts h p body least z.0 z.1)) b ∙ ap (λ (z : Expression × List Token). Some z) (assignment_read least o l mid le low tight e i f)) lt (omega arith)

  pub layer_exact : (least : ℕ) {e : Expression} {ts rest : List Token} → Spells names texts e ts rest → 0 < least → least ≤ 13 → least ≤ level e → height e ≤ suc h → Reads (expression_layer texts h p body least ts) e rest (least ≤ reach rest)
  layer_exact least {ts = ts} (is_conditional {ts = _} {mid} {last} c3 y2 c q x k y) above small le low =
      behind_conditional least ts (conditional_exact least ts le (omega arith) q (whole names texts h p body below bodies types x (omega arith) (colon_stops last k)) k
      (only (binary_exact least c above small (omega arith) c3 (omega arith)) (λ g. let r = question_goes_on mid q in omega arith))
      (exact_below 2 (omega arith) (omega arith) y y2 (omega arith)))
  layer_exact least {ts = ts} (is_assign {op = o} {ts = _} {mid} l15 l e i r) above small le low =
      assignment_exact least {o = o} ts le (omega arith) l15 e i
      (only (behind_binary least ts (binary_exact least l above small (omega arith) (omega arith) (omega arith))) (λ g. let s = assignment_goes_on o mid e i in omega arith))
      (exact_below 1 (omega arith) (omega arith) r (lowest names texts r) (omega arith))
  layer_exact least {ts = ts} (is_binary {op = o} x y l i r) above small le low =
      behind_conditional least ts (behind_binary least ts (binary_exact least (is_binary x y l i r) above small le (operators_from o) low))
  layer_exact least {ts = ts} d above small le low = behind_conditional least ts (behind_binary least ts (binary_exact least d above small le (omega arith) low))
