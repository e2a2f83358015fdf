-- Turns of the loop over binary operators and `instanceof`.
use Rattle.std.proofs.Common.{◌≡◌, ℕ, zero, suc, ◌+◌, ◌-◌, ◌<◌, ◌≤◌, true, false, Some, None, List, refl, arith}
use Rattle.std.specs.Prelude.{nat_lt}
use Rattle.std.proofs.lemmas.Bool.{lt-ltb, le-ltb}
use Rattle.je_token.specs.declared.keyword.Keyword.TheVariants as word
use Rattle.je_token.specs.declared.token.Token.{Token}
use Rattle.je_ast.specs.declared.operator.BinaryOp.{BinaryOp}
use Rattle.je_ast.specs.Types.{TypeName}
use Rattle.je_ast.specs.Trees.{Expression}
use Rattle.je_ast.specs.Trees as tree
use Rattle.je_ast.specs.Height.{height}
use Rattle.je_ast.specs.Spans.{join, span_of, type_span}
use Rattle.je_grammar.specs.Tokens.{first_span}
use Rattle.je_grammar.specs.Operators.{operator_level}
use Rattle.parse_laws.specs.way.Tokens.{behind_word}
use Rattle.parse_laws.specs.way.Types.{plain_type_at}
use Rattle.parse_laws.specs.way.Expressions.{binary_operator}
use Rattle.parse_laws.specs.way.Expressions as reading
use Rattle.parse_below.specs.declared.settings.Setting.{Setting}
use Rattle.parse_below.specs.way.Readings.{below_at}
use Rattle.parse_operators.specs.way.Readings.{operations_at}
use Rattle.parse_operators.proofs.Steps.{operations_none}
use Rattle.parse_expressions.specs.way.Views.{is_outside}

pub operations_high : (s : Setting) (n least most : ℕ) (e : Expression) (ts : List Token) → s.below < height e → operations_at s n least most e ts ≡ (e, ts)
unfolding reading.operations_at reading.operation_step
operations_high s zero least most e ts high = refl
operations_high s (suc n) least most e ts high = let lt : nat_lt s.below (height e) ≡ true = lt-ltb _ _ high in rw lt refl

pub operations_no_test : (s : Setting) (n least most : ℕ) (e : Expression) (ts mid : List Token) → height e ≤ s.below → behind_word word.InstanceOf ts ≡ Some mid →
    is_outside 9 least most ≡ true → operations_at s n least most e ts ≡ (e, ts)
unfolding reading.operations_at reading.operation_step is_outside
operations_no_test s zero least most e ts mid low is outside = refl
operations_no_test s (suc n) least most e ts mid low is outside =
    let f : nat_lt s.below (height e) ≡ false = le-ltb _ _ low in
    rw (f, is, outside) refl

pub operations_untyped : (s : Setting) (n least most : ℕ) (e : Expression) (ts mid : List Token) → height e ≤ s.below → behind_word word.InstanceOf ts ≡ Some mid →
    is_outside 9 least most ≡ false → plain_type_at mid ≡ None → operations_at s n least most e ts ≡ (e, ts)
unfolding reading.operations_at reading.operation_step is_outside
operations_untyped s zero least most e ts mid low is inside none = refl
operations_untyped s (suc n) least most e ts mid low is inside none =
    let f : nat_lt s.below (height e) ≡ false = le-ltb _ _ low in
    rw (f, is, inside, none) refl

pub operations_end : (s : Setting) (n least most : ℕ) (e : Expression) (ts : List Token) → height e ≤ s.below → behind_word word.InstanceOf ts ≡ None → binary_operator ts ≡ None →
    operations_at s n least most e ts ≡ (e, ts)
unfolding reading.operations_at reading.operation_step reading.binary_step
operations_end s zero least most e ts low no_test none = refl
operations_end s (suc n) least most e ts low no_test none =
    let f : nat_lt s.below (height e) ≡ false = le-ltb _ _ low in
    rw (f, no_test, none) refl

pub operations_outside : (s : Setting) (n least most : ℕ) (e : Expression) (ts mid : List Token) (o : BinaryOp) → height e ≤ s.below → behind_word word.InstanceOf ts ≡ None →
    binary_operator ts ≡ Some (o, mid) → is_outside (operator_level o) least most ≡ true → operations_at s n least most e ts ≡ (e, ts)
unfolding reading.operations_at reading.operation_step reading.binary_step is_outside
operations_outside s zero least most e ts mid o low no_test is outside = refl
operations_outside s (suc n) least most e ts mid o low no_test is outside =
    let f : nat_lt s.below (height e) ≡ false = le-ltb _ _ low in
    rw (f, no_test, is, outside) refl

pub operations_alone : (s : Setting) (n least most : ℕ) (e : Expression) (ts mid : List Token) (o : BinaryOp) → height e ≤ s.below → behind_word word.InstanceOf ts ≡ None →
    binary_operator ts ≡ Some (o, mid) → is_outside (operator_level o) least most ≡ false → (below_at s).expression (operator_level o + 1) mid ≡ None →
    operations_at s n least most e ts ≡ (e, ts)
unfolding reading.operations_at reading.operation_step reading.binary_step is_outside
operations_alone s zero least most e ts mid o low no_test is inside none = refl
operations_alone s (suc n) least most e ts mid o low no_test is inside none =
    let f : nat_lt s.below (height e) ≡ false = le-ltb _ _ low in
    rw (f, no_test, is, inside, none) refl

pub instance_turn : (s : Setting) (n i least most : ℕ) (e : Expression) (ts mid rest : List Token) (t : TypeName) → i < n → height e ≤ s.below →
    behind_word word.InstanceOf ts ≡ Some mid → is_outside 9 least most ≡ false → plain_type_at mid ≡ Some (t, rest) →
    operations_at s (n - i) least most e ts ≡ operations_at s (n - (i + 1)) least 9 (tree.instance_of (first_span ts) e t (join (span_of e) (type_span t))) rest
unfolding reading.operations_at reading.operation_step is_outside
instance_turn s n i least most e ts mid rest t lt low is inside typed =
    let eq : n - i ≡ suc (n - (i + 1)) = omega arith in
    let f : nat_lt s.below (height e) ≡ false = le-ltb _ _ low in
    rw (eq, f, is, inside, typed) refl

pub binary_turn : (s : Setting) (n i least most : ℕ) (e r : Expression) (ts mid rest : List Token) (o : BinaryOp) → i < n → height e ≤ s.below →
    behind_word word.InstanceOf ts ≡ None → binary_operator ts ≡ Some (o, mid) → is_outside (operator_level o) least most ≡ false →
    (below_at s).expression (operator_level o + 1) mid ≡ Some (r, rest) →
    operations_at s (n - i) least most e ts ≡ operations_at s (n - (i + 1)) least (operator_level o) (tree.binary o (first_span ts) e r (join (span_of e) (span_of r))) rest
unfolding reading.operations_at reading.operation_step reading.binary_step is_outside
binary_turn s n i least most e r ts mid rest o lt low none is inside right =
    let eq : n - i ≡ suc (n - (i + 1)) = omega arith in
    let f : nat_lt s.below (height e) ≡ false = le-ltb _ _ low in
    rw (eq, f, none, is, inside, right) refl

-- where the loop over binary operators ends
pub ruleset operations_ends = (operations_none, operations_high, operations_untyped, operations_end, operations_alone)
