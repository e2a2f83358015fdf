-- Turns of the loops over what is selected from a primary, and over `++` and `--`.
use Rattle.std.proofs.Common.{◌≡◌, ℕ, zero, suc, ◌+◌, ◌-◌, ◌<◌, ◌≤◌, true, false, Option, Some, None, List, refl, arith}
use Rattle.std.specs.Prelude.{nat_lt}
use Rattle.std.proofs.lemmas.Bool.{lt-ltb, le-ltb}
use Rattle.je_base.specs.declared.span.Span.{Span}
use Rattle.je_token.specs.declared.token.Token.{Token}
use Rattle.je_ast.specs.declared.name.Identifier.{Identifier}
use Rattle.je_ast.specs.declared.operator.PostfixOp.{PostfixOp}
use Rattle.je_ast.specs.Trees.{Expression, Expressions}
use Rattle.je_ast.specs.Trees as tree
use Rattle.je_ast.specs.Height.{height}
use Rattle.je_ast.specs.Spans.{join, span_of}
use Rattle.je_grammar.specs.Tokens.{first_span}
use Rattle.je_grammar.specs.Context.{is_bare_creation}
use Rattle.parse_laws.specs.way.Tokens.{with}
use Rattle.parse_laws.specs.way.Expressions.{postfix_operator}
use Rattle.parse_laws.specs.way.Expressions as reading
use Rattle.parse_below.specs.declared.settings.Setting.{Setting}
use Rattle.parse_operators.specs.way.Readings.{selected_at, arguments_at, length_at, selections_at, increments_at, member_of_at}
use Rattle.parse_operators.proofs.Steps.{selections_none, increments_none}

pub increments_high : (s : Setting) (n : ℕ) (e : Expression) (ts : List Token) → s.below < height e → increments_at s n e ts ≡ (e, ts)
unfolding reading.increments_at
increments_high s zero e ts high = refl
increments_high s (suc n) e ts high = let lt : nat_lt s.below (height e) ≡ true = lt-ltb _ _ high in rw lt refl

pub increments_end : (s : Setting) (n : ℕ) (e : Expression) (ts : List Token) → height e ≤ s.below → postfix_operator ts ≡ None → increments_at s n e ts ≡ (e, ts)
unfolding reading.increments_at
increments_end s zero e ts low none = refl
increments_end s (suc n) e ts low none = let f : nat_lt s.below (height e) ≡ false = le-ltb _ _ low in rw (f, none) refl

pub increment_turn : (s : Setting) (n i : ℕ) (e : Expression) (ts rest : List Token) (o : PostfixOp) → i < n → height e ≤ s.below → postfix_operator ts ≡ Some (o, rest) →
    increments_at s (n - i) e ts ≡ increments_at s (n - (i + 1)) (tree.postfix o (first_span ts) e (join (span_of e) (first_span ts))) rest
unfolding reading.increments_at
increment_turn s n i e ts rest o lt low is =
    let eq : n - i ≡ suc (n - (i + 1)) = omega arith in
    let f : nat_lt s.below (height e) ≡ false = le-ltb _ _ low in
    rw (eq, f, is) refl

pub selections_high : (s : Setting) (n : ℕ) (e : Expression) (ts : List Token) → s.below < height e → selections_at s n e ts ≡ (e, ts)
unfolding reading.selections_at reading.selection_step
selections_high s zero e ts high = refl
selections_high s (suc n) e ts high = let lt : nat_lt s.below (height e) ≡ true = lt-ltb _ _ high in rw lt refl

pub selections_bare : (s : Setting) (n : ℕ) (e : Expression) (ts : List Token) → height e ≤ s.below → selected_at ts ≡ None → is_bare_creation e ≡ true →
    selections_at s n e ts ≡ (e, ts)
unfolding reading.selections_at reading.selection_step reading.index_step
selections_bare s zero e ts low none bare = refl
selections_bare s (suc n) e ts low none bare = let f : nat_lt s.below (height e) ≡ false = le-ltb _ _ low in rw (f, none, bare) refl

pub selections_end : (s : Setting) (n : ℕ) (e : Expression) (ts : List Token) → height e ≤ s.below → selected_at ts ≡ None → is_bare_creation e ≡ false → length_at s ts ≡ None →
    selections_at s n e ts ≡ (e, ts)
unfolding reading.selections_at reading.selection_step reading.index_step
selections_end s zero e ts low none full outside = refl
selections_end s (suc n) e ts low none full outside = let f : nat_lt s.below (height e) ≡ false = le-ltb _ _ low in rw (f, none, full, outside) refl

-- a choice may be made before or behind what goes on
through : {A B C D : Type 0} (k : B → C → D) (f : A → B) (g : A → C) (b : B) (c : C) (o : Option A) →
    with o (λ y. k (f y) (g y)) (k b c) ≡ k (with {B = B × C} o (λ y. (f y, g y)) (b, c)).0 (with {B = B × C} o (λ y. (f y, g y)) (b, c)).1
through k f g b c None = refl
through k f g b c (Some y) = refl

pub member_turn : (s : Setting) (n i : ℕ) (e : Expression) (ts rest : List Token) (x : Identifier) → i < n → height e ≤ s.below → selected_at ts ≡ Some (x, rest) →
    selections_at s (n - i) e ts ≡ selections_at s (n - (i + 1)) (member_of_at s e x rest).0 (member_of_at s e x rest).1
unfolding reading.selections_at reading.selection_step
member_turn s n i e ts rest x lt low is =
    let eq : n - i ≡ suc (n - (i + 1)) = omega arith in
    let f : nat_lt s.below (height e) ≡ false = le-ltb _ _ low in
    rw (eq, f, is) (through (selections_at s (n - (i + 1))) (λ (y : Expressions × Span × List Token). tree.call_on e x y.0 (join (span_of e) y.1)) (λ (y : Expressions × Span × List Token). y.2) (tree.select e x (join (span_of e) x.span)) rest (arguments_at s rest))

pub index_turn : (s : Setting) (n i : ℕ) (e d : Expression) (close : Span) (ts rest : List Token) → i < n → height e ≤ s.below → selected_at ts ≡ None → is_bare_creation e ≡ false →
    length_at s ts ≡ Some (d, close, rest) → selections_at s (n - i) e ts ≡ selections_at s (n - (i + 1)) (tree.index e d (join (span_of e) close)) rest
unfolding reading.selections_at reading.selection_step reading.index_step
index_turn s n i e d close ts rest lt low none full inside =
    let eq : n - i ≡ suc (n - (i + 1)) = omega arith in
    let f : nat_lt s.below (height e) ≡ false = le-ltb _ _ low in
    rw (eq, f, none, full, inside) refl

-- where the loop over selections ends
pub ruleset selections_ends = (selections_none, selections_high, selections_bare, selections_end)

-- where the loop over `++` and `--` ends
pub ruleset increments_ends = (increments_none, increments_high, increments_end)
