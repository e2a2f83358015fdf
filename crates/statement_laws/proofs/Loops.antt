-- Loops with `for` are read where they are spelled; and where variables are declared.
use Rattle.std.proofs.Common.{◌≡◌, ℕ, ◌≤◌, Bool, true, false, List, ◌∷◌, Some, None, refl, arith, ◌||◌}
use Rattle.je_base.specs.declared.span.Span.{Span}
use Rattle.je_token.specs.declared.keyword.Keyword.TheVariants as word
use Rattle.je_token.specs.declared.symbol.Symbol.TheVariants as symbol
use Rattle.je_token.specs.declared.token.Token.{Token}
use Rattle.je_token.specs.declared.token.TokenKind.TheVariants as kind
use Rattle.je_ast.specs.declared.name.Identifier.{Identifier}
use Rattle.je_ast.specs.Types.{TypeName, type_height}
use Rattle.je_ast.specs.Trees.{Expression, Expressions, MaybeExpression, Statement, ForInitializer, Variables}
use Rattle.je_ast.specs.Trees as tree
use Rattle.je_ast.specs.Height.{height, height_if, heights, for_initializer_height}
use Rattle.je_ast.specs.Spans.{join, statement_span}
use Rattle.je_grammar.specs.Tokens.{it_is, IsSymbol, IsIdentifier, identifier}
use Rattle.je_grammar.specs.Types.{SpellsDims, no_dims, more_dims, SpellsFinal, not_final, is_final, SpellsTypeName}
use Rattle.je_grammar.specs.Grammar.{Spells, SpellsMaybe, nothing, something, SpellsMaybeInit, without_init, with_init, SpellsVariables, last_variable, more_variables, SpellsSteps, last_step, more_steps, SpellsMaybeSteps, no_steps, some_steps, SpellsForInitializer, for_locals, for_steps}
use Rattle.parse_laws.specs.way.Tokens.{is_some, is_word}
use Rattle.parse_laws.specs.way.Types.{final_at, type_at, past_type_at, begins_local_at}
use Rattle.parse_laws.specs.way.Below.{Below}
use Rattle.parse_laws.specs.way.Readers.{IsBelow, Reads, GoesOn}
use Rattle.parse_laws.specs.way.Statements.{label_before, is_for_each_at, variables_at, steps_before_at, start_locals_at, start_at, ended_condition_at, plain_for_at, for_each_at, for_at}
use Rattle.parse_laws.proofs.Rules.{either, none_where, unless}
use Rattle.parse_laws.proofs.Fronts.{front_name}
use Rattle.type_laws.specs.Laws.{Within, types_on}
use Rattle.type_laws.specs.Ahead.{BeginsLocal, begins_local}
use Rattle.type_laws.proofs.Heads.{final_exact}
use Rattle.type_laws.proofs.Lookahead.{local_sound, local_exact}
use Rattle.type_laws.proofs.Public.{types_complete_law, past_types_sound_law, past_types_exact_law}
use Rattle.statement_laws.proofs.Stops.{begins_type, begins_expression, first_is, no_front, type_first, expression_first}
use Rattle.statement_laws.proofs.Starts.{step_no_type}
use Rattle.statement_laws.proofs.Sound.{FrontLabel, front_label, label_before_sound}
use Rattle.statement_laws.proofs.Blocks.{no_final, variables_stop, variables_exact}
use Rattle.statement_laws.proofs.Groups.{whole, semicolon, close_paren, steps_before_exact}
use Rattle.statement_laws.proofs.Exact.{through}

-- no type before an identifier stands here
abbrev pub NoLocal : List Token → Type 0
NoLocal ts = (t : TypeName) (k : Token) (rest : List Token) → SpellsTypeName t ts (k ∷ rest) → ¬ IsIdentifier k

no_begin : {h : ℕ} {ts : List Token} → NoLocal ts → ¬ BeginsLocal h ts
no_begin without (begins_local d low i) = without _ _ _ d i

pub no_local : (h : ℕ) (ts : List Token) → NoLocal ts → begins_local_at h ts ≡ false
no_local h ts without = unless (begins_local_at h ts) (λ e. no_begin without (local_sound h ts e))

-- nor where the first token begins no type
pub no_type_here : (ts : List Token) → first_is begins_type ts ≡ false → NoLocal ts
no_type_here ts e t k rest d i = let a = type_first d in cc

no_label_behind : {t : TypeName} {ts rest : List Token} {x : Identifier × List Token} → NoLocal ts → SpellsTypeName t ts rest → ¬ FrontLabel rest x
no_label_behind without d (front_label (front_name i) k) = without _ _ _ d i

no_each : (h : ℕ) (ts : List Token) → NoLocal (final_at ts).1 → is_for_each_at h ts ≡ false
unfolding is_for_each_at
no_each h ts without = either (past_type_at h (final_at ts).1) (λ rest. is_some (label_before rest)) false (λ rest. (t : TypeName) × Within SpellsTypeName type_height h t (final_at ts).1 rest) (λ b. b ≡ false)
    (past_types_sound_law h (final_at ts).1) (λ rest g. none_where (label_before rest) (FrontLabel rest) (label_before_sound rest) (λ x. no_label_behind without g.1.0)) refl

no_each_by : (h : ℕ) {m : Bool} (ts : List Token) {mid last : List Token} → final_at ts ≡ (m, mid) → past_type_at h mid ≡ Some last → label_before last ≡ None → is_for_each_at h ts ≡ false
unfolding is_for_each_at
no_each_by h ts f q l = rw (f, q, l) refl

is_each : (h : ℕ) {m : Bool} {x : Identifier × List Token} (ts : List Token) {mid last : List Token} → final_at ts ≡ (m, mid) → past_type_at h mid ≡ Some last → label_before last ≡ Some x → is_for_each_at h ts ≡ true
unfolding is_for_each_at
is_each h ts f q l = rw (f, q, l) refl

pub colon_label : {t k : Token} (ts : List Token) → IsIdentifier t → IsSymbol symbol.Colon k → label_before (t ∷ k ∷ ts) ≡ Some (identifier t, ts)
colon_label ts it_is it_is = refl

label_no_type_on : {t : Token} (ts : List Token) → IsIdentifier t → types_on (t ∷ ts) ≡ false
label_no_type_on ts it_is = refl

-- `final` and types where they stand before variables
is_final_word : {ts rest : List Token} → SpellsFinal true ts rest → is_word word.Final ts ≡ true
is_final_word (is_final it_is) = refl

either_true : (a b : Bool) → b ≡ true → (a || b) ≡ true
either_true true b e = refl
either_true false b e = e

module _ (names texts : List (List ℕ)) where
  pub locals_begin : (h : ℕ) {m : Bool} {t : TypeName} {vs : Variables} {ts mid last rest : List Token} → SpellsFinal m ts mid → SpellsTypeName t mid last → SpellsVariables names texts vs last rest → type_height t ≤ h →
      (is_word word.Final ts || begins_local_at h ts) ≡ true
  locals_begin h (is_final it_is) d v low = refl
  locals_begin h {ts = ts} not_final d (last_variable i _ _) low = either_true (is_word word.Final ts) (begins_local_at h ts) (local_exact h (begins_local d low i))
  locals_begin h {ts = ts} not_final d (more_variables i _ _ _ _) low = either_true (is_word word.Final ts) (begins_local_at h ts) (local_exact h (begins_local d low i))

  dims_no_colon : {n : ℕ} {s e : Span} {i : MaybeExpression} {t c : Token} {ts mid : List Token} (rest : List Token) → IsIdentifier t → SpellsDims n s e ts mid → SpellsMaybeInit names texts i mid (c ∷ rest) → IsSymbol symbol.Semicolon c → label_before (t ∷ ts) ≡ None
  dims_no_colon rest it_is no_dims without_init it_is = refl
  dims_no_colon rest it_is no_dims (with_init it_is _) c = refl
  dims_no_colon rest it_is (more_dims it_is _ _) e c = refl

  dims_no_colon_comma : {n : ℕ} {s e : Span} {i : MaybeExpression} {t c : Token} {ts mid : List Token} (rest : List Token) → IsIdentifier t → SpellsDims n s e ts mid → SpellsMaybeInit names texts i mid (c ∷ rest) → IsSymbol symbol.Comma c → label_before (t ∷ ts) ≡ None
  dims_no_colon_comma rest it_is no_dims without_init it_is = refl
  dims_no_colon_comma rest it_is no_dims (with_init it_is _) c = refl
  dims_no_colon_comma rest it_is (more_dims it_is _ _) e c = refl

  variables_no_label : {vs : Variables} {c : Token} {ts rest : List Token} → SpellsVariables names texts vs ts (c ∷ rest) → IsSymbol symbol.Semicolon c → label_before ts ≡ None
  variables_no_label {rest = rest} (last_variable i d e) c = dims_no_colon rest i d e c
  variables_no_label {rest = rest} (more_variables {last = last} i d e k l) c = dims_no_colon_comma last i d e k

  steps_no_local : {es : Expressions} {ts rest : List Token} → SpellsSteps names texts es ts rest → NoLocal ts
  steps_no_local (last_step s d) t k rest n = step_no_type names texts d s n
  steps_no_local (more_steps s d _ _) t k rest n = step_no_type names texts d s n

  steps_no_final : {es : Expressions} (ts : List Token) {rest : List Token} → SpellsSteps names texts es ts rest → is_word word.Final ts ≡ false
  steps_no_final ts (last_step s d) = rw (no_front begins_expression (kind.Keyword word.Final) ts refl (expression_first names texts d)) refl
  steps_no_final ts (more_steps s d _ _) = rw (no_front begins_expression (kind.Keyword word.Final) ts refl (expression_first names texts d)) refl

  -- what begins with no `final` and no type before an identifier declares nothing
  pub neither : (h : ℕ) (ts : List Token) → is_word word.Final ts ≡ false → NoLocal ts → (is_word word.Final ts || begins_local_at h ts) ≡ false
  neither h ts f without = rw (f, no_local h ts without) refl

  no_each_here : (h : ℕ) (ts : List Token) → is_word word.Final ts ≡ false → NoLocal ts → is_for_each_at h ts ≡ false
  no_each_here h ts f without = no_each h ts (rw (final_exact (not_final {rest = ts}) f) without)

  semicolon_first : {c : Token} (ts : List Token) → IsSymbol symbol.Semicolon c → (first_is begins_type (c ∷ ts) ≡ false) × (is_word word.Final (c ∷ ts) ≡ false)
  semicolon_first ts it_is = (refl, refl)

  initializer_no_each : (h : ℕ) {i : ForInitializer} {c : Token} {ts rest : List Token} → SpellsForInitializer names texts i ts (c ∷ rest) → IsSymbol symbol.Semicolon c → for_initializer_height i ≤ h → is_for_each_at h ts ≡ false
  initializer_no_each h {ts = ts} (for_locals {t = t} {mid = mid} {last} f d v) c low =
      no_each_by h ts (final_exact f (no_final names texts mid d)) (past_types_exact_law h t mid last (d, omega arith) (variables_stop names texts v)) (variables_no_label v c)
  initializer_no_each h {c = c} {rest = rest} (for_steps no_steps) k low = let a = semicolon_first rest k in no_each_here h (c ∷ rest) a.1 (no_type_here (c ∷ rest) a.0)
  initializer_no_each h {ts = ts} (for_steps (some_steps l)) c low = no_each_here h ts (steps_no_final ts l) (steps_no_local l)

  module _ (h : ℕ) (p : Below) (below : IsBelow names texts h p) where
    -- ---- the parts in brackets

    start_locals_by : {m : Bool} {t : TypeName} {vs : Variables} {c : Token} (ts : List Token) {mid last : List Token} (rest : List Token) → final_at ts ≡ (m, mid) → type_at h mid ≡ Some (t, last) → variables_at h p last ≡ Some (vs, c ∷ rest) → IsSymbol symbol.Semicolon c →
        start_locals_at h p ts ≡ Some (tree.locals m t vs, rest)
    unfolding start_locals_at
    start_locals_by ts rest f t v it_is = rw (f, t, v) refl

    starts_locals : (ts : List Token) → (is_word word.Final ts || begins_local_at h ts) ≡ true → start_at h p ts ≡ start_locals_at h p ts
    unfolding start_at
    starts_locals ts e = rw e refl

    starts_steps : {es : Expressions} (ts rest : List Token) → (is_word word.Final ts || begins_local_at h ts) ≡ false → steps_before_at h p symbol.Semicolon ts ≡ Some (es, rest) → start_at h p ts ≡ Some (tree.steps es, rest)
    unfolding start_at
    starts_steps ts rest e s = rw (e, s) refl

    start_exact : {i : ForInitializer} {c : Token} {ts rest : List Token} → SpellsForInitializer names texts i ts (c ∷ rest) → IsSymbol symbol.Semicolon c → for_initializer_height i ≤ h → start_at h p ts ≡ Some (i, rest)
    start_exact {ts = ts} {rest} (for_locals {t = t} {mid = mid} {last} f d v) c low =
        rw (starts_locals ts (locals_begin h f d v (omega arith)))
        (start_locals_by ts rest (final_exact f (no_final names texts mid d)) (types_complete_law h t mid last (d, omega arith) (variables_stop names texts v)) (variables_exact names texts h p below v c (omega arith)) c)
    start_exact {c = c} {rest = rest} (for_steps no_steps) k low =
        let a = semicolon_first rest k in starts_steps (c ∷ rest) rest (neither h (c ∷ rest) a.1 (no_type_here (c ∷ rest) a.0)) (steps_before_exact names texts h p below semicolon no_steps k low)
    start_exact {ts = ts} {rest} (for_steps (some_steps l)) k low =
        starts_steps ts rest (neither h ts (steps_no_final ts l) (steps_no_local l)) (steps_before_exact names texts h p below semicolon (some_steps l) k low)

    ended_condition_exact : {e : MaybeExpression} {c : Token} {ts rest : List Token} → SpellsMaybe names texts e ts (c ∷ rest) → IsSymbol symbol.Semicolon c → height_if e ≤ h → ended_condition_at h p ts ≡ Some (e, rest)
    unfolding ended_condition_at
    ended_condition_exact nothing it_is low = refl
    ended_condition_exact {ts = ts} (something d) it_is low = rw (no_front begins_expression (kind.Symbol symbol.Semicolon) ts refl (expression_first names texts d), whole names texts h p below d low refl) refl

    -- ---- both loops

    plain_for_by : (w : Span) {i : ForInitializer} {e : MaybeExpression} {es : Expressions} {b : Statement} (ts : List Token) {mid next last rest : List Token} → start_at h p ts ≡ Some (i, mid) → ended_condition_at h p mid ≡ Some (e, next) → steps_before_at h p symbol.CloseParen next ≡ Some (es, last) →
        Reads (p.statement last) b rest (GoesOn b rest) → Reads (plain_for_at h p w ts) (tree.for w i e es b (join w (statement_span b))) rest (GoesOn (tree.for w i e es b (join w (statement_span b))) rest)
    unfolding plain_for_at
    plain_for_by w {i} {e} {es} ts a c s r = rw (a, c, s) (through (λ b. tree.for w i e es b (join w (statement_span b))) r (λ g. g))

    for_each_by : (w : Span) {m : Bool} {t : TypeName} {x : Identifier} {e : Expression} {b : Statement} {c : Token} (ts : List Token) {mid named next last rest : List Token} → final_at ts ≡ (m, mid) → type_at h mid ≡ Some (t, named) → label_before named ≡ Some (x, next) →
        p.expression 1 next ≡ Some (e, c ∷ last) → IsSymbol symbol.CloseParen c → Reads (p.statement last) b rest (GoesOn b rest) →
        Reads (for_each_at h p w ts) (tree.for_each w m t x e b (join w (statement_span b))) rest (GoesOn (tree.for_each w m t x e b (join w (statement_span b))) rest)
    unfolding for_each_at
    for_each_by w {m} {t} {x} {e} ts f d l i it_is r = rw (f, d, l, i) (through (λ b. tree.for_each w m t x e b (join w (statement_span b))) r (λ g. g))

    chooses_each : (w : Span) {o : Token} (ts : List Token) → IsSymbol symbol.OpenParen o → is_for_each_at h ts ≡ true → for_at h p w (o ∷ ts) ≡ for_each_at h p w ts
    unfolding for_at
    chooses_each w ts it_is e = rw e refl

    chooses_plain : (w : Span) {o : Token} (ts : List Token) → IsSymbol symbol.OpenParen o → is_for_each_at h ts ≡ false → for_at h p w (o ∷ ts) ≡ plain_for_at h p w ts
    unfolding for_at
    chooses_plain w ts it_is e = rw e refl

    pub for_exact : (w : Span) {o c d k : Token} {i : ForInitializer} {e : MaybeExpression} {es : Expressions} {b : Statement} (ts : List Token) {mid next last rest : List Token} → IsSymbol symbol.OpenParen o →
        SpellsForInitializer names texts i ts (c ∷ mid) → IsSymbol symbol.Semicolon c → for_initializer_height i ≤ h → SpellsMaybe names texts e mid (d ∷ next) → IsSymbol symbol.Semicolon d → height_if e ≤ h →
        SpellsMaybeSteps names texts es next (k ∷ last) → IsSymbol symbol.CloseParen k → heights es ≤ h → Reads (p.statement last) b rest (GoesOn b rest) →
        Reads (for_at h p w (o ∷ ts)) (tree.for w i e es b (join w (statement_span b))) rest (GoesOn (tree.for w i e es b (join w (statement_span b))) rest)
    for_exact w ts o i c a e d m s k n r =
        rw (chooses_plain w ts o (initializer_no_each h i c a))
        (plain_for_by w ts (start_exact i c a) (ended_condition_exact e d m) (steps_before_exact names texts h p below close_paren s k n) r)

    pub for_each_exact : (w : Span) {o t k c : Token} {m : Bool} {ty : TypeName} {e : Expression} {b : Statement} (ts : List Token) {mid next last rest : List Token} → IsSymbol symbol.OpenParen o →
        SpellsFinal m ts mid → SpellsTypeName ty mid (t ∷ k ∷ next) → type_height ty ≤ h → IsIdentifier t → IsSymbol symbol.Colon k →
        Spells names texts e next (c ∷ last) → IsSymbol symbol.CloseParen c → height e ≤ h → Reads (p.statement last) b rest (GoesOn b rest) →
        Reads (for_at h p w (o ∷ ts)) (tree.for_each w m ty (identifier t) e b (join w (statement_span b))) rest (GoesOn (tree.for_each w m ty (identifier t) e b (join w (statement_span b))) rest)
    for_each_exact w {t = t} {k} {ty = ty} ts {mid} {next} {last} o f d low i j x it_is n r =
        let on : types_on (t ∷ k ∷ next) ≡ false = label_no_type_on (k ∷ next) i in
        let l = colon_label next i j in
        let v = final_exact f (no_final names texts mid d) in
        rw (chooses_each w ts o (is_each h ts v (past_types_exact_law h ty mid (t ∷ k ∷ next) (d, low) on) l))
        (for_each_by w ts v (types_complete_law h ty mid (t ∷ k ∷ next) (d, low) on) l (whole names texts h p below x n refl) it_is r)
