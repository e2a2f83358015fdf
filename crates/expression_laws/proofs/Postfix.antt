-- Each expression is read where it is spelled, or something longer where what is behind it can go on.
use Rattle.std.proofs.Common.{◌≡◌, ℕ, zero, suc, ◌+◌, ◌<◌, ◌≤◌, false, List, ◌∷◌, length, Some, None, IfSome, refl, ap, ◌∙◌, arith, nat_lt}
use Rattle.std.proofs.lemmas.Bool.{le-ltb}
use Rattle.je_base.specs.declared.span.Span.{Span}
use Rattle.je_token.specs.declared.symbol.Symbol.TheVariants as symbol
use Rattle.je_token.specs.declared.token.Token.{Token}
use Rattle.je_token.specs.declared.token.TokenKind.TheVariants as kind
use Rattle.je_ast.specs.declared.operator.PostfixOp.{PostfixOp}
use Rattle.je_ast.specs.declared.operator.PostfixOp.TheVariants as postfix_op
use Rattle.je_ast.specs.Types.{TypeName, type_height}
use Rattle.je_ast.specs.Trees.{Expression, Expressions, Member, Members}
use Rattle.je_ast.specs.Trees as tree
use Rattle.je_ast.specs.Height.{height, heights}
use Rattle.je_ast.specs.Spans.{join, span_of}
use Rattle.je_grammar.specs.Tokens.{it_is, IsSymbol, IsIdentifier, identifier}
use Rattle.je_grammar.specs.Operators.{level, postfix_symbol}
use Rattle.je_grammar.specs.Context.{is_bare_creation}
use Rattle.je_grammar.specs.Grammar.{SpellsElement, primitive_element, class_element, Spells, is_literal, is_simple_name, is_this, is_outer_this, is_parens, is_select, is_super_select, is_call, is_call_on, is_super_call, is_index, is_new, is_new_anonymous, is_new_array, is_new_array_of, is_primitive_cast, is_class_cast, is_prefix, is_postfix, is_binary, is_instance_of, is_conditional, is_assign}
use Rattle.je_grammar.specs.Grammar.{SpellsArguments}
use Rattle.parse_laws.specs.way.Tokens.{Read, ◌>>=◌, with}
use Rattle.parse_laws.specs.way.Below.{Below}
use Rattle.parse_laws.specs.way.Readers.{IsBelow, Reads, itself, longer, reach}
use Rattle.parse_laws.specs.way.Expressions.{Closed, arguments_at, length_at, primary_at, index_step, selection_step, selections_at, increments_at, postfix_at}
use Rattle.expression_laws.specs.way.Parts.{ReadTypes, ReadBodies}
use Rattle.parse_laws.proofs.Fronts.{Front, front, front_name}
use Rattle.expression_laws.proofs.Begins.{operators_to}
use Rattle.expression_laws.proofs.Primaries.{GoodArguments, arguments_sound}
use Rattle.expression_laws.proofs.Moves.{Moves, still, moved, no_longer, selections_move, increments_move, symbol_reaches, postfix_goes_on}
use Rattle.expression_laws.proofs.Inner.{arguments_exact, length_exact}
use Rattle.expression_laws.proofs.Atoms.{ThisBehind, here, later, Grabs, by_arguments, by_body, by_this, by_bracket, Primary, exactly, grabbed, open_paren_of, name_atom, outer_this_atom, call_atom, parens_atom, this_atom, super_select_atom, super_call_atom, literal_atom, new_atom, new_anonymous_atom}
use Rattle.expression_laws.proofs.NewArrays.{new_array_atom, new_array_of_atom}
use Rattle.expression_laws.proofs.NoCasts.{same_kind}

this_shorter : {ts rest : List Token} → ThisBehind ts rest → (length rest < length ts) × (reach ts ≡ 15)
this_shorter (here (front it_is) (front w)) = (omega arith, refl)
this_shorter (later (front it_is) (front_name i) b) = let a = this_shorter b in (let c = a.0 in omega arith, refl)

grabs_on : {e : Expression} {rest less : List Token} → Grabs e rest less → (length less < length rest) × (15 ≤ reach rest)
grabs_on (by_arguments f lt) = (lt, let r = symbol_reaches f in omega arith)
grabs_on (by_body f lt) = (lt, let r = symbol_reaches f in omega arith)
grabs_on (by_this b le) = let a = this_shorter b in (let c = a.0 in omega arith, let r = a.1 in omega arith)
grabs_on (by_bracket e f lt) = (lt, let r = symbol_reaches f in omega arith)

still_grabs : {e : Expression} {rest less final : List Token} → length final ≤ length less → Grabs e rest less → Grabs e rest final
still_grabs le (by_arguments f lt) = by_arguments f (omega arith)
still_grabs le (by_body f lt) = by_body f (omega arith)
still_grabs le (by_this b lt) = by_this b (omega arith)
still_grabs le (by_bracket e f lt) = by_bracket e f (omega arith)

this_behind_name : {d t : Token} {ts rest : List Token} → ThisBehind (d ∷ t ∷ ts) rest → IsIdentifier t → ThisBehind ts rest
this_behind_name (here (front d) w) i = let x = same_kind w i in absurd cc
this_behind_name (later (front d) (front_name j) b) i = b

-- behind an expression, a point and a name
grabs_behind_name : {e f : Expression} {d t : Token} {ts less : List Token} → Grabs e (d ∷ t ∷ ts) less → IsSymbol symbol.Dot d → IsIdentifier t → Grabs f ts less
grabs_behind_name (by_arguments f lt) d t = let x = same_kind f d in absurd cc
grabs_behind_name (by_body f lt) d t = let x = same_kind f d in absurd cc
grabs_behind_name (by_this b le) d t = by_this (this_behind_name b t) le
grabs_behind_name (by_bracket e f lt) d t = let x = same_kind f d in absurd cc

no_this_at_paren : {ts rest a : List Token} → ThisBehind ts rest → ¬ Front (kind.Symbol symbol.OpenParen) ts a
no_this_at_paren (here d w) (front o) = let x = same_kind d o in cc
no_this_at_paren (later d f b) (front o) = let x = same_kind d o in cc

no_grabs_before_call : {e : Expression} {d t : Token} {ts less a : List Token} → Grabs e (d ∷ t ∷ ts) less → IsSymbol symbol.Dot d → IsIdentifier t → ¬ Front (kind.Symbol symbol.OpenParen) ts a
no_grabs_before_call (by_arguments f lt) d t o = let x = same_kind f d in cc
no_grabs_before_call (by_body f lt) d t o = let x = same_kind f d in cc
no_grabs_before_call (by_this b le) d t o = no_this_at_paren (this_behind_name b t) o
no_grabs_before_call (by_bracket e f lt) d t o = let x = same_kind f d in cc

no_this_at : {o : Token} {ts rest : List Token} → ThisBehind (o ∷ ts) rest → ¬ IsSymbol symbol.OpenBracket o
no_this_at (here d w) o = let x = same_kind d o in cc
no_this_at (later d f b) o = let x = same_kind d o in cc

no_grabs_before_index : {e : Expression} {o : Token} {ts less : List Token} → Grabs e (o ∷ ts) less → IsSymbol symbol.OpenBracket o → is_bare_creation e ≡ false → ⊥
no_grabs_before_index (by_arguments f lt) o b = let x = same_kind f o in cc
no_grabs_before_index (by_body f lt) o b = let x = same_kind f o in cc
no_grabs_before_index (by_this t le) o b = no_this_at t o
no_grabs_before_index (by_bracket e f lt) o b = cc

-- selections have come by the expression, or something took what is behind it
data Passes (o : Read Expression) (loop : ℕ → Expression → List Token → Expression × List Token) (h : ℕ) (e : Expression) (rest : List Token) : Type 0 where
  comes_by : (n : ℕ) → suc h ≤ height e + n → o ≡ Some (loop n e rest) → Passes o loop h e rest
  overtaken : {y : Expression × List Token} → o ≡ Some y → Grabs e rest y.1 → Passes o loop h e rest

-- a loop has come by the expression, or something longer was read
pub data Comes (o : Read Expression) (loop : ℕ → Expression → List Token → Expression × List Token) (goes_on : Type 0) (h : ℕ) (e : Expression) (rest : List Token) : Type 0 where
  by_it : (n : ℕ) → suc h ≤ height e + n → o ≡ Some (loop n e rest) → Comes o loop goes_on h e rest
  past_it : {y : Expression × List Token} → o ≡ Some y → length y.1 < length rest → goes_on → Comes o loop goes_on h e rest

module _ (names texts : List (List ℕ)) (h : ℕ) (p : Below) (body : List Token → Closed Members) (below : IsBelow names texts h p) (bodies : ReadBodies names texts h body) (types : ReadTypes h) where
  abbrev selections : ℕ → Expression → List Token → Expression × List Token
  selections = selections_at texts h p body

  abbrev selected : List Token → Read Expression
  selected ts = primary_at texts h p body ts >>= λ x. Some (selections (suc h) x.0 x.1)

  abbrev PassesBy : List Token → Expression → List Token → Type 0
  PassesBy ts e rest = Passes (selected ts) selections h e rest

  exactly_by : {e : Expression} (ts : List Token) {rest : List Token} → primary_at texts h p body ts ≡ Some (e, rest) → PassesBy ts e rest
  exactly_by ts q = comes_by (suc h) (omega arith) (ap (λ (o : Read Expression). o >>= λ x. Some (selections (suc h) x.0 x.1)) q)

  primary_by : {e : Expression} (ts : List Token) {rest : List Token} → Primary (primary_at texts h p body ts) e rest → PassesBy ts e rest
  primary_by ts (exactly q) = exactly_by ts q
  primary_by ts (grabbed {u} {less} q g) = overtaken (ap (λ (o : Read Expression). o >>= λ x. Some (selections (suc h) x.0 x.1)) q)
      (still_grabs (no_longer (selections_move names texts h p body below bodies types (suc h) u less)) g)

  -- ---- one selection more

  after_name : {e : Expression} (ts : List Token) {rest : List Token} (n : ℕ) (o : Closed Expressions) (f : Expressions × Span × List Token → Expression) → IfSome o (GoodArguments names texts h rest) → suc h ≤ height e + n →
      selected ts ≡ Some (with o (λ y. selections n (f y) y.2) (selections n e rest)) → PassesBy ts e rest
  after_name ts n (Some y) f g ge q =
      let a = open_paren_of names texts g.spelled in
      let l = no_longer (selections_move names texts h p body below bodies types n (f y) y.2) in
      let b = a.2 in
      overtaken q (by_arguments a.1 (omega arith))
  after_name ts n None f g ge q = comes_by n ge q

  select_step : (n : ℕ) (e : Expression) {d t : Token} (rest : List Token) → height e ≤ h → IsSymbol symbol.Dot d → IsIdentifier t →
      selections (suc n) e (d ∷ t ∷ rest) ≡ with (arguments_at texts h p body rest) (λ y. selections n (tree.call_on e (identifier t) y.0 (join (span_of e) y.1)) y.2) (selections n (tree.select e (identifier t) (join (span_of e) t.span)) rest)
  unfolding selections_at selection_step
  select_step n e rest low it_is it_is = let f : nat_lt h (height e) ≡ false = le-ltb _ _ low in rw f refl

  index_step_by : (n : ℕ) (e i : Expression) {o : Token} {c : Span} (mid rest : List Token) → height e ≤ h → is_bare_creation e ≡ false → IsSymbol symbol.OpenBracket o → length_at texts h p body (o ∷ mid) ≡ Some (i, c, rest) →
      selections (suc n) e (o ∷ mid) ≡ selections n (tree.index e i (join (span_of e) c)) rest
  unfolding selections_at selection_step index_step
  index_step_by n e i mid rest low b it_is l = let f : nat_lt h (height e) ≡ false = le-ltb _ _ low in rw (f, b, l) refl

  select_by : {e : Expression} {d t : Token} (ts : List Token) {rest : List Token} → height e ≤ h → IsSymbol symbol.Dot d → IsIdentifier t → PassesBy ts e (d ∷ t ∷ rest) → PassesBy ts (tree.select e (identifier t) (join (span_of e) t.span)) rest
  select_by ts low d t (comes_by zero ge q) = absurd (omega arith)
  select_by {e} ts {rest} low d t (comes_by (suc n) ge q) =
      after_name ts n (arguments_at texts h p body rest) _ (arguments_sound names texts h p body below bodies types rest) (omega arith)
      (q ∙ ap (λ (x : Expression × List Token). Some x) (select_step n e rest low d t))
  select_by ts low d t (overtaken q g) = overtaken q (grabs_behind_name g d t)

  call_on_by : {e : Expression} {d t : Token} {es : Expressions} {c : Span} (ts : List Token) {mid rest : List Token} → height e ≤ h → heights es ≤ h → IsSymbol symbol.Dot d → IsIdentifier t → SpellsArguments names texts es c mid rest →
      PassesBy ts e (d ∷ t ∷ mid) → PassesBy ts (tree.call_on e (identifier t) es (join (span_of e) c)) rest
  call_on_by ts low small d t a (comes_by zero ge q) = absurd (omega arith)
  call_on_by {e} {t = t} {es} {c} ts {mid} {rest} low small d i a (comes_by (suc n) ge q) =
      comes_by n (omega arith) (q ∙ ap (λ (x : Expression × List Token). Some x) (select_step n e mid low d i
      ∙ ap (λ (o : Closed Expressions). with o (λ y. selections n (tree.call_on e (identifier t) y.0 (join (span_of e) y.1)) y.2) (selections n (tree.select e (identifier t) (join (span_of e) t.span)) mid)) (arguments_exact names texts h p body below bodies types a small)))
  call_on_by ts low small d t a (overtaken q g) = let o = open_paren_of names texts a in absurd (no_grabs_before_call g d t o.1)

  index_by : {e i : Expression} {o : Token} {c : Token} (ts : List Token) {mid rest : List Token} → height e ≤ h → height i ≤ h → is_bare_creation e ≡ false → IsSymbol symbol.OpenBracket o → Spells names texts i mid (c ∷ rest) → IsSymbol symbol.CloseBracket c →
      PassesBy ts e (o ∷ mid) → PassesBy ts (tree.index e i (join (span_of e) c.span)) rest
  index_by ts low small b o d c (comes_by zero ge q) = absurd (omega arith)
  index_by {e} {i} ts {mid} {rest} low small b o d c (comes_by (suc n) ge q) =
      comes_by n (omega arith) (q ∙ ap (λ (x : Expression × List Token). Some x) (index_step_by n e i mid rest low b o (length_exact names texts h p body below bodies types o d c small)))
  index_by ts low small b o d c (overtaken q g) = absurd (no_grabs_before_index g o b)

  element_height : {t : TypeName} {ts rest : List Token} → SpellsElement t ts rest → type_height t ≡ 1
  element_height (primitive_element i) = refl
  element_height (class_element d) = refl

  passes : {e : Expression} {ts rest : List Token} → Spells names texts e ts rest → 15 ≤ level e → height e ≤ suc h → PassesBy ts e rest
  passes {ts = ts} {rest} (is_literal l) le low = exactly_by ts (literal_atom names texts h p body below bodies types rest l)
  passes {ts = ts} {rest} (is_simple_name i) le low = primary_by ts (name_atom names texts h p body below bodies types rest i)
  passes {ts = ts} {rest} (is_this i) le low = exactly_by ts (this_atom names texts h p body below bodies types rest i)
  passes {ts = ts} (is_outer_this n d t) le low = exactly_by ts (outer_this_atom names texts h p body below bodies types n d t)
  passes {ts = ts} (is_parens no_cast o d c) le low = exactly_by ts (parens_atom names texts h p body below bodies types o d c (omega arith))
  passes {ts = ts} (is_select le s d t) le' low = select_by ts (omega arith) d t (passes s le (omega arith))
  passes {ts = ts} {rest} (is_super_select w d t) le low = primary_by ts (super_select_atom names texts h p body below bodies types rest w d t)
  passes {ts = ts} (is_call t a) le low = exactly_by ts (call_atom names texts h p body below bodies types t a (omega arith))
  passes {ts = ts} (is_call_on le s d t a) le' low = call_on_by ts (omega arith) (omega arith) d t a (passes s le (omega arith))
  passes {ts = ts} (is_super_call w d t a) le low = exactly_by ts (super_call_atom names texts h p body below bodies types w d t a (omega arith))
  passes {ts = ts} (is_index le b s o i c) le' low = index_by ts (omega arith) (omega arith) b o i c (passes s le (omega arith))
  passes {ts = ts} (is_new w r a) le low = primary_by ts (new_atom names texts h p body below bodies types w r a (omega arith) (omega arith))
  passes {ts = ts} (is_new_anonymous w r a b) le low = exactly_by ts (new_anonymous_atom names texts h p body below bodies types w r a b (omega arith) (omega arith) (omega arith))
  passes {ts = ts} (is_new_array w t l d) le low = let one = element_height t in primary_by ts (new_array_atom names texts h p body below bodies types w t l d (omega arith) (omega arith))
  passes {ts = ts} (is_new_array_of w t some d a) le low = let one = element_height t in exactly_by ts (new_array_of_atom names texts h p body below bodies types w t some d a (omega arith) (omega arith))
  passes (is_primitive_cast _ _ _ _ _ _) le low = absurd (omega arith)
  passes (is_class_cast _ _ _ _ _ _) le low = absurd (omega arith)
  passes (is_prefix _ _ _) le low = absurd (omega arith)
  passes (is_postfix _ _ _) le low = absurd (omega arith)
  passes (is_binary {op = o} _ _ _ _ _) le low = absurd (omega (arith, operators_to o))
  passes (is_instance_of _ _ _ _ _) le low = absurd (omega arith)
  passes (is_conditional _ _ _ _ _ _ _) le low = absurd (omega arith)
  passes (is_assign _ _ _ _ _) le low = absurd (omega arith)

  -- ---- postfix operators

  abbrev increments : ℕ → Expression → List Token → Expression × List Token
  increments = increments_at texts h p body

  abbrev ComesBy : List Token → Expression → List Token → Type 0
  ComesBy ts e rest = Comes (postfix_at texts h p body ts) increments (15 ≤ reach rest) h e rest

  postfix_parts : (o : Read Expression) → (o >>= λ x. let y = selections (suc h) x.0 x.1 in Some (increments (suc h) y.0 y.1)) ≡ ((o >>= λ x. Some (selections (suc h) x.0 x.1)) >>= λ y. Some (increments (suc h) y.0 y.1))
  postfix_parts (Some x) = refl
  postfix_parts None = refl

  postfix_of : (ts : List Token) {y : Expression × List Token} → selected ts ≡ Some y → postfix_at texts h p body ts ≡ Some (increments (suc h) y.0 y.1)
  unfolding postfix_at
  postfix_of ts q = postfix_parts (primary_at texts h p body ts) ∙ ap (λ (o : Read Expression). o >>= λ y. Some (increments (suc h) y.0 y.1)) q

  moves_by : {e : Expression} (ts : List Token) {rest : List Token} {y : Expression × List Token} → postfix_at texts h p body ts ≡ Some (increments (suc h) y.0 y.1) → Moves (15 ≤ reach rest) e rest y → ComesBy ts e rest
  moves_by ts q (still e) = by_it (suc h) (omega arith) (q ∙ ap (λ (x : Expression × List Token). Some (increments (suc h) x.0 x.1)) e)
  moves_by ts {y = y} q (moved lt g) = past_it q (let a = no_longer (increments_move names texts h p body below bodies types (suc h) y.0 y.1) in omega arith) g

  comes_of : {e : Expression} (ts : List Token) {rest : List Token} → PassesBy ts e rest → ComesBy ts e rest
  comes_of {e} ts {rest} (comes_by n ge q) = moves_by ts (postfix_of ts q) (selections_move names texts h p body below bodies types n e rest)
  comes_of ts (overtaken {y} q g) = let a = grabs_on g in let b = a.0 in
      past_it (postfix_of ts q) (let c = no_longer (increments_move names texts h p body below bodies types (suc h) y.0 y.1) in omega arith) a.1

  increments_step : (o : PostfixOp) (n : ℕ) (e : Expression) {a : Token} (rest : List Token) → height e ≤ h → IsSymbol (postfix_symbol o) a →
      increments (suc n) e (a ∷ rest) ≡ increments n (tree.postfix o a.span e (join (span_of e) a.span)) rest
  unfolding increments_at
  increments_step postfix_op.Increment n e rest low it_is = let f : nat_lt h (height e) ≡ false = le-ltb _ _ low in rw f refl
  increments_step postfix_op.Decrement n e rest low it_is = let f : nat_lt h (height e) ≡ false = le-ltb _ _ low in rw f refl

  postfix_by : {o : PostfixOp} {e : Expression} {a : Token} (ts : List Token) {rest : List Token} → height e ≤ h → IsSymbol (postfix_symbol o) a → ComesBy ts e (a ∷ rest) → ComesBy ts (tree.postfix o a.span e (join (span_of e) a.span)) rest
  postfix_by ts low i (by_it zero ge q) = absurd (omega arith)
  postfix_by {o} {e} ts {rest} low i (by_it (suc n) ge q) = by_it n (omega arith) (q ∙ ap (λ (x : Expression × List Token). Some x) (increments_step o n e rest low i))
  postfix_by {o} ts {rest} low i (past_it q lt g) = absurd (let r = postfix_goes_on o rest i in omega arith)

  comes : {e : Expression} {ts rest : List Token} → Spells names texts e ts rest → 14 ≤ level e → height e ≤ suc h → ComesBy ts e rest
  comes {ts = ts} (is_postfix {op = o} le d i) le' low = postfix_by {o = o} ts (omega arith) i (comes d le (omega arith))
  comes (is_binary {op = o} _ _ _ _ _) le low = absurd (omega (arith, operators_to o))
  comes {ts = ts} d le low = comes_of ts (passes d (omega arith) low)

  pub postfix_exact : {e : Expression} {ts rest : List Token} → Spells names texts e ts rest → 14 ≤ level e → height e ≤ suc h → Reads (postfix_at texts h p body ts) e rest (13 ≤ reach rest)
  postfix_exact {e} {ts} {rest} d le low = elim (comes d le low) [
    | by_it n ge q ↦ elim (increments_move names texts h p body below bodies types n e rest) [
      | still s ↦ itself (q ∙ ap (λ (x : Expression × List Token). Some x) s)
      | moved lt g ↦ longer q lt (omega arith)
    ]
    | past_it q lt g ↦ longer q lt (omega arith)
  ]
