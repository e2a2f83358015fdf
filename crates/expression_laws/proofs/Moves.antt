-- A loop over what goes on with an expression stays where it is, or comes further where a token goes on.
use Rattle.std.proofs.Common.{◌≡◌, ℕ, zero, suc, ◌+◌, ◌<◌, ◌≤◌, max, List, ◌∷◌, length, Option, Some, None, refl, sym, arith, ◌||◌, nat_lt}
use Rattle.std.proofs.lemmas.Bool.{ltb-false}
use Rattle.je_base.specs.declared.span.Span.{Span}
use Rattle.je_token.specs.declared.keyword.Keyword.TheVariants as word
use Rattle.je_token.specs.declared.symbol.Symbol.{Symbol}
use Rattle.je_token.specs.declared.symbol.Symbol.TheVariants as symbol
use Rattle.je_token.specs.declared.token.Token.{Token}
use Rattle.je_token.specs.declared.token.TokenKind.{TokenKind}
use Rattle.je_token.specs.declared.token.TokenKind.TheVariants as kind
use Rattle.je_ast.specs.declared.name.Identifier.{Identifier}
use Rattle.je_ast.specs.declared.operator.BinaryOp.{BinaryOp}
use Rattle.je_ast.specs.declared.operator.BinaryOp.TheVariants as op
use Rattle.je_ast.specs.declared.operator.PostfixOp.{PostfixOp}
use Rattle.je_ast.specs.declared.operator.PostfixOp.TheVariants as postfix_op
use Rattle.je_ast.specs.Types.{TypeName}
use Rattle.je_ast.specs.Trees.{Expression, Expressions, Members}
use Rattle.je_ast.specs.Height.{height}
use Rattle.je_grammar.specs.Tokens.{it_is, IsSymbol}
use Rattle.je_grammar.specs.Operators.{level, operator_level, operator_symbol, postfix_symbol, assignment_symbol}
use Rattle.je_grammar.specs.Context.{is_bare_creation}
use Rattle.parse_laws.specs.way.Tokens.{behind_word}
use Rattle.parse_laws.specs.way.Types.{plain_type_at}
use Rattle.parse_laws.specs.way.Below.{Below}
use Rattle.parse_laws.specs.way.Readers.{IsBelow, reach}
use Rattle.parse_laws.specs.way.Expressions.{Closed, postfix_operator, binary_operator, assignment_operator, arguments_at, length_at, selected_at, index_step, selection_step, selections_at, increments_at, binary_step, operation_step, operations_at, choices_at, conditional_at, assignment_at}
use Rattle.expression_laws.specs.way.Parts.{ReadTypes, ReadBodies}
use Rattle.parse_laws.specs.way.Readers.{symbol_reach}
use Rattle.je_grammar.proofs.AtLeastOne.{expressions_spell_some}
use Rattle.je_grammar.proofs.Sizes.{size-SpellsArguments, size-SpellsName, size-SpellsDims}
use Rattle.parse_laws.proofs.Rules.{either, choose, or_split}
use Rattle.parse_laws.proofs.Fronts.{Front, front, behind_front, FrontName, front_name}
use Rattle.expression_laws.proofs.Fronts.{FrontPostfix, front_postfix, postfix_front, FrontBinary, front_binary, binary_front, FrontAssignment, front_assignment, assignment_front, PlainType, a_primitive, a_class, plain_type_read}
use Rattle.expression_laws.proofs.Begins.{operators_from}
use Rattle.expression_laws.proofs.Primaries.{GoodBelow, sound_below, GoodArguments, arguments_sound, GoodLength, length_sound}
use Rattle.expression_laws.proofs.Sound.{Selected, selected_sound, Choices, choices_sound}

-- ---- lengths, and what goes on

pub front_shorter : {k : TokenKind} {ts rest : List Token} → Front k ts rest → length rest < length ts
front_shorter (front i) = omega arith

pub name_shorter : {n : Identifier} {ts rest : List Token} → FrontName ts (n, rest) → length rest < length ts
name_shorter (front_name i) = omega arith

pub symbol_reaches : {y : Symbol} {ts rest : List Token} → Front (kind.Symbol y) ts rest → reach ts ≡ symbol_reach y
symbol_reaches (front it_is) = refl

pub instance_reaches : {ts rest : List Token} → Front (kind.Keyword word.InstanceOf) ts rest → reach ts ≡ 9
instance_reaches (front it_is) = refl

postfix_reaches : (o : PostfixOp) → symbol_reach (postfix_symbol o) ≡ 14
postfix_reaches postfix_op.Increment = refl
postfix_reaches postfix_op.Decrement = refl

pub postfix_goes_on : (o : PostfixOp) {t : Token} (ts : List Token) → IsSymbol (postfix_symbol o) t → reach (t ∷ ts) ≡ 14
postfix_goes_on o ts it_is = postfix_reaches o

front_postfix_reaches : {o : PostfixOp} {ts rest : List Token} → FrontPostfix ts (o, rest) → (reach ts ≡ 14) × (length rest < length ts)
front_postfix_reaches (front_postfix {o} {t} {rest} i) = (postfix_goes_on o rest i, omega arith)

operator_reaches : (o : BinaryOp) → symbol_reach (operator_symbol o) ≡ operator_level o
operator_reaches op.Or = refl
operator_reaches op.And = refl
operator_reaches op.BitOr = refl
operator_reaches op.BitXor = refl
operator_reaches op.BitAnd = refl
operator_reaches op.Equal = refl
operator_reaches op.NotEqual = refl
operator_reaches op.Less = refl
operator_reaches op.Greater = refl
operator_reaches op.LessEqual = refl
operator_reaches op.GreaterEqual = refl
operator_reaches op.ShiftLeft = refl
operator_reaches op.ShiftRight = refl
operator_reaches op.UnsignedShiftRight = refl
operator_reaches op.Add = refl
operator_reaches op.Subtract = refl
operator_reaches op.Multiply = refl
operator_reaches op.Divide = refl
operator_reaches op.Remainder = refl

pub operator_goes_on : (o : BinaryOp) {t : Token} (ts : List Token) → IsSymbol (operator_symbol o) t → reach (t ∷ ts) ≡ operator_level o
operator_goes_on o ts it_is = operator_reaches o

front_binary_reaches : {o : BinaryOp} {ts rest : List Token} → FrontBinary ts (o, rest) → (reach ts ≡ operator_level o) × (length rest < length ts)
front_binary_reaches (front_binary {o} {t} {rest} i) = (operator_goes_on o rest i, omega arith)

some_of : (x : Symbol) {y : Symbol} → Some x ≡ Some y → x ≡ y
some_of x e = cc

assignment_reaches : (o : Option BinaryOp) (y : Symbol) → assignment_symbol o ≡ Some y → symbol_reach y ≡ 1
assignment_reaches None y e = let s = some_of symbol.Assign e in rw (sym s) refl
assignment_reaches (Some op.Or) y e = absurd cc
assignment_reaches (Some op.And) y e = absurd cc
assignment_reaches (Some op.BitOr) y e = let s = some_of symbol.OrAssign e in rw (sym s) refl
assignment_reaches (Some op.BitXor) y e = let s = some_of symbol.CaretAssign e in rw (sym s) refl
assignment_reaches (Some op.BitAnd) y e = let s = some_of symbol.AndAssign e in rw (sym s) refl
assignment_reaches (Some op.Equal) y e = absurd cc
assignment_reaches (Some op.NotEqual) y e = absurd cc
assignment_reaches (Some op.Less) y e = absurd cc
assignment_reaches (Some op.Greater) y e = absurd cc
assignment_reaches (Some op.LessEqual) y e = absurd cc
assignment_reaches (Some op.GreaterEqual) y e = absurd cc
assignment_reaches (Some op.ShiftLeft) y e = let s = some_of symbol.ShiftLeftAssign e in rw (sym s) refl
assignment_reaches (Some op.ShiftRight) y e = let s = some_of symbol.ShiftRightAssign e in rw (sym s) refl
assignment_reaches (Some op.UnsignedShiftRight) y e = let s = some_of symbol.UnsignedShiftRightAssign e in rw (sym s) refl
assignment_reaches (Some op.Add) y e = let s = some_of symbol.PlusAssign e in rw (sym s) refl
assignment_reaches (Some op.Subtract) y e = let s = some_of symbol.MinusAssign e in rw (sym s) refl
assignment_reaches (Some op.Multiply) y e = let s = some_of symbol.StarAssign e in rw (sym s) refl
assignment_reaches (Some op.Divide) y e = let s = some_of symbol.SlashAssign e in rw (sym s) refl
assignment_reaches (Some op.Remainder) y e = let s = some_of symbol.PercentAssign e in rw (sym s) refl

pub assignment_goes_on : (o : Option BinaryOp) {y : Symbol} {t : Token} (ts : List Token) → assignment_symbol o ≡ Some y → IsSymbol y t → reach (t ∷ ts) ≡ 1
assignment_goes_on o {y} ts e it_is = assignment_reaches o y e

front_assignment_reaches : {o : Option BinaryOp} {ts rest : List Token} → FrontAssignment ts (o, rest) → (reach ts ≡ 1) × (length rest < length ts)
front_assignment_reaches (front_assignment {o} {y} {t} {rest} e i) = (assignment_goes_on o rest e i, omega arith)

plain_shorter : {t : TypeName} {ts rest : List Token} → PlainType ts (t, rest) → length rest < length ts
plain_shorter (a_primitive i d) = let a = size-SpellsDims d in omega arith
plain_shorter (a_class n d) = let a = size-SpellsName n in let b = size-SpellsDims d in omega arith

-- ---- loops

-- where a loop stands behind an expression
pub data Moves (goes_on : Type 0) (e : Expression) (rest : List Token) (y : Expression × List Token) : Type 0 where
  still : y ≡ (e, rest) → Moves goes_on e rest y
  moved : length y.1 < length rest → goes_on → Moves goes_on e rest y

pub no_longer : {goes_on : Type 0} {e : Expression} {rest : List Token} {y : Expression × List Token} → Moves goes_on e rest y → length y.1 ≤ length rest
no_longer (still e) = rw e (omega arith)
no_longer (moved lt g) = omega arith

pub moved_on : {g goes_on : Type 0} {e u : Expression} {rest next : List Token} {y : Expression × List Token} → Moves g u next y → length next < length rest → goes_on → Moves goes_on e rest y
moved_on m lt g = moved (let a = no_longer m in omega arith) g

module _ (names texts : List (List ℕ)) (h : ℕ) (p : Below) (body : List Token → Closed Members) (below : IsBelow names texts h p) (bodies : ReadBodies names texts h body) (types : ReadTypes h) where
  arguments_shorter : {ts : List Token} {y : Expressions × Span × List Token} → GoodArguments names texts h ts y → length y.2 ≤ length ts
  arguments_shorter g = let a = size-SpellsArguments names texts g.spelled in omega arith

  pub length_shorter : {ts : List Token} {x : Expression × Span × List Token} → GoodLength names texts h ts x → length x.2 < length ts
  length_shorter g = let a = front_shorter g.opens in let b = expressions_spell_some names texts _ _ _ g.spelled in let c = front_shorter g.closes in omega arith

  good_shorter : {least : ℕ} {ts : List Token} {x : Expression × List Token} → GoodBelow names texts h least ts x → length x.1 < length ts
  good_shorter g = expressions_spell_some names texts _ _ _ g.spelled

  pub selections_move : (n : ℕ) (e : Expression) (rest : List Token) → Moves (15 ≤ reach rest) e rest (selections_at texts h p body n e rest)
  unfolding selections_at selection_step index_step
  selections_move zero e rest = still refl
  selections_move (suc n) e rest =
      choose (nat_lt h (height e)) _ _ (Moves (15 ≤ reach rest) e rest) (λ _. still refl)
      (λ _. either (selected_at texts h p body rest) _ _ (Selected names texts rest) (Moves (15 ≤ reach rest) e rest) (selected_sound names texts h p body below bodies types rest)
      (λ x s. let l1 = front_shorter s.dot in let l2 = name_shorter s.name in let r = symbol_reaches s.dot in
      either (arguments_at texts h p body x.1) _ _ (GoodArguments names texts h x.1) (Moves (15 ≤ reach rest) e rest) (arguments_sound names texts h p body below bodies types x.1)
      (λ y a. let l3 = arguments_shorter a in moved_on (selections_move n _ y.2) (omega arith) (omega arith))
      (moved_on (selections_move n _ x.1) (omega arith) (omega arith)))
      (choose (is_bare_creation e) _ _ (Moves (15 ≤ reach rest) e rest) (λ _. still refl)
      (λ _. either (length_at texts h p body rest) _ _ (GoodLength names texts h rest) (Moves (15 ≤ reach rest) e rest) (length_sound names texts h p body below bodies types rest)
      (λ x i. let l = length_shorter i in let r = symbol_reaches i.opens in moved_on (selections_move n _ x.2) l (omega arith))
      (still refl))))

  pub increments_move : (n : ℕ) (e : Expression) (rest : List Token) → Moves (14 ≤ reach rest) e rest (increments_at texts h p body n e rest)
  unfolding increments_at
  increments_move zero e rest = still refl
  increments_move (suc n) e rest =
      choose (nat_lt h (height e)) _ _ (Moves (14 ≤ reach rest) e rest) (λ _. still refl)
      (λ _. either (postfix_operator rest) _ _ (FrontPostfix rest) (Moves (14 ≤ reach rest) e rest) (postfix_front rest)
      (λ x o. let f = front_postfix_reaches o in let r = f.0 in moved_on (increments_move n _ x.1) f.1 (omega arith))
      (still refl))

  pub operations_move : (n least most : ℕ) (e : Expression) (rest : List Token) → 0 < least → most ≤ 12 → Moves (max least 3 ≤ reach rest) e rest (operations_at texts h p body n least most e rest)
  unfolding operations_at operation_step binary_step
  operations_move zero least most e rest above small = still refl
  operations_move (suc n) least most e rest above small =
      choose (nat_lt h (height e)) _ _ (Moves (max least 3 ≤ reach rest) e rest) (λ _. still refl)
      (λ _. either (behind_word word.InstanceOf rest) _ _ (Front (kind.Keyword word.InstanceOf) rest) (Moves (max least 3 ≤ reach rest) e rest) (behind_front (kind.Keyword word.InstanceOf) rest)
      (λ mid w. choose (nat_lt 9 least || nat_lt most 9) _ _ (Moves (max least 3 ≤ reach rest) e rest) (λ _. still refl)
      (λ f. let b = or_split (nat_lt 9 least) (nat_lt most 9) f in
      let l1 : least ≤ 9 = ltb-false _ _ b.0 in
      let r = instance_reaches w in
      let l2 = front_shorter w in
      either (plain_type_at mid) _ _ (PlainType mid) (Moves (max least 3 ≤ reach rest) e rest) (plain_type_read types mid)
      (λ t i. let l3 = plain_shorter i in moved_on (operations_move n least 9 _ t.1 above (omega arith)) (omega arith) (omega arith))
      (still refl)))
      (either (binary_operator rest) _ _ (FrontBinary rest) (Moves (max least 3 ≤ reach rest) e rest) (binary_front rest)
      (λ o i. let k = operator_level o.0 in choose (nat_lt k least || nat_lt most k) _ _ (Moves (max least 3 ≤ reach rest) e rest) (λ _. still refl)
      (λ f. let b = or_split (nat_lt k least) (nat_lt most k) f in
      let l1 : least ≤ k = ltb-false _ _ b.0 in
      let l2 : k ≤ most = ltb-false _ _ b.1 in
      let r = front_binary_reaches i in
      let r0 = r.0 in
      let r1 = r.1 in
      let three = operators_from o.0 in
      either (p.expression (k + 1) o.1) _ _ (GoodBelow names texts h (k + 1) o.1) (Moves (max least 3 ≤ reach rest) e rest) (sound_below names texts h p body below bodies types (k + 1) o.1 (omega arith) (omega arith))
      (λ x g. let l3 = good_shorter g in moved_on (operations_move n least k _ x.1 above (omega arith)) (omega arith) (omega arith))
      (still refl)))
      (still refl)))

  pub conditional_move : (least : ℕ) (e : Expression) (rest : List Token) → Moves (max least 2 ≤ reach rest) e rest (conditional_at texts h p body least e rest)
  unfolding conditional_at
  conditional_move least e rest =
      choose (nat_lt 2 least || nat_lt h (height e)) _ _ (Moves (max least 2 ≤ reach rest) e rest) (λ _. still refl)
      (λ f. let b = or_split (nat_lt 2 least) (nat_lt h (height e)) f in
      let l1 : least ≤ 2 = ltb-false _ _ b.0 in
      either (choices_at texts h p body rest) _ _ (Choices names texts h rest) (Moves (max least 2 ≤ reach rest) e rest) (choices_sound names texts h p body below bodies types rest)
      (λ y c. let r = symbol_reaches c.question in let a = front_shorter c.question in let b = good_shorter c.first in let d = front_shorter c.between in let e = good_shorter c.second in moved (omega arith) (omega arith))
      (still refl))

  pub assignment_move : (least : ℕ) (e : Expression) (rest : List Token) → Moves (max least 1 ≤ reach rest) e rest (assignment_at texts h p body least e rest)
  unfolding assignment_at
  assignment_move least e rest =
      choose (nat_lt 1 least || nat_lt h (height e) || nat_lt (level e) 15) _ _ (Moves (max least 1 ≤ reach rest) e rest) (λ _. still refl)
      (λ f. let b = or_split (nat_lt 1 least || nat_lt h (height e)) (nat_lt (level e) 15) f in
      let c = or_split (nat_lt 1 least) (nat_lt h (height e)) b.0 in
      let l1 : least ≤ 1 = ltb-false _ _ c.0 in
      either (assignment_operator rest) _ _ (FrontAssignment rest) (Moves (max least 1 ≤ reach rest) e rest) (assignment_front rest)
      (λ o a. let r = front_assignment_reaches a in let r0 = r.0 in let r1 = r.1 in
      either (p.expression 1 o.1) _ _ (GoodBelow names texts h 1 o.1) (Moves (max least 1 ≤ reach rest) e rest) (sound_below names texts h p body below bodies types 1 o.1 (omega arith) (omega arith))
      (λ x g. let l = good_shorter g in moved (omega arith) (omega arith))
      (still refl))
      (still refl))
