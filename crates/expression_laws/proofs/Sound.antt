-- What is read as an expression is spelled, binds as tightly as was asked, and is no higher than was asked.
use Rattle.std.proofs.Common.{◌≡◌, ℕ, zero, suc, ◌+◌, ◌<◌, ◌≤◌, max, true, false, List, Option, IfSome, arith, ◌||◌, nat_lt}
use Rattle.std.proofs.lemmas.Bool.{ltb-false}
use Rattle.je_base.specs.declared.span.Span.{Span}
use Rattle.je_token.specs.declared.keyword.Keyword.TheVariants as word
use Rattle.je_token.specs.declared.symbol.Symbol.TheVariants as symbol
use Rattle.je_token.specs.declared.token.Token.{Token}
use Rattle.je_token.specs.declared.token.TokenKind.TheVariants as kind
use Rattle.je_ast.specs.declared.name.Identifier.{Identifier}
use Rattle.je_ast.specs.declared.operator.BinaryOp.{BinaryOp}
use Rattle.je_ast.specs.declared.operator.PrefixOp.{PrefixOp}
use Rattle.je_ast.specs.declared.operator.PostfixOp.{PostfixOp}
use Rattle.je_ast.specs.Types.{TypeName}
use Rattle.je_ast.specs.Trees.{Expression, Expressions, Member, Members}
use Rattle.je_ast.specs.Trees as tree
use Rattle.je_ast.specs.Height.{height}
use Rattle.je_ast.specs.Spans.{join, span_of, type_span}
use Rattle.je_grammar.specs.Tokens.{first_span}
use Rattle.je_grammar.specs.Operators.{level, operator_level}
use Rattle.je_grammar.specs.Context.{is_bare_creation}
use Rattle.je_grammar.specs.Grammar.{Spells, is_select, is_call_on, is_index, is_primitive_cast, is_class_cast, is_prefix, is_postfix, is_binary, is_instance_of, is_conditional, is_assign}
use Rattle.je_grammar.specs.Grammar.{SpellsArguments}
use Rattle.parse_laws.specs.way.Tokens.{◌>>=◌, behind, behind_word, identifier_at}
use Rattle.parse_laws.specs.way.Types.{plain_type_at, is_cast_at}
use Rattle.parse_laws.specs.way.Below.{Below}
use Rattle.parse_laws.specs.way.Readers.{IsBelow}
use Rattle.parse_laws.specs.way.Expressions.{Closed, prefix_operator, postfix_operator, binary_operator, assignment_operator, arguments_at, length_at, primary_at, selected_at, index_step, selection_step, selections_at, increments_at, postfix_at, may_be_cast, cast_at, prefix_at, unary_at, binary_step, operation_step, operations_at, choices_at, conditional_at, assignment_at, expression_layer}
use Rattle.expression_laws.specs.way.Parts.{ReadTypes, ReadBodies}
use Rattle.parse_laws.proofs.Rules.{bind, either, choose, weaken, or_split}
use Rattle.parse_laws.proofs.Fronts.{Front, front, behind_front, FrontName, front_name, identifier_front}
use Rattle.expression_laws.proofs.Fronts.{FrontPrefix, front_prefix, prefix_front, FrontPostfix, front_postfix, postfix_front, FrontBinary, front_binary, binary_front, FrontAssignment, front_assignment, assignment_front, PlainType, a_primitive, a_class, plain_type_read, plain_type_spelled, plain_has_no_arguments, plain_height}
use Rattle.expression_laws.proofs.Begins.{height_positive, operators_from, operators_to, takes_class_cast}
use Rattle.expression_laws.proofs.Primaries.{GoodBelow, Good, sound_below, GoodArguments, arguments_sound, GoodLength, length_sound, primary_sound}

module _ (names texts : List (List ℕ)) where
  -- ---- from what stands in front to what is spelled

  -- a point and a name
  pub record Selected (ts : List Token) (x : Identifier × List Token) : Type 0 where
    pub behind_dot : List Token
    pub dot : Front (kind.Symbol symbol.Dot) ts behind_dot
    pub name : FrontName behind_dot x

  select_by : {e : Expression} {n : Identifier} {ts mid a rest : List Token} → 15 ≤ level e → Spells names texts e ts mid → Front (kind.Symbol symbol.Dot) mid a → FrontName a (n, rest) →
      Spells names texts (tree.select e n (join (span_of e) n.span)) ts rest
  select_by le d (front k) (front_name t) = is_select le d k t

  call_on_by : {e : Expression} {n : Identifier} {es : Expressions} {c : Span} {ts mid a last rest : List Token} → 15 ≤ level e → Spells names texts e ts mid → Front (kind.Symbol symbol.Dot) mid a → FrontName a (n, last) →
      SpellsArguments names texts es c last rest → Spells names texts (tree.call_on e n es (join (span_of e) c)) ts rest
  call_on_by le d (front k) (front_name t) a = is_call_on le d k t a

  index_by : {e i : Expression} {ts mid inside last rest : List Token} → 15 ≤ level e → is_bare_creation e ≡ false → Spells names texts e ts mid → Front (kind.Symbol symbol.OpenBracket) mid inside →
      Spells names texts i inside last → Front (kind.Symbol symbol.CloseBracket) last rest → Spells names texts (tree.index e i (join (span_of e) (first_span last))) ts rest
  index_by le b d (front o) i (front c) = is_index le b d o i c

  postfix_by : {o : PostfixOp} {e : Expression} {ts mid rest : List Token} → 14 ≤ level e → Spells names texts e ts mid → FrontPostfix mid (o, rest) →
      Spells names texts (tree.postfix o (first_span mid) e (join (span_of e) (first_span mid))) ts rest
  postfix_by le d (front_postfix a) = is_postfix le d a

  prefix_by : {o : PrefixOp} {e : Expression} {ts mid rest : List Token} → 13 ≤ level e → FrontPrefix ts (o, mid) → Spells names texts e mid rest →
      Spells names texts (tree.prefix o (first_span ts) e (join (first_span ts) (span_of e))) ts rest
  prefix_by le (front_prefix a) d = is_prefix le a d

  cast_by : (h : ℕ) (p : Below) (body : List Token → Closed Members) {t : TypeName} {e : Expression} {ts inside mid last rest : List Token} → 13 ≤ level e → Front (kind.Symbol symbol.OpenParen) ts inside → PlainType inside (t, mid) →
      Front (kind.Symbol symbol.CloseParen) mid last → may_be_cast texts h p body t last ≡ true → Spells names texts e last rest →
      Spells names texts (tree.cast t e (join (first_span ts) (span_of e))) ts rest
  cast_by h p body le (front o) (a_primitive i d) (front c) b s = is_primitive_cast le o i d c s
  cast_by h p body le (front o) (a_class n d) (front c) b s = is_class_cast (takes_class_cast names texts s le b) o n d c s

  binary_by : {o : BinaryOp} {l r : Expression} {ts mid last rest : List Token} → operator_level o ≤ level l → operator_level o < level r → Spells names texts l ts mid → FrontBinary mid (o, last) →
      Spells names texts r last rest → Spells names texts (tree.binary o (first_span mid) l r (join (span_of l) (span_of r))) ts rest
  binary_by a b l (front_binary i) r = is_binary a b l i r

  instance_by : {e : Expression} {t : TypeName} {ts mid last rest : List Token} → 9 ≤ level e → Spells names texts e ts mid → Front (kind.Keyword word.InstanceOf) mid last → PlainType last (t, rest) →
      Spells names texts (tree.instance_of (first_span mid) e t (join (span_of e) (type_span t))) ts rest
  instance_by le d (front w) t = is_instance_of le (plain_has_no_arguments t) d w (plain_type_spelled t)

  conditional_by : {c x y : Expression} {ts mid inside last other rest : List Token} → 3 ≤ level c → 2 ≤ level y → Spells names texts c ts mid → Front (kind.Symbol symbol.Question) mid inside →
      Spells names texts x inside last → Front (kind.Symbol symbol.Colon) last other → Spells names texts y other rest →
      Spells names texts (tree.conditional (first_span mid) c x y (join (span_of c) (span_of y))) ts rest
  conditional_by a b c (front q) x (front k) y = is_conditional a b c q x k y

  assign_by : {o : Option BinaryOp} {l r : Expression} {ts mid last rest : List Token} → 15 ≤ level l → Spells names texts l ts mid → FrontAssignment mid (o, last) → Spells names texts r last rest →
      Spells names texts (tree.assign o (first_span mid) l r (join (span_of l) (span_of r))) ts rest
  assign_by le l (front_assignment e a) r = is_assign le l e a r

  -- the choices behind a question mark
  pub record Choices (h : ℕ) (ts : List Token) (y : Expression × Expression × List Token) : Type 0 where
    pub inside : List Token
    pub colon : List Token
    pub other : List Token
    pub question : Front (kind.Symbol symbol.Question) ts inside
    pub first : GoodBelow names texts h 1 inside (y.0, colon)
    pub between : Front (kind.Symbol symbol.Colon) colon other
    pub second : GoodBelow names texts h 2 other (y.1, y.2)

  looser : {h k l : ℕ} {ts : List Token} {x : Expression × List Token} → l ≤ k → Good names texts h k ts x → Good names texts h l ts x
  looser le g = record { spelled = g.spelled; fits = let b = g.fits in omega arith; within = g.within }

  -- ---- what is read

  module _ (h : ℕ) (p : Below) (body : List Token → Closed Members) (below : IsBelow names texts h p)
      (bodies : ReadBodies names texts h body) (types : ReadTypes h) where
    pub selected_sound : (ts : List Token) → IfSome (selected_at texts h p body ts) (Selected ts)
    selected_sound ts = bind (behind symbol.Dot ts) identifier_at (Front (kind.Symbol symbol.Dot) ts) (Selected ts) (behind_front (kind.Symbol symbol.Dot) ts)
        (λ a f. weaken (identifier_at a) (FrontName a) (Selected ts) (identifier_front a) (λ x n. record { behind_dot = a; dot = f; name = n }))

    selections_sound : (n : ℕ) (ts : List Token) (e : Expression) (rest : List Token) → Good names texts h 15 ts (e, rest) → Good names texts h 15 ts (selections_at texts h p body n e rest)
    unfolding selections_at selection_step index_step
    selections_sound zero ts e rest g = g
    selections_sound (suc n) ts e rest g =
        choose (nat_lt h (height e)) _ _ (Good names texts h 15 ts) (λ _. g)
        (λ f. let low : height e ≤ h = ltb-false _ _ f in
        either (selected_at texts h p body rest) _ _ (Selected rest) (Good names texts h 15 ts) (selected_sound rest)
        (λ x s. either (arguments_at texts h p body x.1) _ _ (GoodArguments names texts h x.1) (Good names texts h 15 ts) (arguments_sound names texts h p body below bodies types x.1)
        (λ y a. selections_sound n ts _ _ (record { spelled = call_on_by g.fits g.spelled s.dot s.name a.spelled; fits = omega arith; within = let b = a.within in omega arith }))
        (selections_sound n ts _ _ (record { spelled = select_by g.fits g.spelled s.dot s.name; fits = omega arith; within = omega arith })))
        (choose (is_bare_creation e) _ _ (Good names texts h 15 ts) (λ _. g)
        (λ b. either (length_at texts h p body rest) _ _ (GoodLength names texts h rest) (Good names texts h 15 ts) (length_sound names texts h p body below bodies types rest)
        (λ x i. selections_sound n ts _ _ (record {
          spelled = rw i.ends (index_by g.fits b g.spelled i.opens i.spelled i.closes);
          fits = omega arith;
          within = let a = i.within in omega arith;
        }))
        g)))

    increments_sound : (n : ℕ) (ts : List Token) (e : Expression) (rest : List Token) → Good names texts h 14 ts (e, rest) → Good names texts h 14 ts (increments_at texts h p body n e rest)
    unfolding increments_at
    increments_sound zero ts e rest g = g
    increments_sound (suc n) ts e rest g =
        choose (nat_lt h (height e)) _ _ (Good names texts h 14 ts) (λ _. g)
        (λ f. let low : height e ≤ h = ltb-false _ _ f in
        either (postfix_operator rest) _ _ (FrontPostfix rest) (Good names texts h 14 ts) (postfix_front rest)
        (λ x o. increments_sound n ts _ _ (record { spelled = postfix_by g.fits g.spelled o; fits = omega arith; within = omega arith }))
        g)

    postfix_sound : (ts : List Token) → is_cast_at ts ≡ false → IfSome (postfix_at texts h p body ts) (Good names texts h 14 ts)
    unfolding postfix_at
    postfix_sound ts plain =
        bind (primary_at texts h p body ts) _ (Good names texts h 15 ts) (Good names texts h 14 ts) (primary_sound names texts h p body below bodies types ts plain)
        (λ x g. let s = selections_sound (suc h) ts x.0 x.1 g in increments_sound (suc h) ts _ _ (looser (omega arith) s))

    cast_sound : (ts : List Token) → IfSome (cast_at texts h p body ts) (Good names texts h 13 ts)
    unfolding cast_at
    cast_sound ts =
        bind (behind symbol.OpenParen ts >>= plain_type_at) _ (λ t. (inside : List Token) × Front (kind.Symbol symbol.OpenParen) ts inside × PlainType inside t) (Good names texts h 13 ts)
        (bind (behind symbol.OpenParen ts) plain_type_at (Front (kind.Symbol symbol.OpenParen) ts) (λ t. (inside : List Token) × Front (kind.Symbol symbol.OpenParen) ts inside × PlainType inside t) (behind_front (kind.Symbol symbol.OpenParen) ts)
        (λ inside o. weaken (plain_type_at inside) (PlainType inside) _ (plain_type_read types inside) (λ t i. (inside, o, i))))
        (λ t c. bind (behind symbol.CloseParen t.1) _ (Front (kind.Symbol symbol.CloseParen) t.1) (Good names texts h 13 ts) (behind_front (kind.Symbol symbol.CloseParen) t.1)
        (λ operand k. choose (may_be_cast texts h p body t.0 operand) _ _ (λ o. IfSome o (Good names texts h 13 ts))
        (λ b. bind (p.expression 13 operand) _ (GoodBelow names texts h 13 operand) (Good names texts h 13 ts) (sound_below names texts h p body below bodies types 13 operand (omega arith) (omega arith))
        (λ x g. record {
          spelled = cast_by h p body g.fits c.1 c.2 k b g.spelled;
          fits = omega arith;
          within = let a = g.within in omega (arith, plain_height c.2, height_positive x.0);
        }))
        (λ _. tt)))

    prefix_sound : {o : PrefixOp} {ts mid : List Token} → FrontPrefix ts (o, mid) → IfSome (prefix_at texts h p body o (first_span ts) mid) (Good names texts h 13 ts)
    unfolding prefix_at
    prefix_sound {o} {ts} {mid} f =
        bind (p.expression 13 mid) _ (GoodBelow names texts h 13 mid) (Good names texts h 13 ts) (sound_below names texts h p body below bodies types 13 mid (omega arith) (omega arith))
        (λ x g. record { spelled = prefix_by g.fits f g.spelled; fits = omega arith; within = let a = g.within in omega arith })

    pub unary_sound : (ts : List Token) → IfSome (unary_at texts h p body ts) (Good names texts h 13 ts)
    unfolding unary_at
    unary_sound ts =
        either (prefix_operator ts) _ _ (FrontPrefix ts) (λ o. IfSome o (Good names texts h 13 ts)) (prefix_front ts) (λ o f. prefix_sound f)
        (choose (is_cast_at ts) _ _ (λ o. IfSome o (Good names texts h 13 ts)) (λ _. cast_sound ts)
        (λ plain. weaken (postfix_at texts h p body ts) (Good names texts h 14 ts) (Good names texts h 13 ts) (postfix_sound ts plain) (λ x g. looser (omega arith) g)))

    operations_sound : (n least most : ℕ) (ts : List Token) (e : Expression) (rest : List Token) → 0 < least → most ≤ 12 → most ≤ level e → Good names texts h (max least 3) ts (e, rest) →
        Good names texts h (max least 3) ts (operations_at texts h p body n least most e rest)
    unfolding operations_at operation_step binary_step
    operations_sound zero least most ts e rest above small loose g = g
    operations_sound (suc n) least most ts e rest above small loose g =
        choose (nat_lt h (height e)) _ _ (Good names texts h (max least 3) ts) (λ _. g)
        (λ f. let low : height e ≤ h = ltb-false _ _ f in
        either (behind_word word.InstanceOf rest) _ _ (Front (kind.Keyword word.InstanceOf) rest) (Good names texts h (max least 3) ts) (behind_front (kind.Keyword word.InstanceOf) rest)
        (λ mid w. choose (nat_lt 9 least || nat_lt most 9) _ _ (Good names texts h (max least 3) ts) (λ _. g)
        (λ f. let b = or_split (nat_lt 9 least) (nat_lt most 9) f in
        let l1 : least ≤ 9 = ltb-false _ _ b.0 in
        let l2 : 9 ≤ most = ltb-false _ _ b.1 in
        either (plain_type_at mid) _ _ (PlainType mid) (Good names texts h (max least 3) ts) (plain_type_read types mid)
        (λ t i. operations_sound n least 9 ts _ _ above (omega arith) (omega arith) (record {
          spelled = instance_by (omega arith) g.spelled w i;
          fits = omega arith;
          within = omega (arith, plain_height i, height_positive e);
        }))
        g))
        (either (binary_operator rest) _ _ (FrontBinary rest) (Good names texts h (max least 3) ts) (binary_front rest)
        (λ o i. let k = operator_level o.0 in choose (nat_lt k least || nat_lt most k) _ _ (Good names texts h (max least 3) ts) (λ _. g)
        (λ f. let b = or_split (nat_lt k least) (nat_lt most k) f in
        let l1 : least ≤ k = ltb-false _ _ b.0 in
        let l2 : k ≤ most = ltb-false _ _ b.1 in
        let three = operators_from o.0 in
        let twelve = operators_to o.0 in
        either (p.expression (k + 1) o.1) _ _ (GoodBelow names texts h (k + 1) o.1) (Good names texts h (max least 3) ts) (sound_below names texts h p body below bodies types (k + 1) o.1 (omega arith) (omega arith))
        (λ x r. operations_sound n least k ts _ _ above (omega arith) (omega arith) (record {
          spelled = binary_by (omega arith) (let c = r.fits in omega arith) g.spelled i r.spelled;
          fits = omega arith;
          within = let c = r.within in omega arith;
        }))
        g))
        g))

    pub choices_sound : (ts : List Token) → IfSome (choices_at texts h p body ts) (Choices h ts)
    unfolding choices_at
    choices_sound ts =
        bind (behind symbol.Question ts >>= p.expression 1) _ (λ x. (inside : List Token) × Front (kind.Symbol symbol.Question) ts inside × GoodBelow names texts h 1 inside x) (Choices h ts)
        (bind (behind symbol.Question ts) (p.expression 1) (Front (kind.Symbol symbol.Question) ts) (λ x. (inside : List Token) × Front (kind.Symbol symbol.Question) ts inside × GoodBelow names texts h 1 inside x) (behind_front (kind.Symbol symbol.Question) ts)
        (λ inside q. weaken (p.expression 1 inside) (GoodBelow names texts h 1 inside) _ (sound_below names texts h p body below bodies types 1 inside (omega arith) (omega arith)) (λ x g. (inside, q, g))))
        (λ x c. bind (behind symbol.Colon x.1 >>= p.expression 2) _ (λ y. (other : List Token) × Front (kind.Symbol symbol.Colon) x.1 other × GoodBelow names texts h 2 other y) (Choices h ts)
        (bind (behind symbol.Colon x.1) (p.expression 2) (Front (kind.Symbol symbol.Colon) x.1) (λ y. (other : List Token) × Front (kind.Symbol symbol.Colon) x.1 other × GoodBelow names texts h 2 other y) (behind_front (kind.Symbol symbol.Colon) x.1)
        (λ other k. weaken (p.expression 2 other) (GoodBelow names texts h 2 other) _ (sound_below names texts h p body below bodies types 2 other (omega arith) (omega arith)) (λ y g. (other, k, g))))
        (λ y d. record { inside = c.0; colon = x.1; other = d.0; question = c.1; first = c.2; between = d.1; second = d.2 }))

    conditional_sound : (least : ℕ) (ts : List Token) (e : Expression) (rest : List Token) → Good names texts h (max least 3) ts (e, rest) → Good names texts h (max least 2) ts (conditional_at texts h p body least e rest)
    unfolding conditional_at
    conditional_sound least ts e rest g =
        choose (nat_lt 2 least || nat_lt h (height e)) _ _ (Good names texts h (max least 2) ts) (λ _. looser (omega arith) g)
        (λ f. let b = or_split (nat_lt 2 least) (nat_lt h (height e)) f in
        let l1 : least ≤ 2 = ltb-false _ _ b.0 in
        let low : height e ≤ h = ltb-false _ _ b.1 in
        either (choices_at texts h p body rest) _ _ (Choices h rest) (Good names texts h (max least 2) ts) (choices_sound rest)
        (λ y c. record {
          spelled = conditional_by (let a = g.fits in omega arith) c.second.fits g.spelled c.question c.first.spelled c.between c.second.spelled;
          fits = omega arith;
          within = let a = c.first.within in let b = c.second.within in omega arith;
        })
        (looser (omega arith) g))

    assignment_sound : (least : ℕ) (ts : List Token) (e : Expression) (rest : List Token) → Good names texts h (max least 2) ts (e, rest) → Good names texts h least ts (assignment_at texts h p body least e rest)
    unfolding assignment_at
    assignment_sound least ts e rest g =
        choose (nat_lt 1 least || nat_lt h (height e) || nat_lt (level e) 15) _ _ (Good names texts h least ts) (λ _. looser (omega arith) g)
        (λ f. let b = or_split (nat_lt 1 least || nat_lt h (height e)) (nat_lt (level e) 15) f in
        let c = or_split (nat_lt 1 least) (nat_lt h (height e)) b.0 in
        let l1 : least ≤ 1 = ltb-false _ _ c.0 in
        let low : height e ≤ h = ltb-false _ _ c.1 in
        let tight : 15 ≤ level e = ltb-false _ _ b.1 in
        either (assignment_operator rest) _ _ (FrontAssignment rest) (Good names texts h least ts) (assignment_front rest)
        (λ o a. either (p.expression 1 o.1) _ _ (GoodBelow names texts h 1 o.1) (Good names texts h least ts) (sound_below names texts h p body below bodies types 1 o.1 (omega arith) (omega arith))
        (λ x r. record { spelled = assign_by tight g.spelled a r.spelled; fits = omega arith; within = let d = r.within in omega arith })
        (looser (omega arith) g))
        (looser (omega arith) g))

    pub layer_sound : (least : ℕ) (ts : List Token) → 0 < least → least ≤ 13 → IfSome (expression_layer texts h p body least ts) (Good names texts h least ts)
    unfolding expression_layer
    layer_sound least ts above small =
        bind (unary_at texts h p body ts) _ (Good names texts h 13 ts) (Good names texts h least ts) (unary_sound ts)
        (λ x g. let b = g.fits in
        let o = operations_sound (suc h) least 12 ts x.0 x.1 above (omega arith) (omega arith) (looser (omega arith) g) in
        assignment_sound least ts _ _ (conditional_sound least ts _ _ o))
