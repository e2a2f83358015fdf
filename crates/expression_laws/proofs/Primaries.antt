-- What is read as an argument, a length, a creation or another primary is spelled.
use Rattle.std.proofs.Common.{◌≡◌, ℕ, zero, suc, ◌<◌, ◌≤◌, true, false, List, [], ◌∷◌, ◌++◌, length, Option, Some, None, IfSome, refl, ap, ◌∙◌, arith, nat_lt, append_assoc}
use Rattle.std.specs.Prelude.{if◌then◌else◌}
use Rattle.std.proofs.lemmas.Bool.{ltb-true}
use Rattle.je_base.specs.declared.span.Span.{Span}
use Rattle.je_token.specs.declared.keyword.Keyword.TheVariants as word
use Rattle.je_token.specs.declared.symbol.Symbol.TheVariants as symbol
use Rattle.je_token.specs.declared.token.Token.{Token}
use Rattle.je_token.specs.declared.token.TokenKind.{TokenKind}
use Rattle.je_token.specs.declared.token.TokenKind.TheVariants as kind
use Rattle.je_ast.specs.declared.name.Identifier.{Identifier}
use Rattle.je_ast.specs.Types.{QualifiedName, TypeName, type_height}
use Rattle.je_ast.specs.Trees.{Expression, Expressions, Member, Members}
use Rattle.je_ast.specs.Trees as tree
use Rattle.je_ast.specs.Height.{height, heights}
use Rattle.je_ast.specs.Spans.{join, span_of}
use Rattle.je_grammar.specs.Tokens.{first_span}
use Rattle.je_grammar.specs.Operators.{level}
use Rattle.je_grammar.specs.Types.{SpellsName, SpellsDims}
use Rattle.je_grammar.specs.Context.{is_cast_before}
use Rattle.je_grammar.specs.Grammar.{SpellsElement, Spells, is_literal, is_simple_name, is_this, is_outer_this, is_parens, is_super_select, is_call, is_super_call, is_new, is_new_anonymous, is_new_array, is_new_array_of}
use Rattle.je_grammar.specs.Grammar.{SpellsArguments, no_arguments, some_arguments, SpellsList, last_expression, more_expressions, SpellsLengths, last_length, more_lengths, SpellsInit, expression_init, array_init, SpellsArrayInit, SpellsBody}
use Rattle.parse_laws.specs.way.Tokens.{◌>>=◌, is_some, behind, behind_word, behind_kind, is_symbol, is_word, is_identifier, identifier_at}
use Rattle.parse_laws.specs.way.Types.{name_at, dims_at, element_at, reference_at, is_cast_at}
use Rattle.parse_laws.specs.way.Below.{Below}
use Rattle.parse_laws.specs.way.Lists.{expressions}
use Rattle.parse_laws.specs.way.Readers.{IsRead, IsBelow, any}
use Rattle.parse_laws.specs.way.Expressions.{Closed, literal_at, is_outer_this_at, outer_this_at, makes_array_at, more_arguments_at, arguments_at, length_at, more_lengths_at, lengths_at, filled_at, array_at, object_at, creation_at, named_at, super_member_at, parens_at, primary_at}
use Rattle.expression_laws.specs.way.Parts.{IsReferenceRead, ReadTypes, IsBodyRead, ReadBodies}
use Rattle.parse_laws.specs.way.Readers.{SpellsReference, is_reference}
use Rattle.parse_laws.proofs.Rules.{bind, either, choose, weaken}
use Rattle.parse_laws.proofs.Fronts.{Front, front, behind_front, FrontName, front_name, identifier_front}
use Rattle.expression_laws.proofs.Fronts.{FrontLiteral, front_literal, literal_front, Element, an_element, element_read}
use Rattle.expression_laws.proofs.Casts.{no_cast_in_brackets}
use Rattle.expression_laws.proofs.Begins.{open_brace_begins_none}

front_given : {k : TokenKind} {ts : List Token} (o : Option (List Token)) → IfSome o (Front k ts) → is_some o ≡ true → (rest : List Token) × Front k ts rest
front_given (Some rest) f e = (rest, f)
front_given None f e = absurd cc

pub front_of : (k : TokenKind) (ts : List Token) → is_some (behind_kind k ts) ≡ true → (rest : List Token) × Front k ts rest
front_of k ts e = front_given (behind_kind k ts) (behind_front k ts) e

module _ (names texts : List (List ℕ)) where
  -- ---- from what stands in front to what is spelled

  comma_then : {e : Expression} {es : Expressions} {ts next mid last : List Token} → Front (kind.Symbol symbol.Comma) next mid → Spells names texts e ts next → SpellsList names texts es mid last →
      SpellsList names texts (tree.more_expressions e es) ts last
  comma_then (front k) d l = more_expressions d k l

  arguments_in : {es : Expressions} {ts inside last rest : List Token} → Front (kind.Symbol symbol.OpenParen) ts inside → SpellsList names texts es inside last → Front (kind.Symbol symbol.CloseParen) last rest →
      SpellsArguments names texts es (first_span last) ts rest
  arguments_in (front o) l (front c) = some_arguments o l c

  no_arguments_in : {ts inside rest : List Token} → Front (kind.Symbol symbol.OpenParen) ts inside → Front (kind.Symbol symbol.CloseParen) inside rest →
      SpellsArguments names texts tree.no_expressions (first_span inside) ts rest
  no_arguments_in (front o) (front c) = no_arguments o c

  length_alone : {e : Expression} {ts inside last rest : List Token} → Front (kind.Symbol symbol.OpenBracket) ts inside → Spells names texts e inside last → Front (kind.Symbol symbol.CloseBracket) last rest →
      SpellsLengths names texts (tree.more_expressions e tree.no_expressions) (first_span last) ts rest
  length_alone (front o) d (front c) = last_length o d c

  length_then : {e : Expression} {es : Expressions} {s : Span} {ts inside last mid rest : List Token} → Front (kind.Symbol symbol.OpenBracket) ts inside → Spells names texts e inside last → Front (kind.Symbol symbol.CloseBracket) last mid →
      SpellsLengths names texts es s mid rest → SpellsLengths names texts (tree.more_expressions e es) s ts rest
  length_then (front o) d (front c) l = more_lengths o d c l

  outer_this_in : {n : QualifiedName} {ts a b rest : List Token} → SpellsName n ts a → Front (kind.Symbol symbol.Dot) a b → Front (kind.Keyword word.This) b rest →
      Spells names texts (tree.outer_this n (first_span b) (join n.span (first_span b))) ts rest
  outer_this_in n (front d) (front t) = is_outer_this n d t

  this_in : {ts rest : List Token} → Front (kind.Keyword word.This) ts rest → Spells names texts (tree.this (first_span ts)) ts rest
  this_in (front t) = is_this t

  name_in : {n : Identifier} {ts rest : List Token} → FrontName ts (n, rest) → Spells names texts (tree.name n) ts rest
  name_in (front_name t) = is_simple_name t

  call_in : {n : Identifier} {es : Expressions} {c : Span} {ts mid rest : List Token} → FrontName ts (n, mid) → SpellsArguments names texts es c mid rest →
      Spells names texts (tree.call n es (join n.span c)) ts rest
  call_in (front_name t) a = is_call t a

  parens_in : {e : Expression} {ts inside last rest : List Token} → is_cast_before e rest ≡ false → Front (kind.Symbol symbol.OpenParen) ts inside → Spells names texts e inside last →
      Front (kind.Symbol symbol.CloseParen) last rest → Spells names texts (tree.parens e (join (first_span ts) (first_span last))) ts rest
  parens_in n (front o) d (front c) = is_parens n o d c

  literal_in : {e : Expression} {ts rest : List Token} → FrontLiteral names texts ts (e, rest) → Spells names texts e ts rest
  literal_in (front_literal l) = is_literal l

  new_in : {c : TypeName} {es : Expressions} {e : Span} {ts made mid rest : List Token} → Front (kind.Keyword word.New) ts made → SpellsReference c made mid → SpellsArguments names texts es e mid rest →
      Spells names texts (tree.new_object (first_span ts) c es (join (first_span ts) e)) ts rest
  new_in (front w) (is_reference r) a = is_new w r a

  new_anonymous_in : {c : TypeName} {es : Expressions} {ms : Members} {e f : Span} {ts made mid last rest : List Token} → Front (kind.Keyword word.New) ts made → SpellsReference c made mid →
      SpellsArguments names texts es e mid last → SpellsBody names texts ms f last rest → Spells names texts (tree.new_anonymous (first_span ts) c es ms (join (first_span ts) f)) ts rest
  new_anonymous_in (front w) (is_reference r) a b = is_new_anonymous w r a b

  new_array_in : {t : TypeName} {es : Expressions} {n : ℕ} {c s : Span} {ts made mid last rest : List Token} → Front (kind.Keyword word.New) ts made → SpellsElement t made mid →
      SpellsLengths names texts es c mid last → SpellsDims n (join (first_span ts) c) s last rest → Spells names texts (tree.new_array t es n s) ts rest
  new_array_in (front w) t l d = is_new_array w t l d

  new_array_of_in : {t : TypeName} {e : Expression} {n : ℕ} {d : Span} {ts made mid last rest : List Token} → Front (kind.Keyword word.New) ts made → SpellsElement t made mid → 0 < n →
      SpellsDims n (first_span ts) d mid last → SpellsArrayInit names texts e last rest → Spells names texts (tree.new_array_of t n e (join (first_span ts) (span_of e))) ts rest
  new_array_of_in (front w) t some d i = is_new_array_of w t some d i

  -- `super`, a point and a name
  record SuperName (ts : List Token) (x : Identifier × List Token) : Type 0 where
    dot : List Token
    behind_dot : List Token
    begins : Front (kind.Keyword word.Super) ts dot
    goes_on : Front (kind.Symbol symbol.Dot) dot behind_dot
    ends : FrontName behind_dot x

  super_select_by : {n : Identifier} {ts a b rest : List Token} → Front (kind.Keyword word.Super) ts a → Front (kind.Symbol symbol.Dot) a b → FrontName b (n, rest) →
      Spells names texts (tree.super_select (first_span ts) n (join (first_span ts) n.span)) ts rest
  super_select_by (front w) (front d) (front_name t) = is_super_select w d t

  super_call_by : {n : Identifier} {es : Expressions} {c : Span} {ts a b mid rest : List Token} → Front (kind.Keyword word.Super) ts a → Front (kind.Symbol symbol.Dot) a b → FrontName b (n, mid) →
      SpellsArguments names texts es c mid rest → Spells names texts (tree.super_call (first_span ts) n es (join (first_span ts) c)) ts rest
  super_call_by (front w) (front d) (front_name t) a = is_super_call w d t a

  array_init_of : {e : Expression} {ts behind_it rest : List Token} → Front (kind.Symbol symbol.OpenBrace) ts behind_it → SpellsInit names texts e ts rest → SpellsArrayInit names texts e ts rest
  array_init_of f (expression_init d) = absurd (open_brace_begins_none names texts f d)
  array_init_of f (array_init d) = d

  -- ---- what is read

  module _ (h : ℕ) where
    -- an expression of the height below, and one of this height
    abbrev pub GoodBelow : ℕ → List Token → Expression × List Token → Type 0
    GoodBelow least = IsRead (Spells names texts) height (λ e. least ≤ level e) h

    abbrev pub Good : ℕ → List Token → Expression × List Token → Type 0
    Good least = IsRead (Spells names texts) height (λ e. least ≤ level e) (suc h)

    pub record GoodArguments (ts : List Token) (y : Expressions × Span × List Token) : Type 0 where
      pub spelled : SpellsArguments names texts y.0 y.1 ts y.2
      pub within : heights y.0 ≤ h

    -- the expressions behind others, up to the bracket
    record MoreArguments (before : List Expression) (ts : List Token) (y : Expressions × Span × List Token) : Type 0 where
      items : List Expression
      last : List Token
      whole : y.0 ≡ expressions (before ++ items)
      ends : y.1 ≡ first_span last
      spelled : SpellsList names texts (expressions items) ts last
      closes : Front (kind.Symbol symbol.CloseParen) last y.2
      within : heights (expressions items) ≤ h

    -- a length in its brackets
    pub record GoodLength (ts : List Token) (x : Expression × Span × List Token) : Type 0 where
      pub inside : List Token
      pub last : List Token
      pub opens : Front (kind.Symbol symbol.OpenBracket) ts inside
      pub spelled : Spells names texts x.0 inside last
      pub closes : Front (kind.Symbol symbol.CloseBracket) last x.2
      pub ends : x.1 ≡ first_span last
      pub within : height x.0 ≤ h

    -- no lengths behind others, or some
    pub data MoreLengths (before : List Expression) (s : Span) (ts : List Token) (y : Expressions × Span × List Token) : Type 0 where
      no_more : y ≡ (expressions before, s, ts) → MoreLengths before s ts y
      some_more : (items : List Expression) → y.0 ≡ expressions (before ++ items) → SpellsLengths names texts (expressions items) y.1 ts y.2 → heights (expressions items) ≤ h → MoreLengths before s ts y

    pub record GoodLengths (ts : List Token) (y : Expressions × Span × List Token) : Type 0 where
      pub spelled : SpellsLengths names texts y.0 y.1 ts y.2
      pub within : heights y.0 ≤ h

  module _ (h : ℕ) (p : Below) (body : List Token → Closed Members) (below : IsBelow names texts h p)
      (bodies : ReadBodies names texts h body) (types : ReadTypes h) where
    pub sound_below : (least : ℕ) (ts : List Token) → 0 < least → least ≤ 13 → IfSome (p.expression least ts) (GoodBelow h least ts)
    sound_below least ts above le = (below.expression least above le).sound ts

    more_arguments_sound : (n : ℕ) (before : List Expression) (ts : List Token) → IfSome (more_arguments_at texts h p body n before ts) (MoreArguments h before ts)
    unfolding more_arguments_at
    more_arguments_sound zero before ts = tt
    more_arguments_sound (suc n) before ts =
        bind (p.expression 1 ts) _ (GoodBelow h 1 ts) (MoreArguments h before ts) (sound_below 1 ts (omega arith) (omega arith))
        (λ x g. either (behind symbol.Comma x.1) _ _ (Front (kind.Symbol symbol.Comma) x.1) (λ o. IfSome o (MoreArguments h before ts)) (behind_front (kind.Symbol symbol.Comma) x.1)
        (λ mid k. weaken _ (MoreArguments h (before ++ x.0 ∷ []) mid) (MoreArguments h before ts) (more_arguments_sound n (before ++ x.0 ∷ []) mid)
        (λ y m. record {
          items = x.0 ∷ m.items;
          last = m.last;
          whole = m.whole ∙ ap expressions (append_assoc before (x.0 ∷ []) m.items);
          ends = m.ends;
          spelled = comma_then k g.spelled m.spelled;
          closes = m.closes;
          within = let a = g.within in let b = m.within in omega arith;
        }))
        (bind (behind symbol.CloseParen x.1) _ (Front (kind.Symbol symbol.CloseParen) x.1) (MoreArguments h before ts) (behind_front (kind.Symbol symbol.CloseParen) x.1)
        (λ rest c. record {
          items = x.0 ∷ [];
          last = x.1;
          whole = refl;
          ends = refl;
          spelled = last_expression g.spelled;
          closes = c;
          within = let a = g.within in omega arith;
        })))

    pub arguments_sound : (ts : List Token) → IfSome (arguments_at texts h p body ts) (GoodArguments h ts)
    unfolding arguments_at
    arguments_sound ts =
        bind (behind symbol.OpenParen ts) _ (Front (kind.Symbol symbol.OpenParen) ts) (GoodArguments h ts) (behind_front (kind.Symbol symbol.OpenParen) ts)
        (λ inside o. either (behind symbol.CloseParen inside) _ _ (Front (kind.Symbol symbol.CloseParen) inside) (λ o. IfSome o (GoodArguments h ts)) (behind_front (kind.Symbol symbol.CloseParen) inside)
        (λ rest c. record { spelled = no_arguments_in o c; within = omega arith })
        (weaken _ (MoreArguments h [] inside) (GoodArguments h ts) (more_arguments_sound (length inside) [] inside)
        (λ y m. record {
          spelled = rw (m.whole, m.ends) (arguments_in o m.spelled m.closes);
          within = rw m.whole m.within;
        })))

    pub length_sound : (ts : List Token) → IfSome (length_at texts h p body ts) (GoodLength h ts)
    unfolding length_at
    length_sound ts =
        bind (behind symbol.OpenBracket ts) _ (Front (kind.Symbol symbol.OpenBracket) ts) (GoodLength h ts) (behind_front (kind.Symbol symbol.OpenBracket) ts)
        (λ inside o. bind (p.expression 1 inside) _ (GoodBelow h 1 inside) (GoodLength h ts) (sound_below 1 inside (omega arith) (omega arith))
        (λ x g. bind (behind symbol.CloseBracket x.1) _ (Front (kind.Symbol symbol.CloseBracket) x.1) (GoodLength h ts) (behind_front (kind.Symbol symbol.CloseBracket) x.1)
        (λ rest c. record { inside = inside; last = x.1; opens = o; spelled = g.spelled; closes = c; ends = refl; within = g.within })))

    next_length : (before : List Expression) (s : Span) {ts : List Token} {x : Expression × Span × List Token} {y : Expressions × Span × List Token} → GoodLength h ts x →
        MoreLengths h (before ++ x.0 ∷ []) x.1 x.2 y → MoreLengths h before s ts y
    next_length before s {ts} {x} {y} g (no_more e) = some_more (x.0 ∷ []) (ap (λ (z : Expressions × Span × List Token). z.0) e)
        (rw (e, g.ends) (length_alone g.opens g.spelled g.closes)) (let a = g.within in omega arith)
    next_length before s {ts} {x} {y} g (some_more items w l b) = some_more (x.0 ∷ items) (w ∙ ap expressions (append_assoc before (x.0 ∷ []) items))
        (length_then g.opens g.spelled g.closes l) (let a = g.within in omega arith)

    pub more_lengths_sound : (n : ℕ) (before : List Expression) (s : Span) (ts : List Token) → MoreLengths h before s ts (more_lengths_at texts h p body n before s ts)
    unfolding more_lengths_at
    more_lengths_sound zero before s ts = no_more refl
    more_lengths_sound (suc n) before s ts =
        either (length_at texts h p body ts) _ _ (GoodLength h ts) (MoreLengths h before s ts) (length_sound ts)
        (λ x g. next_length before s g (more_lengths_sound n (before ++ x.0 ∷ []) x.1 x.2)) (no_more refl)

    all_lengths : {ts : List Token} {x : Expression × Span × List Token} {y : Expressions × Span × List Token} → GoodLength h ts x → MoreLengths h (x.0 ∷ []) x.1 x.2 y → GoodLengths h ts y
    all_lengths g (no_more e) = record { spelled = rw (e, g.ends) (length_alone g.opens g.spelled g.closes); within = rw e (let a = g.within in omega arith) }
    all_lengths g (some_more items w l b) = record { spelled = rw w (length_then g.opens g.spelled g.closes l); within = rw w (let a = g.within in omega arith) }

    pub lengths_sound : (ts : List Token) → IfSome (lengths_at texts h p body ts) (GoodLengths h ts)
    unfolding lengths_at
    lengths_sound ts =
        bind (length_at texts h p body ts) _ (GoodLength h ts) (GoodLengths h ts) (length_sound ts)
        (λ x g. all_lengths g (more_lengths_sound (length ts) (x.0 ∷ []) x.1 x.2))

    -- ---- creations, behind `new`

    filled_sound : {t : TypeName} {n : ℕ} {w made mid : List Token} (ts : List Token) {s : Span} → Front (kind.Keyword word.New) w made → SpellsElement t made mid → type_height t ≡ 1 → 1 ≤ h → 0 < n →
        SpellsDims n (first_span w) s mid ts → IfSome (filled_at texts h p body (first_span w) t n ts) (Good h 15 w)
    unfolding filled_at
    filled_sound {t} {n} {w} {made} {mid} ts new element one room some dims =
        choose (is_symbol symbol.OpenBrace ts) _ _ (λ o. IfSome o (Good h 15 w))
        (λ e. let brace = front_of (kind.Symbol symbol.OpenBrace) ts e in
        bind (p.initializer ts) _ (IsRead (SpellsInit names texts) height any h ts) (Good h 15 w) (below.initializer.sound ts)
        (λ x g. record {
          spelled = new_array_of_in new element some dims (array_init_of brace.1 g.spelled);
          fits = omega arith;
          within = let a = g.within in omega arith;
        }))
        (λ e. tt)

    array_of : {w made mid : List Token} {t : TypeName} → Front (kind.Keyword word.New) w made → SpellsElement t made mid → type_height t ≡ 1 → 1 ≤ h →
        IfSome (let d = dims_at (first_span w) mid in
        if nat_lt 0 d.0 then filled_at texts h p body (first_span w) t d.0 d.2
        else lengths_at texts h p body mid >>= λ x. let k = dims_at (join (first_span w) x.1) x.2 in Some (tree.new_array t x.0 k.0 k.1, k.2)) (Good h 15 w)
    array_of {w} {made} {mid} {t} new element one room =
        choose (nat_lt 0 (dims_at (first_span w) mid).0) _ _ (λ o. IfSome o (Good h 15 w))
        (λ e. filled_sound (dims_at (first_span w) mid).2 new element one room (ltb-true _ _ e) (types.dims_sound (first_span w) mid))
        (λ e. bind (lengths_at texts h p body mid) _ (GoodLengths h mid) (Good h 15 w) (lengths_sound mid)
        (λ x g. record {
          spelled = new_array_in new element g.spelled (types.dims_sound (join (first_span w) x.1) x.2);
          fits = omega arith;
          within = let a = g.within in omega arith;
        }))

    array_from : {w made : List Token} {x : TypeName × List Token} → Front (kind.Keyword word.New) w made → 1 ≤ h → Element made x →
        IfSome (let d = dims_at (first_span w) x.1 in
        if nat_lt 0 d.0 then filled_at texts h p body (first_span w) x.0 d.0 d.2
        else lengths_at texts h p body x.1 >>= λ y. let k = dims_at (join (first_span w) y.1) y.2 in Some (tree.new_array x.0 y.0 k.0 k.1, k.2)) (Good h 15 w)
    array_from new room (an_element e one) = array_of new e one room

    array_sound : {w made : List Token} → Front (kind.Keyword word.New) w made → 1 ≤ h → IfSome (array_at texts h p body (first_span w) made) (Good h 15 w)
    unfolding array_at
    array_sound {w} {made} new room =
        bind (element_at made) _ (Element made) (Good h 15 w) (element_read types made) (λ x e. array_from new room e)

    object_sound : {w made : List Token} → Front (kind.Keyword word.New) w made → IfSome (object_at texts h p body (first_span w) made) (Good h 15 w)
    unfolding object_at
    object_sound {w} {made} new =
        bind (reference_at h made) _ (IsReferenceRead h made) (Good h 15 w) (types.reference_sound made)
        (λ c r. bind (arguments_at texts h p body c.1) _ (GoodArguments h c.1) (Good h 15 w) (arguments_sound c.1)
        (λ x g. either (body x.2) _ _ (IsBodyRead names texts h x.2) (λ o. IfSome o (Good h 15 w)) (bodies.sound x.2)
        (λ b m. record {
          spelled = new_anonymous_in new r.spelled g.spelled m.spelled;
          fits = omega arith;
          within = let a = r.within in let b = g.within in let c = m.within in omega arith;
        })
        (record {
          spelled = new_in new r.spelled g.spelled;
          fits = omega arith;
          within = let a = r.within in let b = g.within in omega arith;
        })))

    creation_sound : (ts : List Token) → IfSome (creation_at texts h p body ts) (Good h 15 ts)
    unfolding creation_at
    creation_sound ts =
        bind (behind_word word.New ts) _ (Front (kind.Keyword word.New) ts) (Good h 15 ts) (behind_front (kind.Keyword word.New) ts)
        (λ made f. choose (nat_lt 0 h) _ _ (λ o. IfSome o (Good h 15 ts))
        (λ e. let room : 1 ≤ h = ltb-true _ _ e in choose (makes_array_at made) _ _ (λ o. IfSome o (Good h 15 ts)) (λ _. array_sound f room) (λ _. object_sound f))
        (λ e. tt))

    -- ---- the other primaries

    outer_this_sound : (ts : List Token) → IfSome (outer_this_at ts) (Good h 15 ts)
    unfolding outer_this_at
    outer_this_sound ts =
        bind (name_at ts) _ (λ n. SpellsName n.0 ts n.1) (Good h 15 ts) (types.name_sound ts)
        (λ n d. bind (behind symbol.Dot n.1) _ (Front (kind.Symbol symbol.Dot) n.1) (Good h 15 ts) (behind_front (kind.Symbol symbol.Dot) n.1)
        (λ t f. bind (behind_word word.This t) _ (Front (kind.Keyword word.This) t) (Good h 15 ts) (behind_front (kind.Keyword word.This) t)
        (λ rest g. record { spelled = outer_this_in d f g; fits = omega arith; within = omega arith })))

    named_sound : (ts : List Token) → IfSome (named_at texts h p body ts) (Good h 15 ts)
    unfolding named_at
    named_sound ts =
        choose (is_outer_this_at ts) _ _ (λ o. IfSome o (Good h 15 ts)) (λ _. outer_this_sound ts)
        (λ _. bind (identifier_at ts) _ (FrontName ts) (Good h 15 ts) (identifier_front ts)
        (λ x f. either (arguments_at texts h p body x.1) _ _ (GoodArguments h x.1) (λ o. IfSome o (Good h 15 ts)) (arguments_sound x.1)
        (λ y g. record { spelled = call_in f g.spelled; fits = omega arith; within = let a = g.within in omega arith })
        (record { spelled = name_in f; fits = omega arith; within = omega arith })))

    super_member_sound : (ts : List Token) → IfSome (super_member_at texts h p body ts) (Good h 15 ts)
    unfolding super_member_at
    super_member_sound ts =
        bind (behind_word word.Super ts >>= behind symbol.Dot >>= identifier_at) _ (SuperName ts) (Good h 15 ts)
        (bind (behind_word word.Super ts >>= behind symbol.Dot) identifier_at (λ b. (a : List Token) × Front (kind.Keyword word.Super) ts a × Front (kind.Symbol symbol.Dot) a b) (SuperName ts)
        (bind (behind_word word.Super ts) (behind symbol.Dot) (Front (kind.Keyword word.Super) ts) (λ b. (a : List Token) × Front (kind.Keyword word.Super) ts a × Front (kind.Symbol symbol.Dot) a b) (behind_front (kind.Keyword word.Super) ts)
        (λ a f. weaken (behind symbol.Dot a) (Front (kind.Symbol symbol.Dot) a) _ (behind_front (kind.Symbol symbol.Dot) a) (λ b g. (a, f, g))))
        (λ b c. weaken (identifier_at b) (FrontName b) (SuperName ts) (identifier_front b) (λ x n. record { dot = c.0; behind_dot = b; begins = c.1; goes_on = c.2; ends = n })))
        (λ x f. either (arguments_at texts h p body x.1) _ _ (GoodArguments h x.1) (λ o. IfSome o (Good h 15 ts)) (arguments_sound x.1)
        (λ y g. record { spelled = super_call_by f.begins f.goes_on f.ends g.spelled; fits = omega arith; within = let a = g.within in omega arith })
        (record { spelled = super_select_by f.begins f.goes_on f.ends; fits = omega arith; within = omega arith }))

    parens_sound : (ts : List Token) → is_cast_at ts ≡ false → IfSome (parens_at texts h p body ts) (Good h 15 ts)
    unfolding parens_at
    parens_sound ts plain =
        bind (behind symbol.OpenParen ts) _ (Front (kind.Symbol symbol.OpenParen) ts) (Good h 15 ts) (behind_front (kind.Symbol symbol.OpenParen) ts)
        (λ inside o. bind (p.expression 1 inside) _ (GoodBelow h 1 inside) (Good h 15 ts) (sound_below 1 inside (omega arith) (omega arith))
        (λ x g. bind (behind symbol.CloseParen x.1) _ (Front (kind.Symbol symbol.CloseParen) x.1) (Good h 15 ts) (behind_front (kind.Symbol symbol.CloseParen) x.1)
        (λ rest c. record {
          spelled = parens_in (no_cast_in_brackets types names texts o g.spelled c plain) o g.spelled c;
          fits = omega arith;
          within = let a = g.within in omega arith;
        })))

    literal_sound : {ts : List Token} {x : Expression × List Token} → FrontLiteral names texts ts x → Good h 15 ts x
    literal_sound (front_literal l) = record { spelled = is_literal l; fits = omega arith; within = omega arith }

    pub primary_sound : (ts : List Token) → is_cast_at ts ≡ false → IfSome (primary_at texts h p body ts) (Good h 15 ts)
    unfolding primary_at
    primary_sound ts plain =
        choose (is_identifier ts) _ _ (λ o. IfSome o (Good h 15 ts)) (λ _. named_sound ts)
        (λ _. choose (is_symbol symbol.OpenParen ts) _ _ (λ o. IfSome o (Good h 15 ts)) (λ _. parens_sound ts plain)
        (λ _. either (behind_word word.This ts) _ _ (Front (kind.Keyword word.This) ts) (λ o. IfSome o (Good h 15 ts)) (behind_front (kind.Keyword word.This) ts)
        (λ rest f. record { spelled = this_in f; fits = omega arith; within = omega arith })
        (choose (is_word word.Super ts) _ _ (λ o. IfSome o (Good h 15 ts)) (λ _. super_member_sound ts)
        (λ _. choose (is_word word.New ts) _ _ (λ o. IfSome o (Good h 15 ts)) (λ _. creation_sound ts)
        (λ _. weaken (literal_at texts ts) (FrontLiteral names texts ts) (Good h 15 ts) (literal_front names texts ts) (λ x f. literal_sound f))))))
