-- Each creation of an array is read where it is spelled, or with more brackets.
use Rattle.std.proofs.Common.{◌≡◌, ℕ, zero, suc, ◌<◌, ◌≤◌, true, false, List, [], ◌∷◌, ◌++◌, length, Option, Some, None, IfSome, refl, ap, ◌∙◌, subst, arith, nat_lt, inl, inr, append_assoc}
use Rattle.std.proofs.lemmas.Bool.{lt-ltb}
use Rattle.je_base.specs.declared.span.Span.{Span}
use Rattle.je_token.specs.declared.keyword.Keyword.TheVariants as word
use Rattle.je_token.specs.declared.symbol.Symbol.TheVariants as symbol
use Rattle.je_token.specs.declared.token.Token.{Token}
use Rattle.je_token.specs.declared.token.TokenKind.TheVariants as kind
use Rattle.je_ast.specs.declared.ty_name.Primitive.{Primitive}
use Rattle.je_ast.specs.declared.ty_name.Primitive.TheVariants as prim
use Rattle.je_ast.specs.Types.{QualifiedName, TypeName}
use Rattle.je_ast.specs.Trees.{Expression, Expressions, Member, Members}
use Rattle.je_ast.specs.Trees as tree
use Rattle.je_ast.specs.Height.{height, heights}
use Rattle.je_ast.specs.Spans.{join, span_of}
use Rattle.je_grammar.specs.Tokens.{it_is, IsWord, IsSymbol, first_span}
use Rattle.je_grammar.specs.Operators.{level}
use Rattle.je_grammar.specs.Types.{SpellsName, simple_name, qualified_name, SpellsDims, no_dims, more_dims, primitive_word}
use Rattle.je_grammar.specs.Grammar.{SpellsElement, primitive_element, class_element, Spells}
use Rattle.je_grammar.specs.Grammar.{SpellsLengths, last_length, more_lengths, array_init, SpellsArrayInit, is_array_init}
use Rattle.parse_laws.specs.way.Tokens.{Read, ◌>>=◌, is_some, behind, is_symbol}
use Rattle.parse_laws.specs.way.Types.{part_at, pair_at, primitive_at, dims_at, element_at}
use Rattle.parse_laws.specs.way.Below.{Below}
use Rattle.parse_laws.specs.way.Lists.{expressions}
use Rattle.parse_laws.specs.way.Readers.{IsBelow, itself, longer}
use Rattle.parse_laws.specs.way.Expressions.{Closed, makes_array_at, more_lengths_at, lengths_at, filled_at, array_at, creation_at, primary_at}
use Rattle.expression_laws.specs.way.Parts.{ReadTypes, ReadBodies}
use Rattle.je_grammar.proofs.AtLeastOne.{expressions_spell_some}
use Rattle.je_grammar.proofs.Sizes.{size-SpellsDims}
use Rattle.parse_laws.proofs.Fronts.{Front, front, behind_front}
use Rattle.expression_laws.proofs.Casts.{name_before, dims_before, past_name_before}
use Rattle.expression_laws.proofs.Begins.{close_bracket_begins_none}
use Rattle.expression_laws.proofs.Primaries.{MoreLengths, no_more, some_more, more_lengths_sound}
use Rattle.expression_laws.proofs.Inner.{not_front, items_of, same_items, length_exact}
use Rattle.expression_laws.proofs.Atoms.{by_bracket, Primary, exactly, grabbed}

primitive_stands : (q : Primitive) {t : Token} (rest : List Token) → IsWord (primitive_word q) t → primitive_at (t ∷ rest) ≡ Some (q, rest)
primitive_stands prim.Boolean rest it_is = refl
primitive_stands prim.Byte rest it_is = refl
primitive_stands prim.Short rest it_is = refl
primitive_stands prim.Char rest it_is = refl
primitive_stands prim.Int rest it_is = refl
primitive_stands prim.Long rest it_is = refl

name_is_no_primitive : {n : QualifiedName} {ts rest : List Token} → SpellsName n ts rest → primitive_at ts ≡ None
name_is_no_primitive (simple_name it_is) = refl
name_is_no_primitive (qualified_name it_is d n) = refl

bracket_no_part : {ts a : List Token} → Front (kind.Symbol symbol.OpenBracket) ts a → is_some (part_at ts) ≡ false
bracket_no_part (front it_is) = refl

bracket_stands : {ts a : List Token} → Front (kind.Symbol symbol.OpenBracket) ts a → is_symbol symbol.OpenBracket ts ≡ true
bracket_stands (front it_is) = refl

brace_no_pair : {ts a : List Token} → Front (kind.Symbol symbol.OpenBrace) ts a → is_some (pair_at ts) ≡ false
brace_no_pair (front it_is) = refl

brace_stands : {ts a : List Token} → Front (kind.Symbol symbol.OpenBrace) ts a → is_symbol symbol.OpenBrace ts ≡ true
brace_stands (front it_is) = refl

pair_front_by : (ts : List Token) (o : Option (List Token)) → IfSome o (Front (kind.Symbol symbol.OpenBracket) ts) → is_some {A = Span × List Token} (o >>= λ mid. behind symbol.CloseBracket mid >>= λ rest. Some (first_span mid, rest)) ≡ true →
    (a : List Token) × Front (kind.Symbol symbol.OpenBracket) ts a
pair_front_by ts (Some a) f e = (a, f)
pair_front_by ts None f e = absurd cc

pair_front : (ts : List Token) → is_some (pair_at ts) ≡ true → (a : List Token) × Front (kind.Symbol symbol.OpenBracket) ts a
pair_front ts e = pair_front_by ts (behind symbol.OpenBracket ts) (behind_front (kind.Symbol symbol.OpenBracket) ts) e

-- the creation with the lengths that were read
abbrev ends : TypeName → Span → Expressions × Span × List Token → Expression × List Token
ends t w x = (tree.new_array t x.0 (dims_at (join w x.1) x.2).0 (dims_at (join w x.1) x.2).1, (dims_at (join w x.1) x.2).2)

module _ (names texts : List (List ℕ)) where
  lengths_front : {es : Expressions} {c : Span} {ts rest : List Token} → SpellsLengths names texts es c ts rest → (a : List Token) × Front (kind.Symbol symbol.OpenBracket) ts a
  lengths_front (last_length o d c) = (_, front o)
  lengths_front (more_lengths o d c l) = (_, front o)

  no_pair : {e : Expression} {o : Token} {ts rest : List Token} → IsSymbol symbol.OpenBracket o → Spells names texts e ts rest → is_some (pair_at (o ∷ ts)) ≡ false
  no_pair {ts = ts} it_is d = rw (not_front (kind.Symbol symbol.CloseBracket) ts (λ r f. close_bracket_begins_none names texts f d)) refl

  lengths_no_pair : {es : Expressions} {c : Span} {ts rest : List Token} → SpellsLengths names texts es c ts rest → is_some (pair_at ts) ≡ false
  lengths_no_pair (last_length o d c) = no_pair o d
  lengths_no_pair (more_lengths o d c l) = no_pair o d

  lengths_shorter : {es : Expressions} {c : Span} {ts rest : List Token} → SpellsLengths names texts es c ts rest → length rest < length ts
  lengths_shorter (last_length o d c) = let a = expressions_spell_some names texts _ _ _ d in omega arith
  lengths_shorter (more_lengths o d c l) = let a = expressions_spell_some names texts _ _ _ d in let b = lengths_shorter l in omega arith

  -- these lengths were read, or more
  data LengthsRead (y : Expressions × Span × List Token) (es : Expressions) (c : Span) (rest : List Token) : Type 0 where
    all : y ≡ (es, c, rest) → LengthsRead y es c rest
    further : {items : Expressions} → SpellsLengths names texts items y.1 rest y.2 → LengthsRead y es c rest

  record LengthsAt (o : Closed Expressions) (es : Expressions) (c : Span) (rest : List Token) : Type 0 where
    y : Expressions × Span × List Token
    read : o ≡ Some y
    result : LengthsRead y es c rest

  module _ (h : ℕ) (p : Below) (body : List Token → Closed Members) (below : IsBelow names texts h p) (bodies : ReadBodies names texts h body) (types : ReadTypes h) where
    lengths_end : {before : List Expression} {s : Span} {ts : List Token} {y : Expressions × Span × List Token} → MoreLengths names texts h before s ts y → LengthsRead y (expressions before) s ts
    lengths_end (no_more e) = all e
    lengths_end (some_more items w l b) = further l

    same_lengths : {y : Expressions × Span × List Token} {es fs : Expressions} {c : Span} {rest : List Token} → es ≡ fs → LengthsRead y es c rest → LengthsRead y fs c rest
    same_lengths {y} {es} {fs} {c} {rest} e r = subst (λ gs. LengthsRead y gs c rest) e r

    more_lengths_exact : (n : ℕ) (before : List Expression) (s : Span) {es : Expressions} {c : Span} {ts rest : List Token} → SpellsLengths names texts es c ts rest → heights es ≤ h → length ts ≤ n →
        LengthsRead (more_lengths_at texts h p body n before s ts) (expressions (before ++ items_of es)) c rest
    unfolding more_lengths_at
    more_lengths_exact zero before s l low le = absurd (let a = lengths_shorter l in omega arith)
    more_lengths_exact (suc n) before s {rest = rest} (last_length {e} {c = c} o d i) low le =
        rw (length_exact names texts h p body below bodies types o d i (omega arith)) (lengths_end (more_lengths_sound names texts h p body below bodies types n (before ++ e ∷ []) c.span rest))
    more_lengths_exact (suc n) before s (more_lengths {e} {es} {c = c} o d i l) low le =
        rw (length_exact names texts h p body below bodies types o d i (omega arith))
        (same_lengths (ap expressions (append_assoc before (e ∷ []) (items_of es))) (more_lengths_exact n (before ++ e ∷ []) c.span l (omega arith) (let a = expressions_spell_some names texts _ _ _ d in omega arith)))

    lengths_exact : {es : Expressions} {c : Span} {ts rest : List Token} → SpellsLengths names texts es c ts rest → heights es ≤ h → LengthsAt (lengths_at texts h p body ts) es c rest
    unfolding lengths_at
    lengths_exact {rest = rest} (last_length {e} {o} {c} {ts} i d j) low = record {
      y = more_lengths_at texts h p body (length (o ∷ ts)) (e ∷ []) c.span rest;
      read = rw (length_exact names texts h p body below bodies types i d j (omega arith)) refl;
      result = lengths_end (more_lengths_sound names texts h p body below bodies types (length (o ∷ ts)) (e ∷ []) c.span rest);
    }
    lengths_exact (more_lengths {e} {es} {o} {c} {ts = ts} {mid} i d j l) low = record {
      y = more_lengths_at texts h p body (length (o ∷ ts)) (e ∷ []) c.span mid;
      read = rw (length_exact names texts h p body below bodies types i d j (omega arith)) refl;
      result = same_lengths (ap (tree.more_expressions e) (same_items es)) (more_lengths_exact (length (o ∷ ts)) (e ∷ []) c.span l (omega arith) (let a = expressions_spell_some names texts _ _ _ d in omega arith));
    }

    element_before : {t : TypeName} {ts rest a : List Token} → SpellsElement t ts rest → Front (kind.Symbol symbol.OpenBracket) rest a → element_at ts ≡ Some (t, rest)
    unfolding element_at
    element_before (primitive_element {p = q} {rest = rest} i) o = rw (primitive_stands q rest i) refl
    element_before (class_element d) o = rw (name_is_no_primitive d, name_before types d (bracket_no_part o)) refl

    makes_array : {t : TypeName} {ts rest a : List Token} → SpellsElement t ts rest → Front (kind.Symbol symbol.OpenBracket) rest a → makes_array_at ts ≡ true
    unfolding makes_array_at
    makes_array (primitive_element {p = q} {rest = rest} i) o = rw (primitive_stands q rest i) refl
    makes_array (class_element d) o = rw (name_is_no_primitive d, past_name_before types d (bracket_no_part o), bracket_stands o) refl

    new_reads_array : {w : Token} (ts : List Token) → IsWord word.New w → 1 ≤ h → makes_array_at ts ≡ true → primary_at texts h p body (w ∷ ts) ≡ array_at texts h p body w.span ts
    unfolding primary_at creation_at
    new_reads_array ts it_is room e = let t : nat_lt 0 h ≡ true = lt-ltb _ _ room in rw (t, e) refl

    array_read : {t : TypeName} (ts : List Token) {mid : List Token} {x : Expressions × Span × List Token} (w : Span) → element_at ts ≡ Some (t, mid) → dims_at w mid ≡ (0, w, mid) → lengths_at texts h p body mid ≡ Some x →
        array_at texts h p body w ts ≡ Some (ends t w x)
    unfolding array_at
    array_read ts w e d l = rw (e, d, l) refl

    dims_end : {t : TypeName} {es : Expressions} {n : ℕ} {c s : Span} {last rest : List Token} (w : Span) (o : Read Expression) {y : Expressions × Span × List Token} → o ≡ Some (ends t w y) → LengthsRead y es c last →
        SpellsDims n (join w c) s last rest → Primary o (tree.new_array t es n s) rest
    dims_end {t} {es} {n} {c} {s} {last} {rest} w o e (all same) d =
        elim (types.dims_exact n (join w c) s last rest d) [
          | inl k ↦ exactly (e ∙ ap (λ (x : Expressions × Span × List Token). Some (ends t w x)) same ∙ ap (λ (x : ℕ × Span × List Token). Some (tree.new_array t es x.0 x.1, x.2)) k)
          | inr both ↦ let f = pair_front rest both.1 in grabbed (e ∙ ap (λ (x : Expressions × Span × List Token). Some (ends t w x)) same) (by_bracket refl f.1 both.0)
        ]
    dims_end w o {y} e (further l) no_dims =
        let f = lengths_front l in let a = lengths_shorter l in let b = size-SpellsDims (types.dims_sound (join w y.1) y.2) in grabbed e (by_bracket refl f.1 (omega arith))
    dims_end w o e (further l) (more_dims it_is it_is d) = let none = lengths_no_pair l in absurd cc

    pub new_array_atom : {w : Token} {t : TypeName} {es : Expressions} {n : ℕ} {c s : Span} {ts mid last rest : List Token} → IsWord word.New w → SpellsElement t ts mid → SpellsLengths names texts es c mid last →
        SpellsDims n (join w.span c) s last rest → 1 ≤ h → heights es ≤ h → Primary (primary_at texts h p body (w ∷ ts)) (tree.new_array t es n s) rest
    new_array_atom {w} {ts = ts} {mid} i t l d room low =
        let f = lengths_front l in
        let x = lengths_exact l low in
        dims_end w.span (primary_at texts h p body (w ∷ ts))
        (new_reads_array ts i room (makes_array t f.1) ∙ array_read ts w.span (element_before t f.1) (dims_before types (no_dims {s = w.span} {rest = mid}) (lengths_no_pair l)) x.read) x.result d

    filled_read : {t : TypeName} {n : ℕ} {e : Expression} (ts : List Token) {mid last rest : List Token} {s : Span} (w : Span) → element_at ts ≡ Some (t, mid) → dims_at w mid ≡ (n, s, last) → 0 < n → is_symbol symbol.OpenBrace last ≡ true →
        p.initializer last ≡ Some (e, rest) → array_at texts h p body w ts ≡ Some (tree.new_array_of t n e (join w (span_of e)), rest)
    unfolding array_at filled_at
    filled_read {n = n} ts w e d some b l = let t : nat_lt 0 n ≡ true = lt-ltb _ _ some in rw (e, d, t, b, l) refl

    array_init_front : {e : Expression} {ts rest : List Token} → SpellsArrayInit names texts e ts rest → (a : List Token) × Front (kind.Symbol symbol.OpenBrace) ts a
    array_init_front (is_array_init o i) = (_, front o)

    array_init_level : {e : Expression} {ts rest : List Token} → SpellsArrayInit names texts e ts rest → level e ≡ 0
    array_init_level (is_array_init o i) = refl

    pub init_exact : {e : Expression} {ts rest : List Token} → SpellsArrayInit names texts e ts rest → height e ≤ h → p.initializer ts ≡ Some (e, rest)
    init_exact {e} {ts} {rest} d low = elim (below.initializer.exact e ts rest (array_init d) tt low) [
      | itself e ↦ e
      | longer q lt goes ↦ let z = array_init_level d in let g = goes.0 in absurd (omega arith)
    ]

    dims_front : {n : ℕ} {s e : Span} {ts rest : List Token} → 0 < n → SpellsDims n s e ts rest → (a : List Token) × Front (kind.Symbol symbol.OpenBracket) ts a
    dims_front some no_dims = absurd (omega arith)
    dims_front some (more_dims o c d) = (_, front o)

    pub new_array_of_atom : {w : Token} {t : TypeName} {e : Expression} {n : ℕ} {d : Span} {ts mid last rest : List Token} → IsWord word.New w → SpellsElement t ts mid → 0 < n → SpellsDims n w.span d mid last →
        SpellsArrayInit names texts e last rest → 1 ≤ h → height e ≤ h → primary_at texts h p body (w ∷ ts) ≡ Some (tree.new_array_of t n e (join w.span (span_of e)), rest)
    new_array_of_atom {w} {ts = ts} i t some d a room low =
        let f = dims_front some d in
        let b = array_init_front a in
        new_reads_array ts i room (makes_array t f.1) ∙ filled_read ts w.span (element_before t f.1) (dims_before types d (brace_no_pair b.1)) some (brace_stands b.1) (init_exact a low)
