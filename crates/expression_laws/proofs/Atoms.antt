-- Each primary that isn't a selection is read where it is spelled, or something longer that begins like it.
use Rattle.std.proofs.Common.{◌≡◌, ℕ, ◌<◌, ◌≤◌, true, false, List, ◌∷◌, length, Option, Some, None, IfSome, refl, ◌∙◌, subst, arith, nat_lt, inl, inr}
use Rattle.std.proofs.lemmas.Bool.{cases_Bool, lt-ltb}
use Rattle.je_base.specs.declared.span.Span.{Span}
use Rattle.je_token.specs.declared.keyword.Keyword.TheVariants as word
use Rattle.je_token.specs.declared.symbol.Symbol.TheVariants as symbol
use Rattle.je_token.specs.declared.token.Token.{Token}
use Rattle.je_token.specs.declared.token.TokenKind.TheVariants as kind
use Rattle.je_ast.specs.declared.expr.Literal.{Literal}
use Rattle.je_ast.specs.declared.name.Identifier.{Identifier}
use Rattle.je_ast.specs.Types.{QualifiedName, TypeNames, class_type, types_height}
use Rattle.je_ast.specs.Trees.{Expression, Expressions, Member, Members}
use Rattle.je_ast.specs.Trees as tree
use Rattle.je_ast.specs.Height.{height, heights, members_height}
use Rattle.je_ast.specs.Spans.{join}
use Rattle.je_grammar.specs.Tokens.{it_is, IsWord, IsSymbol, IsIdentifier, identifier, first_span}
use Rattle.je_grammar.specs.Types.{SpellsName, simple_name, qualified_name, SpellsRef, plain_ref}
use Rattle.je_grammar.specs.Context.{is_bare_creation}
use Rattle.je_grammar.specs.Grammar.{IsLiteral, int_literal, long_literal, char_literal, text_literal, true_literal, false_literal, null_literal, Spells}
use Rattle.je_grammar.specs.Grammar.{SpellsArguments, no_arguments, some_arguments, SpellsBody}
use Rattle.parse_laws.specs.way.Tokens.{Read, with, is_some, behind, is_symbol, is_word, is_identifier}
use Rattle.parse_laws.specs.way.Types.{part_at, name_at, past_name_at, primitive_at}
use Rattle.parse_laws.specs.way.Below.{Below}
use Rattle.parse_laws.specs.way.Readers.{IsBelow}
use Rattle.parse_laws.specs.way.Expressions.{Closed, is_outer_this_at, outer_this_at, makes_array_at, arguments_at, object_at, creation_at, named_at, super_member_at, parens_at, primary_at}
use Rattle.expression_laws.specs.way.Parts.{ReadTypes, IsBodyRead, ReadBodies}
use Rattle.parse_laws.specs.way.Readers.{is_reference}
use Rattle.std.specs.Prelude.{option_map}
use Rattle.je_grammar.specs.Types.{ref_with_arguments}
use Rattle.je_grammar.specs.Grammar.{is_body}
use Rattle.je_grammar.proofs.Sizes.{size-SpellsList, size-SpellsMembers}
use Rattle.parse_laws.proofs.Fronts.{Front, front, behind_front, behind_of, FrontName, front_name}
use Rattle.expression_laws.proofs.Casts.{name_before, past_name_before}
use Rattle.expression_laws.proofs.Primaries.{GoodArguments, arguments_sound, front_of}
use Rattle.expression_laws.proofs.Inner.{whole, arguments_exact}

-- `{"." id} "." "this"`, and what is behind that
pub data ThisBehind : List Token → List Token → Type 0 where
  here : {ts a rest : List Token} → Front (kind.Symbol symbol.Dot) ts a → Front (kind.Keyword word.This) a rest → ThisBehind ts rest
  later : {n : Identifier} {ts a mid rest : List Token} → Front (kind.Symbol symbol.Dot) ts a → FrontName a (n, mid) → ThisBehind mid rest → ThisBehind ts rest

-- what takes the tokens behind a primary
pub data Grabs (e : Expression) (rest : List Token) (less : List Token) : Type 0 where
  by_arguments : {a : List Token} → Front (kind.Symbol symbol.OpenParen) rest a → length less < length rest → Grabs e rest less
  by_body : {a : List Token} → Front (kind.Symbol symbol.OpenBrace) rest a → length less < length rest → Grabs e rest less
  by_this : {a : List Token} → ThisBehind rest a → length less ≤ length a → Grabs e rest less
  by_bracket : {a : List Token} → is_bare_creation e ≡ true → Front (kind.Symbol symbol.OpenBracket) rest a → length less < length rest → Grabs e rest less

pub data Primary (o : Read Expression) (e : Expression) (rest : List Token) : Type 0 where
  exactly : o ≡ Some (e, rest) → Primary o e rest
  grabbed : {u : Expression} {less : List Token} → o ≡ Some (u, less) → Grabs e rest less → Primary o e rest

pub open_paren_of : (names texts : List (List ℕ)) {es : Expressions} {c : Span} {ts rest : List Token} → SpellsArguments names texts es c ts rest → (a : List Token) × Front (kind.Symbol symbol.OpenParen) ts a × (length rest < length ts)
open_paren_of names texts (no_arguments o c) = (_, front o, omega arith)
open_paren_of names texts (some_arguments o l c) = (_, front o, let b = size-SpellsList names texts l in omega arith)

paren_no_part : {ts a : List Token} → Front (kind.Symbol symbol.OpenParen) ts a → is_some (part_at ts) ≡ false
paren_no_part (front it_is) = refl

paren_no_less : {ts a : List Token} → Front (kind.Symbol symbol.OpenParen) ts a → is_symbol symbol.Less ts ≡ false
paren_no_less (front it_is) = refl

paren_no_bracket : {ts a : List Token} → Front (kind.Symbol symbol.OpenParen) ts a → is_symbol symbol.OpenBracket ts ≡ false
paren_no_bracket (front it_is) = refl

paren_no_dot : {ts a : List Token} → Front (kind.Symbol symbol.OpenParen) ts a → behind symbol.Dot ts ≡ None
paren_no_dot (front it_is) = refl

this_no_part : {d t : Token} (rest : List Token) → IsSymbol symbol.Dot d → IsWord word.This t → is_some (part_at (d ∷ t ∷ rest)) ≡ false
this_no_part rest it_is it_is = refl

name_is_identifier : {n : QualifiedName} {ts rest : List Token} → SpellsName n ts rest → is_identifier ts ≡ true
name_is_identifier (simple_name it_is) = refl
name_is_identifier (qualified_name it_is d n) = refl

name_is_no_primitive : {n : QualifiedName} {ts rest : List Token} → SpellsName n ts rest → is_some (primitive_at ts) ≡ false
name_is_no_primitive (simple_name it_is) = refl
name_is_no_primitive (qualified_name it_is d n) = refl

-- behind the first identifier of a name before `. this`
data Pieces : List Token → List Token → Type 0 where
  one_piece : {t : Token} {rest : List Token} → IsIdentifier t → Pieces (t ∷ rest) rest
  more_pieces : {t d : Token} {ts rest : List Token} → IsIdentifier t → IsSymbol symbol.Dot d → Pieces ts rest → Pieces (t ∷ d ∷ ts) rest

pieces : {n : QualifiedName} {ts rest : List Token} → SpellsName n ts rest → Pieces ts rest
pieces (simple_name i) = one_piece i
pieces (qualified_name i d n) = more_pieces i d (pieces n)

first_piece : {ts rest : List Token} → Pieces ts rest → (x : Identifier × List Token) × FrontName ts x
first_piece (one_piece i) = (_, front_name i)
first_piece (more_pieces i d n) = (_, front_name i)

behind_first : {ts mid a rest : List Token} {x : Identifier × List Token} → Pieces ts mid → FrontName ts x → Front (kind.Symbol symbol.Dot) mid a → Front (kind.Keyword word.This) a rest → ThisBehind x.1 rest
behind_first (one_piece i) (front_name j) d w = here d w
behind_first (more_pieces i k n) (front_name j) d w = let f = first_piece n in later (front k) f.1 (behind_first n f.1 d w)

-- `Name "." "this"`, read
record OuterThis (ts : List Token) : Type 0 where
  n : QualifiedName
  mid : List Token
  a : List Token
  rest : List Token
  read : name_at ts ≡ Some (n, mid)
  dot : Front (kind.Symbol symbol.Dot) mid a
  this_word : Front (kind.Keyword word.This) a rest

outer_dot : (ts : List Token) {x : QualifiedName × List Token} → name_at ts ≡ Some x → (q : Option (List Token)) → IfSome q (Front (kind.Symbol symbol.Dot) x.1) → with q (is_word word.This) false ≡ true → OuterThis ts
outer_dot ts {x} e (Some a) f t = let w = front_of (kind.Keyword word.This) a t in record { n = x.0; mid = x.1; a = a; rest = w.0; read = e; dot = f; this_word = w.1 }
outer_dot ts e None f t = absurd cc

identifier_stands : {t : Token} (rest : List Token) → IsIdentifier t → is_identifier (t ∷ rest) ≡ true
identifier_stands rest it_is = refl

some_given : {A : Type 0} (P : A → Type 0) {x : A} (o : Option A) → o ≡ Some x → IfSome o P → P x
some_given P o e f = subst (λ q. IfSome q P) e f

module _ (names texts : List (List ℕ)) (h : ℕ) (p : Below) (body : List Token → Closed Members) (below : IsBelow names texts h p) (bodies : ReadBodies names texts h body) (types : ReadTypes h) where
  outer_this_read : (ts : List Token) {n : QualifiedName} {mid a rest : List Token} → name_at ts ≡ Some (n, mid) → Front (kind.Symbol symbol.Dot) mid a → Front (kind.Keyword word.This) a rest →
      outer_this_at ts ≡ Some (tree.outer_this n (first_span a) (join n.span (first_span a)), rest)
  unfolding outer_this_at
  outer_this_read ts e d w = rw (e, behind_of d, behind_of w) refl

  outer_this_here : (ts : List Token) {n : QualifiedName} {mid a rest : List Token} → name_at ts ≡ Some (n, mid) → Front (kind.Symbol symbol.Dot) mid a → Front (kind.Keyword word.This) a rest → is_outer_this_at ts ≡ true
  unfolding is_outer_this_at past_name_at
  outer_this_here ts e d w = rw (e, behind_of d, behind_of w) refl

  no_outer_this : {n : QualifiedName} (ts : List Token) {mid a : List Token} → SpellsName n ts mid → Front (kind.Symbol symbol.OpenParen) mid a → is_outer_this_at ts ≡ false
  unfolding is_outer_this_at
  no_outer_this ts d o = rw (past_name_before types d (paren_no_part o), paren_no_dot o) refl

  outer_by : (ts : List Token) (o : Read QualifiedName) → name_at ts ≡ o → with (option_map (λ x. x.1) o) (λ rest. with (behind symbol.Dot rest) (is_word word.This) false) false ≡ true → OuterThis ts
  outer_by ts (Some x) e t = outer_dot ts e (behind symbol.Dot x.1) (behind_front (kind.Symbol symbol.Dot) x.1) t
  outer_by ts None e t = absurd cc

  outer_of : (ts : List Token) → is_outer_this_at ts ≡ true → OuterThis ts
  unfolding is_outer_this_at past_name_at
  outer_of ts t = outer_by ts (name_at ts) refl t

  primary_named : (ts : List Token) → is_identifier ts ≡ true → primary_at texts h p body ts ≡ named_at texts h p body ts
  unfolding primary_at
  primary_named ts e = rw e refl

  named_outer : (ts : List Token) → is_outer_this_at ts ≡ true → named_at texts h p body ts ≡ outer_this_at ts
  unfolding named_at
  named_outer ts e = rw e refl

  -- what may take arguments
  fallback : {e : Expression} {rest : List Token} (o : Closed Expressions) (f : Expressions × Span × List Token → Expression) → IfSome o (GoodArguments names texts h rest) →
      Primary (with o (λ y. Some (f y, y.2)) (Some (e, rest))) e rest
  fallback (Some y) f g = let a = open_paren_of names texts g.spelled in grabbed refl (by_arguments a.1 a.2)
  fallback None f g = exactly refl

  plain_name : {t : Token} (rest : List Token) → IsIdentifier t → is_outer_this_at (t ∷ rest) ≡ false → Primary (named_at texts h p body (t ∷ rest)) (tree.name (identifier t)) rest
  unfolding named_at
  plain_name rest it_is e = rw e (fallback (arguments_at texts h p body rest) _ (arguments_sound names texts h p body below bodies types rest))

  pub name_atom : {t : Token} (rest : List Token) → IsIdentifier t → Primary (primary_at texts h p body (t ∷ rest)) (tree.name (identifier t)) rest
  name_atom {t} rest i =
      rw (primary_named (t ∷ rest) (identifier_stands rest i))
      (elim (cases_Bool (is_outer_this_at (t ∷ rest))) [
        | inl there ↦ let o = outer_of (t ∷ rest) there in
            grabbed (named_outer (t ∷ rest) there ∙ outer_this_read (t ∷ rest) o.read o.dot o.this_word)
            (by_this (behind_first (pieces (some_given (λ x. SpellsName x.0 (t ∷ rest) x.1) (name_at (t ∷ rest)) o.read (types.name_sound (t ∷ rest)))) (front_name i) o.dot o.this_word) (omega arith))
        | inr absent ↦ plain_name rest i absent
      ])

  pub outer_this_atom : {n : QualifiedName} {d t : Token} {ts rest : List Token} → SpellsName n ts (d ∷ t ∷ rest) → IsSymbol symbol.Dot d → IsWord word.This t →
      primary_at texts h p body ts ≡ Some (tree.outer_this n t.span (join n.span t.span), rest)
  outer_this_atom {ts = ts} {rest} n d t =
      let e = name_before types n (this_no_part rest d t) in
      primary_named ts (name_is_identifier n) ∙ named_outer ts (outer_this_here ts e (front d) (front t)) ∙ outer_this_read ts e (front d) (front t)

  call_of : {t : Token} {es : Expressions} {c : Span} (ts : List Token) {rest : List Token} → IsIdentifier t → is_outer_this_at (t ∷ ts) ≡ false → arguments_at texts h p body ts ≡ Some (es, c, rest) →
      named_at texts h p body (t ∷ ts) ≡ Some (tree.call (identifier t) es (join t.span c), rest)
  unfolding named_at
  call_of ts it_is e a = rw (e, a) refl

  pub call_atom : {t : Token} {es : Expressions} {c : Span} {ts rest : List Token} → IsIdentifier t → SpellsArguments names texts es c ts rest → heights es ≤ h →
      primary_at texts h p body (t ∷ ts) ≡ Some (tree.call (identifier t) es (join t.span c), rest)
  call_atom {t} {ts = ts} i a low =
      let o = open_paren_of names texts a in
      primary_named (t ∷ ts) (identifier_stands ts i) ∙ call_of ts i (no_outer_this (t ∷ ts) (simple_name i) o.1) (arguments_exact names texts h p body below bodies types a low)

  pub parens_atom : {e : Expression} {o c : Token} {ts rest : List Token} → IsSymbol symbol.OpenParen o → Spells names texts e ts (c ∷ rest) → IsSymbol symbol.CloseParen c → height e ≤ h →
      primary_at texts h p body (o ∷ ts) ≡ Some (tree.parens e (join o.span c.span), rest)
  unfolding primary_at parens_at
  parens_atom it_is d it_is low = rw (whole names texts h p body below bodies types d low refl) refl

  pub this_atom : {t : Token} (rest : List Token) → IsWord word.This t → primary_at texts h p body (t ∷ rest) ≡ Some (tree.this t.span, rest)
  unfolding primary_at
  this_atom rest it_is = refl

  pub super_select_atom : {w d t : Token} (rest : List Token) → IsWord word.Super w → IsSymbol symbol.Dot d → IsIdentifier t →
      Primary (primary_at texts h p body (w ∷ d ∷ t ∷ rest)) (tree.super_select w.span (identifier t) (join w.span t.span)) rest
  unfolding primary_at super_member_at
  super_select_atom rest it_is it_is it_is = fallback (arguments_at texts h p body rest) _ (arguments_sound names texts h p body below bodies types rest)

  pub super_call_atom : {w d t : Token} {es : Expressions} {c : Span} {ts rest : List Token} → IsWord word.Super w → IsSymbol symbol.Dot d → IsIdentifier t → SpellsArguments names texts es c ts rest → heights es ≤ h →
      primary_at texts h p body (w ∷ d ∷ t ∷ ts) ≡ Some (tree.super_call w.span (identifier t) es (join w.span c), rest)
  unfolding primary_at super_member_at
  super_call_atom it_is it_is it_is a low = rw (arguments_exact names texts h p body below bodies types a low) refl

  pub literal_atom : {l : Literal} {t : Token} (rest : List Token) → IsLiteral texts l t → primary_at texts h p body (t ∷ rest) ≡ Some (tree.literal l t.span, rest)
  unfolding primary_at
  literal_atom rest (int_literal it_is) = refl
  literal_atom rest (long_literal it_is) = refl
  literal_atom rest (char_literal it_is) = refl
  literal_atom rest (text_literal it_is v e) = rw (v, e) refl
  literal_atom rest (true_literal it_is) = refl
  literal_atom rest (false_literal it_is) = refl
  literal_atom rest (null_literal it_is) = refl

  -- ---- creations of objects

  brace_of : {ms : Members} {c : Span} {ts rest : List Token} → SpellsBody names texts ms c ts rest → (a : List Token) × Front (kind.Symbol symbol.OpenBrace) ts a × (length rest < length ts)
  brace_of (is_body o d) = (_, front o, let a = size-SpellsMembers names texts d in omega arith)

  fallback_body : {e : Expression} {rest : List Token} (o : Closed Members) (f : Members × Span × List Token → Expression) → IfSome o (IsBodyRead names texts h rest) →
      Primary (with o (λ y. Some (f y, y.2)) (Some (e, rest))) e rest
  fallback_body (Some y) f g = let a = brace_of g.spelled in grabbed refl (by_body a.1 a.2)
  fallback_body None f g = exactly refl

  makes_object : {n : QualifiedName} {args : TypeNames} {r : Span} {ts mid a : List Token} → SpellsRef n args r ts mid → Front (kind.Symbol symbol.OpenParen) mid a → makes_array_at ts ≡ false
  unfolding makes_array_at
  makes_object (plain_ref d) o = rw (name_is_no_primitive d, past_name_before types d (paren_no_part o), paren_no_bracket o) refl
  makes_object (ref_with_arguments d it_is u) o = rw (name_is_no_primitive d, past_name_before types d refl) refl

  new_read : {w : Token} (ts : List Token) → IsWord word.New w → 1 ≤ h → makes_array_at ts ≡ false → primary_at texts h p body (w ∷ ts) ≡ object_at texts h p body w.span ts
  unfolding primary_at creation_at
  new_read ts it_is room e = let t : nat_lt 0 h ≡ true = lt-ltb _ _ room in rw (t, e) refl

  object_read : (s : Span) {n : QualifiedName} {args : TypeNames} {r c : Span} {es : Expressions} {ts mid rest : List Token} → SpellsRef n args r ts mid → SpellsArguments names texts es c mid rest → heights es ≤ h → types_height args < h →
      object_at texts h p body s ts ≡ with (body rest) (λ b. Some (tree.new_anonymous s (class_type n args 0 r) es b.0 (join s b.1), b.2)) (Some (tree.new_object s (class_type n args 0 r) es (join s c), rest))
  unfolding object_at
  object_read s {n} {args} {r} {ts = ts} {mid} d a low small =
      let o = open_paren_of names texts a in
      rw (types.reference_exact (class_type n args 0 r) ts mid (is_reference d) (omega arith) (paren_no_part o.1) (paren_no_less o.1), arguments_exact names texts h p body below bodies types a low) refl

  pub new_atom : {w : Token} {n : QualifiedName} {args : TypeNames} {r c : Span} {es : Expressions} {ts mid rest : List Token} → IsWord word.New w → SpellsRef n args r ts mid → SpellsArguments names texts es c mid rest →
      heights es ≤ h → types_height args < h → Primary (primary_at texts h p body (w ∷ ts)) (tree.new_object w.span (class_type n args 0 r) es (join w.span c)) rest
  new_atom {w} {ts = ts} {rest = rest} i d a low small =
      let o = open_paren_of names texts a in
      rw (new_read ts i (omega arith) (makes_object d o.1), object_read w.span d a low small) (fallback_body (body rest) _ (bodies.sound rest))

  pub new_anonymous_atom : {w : Token} {n : QualifiedName} {args : TypeNames} {r c e : Span} {es : Expressions} {ms : Members} {ts mid last rest : List Token} → IsWord word.New w → SpellsRef n args r ts mid →
      SpellsArguments names texts es c mid last → SpellsBody names texts ms e last rest → heights es ≤ h → types_height args < h → members_height ms ≤ h →
      primary_at texts h p body (w ∷ ts) ≡ Some (tree.new_anonymous w.span (class_type n args 0 r) es ms (join w.span e), rest)
  new_anonymous_atom {w} {e = e} {ms = ms} {ts = ts} {last = last} {rest} i d a b low small fits =
      let o = open_paren_of names texts a in
      rw (new_read ts i (omega arith) (makes_object d o.1), object_read w.span d a low small, bodies.exact ms e last rest b fits) refl
