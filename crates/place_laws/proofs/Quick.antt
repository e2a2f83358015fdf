-- The quick way comes to the same place.
use Rattle.std.proofs.Common.{◌≡◌, ℕ, zero, suc, ◌≤◌, Bool, true, false, ◌&&◌, nat_le, List, length, Some, None, IfSome, inl, inr, refl, sym, ◌∙◌, arith}
use Rattle.std.proofs.lemmas.Bool.{cases_Bool, leb-true}
use Rattle.je_token.specs.declared.symbol.Symbol.TheVariants as symbol
use Rattle.je_token.specs.declared.token.Token.{Token}
use Rattle.je_ast.specs.declared.ty_name.Primitive.TheVariants as prim
use Rattle.je_ast.specs.Trees.{Expressions}
use Rattle.je_ast.specs.Trees as tree
use Rattle.je_base.specs.declared.span.Span.{Span}
use Rattle.je_grammar.specs.Tokens.{it_is}
use Rattle.je_ast.specs.declared.decl.Modifier.{Modifier}
use Rattle.je_grammar.specs.Types.{SpellsModifiers}
use Rattle.je_grammar.specs.Grammar.{SpellsConstructorInvocation, this_call, super_call}
use Rattle.je_grammar.specs.Place.{Context, Reads, an_import, first_declaration, first_semicolon, a_declaration, semicolon_between, a_member, semicolon_in_body, a_constructor_invocation, first_statement, a_statement, Opens, opens_class, opens_interface, opens_local_class, opens_method, opens_constructor, opens_initializer, opens_static_initializer, opens_block}
use Rattle.je_grammar.specs.Place as context
use Rattle.parse_laws.specs.way.Tokens.{is_symbol}
use Rattle.parse_laws.specs.way.Place.{Step, has_bracket, nest, item_at, opening_at, follow_at, place_at, deep_opening_at, follow_quickly_at, quick_place_at}
use Rattle.type_laws.proofs.Types.{TypeFront, primitive_front, name_front}
use Rattle.statement_laws.proofs.Stops.{first_is}
use Rattle.member_laws.proofs.Fronts.{ItemFront, class_front, interface_front, enum_front, void_front, type_front, result_begins}
use Rattle.knot_laws.proofs.Positive.{statement_positive, member_positive, declaration_positive}
use Rattle.unit_laws.proofs.Files.{begins_declaration, modifiers_begin}
use Rattle.place_laws.proofs.Items.{item_sound}
use Rattle.place_laws.proofs.Heads.{opening_sound}
use Rattle.place_laws.proofs.Deep.{shallow}
use Rattle.place_laws.proofs.Follows.{at_end, reads_on, opens_on, stops_here}

-- ---- nothing is opened where nothing but a lone sign, an import or a call is read

type_begins_item : {ts : List Token} → TypeFront ts → first_is begins_declaration ts ≡ true
type_begins_item (primitive_front prim.Boolean it_is) = refl
type_begins_item (primitive_front prim.Byte it_is) = refl
type_begins_item (primitive_front prim.Short it_is) = refl
type_begins_item (primitive_front prim.Char it_is) = refl
type_begins_item (primitive_front prim.Int it_is) = refl
type_begins_item (primitive_front prim.Long it_is) = refl
type_begins_item (name_front it_is) = refl

item_begins : {ts : List Token} → ItemFront ts → first_is begins_declaration ts ≡ true
item_begins (class_front it_is) = refl
item_begins (interface_front it_is) = refl
item_begins (enum_front it_is) = refl
item_begins (void_front it_is) = refl
item_begins (type_front t) = type_begins_item t

modified_begins : (names : List (List ℕ)) {ms : List Modifier} {ts mid : List Token} → SpellsModifiers names ms ts mid → ItemFront mid → first_is begins_declaration ts ≡ true
modified_begins names m f = modifiers_begin names m (item_begins f)

module _ (names texts : List (List ℕ)) (most : ℕ) where
  opens_first : {x y : Context} {ts inner : List Token} → Opens names texts most x y ts inner → first_is begins_declaration ts ≡ true
  opens_first (opens_class has m w t ps e is o low) = modified_begins names m (class_front w)
  opens_first (opens_interface has m w t ps es o low) = modified_begins names m (interface_front w)
  opens_first (opens_local_class has l m w t ps e is o low) = modified_begins names m (class_front w)
  opens_first (opens_method m r i fs ns o low) = modified_begins names m (result_begins r)
  opens_first (opens_constructor m i fs ns o low) = modified_begins names m (type_front (name_front i))
  opens_first (opens_initializer it_is) = refl
  opens_first (opens_static_initializer it_is o) = refl
  opens_first (opens_block has it_is) = refl

  call_first : {m : Bool} {w : Span} {es : Expressions} {ts rest : List Token} → SpellsConstructorInvocation names texts (tree.explicit m w es) ts rest → first_is begins_declaration ts ≡ false
  call_first (this_call it_is a k) = refl
  call_first (super_call it_is a k) = refl

-- of height 0 nothing else is read
reads_first : (names texts : List (List ℕ)) {x y : Context} {ts rest : List Token} → Reads names texts 0 x y ts rest → first_is begins_declaration ts ≡ false
reads_first names texts (an_import it_is d c) = refl
reads_first names texts (first_declaration {d = d} l) = absurd (let a = l.within in let b = declaration_positive d in omega arith)
reads_first names texts (first_semicolon it_is) = refl
reads_first names texts (a_declaration {d = d} l) = absurd (let a = l.within in let b = declaration_positive d in omega arith)
reads_first names texts (semicolon_between it_is) = refl
reads_first names texts (a_member {m = m} l) = absurd (let a = l.within in let b = member_positive m in omega arith)
reads_first names texts (semicolon_in_body it_is) = refl
reads_first names texts (a_constructor_invocation s low) = call_first names texts 0 s
reads_first names texts (first_statement {b = b} l) = absurd (let a = l.within in let c = statement_positive b in omega arith)
reads_first names texts (a_statement {b = b} l) = absurd (let a = l.within in let c = statement_positive b in omega arith)

none_by : {P : Type 0} (o : Step) → IfSome o (λ y. P) → ¬ P → o ≡ None
none_by (Some y) p f = absurd (f p)
none_by None p f = refl

-- An item that nests too deep isn't read.
deep_unread : (names texts : List (List ℕ)) (most : ℕ) {x y : Context} {ts inner : List Token} → Opens names texts most x y ts inner → most ≤ (nest inner).0 → item_at names texts most x ts ≡ None
deep_unread names texts zero {x} {ts = ts} o le = go (item_at names texts zero x ts) (item_sound names texts zero x ts)
  where
    go : (s : Step) → IfSome s (λ y. Reads names texts zero x y.0 ts y.1) → s ≡ None
    go (Some y) r = absurd (let a = reads_first names texts r in let b = opens_first names texts zero o in cc)
    go None r = refl
deep_unread names texts (suc h) {x} {ts = ts} {inner} o le = none_by {P = (nest inner).0 ≤ h} (item_at names texts (suc h) x ts) (shallow names texts h o) (λ g. absurd (omega arith))

module _ (names texts : List (List ℕ)) (most : ℕ) where
  -- ---- turns of the quick loop

  quick_end : (n : ℕ) (x : Context) (was ts : List Token) → (has_bracket x && is_symbol symbol.CloseBrace ts) ≡ true → follow_quickly_at names texts most (suc n) x was ts ≡ was
  unfolding follow_quickly_at
  quick_end n x was ts e = rw e refl

  quick_deep : (n : ℕ) (x : Context) (was ts : List Token) {y : Context × List Token} → (has_bracket x && is_symbol symbol.CloseBrace ts) ≡ false → deep_opening_at names texts most x ts ≡ Some y → follow_quickly_at names texts most (suc n) x was ts ≡ follow_quickly_at names texts most n y.0 ts y.1
  unfolding follow_quickly_at
  quick_deep n x was ts e f = rw (e, f) refl

  quick_item : (n : ℕ) (x : Context) (was ts : List Token) {y : Context × List Token} → (has_bracket x && is_symbol symbol.CloseBrace ts) ≡ false → deep_opening_at names texts most x ts ≡ None → item_at names texts most x ts ≡ Some y →
      follow_quickly_at names texts most (suc n) x was ts ≡ follow_quickly_at names texts most n y.0 was y.1
  unfolding follow_quickly_at
  quick_item n x was ts e f g = rw (e, f, g) refl

  quick_open : (n : ℕ) (x : Context) (was ts : List Token) {y : Context × List Token} → (has_bracket x && is_symbol symbol.CloseBrace ts) ≡ false → deep_opening_at names texts most x ts ≡ None → item_at names texts most x ts ≡ None → opening_at names texts most x ts ≡ Some y →
      follow_quickly_at names texts most (suc n) x was ts ≡ follow_quickly_at names texts most n y.0 ts y.1
  unfolding follow_quickly_at
  quick_open n x was ts e f g i = rw (e, f, g, i) refl

  quick_stop : (n : ℕ) (x : Context) (was ts : List Token) → (has_bracket x && is_symbol symbol.CloseBrace ts) ≡ false → deep_opening_at names texts most x ts ≡ None → item_at names texts most x ts ≡ None → opening_at names texts most x ts ≡ None → follow_quickly_at names texts most (suc n) x was ts ≡ ts
  unfolding follow_quickly_at
  quick_stop n x was ts e f g i = rw (e, f, g, i) refl

  is_deep : (x : Context) (ts : List Token) {y : Context × List Token} → opening_at names texts most x ts ≡ Some y → nat_le most (nest y.1).0 ≡ true → deep_opening_at names texts most x ts ≡ Some y
  unfolding deep_opening_at
  is_deep x ts e f = rw (e, f) refl

  not_deep : (x : Context) (ts : List Token) {y : Context × List Token} → opening_at names texts most x ts ≡ Some y → nat_le most (nest y.1).0 ≡ false → deep_opening_at names texts most x ts ≡ None
  unfolding deep_opening_at
  not_deep x ts e f = rw (e, f) refl

  not_open : (x : Context) (ts : List Token) → opening_at names texts most x ts ≡ None → deep_opening_at names texts most x ts ≡ None
  unfolding deep_opening_at
  not_open x ts e = rw e refl

  -- ---- each turn comes to the same

  abbrev Same : ℕ → Type 0
  Same n = (x : Context) (was ts : List Token) → follow_quickly_at names texts most n x was ts ≡ follow_at names texts most n x was ts

  as_ever : (n : ℕ) → Same n → (x : Context) (was ts : List Token) → (has_bracket x && is_symbol symbol.CloseBrace ts) ≡ false → deep_opening_at names texts most x ts ≡ None → (o : Step) → item_at names texts most x ts ≡ o → (s : Step) → opening_at names texts most x ts ≡ s →
      follow_quickly_at names texts most (suc n) x was ts ≡ follow_at names texts most (suc n) x was ts
  as_ever n more x was ts b d (Some y) e s f = quick_item n x was ts b d e ∙ more y.0 was y.1 ∙ sym (reads_on names texts most n x was ts b e)
  as_ever n more x was ts b d None e (Some y) f = quick_open n x was ts b d e f ∙ more y.0 ts y.1 ∙ sym (opens_on names texts most n x was ts b e f)
  as_ever n more x was ts b d None e None f = quick_stop n x was ts b d e f ∙ sym (stops_here names texts most n x was ts b e f)

  by_opening : (n : ℕ) → Same n → (x : Context) (was ts : List Token) → (has_bracket x && is_symbol symbol.CloseBrace ts) ≡ false → (s : Step) → opening_at names texts most x ts ≡ s → IfSome s (λ y. Opens names texts most x y.0 ts y.1) →
      follow_quickly_at names texts most (suc n) x was ts ≡ follow_at names texts most (suc n) x was ts
  by_opening n more x was ts b (Some y) e o = elim (cases_Bool (nat_le most (nest y.1).0)) [
    | inl d ↦ quick_deep n x was ts b (is_deep x ts e d) ∙ more y.0 ts y.1 ∙ sym (opens_on names texts most n x was ts b (deep_unread names texts most o (leb-true most (nest y.1).0 d)) e)
    | inr d ↦ as_ever n more x was ts b (not_deep x ts e d) (item_at names texts most x ts) refl (Some y) e
  ]
  by_opening n more x was ts b None e o = as_ever n more x was ts b (not_open x ts e) (item_at names texts most x ts) refl None e

  same_step : (n : ℕ) → Same n → (x : Context) (was ts : List Token) → follow_quickly_at names texts most (suc n) x was ts ≡ follow_at names texts most (suc n) x was ts
  same_step n more x was ts = elim (cases_Bool (has_bracket x && is_symbol symbol.CloseBrace ts)) [
    | inl b ↦ quick_end n x was ts b ∙ sym (at_end names texts most n x was ts b)
    | inr b ↦ by_opening n more x was ts b (opening_at names texts most x ts) refl (opening_sound names texts most x ts)
  ]

  same : (n : ℕ) (x : Context) (was ts : List Token) → follow_quickly_at names texts most n x was ts ≡ follow_at names texts most n x was ts
  unfolding follow_quickly_at follow_at
  same zero x was ts = refl
  same (suc n) x was ts = same_step n (λ y w us. same n y w us) x was ts

  pub quick_same : (ts : List Token) → quick_place_at names texts most ts ≡ place_at names texts most ts
  unfolding quick_place_at place_at
  quick_same ts = same (length ts) context.imports ts ts
