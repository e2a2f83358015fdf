-- Modifiers.
use Rattle.std.proofs.Common.{◌≡◌, ℕ, zero, suc, ◌<◌, ◌≤◌, inl, inr, Bool, true, false, ◌&&◌, List, [], ◌∷◌, ◌++◌, length, Option, Some, None, IfSome, refl, sym, ap, ◌∙◌, subst, arith, append_assoc, append-nil, codes, slice_get, nat_eq}
use Rattle.std.proofs.lemmas.Bool.{eqb-true}
use Rattle.je_token.specs.declared.keyword.Keyword.{Keyword}
use Rattle.je_token.specs.declared.keyword.Keyword.TheVariants as word
use Rattle.je_token.specs.declared.symbol.Symbol.TheVariants as symbol
use Rattle.je_token.specs.declared.token.Token.{Token}
use Rattle.je_token.specs.declared.token.TokenKind.{TokenKind}
use Rattle.je_token.specs.declared.token.TokenKind.TheVariants as kind
use Rattle.je_ast.specs.declared.name.Identifier.{Identifier}
use Rattle.je_ast.specs.declared.decl.Modifier.{Modifier}
use Rattle.je_ast.specs.declared.decl.ModifierKind.{ModifierKind}
use Rattle.je_ast.specs.declared.decl.ModifierKind.TheVariants as modifier
use Rattle.je_ast.specs.Spans.{join}
use Rattle.je_grammar.specs.Tokens.{it_is, first_span}
use Rattle.je_grammar.specs.Types.{modifier_word, SpellsModifier, override_modifier, word_modifier, SpellsModifiers, no_modifiers, more_modifiers}
use Rattle.parse_laws.specs.way.Tokens.{Read, ◌>>=◌, with, is_some, behind, identifier_at}
use Rattle.parse_laws.specs.way.Types.{modifier_kind, word_modifier_at, same_text, override_at, modifier_at, more_modifiers_at, modifiers_at}
use Rattle.type_laws.specs.Laws.{IsExact, modifiers_on}
use Rattle.parse_laws.proofs.Rules.{bind, weaken}
use Rattle.type_laws.proofs.Rules.{choose, either}
use Rattle.parse_laws.proofs.Fronts.{Front, front, behind_front, is_of}
use Rattle.type_laws.proofs.Fronts.{First, a_first, identifier_sound, kind_is}

record WordOf (k : TokenKind) (m : ModifierKind) : Type 0 where
  w : Keyword
  is : k ≡ kind.Keyword w
  named : modifier_word m ≡ Some w

modifier_kind_sound : (k : TokenKind) → IfSome (modifier_kind k) (WordOf k)
modifier_kind_sound (kind.Keyword word.Public) = record { w = word.Public; is = refl; named = refl }
modifier_kind_sound (kind.Keyword word.Protected) = record { w = word.Protected; is = refl; named = refl }
modifier_kind_sound (kind.Keyword word.Private) = record { w = word.Private; is = refl; named = refl }
modifier_kind_sound (kind.Keyword word.Static) = record { w = word.Static; is = refl; named = refl }
modifier_kind_sound (kind.Keyword word.Final) = record { w = word.Final; is = refl; named = refl }
modifier_kind_sound (kind.Keyword word.Abstract) = record { w = word.Abstract; is = refl; named = refl }
modifier_kind_sound (kind.Keyword word.Native) = record { w = word.Native; is = refl; named = refl }
modifier_kind_sound _ = tt

word_kind : Option Keyword → TokenKind
word_kind (Some w) = kind.Keyword w
word_kind None = kind.End

-- the kind of a modifier's word
kind_exact : (m : ModifierKind) (k : Keyword) → modifier_word m ≡ Some k → modifier_kind (kind.Keyword k) ≡ Some m
unfolding word_kind
kind_exact modifier.Override k e = absurd cc
kind_exact modifier.Public k e = sym (ap (λ o. modifier_kind (word_kind o)) e)
kind_exact modifier.Protected k e = sym (ap (λ o. modifier_kind (word_kind o)) e)
kind_exact modifier.Private k e = sym (ap (λ o. modifier_kind (word_kind o)) e)
kind_exact modifier.Static k e = sym (ap (λ o. modifier_kind (word_kind o)) e)
kind_exact modifier.Final k e = sym (ap (λ o. modifier_kind (word_kind o)) e)
kind_exact modifier.Abstract k e = sym (ap (λ o. modifier_kind (word_kind o)) e)
kind_exact modifier.Native k e = sym (ap (λ o. modifier_kind (word_kind o)) e)

and_split : (a b : Bool) → (a && b) ≡ true → (a ≡ true) × (b ≡ true)
and_split true b e = (refl, e)
and_split false b e = absurd cc

same_text_true : (xs ys : List ℕ) → same_text xs ys ≡ true → xs ≡ ys
same_text_true [] [] e = refl
same_text_true (x ∷ xs) (y ∷ ys) e =
    let c = and_split (nat_eq x y) (same_text xs ys) e in
    ap (λ z. z ∷ xs) (eqb-true x y c.0) ∙ ap (λ zs. y ∷ zs) (same_text_true xs ys c.1)
same_text_true _ _ e = absurd cc

override_of : (names : List (List ℕ)) (text : List ℕ) {ts mid rest : List Token} {i : Identifier} → slice_get names i.name.0 ≡ Some text → same_text text (codes "Override") ≡ true →
    Front (kind.Symbol symbol.At) ts mid → First mid i rest → SpellsModifier names (record { kind = modifier.Override; span = join (first_span ts) i.span }) ts rest
override_of names text found same (front a) (a_first i) = override_modifier a i (found ∙ ap Some (same_text_true text (codes "Override") same))

-- what was found, with where it was
found_has : {A B : Type 0} (o : Option A) (f : A → Option B) (Q : B → Type 0) → ((x : A) → o ≡ Some x → IfSome (f x) Q) → IfSome (o >>= f) Q
found_has (Some x) f Q g = g x refl
found_has None f Q g = tt

module _ (names : List (List ℕ)) where
  Spelled : List Token → Modifier × List Token → Type 0
  Spelled ts x = SpellsModifier names x.0 ts x.1

  word_modifier_sound : (ts : List Token) → IfSome (word_modifier_at ts) (Spelled ts)
  unfolding Spelled
  word_modifier_sound [] = tt
  word_modifier_sound (t ∷ ts) =
      bind (modifier_kind t.kind) _ (WordOf t.kind) (Spelled (t ∷ ts)) (modifier_kind_sound t.kind)
      (λ m w. word_modifier w.named (is_of (kind.Keyword w.w) t w.is))

  override_sound : (ts : List Token) → IfSome (override_at names ts) (Spelled ts)
  unfolding override_at Spelled
  override_sound ts =
      bind (behind symbol.At ts >>= identifier_at) _ (λ x. (mid : List Token) × Front (kind.Symbol symbol.At) ts mid × First mid x.0 x.1) (Spelled ts)
      (bind (behind symbol.At ts) _ (Front (kind.Symbol symbol.At) ts) (λ x. (mid : List Token) × Front (kind.Symbol symbol.At) ts mid × First mid x.0 x.1) (behind_front (kind.Symbol symbol.At) ts)
      (λ mid a. weaken (identifier_at mid) (λ x. First mid x.0 x.1) _ (identifier_sound mid) (λ x i. (mid, a, i))))
      (λ x g. found_has (slice_get names x.0.name.0) _ (Spelled ts)
      (λ text found. choose (same_text text (codes "Override")) _ None (Spelled ts)
      (λ same. override_of names text found same g.1 g.2)
      (λ e. tt)))

  pub modifier_sound : (ts : List Token) → IfSome (modifier_at names ts) (λ x. SpellsModifier names x.0 ts x.1)
  unfolding modifier_at Spelled
  modifier_sound ts =
      either (word_modifier_at ts) _ _ (Spelled ts) (λ (o : Read Modifier). IfSome o (Spelled ts)) (word_modifier_sound ts)
      (λ x s. s) (λ e. override_sound ts)

  pub modifier_exact : {m : Modifier} {ts rest : List Token} → SpellsModifier names m ts rest → modifier_at names ts ≡ Some (m, rest)
  unfolding modifier_at override_at
  modifier_exact (override_modifier it_is it_is found) = rw found refl
  modifier_exact (word_modifier {m} {k} {w} named i) = rw (kind_is i, kind_exact m k named) refl

  pub modifier_less : {m : Modifier} {ts rest : List Token} → SpellsModifier names m ts rest → length rest < length ts
  modifier_less (override_modifier a t o) = omega arith
  modifier_less (word_modifier e w) = omega arith

  record AreModifiers (before : List Modifier) (ts : List Token) (x : List Modifier × List Token) : Type 0 where
    list : List Modifier
    whole : x.0 ≡ before ++ list
    spelled : SpellsModifiers names list ts x.1

  modifiers_more : (before : List Modifier) (ts mid : List Token) (m : Modifier) (y : List Modifier × List Token) → SpellsModifier names m ts mid →
      AreModifiers (before ++ m ∷ []) mid y → AreModifiers before ts y
  modifiers_more before ts mid m y s a = record { list = m ∷ a.list; whole = a.whole ∙ append_assoc before (m ∷ []) a.list; spelled = more_modifiers s a.spelled }

  more_modifiers_sound : (n : ℕ) (before : List Modifier) (ts : List Token) → AreModifiers before ts (more_modifiers_at names n before ts)
  unfolding more_modifiers_at
  more_modifiers_sound zero before ts = record { list = []; whole = sym (append-nil before); spelled = no_modifiers }
  more_modifiers_sound (suc n) before ts =
      either (modifier_at names ts) _ _ (λ x. SpellsModifier names x.0 ts x.1) (AreModifiers before ts) (modifier_sound ts)
      (λ x s. modifiers_more before ts x.1 x.0 (more_modifiers_at names n (before ++ x.0 ∷ []) x.1) s (more_modifiers_sound n (before ++ x.0 ∷ []) x.1))
      (λ e. record { list = []; whole = sym (append-nil before); spelled = no_modifiers })

  pub modifiers_sound : (ts : List Token) → SpellsModifiers names (modifiers_at names ts).0 ts (modifiers_at names ts).1
  unfolding modifiers_at
  modifiers_sound ts = let a = more_modifiers_sound (length ts) [] ts in subst (λ ms. SpellsModifiers names ms ts (more_modifiers_at names (length ts) [] ts).1) (sym a.whole) a.spelled

  more_modifiers_less : (n : ℕ) (before : List Modifier) (ts : List Token) → length (more_modifiers_at names n before ts).1 ≤ length ts
  unfolding more_modifiers_at
  more_modifiers_less zero before ts = omega arith
  more_modifiers_less (suc n) before ts =
      either (modifier_at names ts) _ _ (λ x. SpellsModifier names x.0 ts x.1) (λ (y : List Modifier × List Token). length y.1 ≤ length ts) (modifier_sound ts)
      (λ x s. let a = more_modifiers_less n (before ++ x.0 ∷ []) x.1 in let b = modifier_less s in omega arith) (λ e. omega arith)

  more_modifiers_on : (n : ℕ) (before : List Modifier) (rest : List Token) → IsExact (modifiers_on names rest) before rest (more_modifiers_at names n before rest)
  unfolding more_modifiers_at
  more_modifiers_on zero before rest = inl refl
  more_modifiers_on (suc n) before rest = go (modifier_at names rest) (modifier_sound rest)
    where
      go : (o : Read Modifier) → IfSome o (λ x. SpellsModifier names x.0 rest x.1) → IsExact (is_some o) before rest (with o (λ x. more_modifiers_at names n (before ++ x.0 ∷ []) x.1) (before, rest))
      go None p = inl refl
      go (Some x) p = inr (let a = more_modifiers_less n (before ++ x.0 ∷ []) x.1 in let b = modifier_less p in omega arith, refl)

  more_modifiers_exact : (n : ℕ) (before : List Modifier) {ms : List Modifier} {ts rest : List Token} → SpellsModifiers names ms ts rest → length ts ≤ n →
      IsExact (modifiers_on names rest) (before ++ ms) rest (more_modifiers_at names n before ts)
  unfolding more_modifiers_at
  more_modifiers_exact n before {rest = rest} no_modifiers enough =
      subst (λ (ms : List Modifier). IsExact (modifiers_on names rest) ms rest (more_modifiers_at names n before rest)) (sym (append-nil before)) (more_modifiers_on n before rest)
  more_modifiers_exact zero before (more_modifiers s ms) enough = let a = modifier_less s in absurd (omega arith)
  more_modifiers_exact (suc n) before {rest = rest} (more_modifiers {m} {ms} {mid = mid} s ss) enough =
      let a = modifier_less s in
      rw (modifier_exact s)
      (subst (λ (all : List Modifier). IsExact (modifiers_on names rest) all rest (more_modifiers_at names n (before ++ m ∷ []) mid)) (append_assoc before (m ∷ []) ms)
      (more_modifiers_exact n (before ++ m ∷ []) ss (omega arith)))

  pub modifiers_exact : {ms : List Modifier} {ts rest : List Token} → SpellsModifiers names ms ts rest → IsExact (modifiers_on names rest) ms rest (modifiers_at names ts)
  unfolding modifiers_at
  modifiers_exact {ts = ts} ss = more_modifiers_exact (length ts) [] ss (omega arith)
