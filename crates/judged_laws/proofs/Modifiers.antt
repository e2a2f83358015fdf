-- Where no modifier offends, a word that none may have stands on no declaration.
use Rattle.std.proofs.Common.{◌≡◌, List, [], ◌∷◌, ◌++◌, Option, Some, None, refl, sym, ap, ◌∙◌}
use Rattle.std.specs.Prelude.{Bool, true, false, not, ◌||◌, if◌then◌else◌}
use Rattle.std.specs.List.{list_any}
use Rattle.je_base.specs.declared.span.Span.{Span}
use Rattle.je_ast.specs.declared.decl.Modifier.{Modifier}
use Rattle.je_ast.specs.declared.decl.ModifierKind.{ModifierKind}
use Rattle.je_ast.specs.declared.decl.ModifierKind.TheVariants as word
use Rattle.je_classes.proofs.Lists.{bool_cases}
use Rattle.je_typing.specs.declared.fault.TypeRule.{TypeRule}
use Rattle.je_typing.specs.Judged.{gives}
use Rattle.member_rules.specs.Bodies.{has_no_body, is_without_body}
use Rattle.member_rules.specs.Modifiers.{allows, bad_after, bad_modifier, clash, clashes, is_bad}
use Rattle.member_rules.specs.declared.modifiers.Declared.{Declared}
use Rattle.member_rules.specs.declared.modifiers.Surrounding.{Surrounding}
use Rattle.declarations.specs.Words.{has_abstract, has_native, is_abstract_word, is_native_word}
use Rattle.signature_typing.specs.Signatures.{refused}

-- where nothing is refused, nothing offends
pub none-refused : (rule : TypeRule) (o : Option Span) → refused rule o ≡ gives tt → o ≡ None
none-refused rule None e = refl
none-refused rule (Some span) e = absurd cc

module _ (d : Declared) (place : Surrounding) (test : ModifierKind → Bool) (no : (w : ModifierKind) → test w ≡ true → allows d place w ≡ false) where
  not-allowed : (a b : Bool) → a ≡ false → ¬ ((not a || b) ≡ false)
  not-allowed false b h k = absurd cc
  not-allowed true b h k = absurd cc

  good-word : (earlier : List Modifier) (m : Modifier) → is_bad d place earlier m.kind ≡ false → test m.kind ≡ false
  good-word earlier m e = bool_cases (λ b. test m.kind ≡ b → test m.kind ≡ false) (test m.kind)
      (λ _ yes. absurd (not-allowed (allows d place m.kind) _ (no m.kind yes) e)) (λ _ h. h) refl

  none-after : (earlier ms : List Modifier) → bad_after d place earlier ms ≡ None → list_any (λ (m : Modifier). test m.kind) ms ≡ false
  none-after earlier [] e = refl
  none-after earlier (m ∷ ms) e =
      bool_cases (λ b. is_bad d place earlier m.kind ≡ b → list_any (λ (m : Modifier). test m.kind) (m ∷ ms) ≡ false) (is_bad d place earlier m.kind)
      (λ _ bad. absurd (let no : Some m.span ≡ None = rest true bad in cc))
      (λ _ good. rw (good-word earlier m good) (none-after (earlier ++ m ∷ []) ms (rest false good))) refl
    where
      rest : (b : Bool) → is_bad d place earlier m.kind ≡ b → (if b then Some m.span else bad_after d place (earlier ++ m ∷ []) ms) ≡ None
      rest b h = sym (ap (λ x. if x then Some m.span else bad_after d place (earlier ++ m ∷ []) ms) h) ∙ e

  pub none-has : (ms : List Modifier) → bad_modifier d place ms ≡ None → list_any (λ (m : Modifier). test m.kind) ms ≡ false
  unfolding bad_modifier
  none-has ms e = none-after [] ms e

swapped : (a : Bool) → true ≡ (a || true)
swapped true = refl
swapped false = refl

-- Of words that exclude each other in any order none stands behind the other.
module _ (d : Declared) (place : Surrounding) (one other : ModifierKind → Bool)
    (before : (w v : ModifierKind) → one w ≡ true → other v ≡ true → clash d w v ≡ true)
    (behind : (w v : ModifierKind) → one w ≡ true → other v ≡ true → clash d v w ≡ true)
    (apart : (w : ModifierKind) → one w ≡ true → other w ≡ false) where
  abbrev has : (ModifierKind → Bool) → List Modifier → Bool
  has test ms = list_any (λ (m : Modifier). test m.kind) ms

  has-before : (test : ModifierKind → Bool) (w : ModifierKind) (earlier : List Modifier) → has test earlier ≡ true →
      ((v : ModifierKind) → test v ≡ true → clash d v w ≡ true) → clashes d earlier w ≡ true
  has-before test w [] h f = absurd cc
  has-before test w (m ∷ ms) h f =
      bool_cases (λ b. test m.kind ≡ b → (b || has test ms) ≡ true → (clash d m.kind w || clashes d ms w) ≡ true) (test m.kind)
      (λ _ e g. ap (λ b. b || clashes d ms w) (f m.kind e))
      (λ _ e g. ap (λ b. clash d m.kind w || b) (has-before test w ms g f) ∙ or-true (clash d m.kind w)) refl h
    where
      or-true : (a : Bool) → (a || true) ≡ true
      or-true true = refl
      or-true false = refl

  kept-behind : (test : ModifierKind → Bool) (earlier : List Modifier) (m : Modifier) → has test earlier ≡ true → has test (earlier ++ m ∷ []) ≡ true
  kept-behind test [] m h = absurd cc
  kept-behind test (x ∷ xs) m h =
      bool_cases (λ b. test x.kind ≡ b → (b || has test xs) ≡ true → (b || has test (xs ++ m ∷ [])) ≡ true) (test x.kind)
      (λ _ e g. refl) (λ _ e g. kept-behind test xs m g) refl h

  put-behind : (test : ModifierKind → Bool) (earlier : List Modifier) (m : Modifier) → test m.kind ≡ true → has test (earlier ++ m ∷ []) ≡ true
  put-behind test [] m h = ap (λ b. b || false) h
  put-behind test (x ∷ xs) m h = ap (λ b. test x.kind || b) (put-behind test xs m h) ∙ or-true (test x.kind)
    where
      or-true : (a : Bool) → (a || true) ≡ true
      or-true true = refl
      or-true false = refl

  good : (earlier : List Modifier) (m : Modifier) (ms : List Modifier) → bad_after d place earlier (m ∷ ms) ≡ None →
      (clashes d earlier m.kind ≡ false) × (bad_after d place (earlier ++ m ∷ []) ms ≡ None)
  good earlier m ms e = by (allows d place m.kind) (clashes d earlier m.kind) e
    where
      by : (a c : Bool) → (if not a || c then Some m.span else bad_after d place (earlier ++ m ∷ []) ms) ≡ None →
          (c ≡ false) × (bad_after d place (earlier ++ m ∷ []) ms ≡ None)
      by true true h = absurd cc
      by true false h = (refl, h)
      by false c h = absurd cc

  none-behind : (test : ModifierKind → Bool) (seen : ModifierKind → Bool) →
      ((w v : ModifierKind) → seen w ≡ true → test v ≡ true → clash d w v ≡ true) → (earlier ms : List Modifier) →
      has seen earlier ≡ true → bad_after d place earlier ms ≡ None → has test ms ≡ false
  none-behind test seen f earlier [] h e = refl
  none-behind test seen f earlier (m ∷ ms) h e =
      let g = good earlier m ms e in
      bool_cases (λ b. test m.kind ≡ b → (b || has test ms) ≡ false) (test m.kind)
      (λ _ y. absurd (let yes : clashes d earlier m.kind ≡ true = has-before seen m.kind earlier h (λ w s. f w m.kind s y) in
      let no = g.0 in cc))
      (λ _ n. none-behind test seen f (earlier ++ m ∷ []) ms (kept-behind seen earlier m h) g.1) refl

  none-both : (earlier ms : List Modifier) → bad_after d place earlier ms ≡ None → has one ms ≡ true → has other ms ≡ false
  none-both earlier [] e h = refl
  none-both earlier (m ∷ ms) e h =
      let g = good earlier m ms e in
      bool_cases (λ b. one m.kind ≡ b → (b || has one ms) ≡ true → has other (m ∷ ms) ≡ false) (one m.kind)
      (λ _ y k. rw (apart m.kind y)
      (none-behind other one before (earlier ++ m ∷ []) ms (put-behind one earlier m y) g.1))
      (λ _ n k. bool_cases (λ b. other m.kind ≡ b → (b || has other ms) ≡ false) (other m.kind)
      (λ _ y. absurd (let no : has one ms ≡ false =
      none-behind one other (λ w v p q. behind v w q p) (earlier ++ m ∷ []) ms (put-behind other earlier m y) g.1 in cc))
      (λ _ o. none-both (earlier ++ m ∷ []) ms g.1 k) refl) refl h

  pub not-both : (ms : List Modifier) → bad_modifier d place ms ≡ None → has one ms ≡ true → has other ms ≡ false
  unfolding bad_modifier
  not-both ms e h = none-both [] ms e h

-- the words by which a method has no body are `abstract` and `native`
pub without-body : (ms : List Modifier) → has_no_body ms ≡ (has_abstract ms || has_native ms)
without-body [] = refl
without-body (m ∷ ms) = by m.kind (without-body ms)
  where
    by : (w : ModifierKind) → has_no_body ms ≡ (has_abstract ms || has_native ms) →
        (is_without_body w || has_no_body ms) ≡ ((is_abstract_word w || has_abstract ms) || (is_native_word w || has_native ms))
    by word.Abstract e = refl
    by word.Native e = swapped (has_abstract ms)
    by word.Public e = e
    by word.Protected e = e
    by word.Private e = e
    by word.Static e = e
    by word.Final e = e
    by word.Override e = e
