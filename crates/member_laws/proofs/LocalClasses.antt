-- Local classes: where one begins, and that it is read right.
use Rattle.std.proofs.Common.{◌≡◌, ℕ, zero, suc, ◌≤◌, true, List, [], ◌∷◌, length, Some, IfSome, refl, sym, subst, arith}
use Rattle.je_base.specs.declared.span.Span.{Span}
use Rattle.je_token.specs.declared.keyword.Keyword.{Keyword}
use Rattle.je_token.specs.declared.keyword.Keyword.TheVariants as word
use Rattle.je_token.specs.declared.token.Token.{Token}
use Rattle.je_token.specs.declared.token.TokenKind.TheVariants as kind
use Rattle.je_ast.specs.declared.decl.Modifier.{Modifier}
use Rattle.je_ast.specs.declared.decl.ModifierKind.{ModifierKind}
use Rattle.je_ast.specs.declared.decl.ModifierKind.TheVariants as modifier
use Rattle.je_ast.specs.Trees.{Declaration}
use Rattle.je_ast.specs.Height.{declaration_height}
use Rattle.je_grammar.specs.Tokens.{it_is, IsWord, first_span}
use Rattle.je_grammar.specs.Context.{are_local}
use Rattle.je_grammar.specs.Types.{modifier_word, SpellsModifiers, no_modifiers, more_modifiers, override_modifier, word_modifier}
use Rattle.je_grammar.specs.Grammar.{is_local_class, is_statement, SpellsClass, class_declaration}
use Rattle.parse_laws.specs.way.Tokens.{behind_word, is_word}
use Rattle.parse_laws.specs.way.Types.{modifiers_at}
use Rattle.parse_laws.specs.way.Below.{Below}
use Rattle.parse_laws.specs.way.Readers.{IsBelow, IsRead, any}
use Rattle.parse_laws.specs.way.Members.{begins_local_class_at, class_at, local_class_at}
use Rattle.parse_laws.proofs.Rules.{either, choose, weaken, same_some}
use Rattle.parse_laws.proofs.Fronts.{Front, front, behind_front}
use Rattle.expression_laws.proofs.Primaries.{front_of}
use Rattle.type_laws.proofs.Modifiers.{modifier_less}
use Rattle.member_laws.specs.Laws.{SpellsLocalClass, local_class_where}
use Rattle.member_laws.proofs.Fronts.{ItemFront, class_front}
use Rattle.member_laws.proofs.Declarations.{modifiers_before, IsClass, class_sound, class_exact}

-- local modifiers, and `class` behind them
pub record IsLocal (names : List (List ℕ)) (ts : List Token) : Type 0 where
  pub modifiers : List Modifier
  pub mid : List Token
  pub rest : List Token
  pub spelled : SpellsModifiers names modifiers ts mid
  pub local : are_local modifiers ≡ true
  pub class : Front (kind.Keyword word.Class) mid rest

pub word_of : {j k : Keyword} {w : Token} → Some j ≡ Some k → IsWord k w → IsWord j w
word_of {j} {k} {w} e i = subst (λ l. IsWord l w) (same_some (sym e)) i

final_step : (n : ℕ) {w : Token} (ts : List Token) → IsWord word.Final w → begins_local_class_at (suc n) (w ∷ ts) ≡ begins_local_class_at n ts
unfolding begins_local_class_at
final_step n ts it_is = refl

abstract_step : (n : ℕ) {w : Token} (ts : List Token) → IsWord word.Abstract w → begins_local_class_at (suc n) (w ∷ ts) ≡ begins_local_class_at n ts
unfolding begins_local_class_at
abstract_step n ts it_is = refl

class_seen : (n : ℕ) {ts rest : List Token} → Front (kind.Keyword word.Class) ts rest → begins_local_class_at n ts ≡ true
unfolding begins_local_class_at
class_seen zero (front it_is) = refl
class_seen (suc n) (front it_is) = refl

class_in_front : {names texts : List (List ℕ)} {ms : List Modifier} {s : Span} {d : Declaration} {ts rest : List Token} → SpellsClass names texts ms s d ts rest → (mid : List Token) × Front (kind.Keyword word.Class) ts mid
class_in_front (class_declaration {t = t} {ts = ts} w i ps e is b) = (t ∷ ts, front w)

item_of : {ts rest : List Token} → Front (kind.Keyword word.Class) ts rest → ItemFront ts
item_of (front w) = class_front w

module _ (names : List (List ℕ)) where
  word_seen : (n : ℕ) (m : ModifierKind) {k : Keyword} {w : Token} (s : Span) (ms : List Modifier) (ts : List Token) → modifier_word m ≡ Some k → IsWord k w → are_local (record { kind = m; span = s } ∷ ms) ≡ true →
      (are_local ms ≡ true → begins_local_class_at n ts ≡ true) → begins_local_class_at (suc n) (w ∷ ts) ≡ true
  word_seen n modifier.Final s ms ts e i l go = rw (final_step n ts (word_of e i)) (go l)
  word_seen n modifier.Abstract s ms ts e i l go = rw (abstract_step n ts (word_of e i)) (go l)
  word_seen n modifier.Override s ms ts e i l go = absurd cc
  word_seen n modifier.Public s ms ts e i l go = absurd cc
  word_seen n modifier.Protected s ms ts e i l go = absurd cc
  word_seen n modifier.Private s ms ts e i l go = absurd cc
  word_seen n modifier.Static s ms ts e i l go = absurd cc
  word_seen n modifier.Native s ms ts e i l go = absurd cc

  pub modifiers_seen : (n : ℕ) {ms : List Modifier} {ts mid rest : List Token} → SpellsModifiers names ms ts mid → are_local ms ≡ true → Front (kind.Keyword word.Class) mid rest → length ts ≤ n → begins_local_class_at n ts ≡ true
  modifiers_seen n no_modifiers l c le = class_seen n c
  modifiers_seen zero (more_modifiers m ms) l c le = let a = modifier_less names m in absurd (omega arith)
  modifiers_seen (suc n) (more_modifiers (override_modifier a t o) ms) l c le = absurd cc
  modifiers_seen (suc n) (more_modifiers {ms = rest_of_them} (word_modifier {m} {w = t} {rest = ts} e w) ms) l c le = word_seen n m t.span rest_of_them ts e w l (λ k. modifiers_seen n ms k c (omega arith))

  final_then : {ts mid : List Token} → Front (kind.Keyword word.Final) ts mid → IsLocal names mid → IsLocal names ts
  final_then (front {t = w} i) a = record {
    modifiers = record { kind = modifier.Final; span = w.span } ∷ a.modifiers;
    mid = a.mid;
    rest = a.rest;
    spelled = more_modifiers (word_modifier refl i) a.spelled;
    local = a.local;
    class = a.class;
  }

  abstract_then : {ts mid : List Token} → Front (kind.Keyword word.Abstract) ts mid → IsLocal names mid → IsLocal names ts
  abstract_then (front {t = w} i) a = record {
    modifiers = record { kind = modifier.Abstract; span = w.span } ∷ a.modifiers;
    mid = a.mid;
    rest = a.rest;
    spelled = more_modifiers (word_modifier refl i) a.spelled;
    local = a.local;
    class = a.class;
  }

  class_alone : (ts : List Token) → is_word word.Class ts ≡ true → IsLocal names ts
  class_alone ts e = let f = front_of (kind.Keyword word.Class) ts e in record { modifiers = []; mid = ts; rest = f.0; spelled = no_modifiers; local = refl; class = f.1 }

  pub local_sound : (n : ℕ) (ts : List Token) → begins_local_class_at n ts ≡ true → IsLocal names ts
  unfolding begins_local_class_at
  local_sound zero ts = class_alone ts
  local_sound (suc n) ts =
      either (behind_word word.Final ts) _ _ (Front (kind.Keyword word.Final) ts) (λ b. b ≡ true → IsLocal names ts) (behind_front (kind.Keyword word.Final) ts)
      (λ mid f e. final_then f (local_sound n mid e))
      (either (behind_word word.Abstract ts) _ _ (Front (kind.Keyword word.Abstract) ts) (λ b. b ≡ true → IsLocal names ts) (behind_front (kind.Keyword word.Abstract) ts)
      (λ mid f e. abstract_then f (local_sound n mid e))
      (class_alone ts))

module _ (names texts : List (List ℕ)) where
  pub local_class_seen : {d : Declaration} (ts : List Token) {rest : List Token} → SpellsLocalClass names texts d ts rest → begins_local_class_at (length ts) ts ≡ true
  local_class_seen ts (is_local_class l ms c) = let f = class_in_front c in modifiers_seen names (length ts) ms l f.1 (omega arith)
  local_class_seen ts (is_statement s) = elim s [ ]

  module _ (h : ℕ) (p : Below) (below : IsBelow names texts h p) where
    IsLocalClass : List Token → Declaration × List Token → Type 0
    IsLocalClass ts x = IsRead (SpellsLocalClass names texts) declaration_height any (suc h) ts x

    local_by : {ms : List Modifier} (ts : List Token) {mid : List Token} → modifiers_at names ts ≡ (ms, mid) → local_class_at texts names h p ts ≡ class_at texts names h p ms (first_span ts) mid
    unfolding local_class_at
    local_by ts e = rw e refl

    local_read : (ts : List Token) → IsLocal names ts → IfSome (local_class_at texts names h p ts) (IsLocalClass ts)
    unfolding IsLocalClass
    local_read ts l =
        let e = local_by ts (modifiers_before names l.spelled (item_of l.class)) in
        subst (λ o. IfSome o (IsLocalClass ts)) (sym e)
        (weaken (class_at texts names h p l.modifiers (first_span ts) l.mid) (IsClass names texts h l.modifiers (first_span ts) l.mid) (IsLocalClass ts) (class_sound names texts h p below l.modifiers (first_span ts) l.mid)
        (λ x g. record { spelled = is_local_class l.local l.spelled g.spelled; fits = tt; within = g.within }))

    pub local_class_sound : (ts : List Token) → IfSome (local_class_where texts names h p ts) (IsRead (SpellsLocalClass names texts) declaration_height any (suc h) ts)
    unfolding IsLocalClass
    local_class_sound ts =
        choose (begins_local_class_at (length ts) ts) _ _ (λ o. IfSome o (IsLocalClass ts)) (λ e. local_read ts (local_sound names (length ts) ts e)) (λ _. tt)

    class_read : {d : Declaration} (ts : List Token) {rest : List Token} → SpellsLocalClass names texts d ts rest → declaration_height d ≤ suc h → local_class_at texts names h p ts ≡ Some (d, rest)
    class_read ts (is_local_class l ms c) low =
        let f = class_in_front c in
        rw (local_by ts (modifiers_before names ms (item_of f.1))) (class_exact names texts h p below c low)
    class_read ts (is_statement s) low = elim s [ ]

    pub local_class_exact : {d : Declaration} {ts rest : List Token} → SpellsLocalClass names texts d ts rest → declaration_height d ≤ suc h → local_class_where texts names h p ts ≡ Some (d, rest)
    local_class_exact {ts = ts} s low = rw (local_class_seen ts s, class_read ts s low) refl
