-- The body of a class: what is read is spelled, and what is spelled is read.
use Rattle.std.proofs.Common.{◌≡◌, ℕ, zero, suc, ◌≤◌, List, [], ◌∷◌, ◌++◌, length, Some, IfSome, refl, sym, ap, ◌∙◌, subst, arith, append_assoc}
use Rattle.std.proofs.lemmas.List.{append-nil}
use Rattle.je_base.specs.declared.span.Span.{Span}
use Rattle.je_token.specs.declared.symbol.Symbol.TheVariants as symbol
use Rattle.je_token.specs.declared.token.Token.{Token}
use Rattle.je_token.specs.declared.token.TokenKind.TheVariants as kind
use Rattle.je_ast.specs.Trees.{Member, Members}
use Rattle.je_ast.specs.Trees as tree
use Rattle.je_ast.specs.Height.{member_height, members_height}
use Rattle.je_grammar.specs.Tokens.{it_is, first_span}
use Rattle.je_grammar.specs.Grammar.{SpellsMember, SpellsBody, is_body, SpellsMembers, no_members, lone_semicolon, more_members}
use Rattle.je_grammar.proofs.AtLeastOne.{members_spell_some}
use Rattle.parse_laws.specs.way.Tokens.{behind}
use Rattle.parse_laws.specs.way.Below.{Below}
use Rattle.parse_laws.specs.way.Lists.{members}
use Rattle.parse_laws.specs.way.Readers.{IsBelow, IsRead, itself, longer, any}
use Rattle.parse_laws.specs.way.Members.{more_members_at, class_body_at}
use Rattle.expression_laws.specs.way.Parts.{IsBodyRead}
use Rattle.parse_laws.proofs.Rules.{bind, either, weaken}
use Rattle.parse_laws.proofs.Fronts.{Front, front, behind_front}
use Rattle.member_laws.proofs.Fronts.{member_stops, member_begins}

-- the list of these members
abbrev items_of : Members → List Member
items_of tree.no_members = []
items_of (tree.more_members m ms) = m ∷ items_of ms

same_items : (ms : Members) → members (items_of ms) ≡ ms
same_items tree.no_members = refl
same_items (tree.more_members m ms) = ap (tree.more_members m) (same_items ms)

module _ (names texts : List (List ℕ)) where
  -- the members behind others, up to the brace
  record AreMembers (h : ℕ) (before : List Member) (ts : List Token) (x : Members × Span × List Token) : Type 0 where
    list : List Member
    whole : x.0 ≡ members (before ++ list)
    spelled : SpellsMembers names texts (members list) x.1 ts x.2
    within : members_height (members list) ≤ h

  ends : (h : ℕ) (before : List Member) {ts rest : List Token} → Front (kind.Symbol symbol.CloseBrace) ts rest → AreMembers h before ts (members before, first_span ts, rest)
  ends h before (front c) = record { list = []; whole = ap members (sym (append-nil before)); spelled = no_members c; within = omega arith }

  skips : (h : ℕ) (before : List Member) {ts mid : List Token} {x : Members × Span × List Token} → Front (kind.Symbol symbol.Semicolon) ts mid → AreMembers h before mid x → AreMembers h before ts x
  skips h before (front s) a = record { list = a.list; whole = a.whole; spelled = lone_semicolon s a.spelled; within = a.within }

  member_then : (h : ℕ) (before : List Member) {m : Member} {ts mid : List Token} {x : Members × Span × List Token} → SpellsMember names texts m ts mid → member_height m ≤ h →
      AreMembers h (before ++ m ∷ []) mid x → AreMembers h before ts x
  member_then h before {m} d low a = record {
    list = m ∷ a.list;
    whole = a.whole ∙ ap members (append_assoc before (m ∷ []) a.list);
    spelled = more_members d a.spelled;
    within = let b = a.within in omega arith;
  }

  body_of : (h : ℕ) {ts inside : List Token} {x : Members × Span × List Token} → Front (kind.Symbol symbol.OpenBrace) ts inside → AreMembers h [] inside x → IsBodyRead names texts h ts x
  body_of h {inside = inside} {x} (front o) a = record {
    spelled = is_body o (subst (λ ms. SpellsMembers names texts ms x.1 inside x.2) (sym a.whole) a.spelled);
    within = subst (λ ms. members_height ms ≤ h) (sym a.whole) a.within;
  }

  module _ (h : ℕ) (p : Below) (below : IsBelow names texts h p) where
    more_sound : (n : ℕ) (before : List Member) (ts : List Token) → IfSome (more_members_at texts names h p n before ts) (AreMembers h before ts)
    unfolding more_members_at
    more_sound zero before ts = tt
    more_sound (suc n) before ts =
        either (behind symbol.CloseBrace ts) _ _ (Front (kind.Symbol symbol.CloseBrace) ts) (λ o. IfSome o (AreMembers h before ts)) (behind_front (kind.Symbol symbol.CloseBrace) ts)
        (λ rest c. ends h before c)
        (either (behind symbol.Semicolon ts) _ _ (Front (kind.Symbol symbol.Semicolon) ts) (λ o. IfSome o (AreMembers h before ts)) (behind_front (kind.Symbol symbol.Semicolon) ts)
        (λ mid s. weaken (more_members_at texts names h p n before mid) (AreMembers h before mid) (AreMembers h before ts) (more_sound n before mid) (λ x a. skips h before s a))
        (bind (p.member ts) _ (IsRead (SpellsMember names texts) member_height any h ts) (AreMembers h before ts) (below.member.sound ts)
        (λ x g. weaken (more_members_at texts names h p n (before ++ x.0 ∷ []) x.1) (AreMembers h (before ++ x.0 ∷ []) x.1) (AreMembers h before ts) (more_sound n (before ++ x.0 ∷ []) x.1)
        (λ y a. member_then h before g.spelled g.within a))))

    pub body_sound : (ts : List Token) → IfSome (class_body_at texts names h p ts) (IsBodyRead names texts h ts)
    unfolding class_body_at
    body_sound ts =
        bind (behind symbol.OpenBrace ts) _ (Front (kind.Symbol symbol.OpenBrace) ts) (IsBodyRead names texts h ts) (behind_front (kind.Symbol symbol.OpenBrace) ts)
        (λ inside o. weaken (more_members_at texts names h p (length inside) [] inside) (AreMembers h [] inside) (IsBodyRead names texts h ts) (more_sound (length inside) [] inside)
        (λ x a. body_of h o a))

    member_read : {m : Member} {ts rest : List Token} → SpellsMember names texts m ts rest → member_height m ≤ h → p.member ts ≡ Some (m, rest)
    member_read {m} {ts} {rest} d low = elim (below.member.exact m ts rest d tt low) [
      | itself e ↦ e
      | longer e lt goes ↦ absurd goes
    ]

    more_exact : (n : ℕ) (before : List Member) {ms : Members} {c : Span} {ts rest : List Token} → SpellsMembers names texts ms c ts rest → members_height ms ≤ h → length ts ≤ n →
        more_members_at texts names h p n before ts ≡ Some (members (before ++ items_of ms), c, rest)
    unfolding more_members_at
    more_exact zero before (no_members c) low le = absurd (omega arith)
    more_exact zero before (lone_semicolon s d) low le = absurd (omega arith)
    more_exact zero before (more_members d ds) low le = let a = members_spell_some names texts _ _ _ d in absurd (omega arith)
    more_exact (suc n) before {c = s} {rest = rest} (no_members it_is) low le = ap (λ (xs : List Member). Some (members xs, s, rest)) (sym (append-nil before))
    more_exact (suc n) before (lone_semicolon it_is d) low le = more_exact n before d low (omega arith)
    more_exact (suc n) before {c = s} {ts = ts} {rest} (more_members {m} {ms} {mid = mid} d ds) low le =
        let f = member_stops (member_begins names texts d) in let a = members_spell_some names texts _ _ _ d in
        rw (f.0, f.1, member_read d (omega arith))
        (more_exact n (before ++ m ∷ []) ds (omega arith) (omega arith) ∙ ap (λ (xs : List Member). Some (members xs, s, rest)) (append_assoc before (m ∷ []) (items_of ms)))

    pub body_exact : {ms : Members} {c : Span} {ts rest : List Token} → SpellsBody names texts ms c ts rest → members_height ms ≤ h → class_body_at texts names h p ts ≡ Some (ms, c, rest)
    unfolding class_body_at
    body_exact {ms} {c} {rest = rest} (is_body {ts = inside} it_is d) low = more_exact (length inside) [] d low (omega arith) ∙ ap (λ (xs : Members). Some (xs, c, rest)) (same_items ms)
