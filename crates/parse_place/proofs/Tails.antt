-- The tokens from the syntax place on are the file's last ones.
use Rattle.std.proofs.Common.{◌≡◌, ℕ, suc, ◌+◌, ◌-◌, ◌<◌, min, Bool, List, ◌∷◌, length, drop, refl, sym, ◌∙◌, ap, subst, ◌⊎◌, inl, inr, length-drop, arith}
use Rattle.std.proofs.lemmas.List.{drop-drop, drop_min}
use Rattle.je_token.specs.declared.token.Token.{Token}
use Rattle.je_ast.specs.Trees.{Expressions, Statement, Member, Declaration}
use Rattle.je_ast.specs.Trees as tree
use Rattle.je_base.specs.declared.span.Span.{Span}
use Rattle.je_grammar.specs.Grammar.{SpellsConstructorInvocation, this_call, super_call}
use Rattle.je_grammar.specs.Longest.{IsLongestStatement, IsLongestMember, IsLongestDeclaration}
use Rattle.je_grammar.specs.Place.{Context, Reads, an_import, first_declaration, first_semicolon, a_declaration, semicolon_between, a_member, semicolon_in_body, a_constructor_invocation, first_statement, a_statement}
use Rattle.je_grammar.specs.Place.{Opens, opens_class, opens_interface, opens_local_class, opens_method, opens_constructor, opens_initializer, opens_static_initializer, opens_block, FailsAt, behind_item, unreadable, inside, too_high}
use Rattle.je_grammar.proofs.AtLeastOne.{statements_spell_some, members_spell_some, declarations_spell_some}
use Rattle.je_grammar.proofs.Suffixes.{statements_leave_suffix, members_leave_suffix, declarations_leave_suffix}
use Rattle.je_grammar.proofs.Through.{Stays, through-SpellsName, through-SpellsArguments, through-SpellsModifiers, through-SpellsTypeParameters, through-SpellsExtends, through-SpellsImplements, through-SpellsExtendsAll, through-SpellsResult, through-SpellsFormals, through-SpellsThrows}
use Rattle.place_laws.proofs.Opened.{opens_leave}

-- The second list is the first one without one token and so many more.
record IsTail (ts rest : List Token) : Type 0 where
  more : ℕ
  same : drop (suc more) ts ≡ rest

behind_one : (t : Token) (rest : List Token) → IsTail (t ∷ rest) rest
behind_one t rest = record { more = 0; same = refl }

tail_stays : (rest : List Token) → Stays (λ ts. IsTail ts rest)
tail_stays rest = record {
  token = λ t ts x. record { more = suc x.more; same = x.same };
  part = λ t y ts h x. record { more = x.more; same = x.same };
}

join : {ts mid rest : List Token} → IsTail ts mid → IsTail mid rest → IsTail ts rest
join {ts} {mid} {rest} x y =
    let sum : suc (x.more + suc y.more) ≡ suc x.more + suc y.more = omega arith in
    let twice : drop (suc y.more) (drop (suc x.more) ts) ≡ rest = ap (λ us. drop (suc y.more) us) x.same ∙ y.same in
    record { more = x.more + suc y.more; same = rw sum (sym (drop-drop (suc y.more) (suc x.more) ts) ∙ twice) }

by_lengths : (ts rest : List Token) → drop (length ts - length rest) ts ≡ rest → length rest < length ts → IsTail ts rest
by_lengths ts rest d lt =
    let e : suc (length ts - length rest - 1) ≡ length ts - length rest = omega arith in
    record { more = length ts - length rest - 1; same = rw e d }

to_lengths : (ts rest : List Token) → IsTail ts rest → drop (length ts - length rest) ts ≡ rest
to_lengths ts rest x =
    let l : length rest ≡ length ts - suc x.more = ap length (sym x.same) ∙ length-drop (suc x.more) ts in
    let e : length ts - length rest ≡ min (suc x.more) (length ts) = omega arith in
    rw e (drop_min (suc x.more) ts ∙ x.same)

module _ (names texts : List (List ℕ)) (most : ℕ) where
  statement_tail : {b : Statement} {ts rest : List Token} → IsLongestStatement names texts most b ts rest → IsTail ts rest
  statement_tail {b} {ts} {rest} l = by_lengths ts rest (statements_leave_suffix names texts b ts rest l.spelled) (statements_spell_some names texts _ _ _ l.spelled)

  member_tail : {m : Member} {ts rest : List Token} → IsLongestMember names texts most m ts rest → IsTail ts rest
  member_tail {m} {ts} {rest} l = by_lengths ts rest (members_leave_suffix names texts m ts rest l.spelled) (members_spell_some names texts _ _ _ l.spelled)

  declaration_tail : {d : Declaration} {ts rest : List Token} → IsLongestDeclaration names texts most d ts rest → IsTail ts rest
  declaration_tail {d} {ts} {rest} l = by_lengths ts rest (declarations_leave_suffix names texts d ts rest l.spelled) (declarations_spell_some names texts _ _ _ l.spelled)

  call_tail : {m : Bool} {w : Span} {es : Expressions} {ts rest : List Token} → SpellsConstructorInvocation names texts (tree.explicit m w es) ts rest → IsTail ts rest
  call_tail {rest = rest} (this_call w a k) = let s = tail_stays rest in s.token _ _ (through-SpellsArguments s names texts a (behind_one _ rest))
  call_tail {rest = rest} (super_call w a k) = let s = tail_stays rest in s.token _ _ (through-SpellsArguments s names texts a (behind_one _ rest))

  reads_tail : {x y : Context} {ts rest : List Token} → Reads names texts most x y ts rest → IsTail ts rest
  reads_tail {rest = rest} (an_import w d c) = let s = tail_stays rest in s.token _ _ (through-SpellsName s d (behind_one _ rest))
  reads_tail (first_declaration l) = declaration_tail l
  reads_tail {rest = rest} (first_semicolon k) = behind_one _ rest
  reads_tail (a_declaration l) = declaration_tail l
  reads_tail {rest = rest} (semicolon_between k) = behind_one _ rest
  reads_tail (a_member l) = member_tail l
  reads_tail {rest = rest} (semicolon_in_body k) = behind_one _ rest
  reads_tail (a_constructor_invocation c low) = call_tail c
  reads_tail (first_statement l) = statement_tail l
  reads_tail (a_statement l) = statement_tail l

  opens_tail : {x y : Context} {ts inner : List Token} → Opens names texts most x y ts inner → IsTail ts inner
  opens_tail {inner = inner} (opens_class has m w t ps e is o low) = let s = tail_stays inner in
      through-SpellsModifiers s names texts m (s.token _ _ (s.token _ _ (through-SpellsTypeParameters s ps (through-SpellsExtends s e (through-SpellsImplements s is (behind_one _ inner))))))
  opens_tail {inner = inner} (opens_interface has m w t ps es o low) = let s = tail_stays inner in
      through-SpellsModifiers s names texts m (s.token _ _ (s.token _ _ (through-SpellsTypeParameters s ps (through-SpellsExtendsAll s es (behind_one _ inner)))))
  opens_tail {inner = inner} (opens_local_class has l m w t ps e is o low) = let s = tail_stays inner in
      through-SpellsModifiers s names texts m (s.token _ _ (s.token _ _ (through-SpellsTypeParameters s ps (through-SpellsExtends s e (through-SpellsImplements s is (behind_one _ inner))))))
  opens_tail {inner = inner} (opens_method m r t fs ns o low) = let s = tail_stays inner in
      through-SpellsModifiers s names texts m (through-SpellsResult s r (s.token _ _ (through-SpellsFormals s fs (through-SpellsThrows s ns (behind_one _ inner)))))
  opens_tail {inner = inner} (opens_constructor m t fs ns o low) = let s = tail_stays inner in
      through-SpellsModifiers s names texts m (s.token _ _ (through-SpellsFormals s fs (through-SpellsThrows s ns (behind_one _ inner))))
  opens_tail {inner = inner} (opens_initializer o) = behind_one _ inner
  opens_tail {inner = inner} (opens_static_initializer w o) = let s = tail_stays inner in s.token _ _ (behind_one _ inner)
  opens_tail {inner = inner} (opens_block has o) = behind_one _ inner

  then_tail : {ts mid place : List Token} → IsTail ts mid → ((place ≡ mid) ⊎ IsTail mid place) → (place ≡ ts) ⊎ IsTail ts place
  then_tail {ts} x (inl e) = inr (subst (λ q. IsTail ts q) (sym e) x)
  then_tail x (inr y) = inr (join x y)

  place_tail : {x : Context} {ts place : List Token} → FailsAt names texts most x ts place → (place ≡ ts) ⊎ IsTail ts place
  place_tail (behind_item r f) = then_tail (reads_tail r) (place_tail f)
  place_tail (unreadable s o b) = inl refl
  place_tail (inside s o f) = then_tail (opens_tail o) (place_tail f)
  place_tail (too_high s o a) = inl refl

  last_tokens : (ts place : List Token) → ((place ≡ ts) ⊎ IsTail ts place) → drop (length ts - length place) ts ≡ place
  last_tokens ts place (inl e) = rw e (let z : length ts - length ts ≡ 0 = omega arith in rw z refl)
  last_tokens ts place (inr x) = to_lengths ts place x

  pub place_last : {x : Context} {ts place : List Token} → FailsAt names texts most x ts place → drop (length ts - length place) ts ≡ place
  place_last {ts = ts} {place} f = last_tokens ts place (place_tail f)

  pub place_some : {x : Context} {ts place : List Token} → FailsAt names texts most x ts place → 0 < length place
  place_some (behind_item r f) = place_some f
  place_some (unreadable s o b) = omega arith
  place_some (inside s o f) = place_some f
  place_some (too_high s o a) = let l = (opens_leave names texts most o).shorter in omega arith
