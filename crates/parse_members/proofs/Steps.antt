-- The loops of the reading functions, at a count n of which i are used, and lists of members that grow.
use Rattle.std.proofs.Common.{◌≡◌, ℕ, zero, suc, ◌+◌, ◌-◌, ◌<◌, ◌≤◌, Some, None, List, [], ◌∷◌, ◌++◌, map, max, refl, arith}
use Rattle.std.proofs.lemmas.List.{map_push}
use Rattle.je_base.specs.declared.span.Span.{Span}
use Rattle.je_token.specs.declared.keyword.Keyword.TheVariants as word
use Rattle.je_token.specs.declared.symbol.Symbol.TheVariants as symbol
use Rattle.je_token.specs.declared.token.Token.{Token}
use Rattle.je_ast.specs.declared.name.Identifier.{Identifier}
use Rattle.je_ast.specs.declared.decl.Member as node
use Rattle.je_ast.specs.Trees.{Member}
use Rattle.je_ast.specs.Parts as parts
use Rattle.je_ast.specs.View.{member_view, member_views_of}
use Rattle.je_ast.specs.Height.{member_height, members_height}
use Rattle.je_grammar.specs.Tokens.{first_span}
use Rattle.parse_laws.specs.way.Tokens.{with, ◌>>=◌, behind, behind_word, is_word, identifier_at}
use Rattle.parse_laws.specs.way.Below.{Below}
use Rattle.parse_laws.specs.way.Lists.{members}
use Rattle.parse_laws.specs.way.Members.{more_members_at, more_constants_at, begins_local_class_at}

pub members_same : (ms : List Member) → parts.members ms ≡ members ms
members_same [] = refl
members_same (m ∷ ms) = rw (members_same ms) refl

pub members_push : (ms : List node.Member) (m : node.Member) → map member_view (ms ++ m ∷ []) ≡ map member_view ms ++ member_view m ∷ []
members_push ms m = map_push member_view ms m

pushed_members : (ms : List node.Member) (m : node.Member) → members_height (member_views_of (ms ++ m ∷ [])) ≡ max (members_height (member_views_of ms)) (member_height (member_view m))
pushed_members [] m = omega arith
pushed_members (k ∷ ms) m = omega (arith, pushed_members ms m)

pub members_height_push : (ms ks : List node.Member) (m : node.Member) → ks ≡ ms ++ m ∷ [] →
    members_height (member_views_of ks) ≡ max (members_height (member_views_of ms)) (member_height (member_view m))
members_height_push ms ks m pushed = rw pushed (pushed_members ms m)

module _ (texts names : List (List ℕ)) (h : ℕ) (p : Below) where
  pub members_step : (n i : ℕ) (front : List Member) (ts : List Token) → i < n →
      more_members_at texts names h p (n - i) front ts ≡ with (behind symbol.CloseBrace ts) (λ rest. Some (members front, first_span ts, rest))
      (with (behind symbol.Semicolon ts) (more_members_at texts names h p (n - (i + 1)) front) (p.member ts >>= λ x. more_members_at texts names h p (n - (i + 1)) (front ++ x.0 ∷ []) x.1))
  unfolding more_members_at
  members_step n i front ts lt =
      let eq : n - i ≡ suc (n - (i + 1)) = omega arith in
      rw eq refl

  pub members_none : (n i : ℕ) (front : List Member) (ts : List Token) → n ≤ i → more_members_at texts names h p (n - i) front ts ≡ None
  unfolding more_members_at
  members_none n i front ts le =
      let eq : n - i ≡ 0 = omega arith in
      rw eq refl

pub constants_step : (n i : ℕ) (front : List Identifier) (ts : List Token) → i < n →
    more_constants_at (n - i) front ts ≡ with (identifier_at ts)
    (λ x. with (behind symbol.Comma x.1) (λ mid. more_constants_at (n - (i + 1)) (front ++ x.0 ∷ []) mid) (front ++ x.0 ∷ [], x.1)) (front, ts)
unfolding more_constants_at
constants_step n i front ts lt =
    let eq : n - i ≡ suc (n - (i + 1)) = omega arith in
    rw eq refl

pub constants_none : (n i : ℕ) (front : List Identifier) (ts : List Token) → n ≤ i → more_constants_at (n - i) front ts ≡ (front, ts)
unfolding more_constants_at
constants_none n i front ts le =
    let eq : n - i ≡ 0 = omega arith in
    rw eq refl

pub local_class_step : (n i : ℕ) (ts : List Token) → i < n →
    begins_local_class_at (n - i) ts ≡ with (behind_word word.Final ts) (begins_local_class_at (n - (i + 1)))
    (with (behind_word word.Abstract ts) (begins_local_class_at (n - (i + 1))) (is_word word.Class ts))
unfolding begins_local_class_at
local_class_step n i ts lt =
    let eq : n - i ≡ suc (n - (i + 1)) = omega arith in
    rw eq refl

pub local_class_none : (n i : ℕ) (ts : List Token) → n ≤ i → begins_local_class_at (n - i) ts ≡ is_word word.Class ts
unfolding begins_local_class_at
local_class_none n i ts le =
    let eq : n - i ≡ 0 = omega arith in
    rw eq refl
