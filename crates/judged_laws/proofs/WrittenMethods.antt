-- No fault of overriding stands at the methods that a class writes.
use Rattle.std.proofs.Common.{◌≡◌, ℕ, zero, suc, ◌+◌, Option, Some, None, refl, sym, ap, ◌∙◌, subst, arith}
use Rattle.std.specs.Prelude.{true, false, map, option_map, slice_get}
use Rattle.std.proofs.lemmas.Option.{none-some, same_Some, slice_get-map}
use Rattle.je_ast.specs.Trees.{Members}
use Rattle.je_ast.specs.Trees as tree
use Rattle.je_scopes.specs.Headers.{members_in, site_at}
use Rattle.je_scopes.specs.Members.{MethodSite, method_sites}
use Rattle.declarations.specs.Declarations.{DeclaredMethod}
use Rattle.je_typing.specs.Judged.{gives}
use Rattle.overriding.specs.Methods.{own_method}
use Rattle.signature_typing.specs.Signatures.{Setting, members_from, method_at, own_methods}
use Rattle.override_laws.specs.Laws.{IsGood}
use Rattle.elaborated_laws.proofs.Came.{came}
use Rattle.judged_laws.specs.Judged.{IsJudged}

module _ (s : Setting) (c : ℕ) where
  -- the method at a place is judged
  abbrev IsJudgedAt : ℕ → Type 0
  IsJudgedAt at = method_at s c at (slice_get (own_methods s c) at) ≡ gives tt

  later-judged : (at k : ℕ) → IsJudgedAt (at + 1 + k) → IsJudgedAt (at + suc k)
  later-judged at k h = let there : at + 1 + k ≡ at + suc k = omega arith in subst IsJudgedAt there h

  no-constructor : (s m : MethodSite) → Some s ≡ Some m → s.is_constructor ≡ true → m.is_constructor ≡ false → ⊥
  no-constructor s m e h k = let same : s ≡ m = same_Some s m e in
      let no : true ≡ false = sym h ∙ ap (λ (x : MethodSite). x.is_constructor) same ∙ k in cc

  site-judged : (ms : Members) (at k : ℕ) (m : MethodSite) → members_from s c at ms ≡ gives tt →
      slice_get (method_sites ms) k ≡ Some m → m.is_constructor ≡ false → IsJudgedAt (at + k)
  site-judged tree.no_members at k m e h plain = absurd (none-some m h)
  site-judged (tree.more_members (tree.method mods t id fs ts block span) ms) at zero m e h plain =
      let here : at ≡ at + 0 = omega arith in
      let signature = came _ _ tt (came _ _ tt e).is in
      let body = came _ _ tt signature.rest in
      subst IsJudgedAt here (came _ _ tt body.rest).is
  site-judged (tree.more_members (tree.method mods t id fs ts block span) ms) at (suc k) m e h plain =
      later-judged at k (site-judged ms (at + 1) k m (came _ _ tt e).rest h plain)
  site-judged (tree.more_members (tree.constructor mods id fs ts call opening ss closing span) ms) at zero m e h plain =
      absurd (no-constructor _ m h refl plain)
  site-judged (tree.more_members (tree.constructor mods id fs ts call opening ss closing span) ms) at (suc k) m e h plain =
      later-judged at k (site-judged ms (at + 1) k m (came _ _ tt e).rest h plain)
  site-judged (tree.more_members (tree.member_type d) ms) at k m e h plain = site-judged ms at k m (came _ _ tt e).rest h plain
  site-judged (tree.more_members (tree.field mods t vs span) ms) at k m e h plain = site-judged ms at k m (came _ _ tt e).rest h plain
  site-judged (tree.more_members (tree.initializer word opening ss closing span) ms) at k m e h plain =
      site-judged ms at k m (came _ _ tt e).rest h plain

  good-by : (at : ℕ) (d : DeclaredMethod) → method_at s c at (Some d) ≡ gives tt → IsGood s.heads s.classes (own_method c at d)
  good-by at d e = let o = came _ _ tt e in record { overrides = o.is; clashes = o.rest }

  module _ (f : MethodSite → DeclaredMethod) (kept : (m : MethodSite) → (f m).is_constructor ≡ m.is_constructor)
      (are : own_methods s c ≡ map f (method_sites (members_in (site_at s.sites c).written))) (judged : IsJudged s c) where
    site-good : (at : ℕ) (o : Option MethodSite) (d : DeclaredMethod) →
        slice_get (method_sites (members_in (site_at s.sites c).written)) at ≡ o → option_map f o ≡ Some d →
        slice_get (own_methods s c) at ≡ Some d → d.is_constructor ≡ false → IsGood s.heads s.classes (own_method c at d)
    site-good at None d e h there plain = absurd (none-some d h)
    site-good at (Some m) d e h there plain =
        let same : f m ≡ d = same_Some (f m) d h in
        let no : m.is_constructor ≡ false = sym (kept m) ∙ ap (λ (x : DeclaredMethod). x.is_constructor) same ∙ plain in
        let start : 0 + at ≡ at = omega arith in
        good-by at d (subst (λ o. method_at s c at o ≡ gives tt) there
        (subst IsJudgedAt start (site-judged (members_in (site_at s.sites c).written) 0 at m judged.members e no)))

    pub written-good : (at : ℕ) (d : DeclaredMethod) → slice_get (own_methods s c) at ≡ Some d → d.is_constructor ≡ false →
        IsGood s.heads s.classes (own_method c at d)
    written-good at d there plain =
        let sites = method_sites (members_in (site_at s.sites c).written) in
        site-good at (slice_get sites at) d refl (sym (ap (λ ms. slice_get ms at) are ∙ slice_get-map f sites at) ∙ there) there plain
