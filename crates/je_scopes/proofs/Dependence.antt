-- The test for dependence is the closure, and where there is no fault no class depends on itself.
use Rattle.std.proofs.Common.{◌≡◌, ℕ, zero, suc, ◌<◌, length, Option, Some, None, refl, subst, arith}
use Rattle.std.specs.Prelude.{Bool, true, false, ◌||◌, slice_get, nat_eq}
use Rattle.std.specs.List.{flat_map, Contains}
use Rattle.std.proofs.lemmas.Bool.Decides.{nat_tests}
use Rattle.std.proofs.lemmas.Option.{slice_get_within}
use Rattle.je_classes.proofs.Lists.{bool_cases, any-contains, contains-any}
use Rattle.je_classes.proofs.Ways.{Way, here, longer, reached}
use Rattle.je_scopes.specs.Sites.{Site}
use Rattle.je_scopes.specs.Headers.{or_nothing, heads_in}
use Rattle.je_scopes.specs.Scope.{header, named}
use Rattle.je_scopes.specs.Source.{Source}
use Rattle.je_scopes.specs.Settled.{settled, parts_of, dependences, Depends, direct, onward, depends_within, depends}
use Rattle.je_scopes.specs.Laws.{DependsIsDecided}
use Rattle.je_scopes.proofs.Either.{nothing-in}

itself : ℕ → ℕ
itself c = c

same_place : (c d : ℕ) → itself c ≡ itself d → c ≡ d
unfolding itself
same_place c d e = e

module _ (p : Source) where
  reach : ℕ → ℕ → ℕ → Bool
  reach n c d = nat_eq c d || depends_within p n c d

  reach-itself : (n c : ℕ) → reach n c c ≡ true
  unfolding reach
  reach-itself n c = let s : nat_eq c c ≡ true = grind (arith, nat_tests) in rw s refl

  or_right : (x y : Bool) → y ≡ true → (x || y) ≡ true
  or_right true y e = refl
  or_right false y e = e

  reach-further : (n c e d : ℕ) → Contains (dependences p c) e → reach n e d ≡ true → reach (suc n) c d ≡ true
  unfolding reach
  reach-further n c e d q h = or_right (nat_eq c d) _ (any-contains (λ k. nat_eq k d || depends_within p n k d) (dependences p c) e q h)

  no-heads : (o : Option Site) (e : ℕ) → o ≡ None → Contains (flat_map (λ t. named p (settled p) e header (parts_of t)) (heads_in (or_nothing o).written)) e → ⊥
  no-heads None e q h = nothing-in e h
  no-heads (Some s) e q h = absurd cc

  pub edge-within : (c e : ℕ) → Contains (dependences p c) e → c < length p.sites
  edge-within c e q = by (slice_get p.sites c) refl q
    where
      by : (o : Option Site) → slice_get p.sites c ≡ o → Contains (flat_map (λ t. named p (settled p) c header (parts_of t)) (heads_in (or_nothing o).written)) e → c < length p.sites
      by None q h = absurd (nothing-in e h)
      by (Some s) q h = slice_get_within p.sites c s q

  record Edge (c d : ℕ) : Type 0 where
    to : ℕ
    edge : Contains (dependences p c) to
    way : Way (dependences p) itself same_place to d

  first-edge : {c d : ℕ} → Depends p c d → Edge c d
  first-edge (direct {c = c} {d = d} q) = record { to = d; edge = q; way = here (dependences p) itself same_place d }
  first-edge (onward {c = c} {d = d} {e = e} q r) = let f = first-edge r in record { to = d; edge = q; way = longer (dependences p) itself same_place d f.to e f.edge f.way }

  pub complete : {c d : ℕ} → Depends p c d → depends p c d ≡ true
  unfolding depends reach itself
  complete {c = c} {d = d} r = let f = first-edge r in
      any-contains (λ k. nat_eq k d || depends_within p (length p.sites) k d) (dependences p c) f.to f.edge
      (reached (dependences p) itself same_place (length p.sites) (λ a b q. edge-within a b q) reach reach-itself reach-further f.to d f.way)

  sound-within : (n c d : ℕ) → depends_within p n c d ≡ true → Depends p c d
  sound-within zero c d e = absurd cc
  sound-within (suc n) c d e = let q = contains-any (λ k. nat_eq k d || depends_within p n k d) (dependences p c) e in
      bool_cases (λ b. nat_eq q.element d ≡ b → (b || depends_within p n q.element d) ≡ true → Depends p c d) (nat_eq q.element d)
      (λ _ h _. let s : q.element ≡ d = grind (arith, nat_tests) in direct (subst (Contains (dependences p c)) s q.there))
      (λ _ h g. onward q.there (sound-within n q.element d g)) refl q.passes

  pub sound : (c d : ℕ) → depends p c d ≡ true → Depends p c d
  unfolding depends
  sound c d e = sound-within (suc (length p.sites)) c d e

pub depends_is_decided : DependsIsDecided
depends_is_decided p c d = (sound p c d, complete p)
