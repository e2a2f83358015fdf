-- Where no name has a fault, no class depends on itself: how many classes one depends on falls with each that it directly
-- depends on.
use Rattle.std.proofs.Common.{◌≡◌, ℕ, ◌<◌, [], ◌++◌, length, None, refl, subst, arith}
use Rattle.std.specs.Prelude.{Bool, true, false, ◌||◌, nat_eq}
use Rattle.std.specs.List.{list_any, flat_map, Contains}
use Rattle.std.proofs.lemmas.Bool.Decides.{nat_tests}
use Rattle.je_ast.specs.Types.{TypeName}
use Rattle.je_classes.proofs.Lists.{any-contains, contains-here}
use Rattle.je_classes.proofs.Counts.{counted, counted-lt, counted-within}
use Rattle.je_scopes.specs.Sites.{Written, in_library, declared, behind_new}
use Rattle.je_scopes.specs.Headers.{site_at, heads_in, is_guest}
use Rattle.je_scopes.specs.Scope.{header, named}
use Rattle.je_scopes.specs.Source.{Source}
use Rattle.je_scopes.specs.Settled.{settled, heads_of, parts_of, dependences, Depends, direct, onward, depends}
use Rattle.je_scopes.specs.Faults.{Fault, cycle, where_so, name_span, of_type, of_head, of_heads, of_parameters, of_class_name, of_fields, of_methods, of_class, guests, below, of_imports, faults, first_fault}
use Rattle.je_scopes.specs.Members.{fields_of, methods_of}
use Rattle.je_scopes.specs.Laws.{HasLibrary, IsAcyclic, FaultFreeIsAcyclic}
use Rattle.je_scopes.proofs.Either.{nothing-in}
use Rattle.je_scopes.proofs.Lists.{in-left, in-right, in-flat, flat-from, in-filter, in-below}
use Rattle.je_scopes.proofs.Ranges.{named-are}
use Rattle.je_scopes.proofs.Dependence.{edge-within, complete, sound}
use Rattle.je_scopes.proofs.First.{none_is_fault_free}

pub with-heads : (w : Written) (t : TypeName) → Contains (heads_in w) t → is_guest w ≡ true
with-heads in_library t q = absurd (nothing-in t q)
with-heads (declared d) t q = refl
with-heads (behind_new word u body) t q = refl

there-if : (test : Bool) (f : Fault) → test ≡ true → Contains (where_so test f) f
there-if true f e = contains-here f []
there-if false f e = absurd cc

not-true : (b : Bool) → (b ≡ true → ⊥) → b ≡ false
not-true true h = absurd (h refl)
not-true false h = refl

or_left : (x y : Bool) → x ≡ true → (x || y) ≡ true
or_left true y e = refl
or_left false y e = absurd cc

or_right : (x y : Bool) → y ≡ true → (x || y) ≡ true
or_right true y e = refl
or_right false y e = e

module _ (p : Source) where
  pub class-faults : (c : ℕ) (f : Fault) → c < length p.sites → is_guest (site_at p.sites c).written ≡ true → Contains (of_class p c) f → Contains (faults p) f
  unfolding faults
  class-faults c f l g q = in-right (flat_map (of_imports p.texts []) p.imports) (flat_map (of_class p) (guests p)) f
      (in-flat (of_class p) (guests p) c f (in-filter (λ k. is_guest (site_at p.sites k).written) (below (length p.sites)) c (in-below (length p.sites) c l) g) q)

  pub head-faults : (c : ℕ) (t : TypeName) (f : Fault) → Contains (heads_of p c) t → Contains (of_head p c t) f → Contains (of_class p c) f
  head-faults c t f q r = in-left (of_class_name p c ++ of_parameters p c ++ of_heads p c ++ of_fields p c [] (fields_of p c)) (of_methods p c [] (methods_of p c)) f
      (in-left (of_class_name p c ++ of_parameters p c ++ of_heads p c) (of_fields p c [] (fields_of p c)) f
      (in-right (of_class_name p c ++ of_parameters p c) (of_heads p c) f (in-flat (of_head p c) (heads_of p c) t f q r)))

  module _ (free : first_fault p ≡ None) where
    leads-back : (c d : ℕ) → Contains (dependences p c) d → (nat_eq d c || depends p d c) ≡ true → ⊥
    leads-back c d q e =
        let r = flat-from (λ t. named p (settled p) c header (parts_of t)) (heads_of p c) d q in
        let a : list_any (λ k. nat_eq k c || depends p k c) (named p (settled p) c header (parts_of r.from)) ≡ true = any-contains (λ k. nat_eq k c || depends p k c) (named p (settled p) c header (parts_of r.from)) d r.has e in
        none_is_fault_free p free (cycle (name_span r.from)) (class-faults c (cycle (name_span r.from)) (edge-within p c d q) (with-heads (site_at p.sites c).written r.from r.there)
        (head-faults c r.from (cycle (name_span r.from)) r.there (in-left _ (of_type p c header r.from) _ (there-if _ (cycle (name_span r.from)) a))))

    no-way-back : (c d : ℕ) → Depends p c d → d ≡ c → ⊥
    no-way-back c _ (direct {d = d} q) s = leads-back c d q (or_left (nat_eq d c) _ (let z : nat_eq d c ≡ true = grind (arith, nat_tests) in z))
    no-way-back c f (onward {d = d} q r) s = leads-back c d q (or_right (nat_eq d c) _ (subst (λ k. depends p d k ≡ true) s (complete p r)))

    pub none-on-cycle : (c : ℕ) → depends p c c ≡ false
    none-on-cycle c = not-true (depends p c c) (λ e. no-way-back c c (sound p c c e) refl)

    acyclic : HasLibrary p → IsAcyclic p
    acyclic whole = record {
      depth = λ c. counted (depends p c) (length p.sites);
      falls = λ c d q. let r = flat-from (λ t. named p (settled p) c header (parts_of t)) (heads_of p c) d q in
          counted-lt (depends p d) (depends p c) (length p.sites) (λ e l h. complete p (onward q (sound p d e h))) d
          (named-are p whole (settled p) c header (parts_of r.from) d r.has) (none-on-cycle d) (complete p (direct q));
      within = λ c l. counted-within (depends p c) (length p.sites) c l (none-on-cycle c);
    }

pub fault_free_is_acyclic : FaultFreeIsAcyclic
fault_free_is_acyclic p whole free = acyclic p free whole
