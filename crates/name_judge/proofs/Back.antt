-- Which names lead back, and heads one after another.
use Rattle.std.proofs.Common.{◌≡◌, ℕ, zero, suc, ◌+◌, ◌<◌, ◌≤◌, List, [], ◌∷◌, ◌++◌, Some, None, length, drop, get_or, refl, sym, ◌∙◌, ap, subst, add-one, drop-cons, arith}
use Rattle.std.specs.Prelude.{Bool, true, false, ◌||◌, nat_eq, slice_get}
use Rattle.std.specs.List.{Contains, flat_map, list_any}
use Rattle.std.proofs.Math.ListN.{drop_of_length-le}
use Rattle.je_core.specs.declared.types.ClassId.{ClassId}
use Rattle.je_classes.proofs.Lists.{contains-here, contains-later}
use Rattle.je_ast.specs.Types.{TypeName}
use Rattle.je_scopes.specs.Source.{Source}
use Rattle.je_scopes.specs.Scope.{Known, header, named}
use Rattle.je_scopes.specs.Settled.{dependences, depends, heads_of, onward, parts_of, settled}
use Rattle.je_scopes.specs.Faults.{Fault, cycle, name_span, of_head, of_type, where_so}
use Rattle.je_scopes.proofs.Dependence.{depends_is_decided}
use Rattle.je_scopes.proofs.Lists.{in-flat}
use Rattle.name_lookup.specs.View.{numbers}
use Rattle.name_lookup.proofs.Names.{drop-get, drop-past}
use Rattle.name_faults.specs.declared.faults.Faults.{Faults}
use Rattle.name_faults.specs.View.{Adds}
use Rattle.name_faults.proofs.Left.{Left, left_done, left_step}

module _ (p : Source) (c : ℕ) where
  abbrev pub leads : ℕ → Bool
  leads d = nat_eq d c || depends p d c

  -- none leads back to a class that doesn't depend on itself
  pub none_back : (d : ℕ) → Contains (dependences p c) d → depends p c c ≡ false → nat_eq d c ≡ false → false ≡ leads d
  none_back d q free other = by (depends p d c) refl
    where
      by : (b : Bool) → depends p d c ≡ b → false ≡ (nat_eq d c || depends p d c)
      by true e = let t : depends p c c ≡ true = (depends_is_decided p c c).1 (onward q ((depends_is_decided p d c).0 e)) in absurd (cc)
      by false e = rw (other, e) refl

  -- what a head names is among what the class depends on
  pub head_depends : (known : Known) (t : TypeName) (names : List ℕ) → settled p ≡ known → Contains (heads_of p c) t → names ≡ named p known c header (parts_of t) → (d : ℕ) → Contains names d →
      Contains (dependences p c) d
  head_depends known t names s q e d r =
      in-flat (λ (k : TypeName). named p (settled p) c header (parts_of k)) (heads_of p c) t d q
      (subst (λ (ns : List ℕ). Contains ns d) (e ∙ ap (λ (k : Known). named p k c header (parts_of t)) (sym s)) r)

  pub head_faults : (known : Known) (t : TypeName) (names : List ℕ) (back : Bool) → settled p ≡ known → names ≡ named p known c header (parts_of t) → back ≡ list_any leads names →
      where_so back (cycle (name_span t)) ++ of_type p c header t ≡ of_head p c t
  head_faults known t names back s e b =
      ap (λ (k : Bool). where_so k (cycle (name_span t)) ++ of_type p c header t)
      (b ∙ ap (list_any leads) (e ∙ ap (λ (k : Known). named p k c header (parts_of t)) (sym s)))

  module _ (ts : List TypeName) (i : ℕ) (whole : List Fault) where
    pub head_next : {start a b : Faults} (t : TypeName) → slice_get ts i ≡ Some t → Left start a (flat_map (of_head p c) (drop i ts)) whole → Adds a b (of_head p c t) →
        Left start b (flat_map (of_head p c) (drop (i + 1) ts)) whole
    head_next {start = start} {a = a} t g l s =
        left_step (of_head p c t) (flat_map (of_head p c) (drop (i + 1) ts)) whole (subst (λ (ks : List TypeName). Left start a (flat_map (of_head p c) ks) whole) (drop-get ts i t g) l) s

    pub heads_end : {start a : Faults} → slice_get ts i ≡ None → Left start a (flat_map (of_head p c) (drop i ts)) whole → Adds start a whole
    heads_end {start = start} {a = a} g l = left_done whole (subst (λ (ks : List TypeName). Left start a (flat_map (of_head p c) ks) whole) (drop-past ts i g) l)

-- ---- a test of some of these classes

module _ (test : ℕ → Bool) (cs : List ClassId) (i : ℕ) (d : ClassId) (within : i < length cs) where
  any-step : list_any test (numbers (drop i cs)) ≡ (test (get_or cs i d).0 || list_any test (numbers (drop (i + 1) cs)))
  any-step = rw (add-one, drop-cons cs i d) refl

  pub one_passes : (whole : Bool) → true ≡ test (get_or cs i d).0 → list_any test (numbers (drop i cs)) ≡ whole → true ≡ whole
  one_passes whole t e = ap (λ (b : Bool). b || list_any test (numbers (drop (i + 1) cs))) t ∙ sym any-step ∙ e

  pub one_fails : (whole : Bool) → false ≡ test (get_or cs i d).0 → list_any test (numbers (drop i cs)) ≡ whole → list_any test (numbers (drop (i + 1) cs)) ≡ whole
  one_fails whole t e = ap (λ (b : Bool). b || list_any test (numbers (drop (i + 1) cs))) t ∙ sym any-step ∙ e

pub none_passes : (test : ℕ → Bool) (cs : List ClassId) (i : ℕ) (whole : Bool) → length cs ≤ i → list_any test (numbers (drop i cs)) ≡ whole → false ≡ whole
none_passes test cs i whole past e = ap (λ (ks : List ClassId). list_any test (numbers ks)) (sym (drop_of_length-le cs past)) ∙ e

pub got_is_there : (ts : List TypeName) (i : ℕ) (t : TypeName) → slice_get ts i ≡ Some t → Contains ts t
got_is_there [] i t e = absurd (cc)
got_is_there (k ∷ ts) zero t e = subst (λ (x : TypeName). Contains (k ∷ ts) x) (some-is e) (contains-here k ts)
  where
    some-is : Some k ≡ Some t → k ≡ t
    some-is q = cc
got_is_there (k ∷ ts) (suc i) t e = contains-later k t ts (got_is_there ts i t e)

pub item_there : (cs : List ClassId) (i : ℕ) (d : ClassId) → i < length cs → Contains (numbers cs) (get_or cs i d).0
item_there [] i d l = absurd (omega (arith, l))
item_there (k ∷ cs) zero d l = contains-here k.0 (numbers cs)
item_there (k ∷ cs) (suc i) d l = contains-later k.0 (get_or cs i d).0 (numbers cs) (item_there cs i d (omega (arith, l)))
