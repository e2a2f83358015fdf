-- A class has one bridge for each method.
use Rattle.std.proofs.Common.{◌≡◌, ℕ, zero, suc, ◌≤◌, ◌⊎◌, inl, inr, List, [], ◌∷◌, ◌++◌, Option, Some, None, refl, sym, ap, ◌∙◌, subst}
use Rattle.std.specs.Prelude.{Bool, true, false, flat_map, map, slice_get, if◌then◌else◌}
use Rattle.std.specs.List.{find, list_any}
use Rattle.std.proofs.lemmas.Option.{none-some, same_Some}
use Rattle.je_core.specs.declared.program.Bridge.{Bridge}
use Rattle.je_core.specs.declared.types.ClassId.{ClassId}
use Rattle.je_core.specs.Core.{CoreClass, CoreProgram}
use Rattle.je_classes.specs.Hierarchy.{class_at}
use Rattle.je_classes.specs.Members.{In, first, further}
use Rattle.je_classes.proofs.Lists.{any-contains}
use Rattle.je_classes.proofs.Sets.{by_either}
use Rattle.je_fitting.proofs.Booleans.{both}
use Rattle.je_scopes.specs.Source.{Source}
use Rattle.source_types.specs.Erasure.{class_numbered}
use Rattle.source_types.specs.Heads.{ClassHead}
use Rattle.declarations.specs.Declarations.{DeclaredClass}
use Rattle.overriding.specs.Methods.{Method}
use Rattle.overriding.specs.Overrides.{has_methods}
use Rattle.fitting_laws.proofs.Lists.{contains-in, in-cases, in-one}
use Rattle.class_typing.specs.Bridges.{bridge_from, bridge_to, bridges, inserted, instance_methods, is_same_place, place_of, runs_for_place, sorted, stands_before}
use Rattle.class_typing.specs.Programs.{library_count}
use Rattle.elaborated_laws.specs.Elaborated.{IsElaborated}
use Rattle.elaborated_laws.proofs.Lists.{in-got}
use Rattle.elaborated_laws.proofs.Methods.{nat-itself}
use Rattle.program_laws.specs.Premises.{declared}
use Rattle.program_laws.proofs.Lists.{clash}

-- ---- sorted places are there once

in-inserted : (p : ℕ × ℕ) (qs : List (ℕ × ℕ)) (x : ℕ × ℕ) → In (inserted p qs) x → (x ≡ p) ⊎ In qs x
in-inserted p [] x i = inl (in-one p x i)
in-inserted p (q ∷ qs) x i = by (stands_before p q) i (in-inserted p qs x)
  where
    by : (b : Bool) → In (if b then p ∷ q ∷ qs else q ∷ inserted p qs) x → (In (inserted p qs) x → (x ≡ p) ⊎ In qs x) →
        (x ≡ p) ⊎ In (q ∷ qs) x
    by true i f = in-cases p x (q ∷ qs) i
    by false i f = by_either {Z = (x ≡ p) ⊎ In (q ∷ qs) x} (λ e. inr (subst (In (q ∷ qs)) (sym e) first))
        (λ r. by_either {Z = (x ≡ p) ⊎ In (q ∷ qs) x} (λ e. inl e) (λ k. inr (further k)) (f r))
        (in-cases q x (inserted p qs) i)

in-sorted : (ps : List (ℕ × ℕ)) (x : ℕ × ℕ) → In (sorted ps) x → In ps x
in-sorted [] x i = i
in-sorted (p ∷ ps) x i = by (list_any (is_same_place p) ps) i (in-sorted ps x)
  where
    by : (b : Bool) → In (if b then sorted ps else inserted p (sorted ps)) x → (In (sorted ps) x → In ps x) → In (p ∷ ps) x
    by true i f = further (f i)
    by false i f = by_either {Z = In (p ∷ ps) x} (λ e. subst (In (p ∷ ps)) (sym e) first) (λ k. further (f k))
        (in-inserted p (sorted ps) x i)

abbrev Distinct : List (ℕ × ℕ) → Type 0
Distinct [] = Unit {0}
Distinct (p ∷ ps) = (¬ In ps p) × Distinct ps

distinct-inserted : (p : ℕ × ℕ) (qs : List (ℕ × ℕ)) → ¬ In qs p → Distinct qs → Distinct (inserted p qs)
distinct-inserted p [] n d = (n, tt)
distinct-inserted p (q ∷ qs) n d = by (stands_before p q) (distinct-inserted p qs (λ i. n (further i)) d.1)
  where
    by : (b : Bool) → Distinct (inserted p qs) → Distinct (if b then p ∷ q ∷ qs else q ∷ inserted p qs)
    by true r = (n, d)
    by false r = ((λ i. by_either (λ e. n (subst (In (q ∷ qs)) e first)) d.0 (in-inserted p qs q i)), r)

absent : (p : ℕ × ℕ) (ps : List (ℕ × ℕ)) → list_any (is_same_place p) ps ≡ false → ¬ In ps p
absent p ps h i = clash (list_any (is_same_place p) ps)
    (any-contains (is_same_place p) ps p (contains-in ps p i) (both (nat-itself p.0) (nat-itself p.1))) h

distinct-sorted : (ps : List (ℕ × ℕ)) → Distinct (sorted ps)
distinct-sorted [] = tt
distinct-sorted (p ∷ ps) = by (list_any (is_same_place p) ps) refl (distinct-sorted ps)
  where
    by : (b : Bool) → list_any (is_same_place p) ps ≡ b → Distinct (sorted ps) →
        Distinct (if b then sorted ps else inserted p (sorted ps))
    by true h d = d
    by false h d = distinct-inserted p (sorted ps) (λ i. absent p ps h (in-sorted ps p i)) d

-- ---- bridges of different places

abbrev MethodsDiffer : List Bridge → Type 0
MethodsDiffer [] = Unit {0}
MethodsDiffer (b ∷ bs) = ((x : Bridge) → In bs x → ¬ (b.method ≡ x.method)) × MethodsDiffer bs

one-bridge : (bs : List Bridge) → MethodsDiffer bs → (i j : ℕ) (a b : Bridge) → slice_get bs i ≡ Some a →
    slice_get bs j ≡ Some b → a.method ≡ b.method → i ≡ j
one-bridge [] d i j a b h k same = absurd (none-some a h)
one-bridge (x ∷ bs) d zero zero a b h k same = refl
one-bridge (x ∷ bs) d zero (suc j) a b h k same =
    absurd (d.0 b (in-got bs j b k) (ap (λ (y : Bridge). y.method) (same_Some x a h) ∙ same))
one-bridge (x ∷ bs) d (suc i) zero a b h k same =
    absurd (d.0 a (in-got bs i a h) (ap (λ (y : Bridge). y.method) (same_Some x b k) ∙ sym same))
one-bridge (x ∷ bs) d (suc i) (suc j) a b h k same = ap suc (one-bridge bs d.1 i j a b h k same)

abbrev pub method-at : ℕ × ℕ → ClassId × ℕ
method-at at = (class_numbered at.0, at.1)

abbrev place-in : ClassId × ℕ → ℕ × ℕ
place-in m = (m.0.0, m.1)

module _ (heads : List ClassHead) (classes : List DeclaredClass) (c : ℕ) where
  -- a bridge at one of some places, and what runs there
  pub record From (ps : List (ℕ × ℕ)) (x : Bridge) : Type 0 where
    pub place : ℕ × ℕ
    pub there : In ps place
    pub by : Method
    pub found : find (runs_for_place heads classes c place) (has_methods heads classes c) ≡ Some by
    pub is : x ≡ record { method = method-at place; by = method-at (place_of by) }

  in-bridges : (ps : List (ℕ × ℕ)) (x : Bridge) → In (flat_map (bridge_from heads classes c) ps) x → From ps x
  in-bridges [] x i = elim i [ ]
  in-bridges (p ∷ ps) x i =
      by (find (runs_for_place heads classes c p) (has_methods heads classes c)) refl i (in-bridges ps x)
    where
      later : From ps x → From (p ∷ ps) x
      later r = record { place = r.place; there = further r.there; by = r.by; found = r.found; is = r.is }

      by : (o : Option Method) → find (runs_for_place heads classes c p) (has_methods heads classes c) ≡ o →
          In (bridge_to heads classes c p o ++ flat_map (bridge_from heads classes c) ps) x →
          (In (flat_map (bridge_from heads classes c) ps) x → From ps x) → From (p ∷ ps) x
      by None found i f = later (f i)
      by (Some m) found i f = by_either {Z = From (p ∷ ps) x}
          (λ e. record { place = p; there = first; by = m; found = found; is = e })
          (λ k. later (f k))
          (in-cases _ x (flat_map (bridge_from heads classes c) ps) i)

  differ : (ps : List (ℕ × ℕ)) → Distinct ps → MethodsDiffer (flat_map (bridge_from heads classes c) ps)
  differ [] d = tt
  differ (p ∷ ps) d = by (find (runs_for_place heads classes c p) (has_methods heads classes c)) (differ ps d.1)
    where
      by : (o : Option Method) → MethodsDiffer (flat_map (bridge_from heads classes c) ps) →
          MethodsDiffer (bridge_to heads classes c p o ++ flat_map (bridge_from heads classes c) ps)
      by None r = r
      by (Some m) r = (
        (λ x i same. let f = in-bridges ps x i in
            d.0 (subst (In ps) (ap place-in (sym (ap (λ (b : Bridge). b.method) f.is) ∙ sym same)) f.there)),
        r,
      )

  pub of-bridge : (x : Bridge) → In (bridges heads classes c) x →
      From (sorted (map place_of (instance_methods heads classes c))) x
  unfolding bridges
  of-bridge x i = in-bridges (sorted (map place_of (instance_methods heads classes c))) x i

  bridges-differ : MethodsDiffer (bridges heads classes c)
  unfolding bridges
  bridges-differ = differ (sorted (map place_of (instance_methods heads classes c)))
      (distinct-sorted (map place_of (instance_methods heads classes c)))

pub one-bridge-each : (source : Source) (program : CoreProgram) (e : IsElaborated source program) (c : ℕ) (class : CoreClass) →
    library_count source ≤ c → class_at program (class_numbered c) ≡ Some class → (i j : ℕ) (a b : Bridge) →
    slice_get class.bridges i ≡ Some a → slice_get class.bridges j ≡ Some b → a.method ≡ b.method → i ≡ j
one-bridge-each source program e c class le there =
    one-bridge class.bridges
    (subst MethodsDiffer (sym (ap (λ (k : CoreClass). k.bridges) (e.has.guests c class le there).is))
    (bridges-differ (declared source program e).heads (declared source program e).classes c))
