-- The classes above one of the library are the library's.
use Rattle.std.proofs.Common.{◌≡◌, ℕ, List, [], ◌∷◌, Option, Some, None, refl, sym, ap, subst, inl, inr, arith}
use Rattle.std.specs.Prelude.{is_some, Bool, true, ◌&&◌, ◌⊎◌, slice_get}
use Rattle.std.specs.List.{Contains, list_all, list_any}
use Rattle.je_base.specs.declared.span.NameId.{NameId}
use Rattle.je_core.specs.declared.types.ClassId.{ClassId}
use Rattle.je_core.specs.Core.{CoreClass, CoreProgram}
use Rattle.je_classes.specs.Hierarchy.{supers_in, supers_of, same_class, Below, same, above}
use Rattle.je_classes.proofs.Below.{same_class-equal}
use Rattle.je_classes.proofs.Lists.{contains-any, contains-cases}
use Rattle.je_fitting.proofs.Booleans.{two}
use Rattle.je_sound.proofs.Library.{there-too}
use Rattle.library_classes.specs.Library.{LibraryStands, all_due}

-- a class of the library, and each class above it, is among these
abbrev pub is_within : (List ℕ → NameId) → List ClassId → ClassId → Bool
is_within number round c =
    is_some (slice_get (all_due number) c.0) && list_all (λ d. list_any (same_class d) round) (supers_in (slice_get (all_due number) c.0))

-- The classes above a class are among some classes, which have the classes above them.
pub record IsRound (number : List ℕ → NameId) (k : ClassId) (round : List ClassId) : Type 0 where
  pub closed : list_all (is_within number round) round ≡ true
  pub among : list_any (same_class k) round ≡ true

pub all-of : {A : Type 0} (test : A → Bool) (xs : List A) → list_all test xs ≡ true → (x : A) → Contains xs x → test x ≡ true
all-of test [] e x h = absurd (omega (arith, h.1))
all-of test (y ∷ ys) e x h = let both = two {a = test y} {b = list_all test ys} e in by (all-of test ys both.1 x) both.0 (contains-cases y x ys h)
  where
    by : (Contains ys x → test x ≡ true) → test y ≡ true → (y ≡ x) ⊎ Contains ys x → test x ≡ true
    by rest first (inl q) = subst (λ z. test z ≡ true) q first
    by rest first (inr q) = rest q

pub in-list : (c : ClassId) (cs : List ClassId) → list_any (same_class c) cs ≡ true → Contains cs c
in-list c cs e = let x = contains-any (same_class c) cs e in subst (Contains cs) (sym (same_class-equal c x.element x.passes)) x.there

module _ (p : CoreProgram) (s : LibraryStands p) (k : ClassId) (round : List ClassId) (is : IsRound s.number k round) where
  pub above-within : (c d : ClassId) → list_any (same_class c) round ≡ true → Contains (supers_of p c) d → list_any (same_class d) round ≡ true
  above-within c d e i = by (slice_get (all_due s.number) c.0) refl
      (two {a = is_some (slice_get (all_due s.number) c.0)} (all-of (is_within s.number round) round is.closed c (in-list c round e)))
    where
      by : (o : Option CoreClass) → slice_get (all_due s.number) c.0 ≡ o →
          (is_some o ≡ true) × (list_all (λ x. list_any (same_class x) round) (supers_in o) ≡ true) → list_any (same_class d) round ≡ true
      by None q h = absurd cc
      by (Some class) q h =
          all-of (λ x. list_any (same_class x) round) (supers_in (Some class)) h.1 d (subst (λ xs. Contains xs d) (ap supers_in (there-too p s c class q)) i)

  on-upwards : {c d : ClassId} → Below p c d → list_any (same_class c) round ≡ true → list_any (same_class d) round ≡ true
  on-upwards same e = e
  on-upwards (above {c = c} {e = over} i r) e = on-upwards r (above-within c over e i)

  pub round-above : {d : ClassId} → Below p k d → list_any (same_class d) round ≡ true
  round-above r = on-upwards r is.among
