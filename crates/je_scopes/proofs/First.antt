-- The least of a list of faults is the first, and there is one.
use Rattle.std.proofs.Common.{◌≡◌, List, [], ◌∷◌, Some, None, refl, ap, subst, arith}
use Rattle.std.specs.Prelude.{true, false, Option, if◌then◌else◌}
use Rattle.std.specs.List.{Contains}
use Rattle.std.proofs.lemmas.Bool.Decides.{nat_tests}
use Rattle.je_classes.proofs.Lists.{bool_cases, contains-here, contains-later, contains-cases}
use Rattle.je_scopes.specs.Faults.{Fault, faults, first_fault, least, earlier_of, stands_before}
use Rattle.je_scopes.specs.Laws.{FirstIsFound, NoneIsFaultFree}
use Rattle.je_scopes.proofs.Either.{by_either, nothing-in}

pub transitive : (f g h : Fault) → stands_before g f ≡ false → stands_before h g ≡ false → stands_before h f ≡ false
transitive f g h a b = grind (arith, nat_tests)

pub antisymmetric : (f g : Fault) → stands_before g f ≡ false → stands_before f g ≡ false → f ≡ g
antisymmetric f g a b = grind (arith, nat_tests)

irreflexive : (f : Fault) → stands_before f f ≡ false
irreflexive f = grind (arith, nat_tests)

not-before : (f g : Fault) → stands_before g f ≡ true → stands_before f g ≡ false
not-before f g a = grind (arith, nat_tests)

-- ---- the least of a list

data IsLeast (fs : List Fault) : Option Fault → Type 0 where
  none_there : ((g : Fault) → ¬ Contains fs g) → IsLeast fs None
  least_there : {f : Fault} → Contains fs f → ((g : Fault) → Contains fs g → stands_before g f ≡ false) → IsLeast fs (Some f)

one-more : (f : Fault) (fs : List Fault) (o : Option Fault) → IsLeast fs o → IsLeast (f ∷ fs) (Some (earlier_of f o))
one-more f fs _ (none_there n) = least_there (contains-here f fs)
    (λ g q. by_either (λ e. subst (λ h. stands_before h f ≡ false) e (irreflexive f)) (λ r. absurd (n g r)) (contains-cases f g fs q))
one-more f fs _ (least_there {f = h} there first) = bool_cases (λ b. stands_before h f ≡ b → IsLeast (f ∷ fs) (Some (if b then h else f))) (stands_before h f)
    (λ _ e. least_there (contains-later f h fs there)
    (λ g q. by_either (λ r. subst (λ k. stands_before k h ≡ false) r (not-before f h e)) (λ r. first g r) (contains-cases f g fs q)))
    (λ _ e. least_there (contains-here f fs)
    (λ g q. by_either (λ r. subst (λ k. stands_before k f ≡ false) r (irreflexive f)) (λ r. transitive f h g e (first g r)) (contains-cases f g fs q)))
    refl

is-least : (fs : List Fault) → IsLeast fs (least fs)
is-least [] = none_there (λ g q. nothing-in g q)
is-least (f ∷ fs) = one-more f fs (least fs) (is-least fs)

first-of : (fs : List Fault) (o : Option Fault) (f : Fault) → IsLeast fs o → o ≡ Some f → Contains fs f × ((g : Fault) → Contains fs g → stands_before g f ≡ false)
first-of fs _ f (none_there n) e = absurd (cc)
first-of fs _ f (least_there {f = h} there first) e = let s : h ≡ f = cc in (subst (λ k. Contains fs k) s there, λ g q. subst (λ k. stands_before g k ≡ false) s (first g q))

one-first : (fs : List Fault) (o : Option Fault) (f : Fault) → IsLeast fs o → Contains fs f → ((g : Fault) → Contains fs g → stands_before g f ≡ false) → o ≡ Some f
one-first fs _ f (none_there n) q h = absurd (n f q)
one-first fs _ f (least_there {f = g} there first) q h = ap Some (antisymmetric g f (first f q) (h g there))

none-of : (fs : List Fault) (o : Option Fault) → IsLeast fs o → o ≡ None → (f : Fault) → ¬ Contains fs f
none-of fs _ (none_there n) e = n
none-of fs _ (least_there q h) e = absurd (cc)

pub first_is_found : FirstIsFound
unfolding first_fault
first_is_found p f = (
  λ e. let r = first-of (faults p) (least (faults p)) f (is-least (faults p)) e in record { there = r.0; first = r.1 },
  λ r. one-first (faults p) (least (faults p)) f (is-least (faults p)) r.there r.first,
)

pub none_is_fault_free : NoneIsFaultFree
unfolding first_fault
none_is_fault_free p e = none-of (faults p) (least (faults p)) (is-least (faults p)) e
