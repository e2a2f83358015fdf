-- The first fault of two lists is the first of their first ones.
use Rattle.std.proofs.Common.{◌≡◌, List, [], ◌∷◌, ◌++◌, Option, Some, None, refl, ◌∙◌, sym, ap, arith}
use Rattle.std.specs.Prelude.{Bool, true, false}
use Rattle.je_scopes.specs.Faults.{Fault, earlier_of, least, stands_before}
use Rattle.std.proofs.lemmas.Bool.Decides.{nat_tests}
use Rattle.je_scopes.proofs.First.{antisymmetric, transitive}
use Rattle.name_faults.specs.View.{earliest}

pub earliest-none : (a : Option Fault) → earliest a None ≡ a
earliest-none None = refl
earliest-none (Some f) = refl

not-both : (f g : Fault) → stands_before g f ≡ true → stands_before f g ≡ true → ⊥
not-both f g p q = grind (arith, nat_tests)

not-before-itself : (f : Fault) → stands_before f f ≡ false
not-before-itself f = grind (arith, nat_tests)

-- what stands before one that stands before a third
chained : (f g h : Fault) → stands_before g f ≡ true → stands_before h g ≡ true → stands_before h f ≡ true
chained f g h p q = by (stands_before h f) refl (stands_before f g) refl
  where
    by : (a : Bool) → stands_before h f ≡ a → (b : Bool) → stands_before f g ≡ b → stands_before h f ≡ true
    by true r b s = r
    by false r true s = absurd (not-both f g p s)
    by false r false s = let t : stands_before h g ≡ false = transitive g f h s r in absurd (cc)

-- by the order of each two of three
three : (f g h : Fault) → earlier_of (earlier_of f (Some g)) (Some h) ≡ earlier_of f (Some (earlier_of g (Some h)))
three f g h = by (stands_before g f) refl (stands_before h g) refl
  where
    by : (a : Bool) → stands_before g f ≡ a → (b : Bool) → stands_before h g ≡ b → earlier_of (earlier_of f (Some g)) (Some h) ≡ earlier_of f (Some (earlier_of g (Some h)))
    by true p true q = let r : stands_before h f ≡ true = chained f g h p q in rw (p, q, r) refl
    by true p false q = rw (p, q, p) refl
    by false p true q = rw (p, q) refl
    by false p false q = let r : stands_before h f ≡ false = transitive f g h p q in rw (p, q, r, p) refl

pub earliest-assoc : (a b c : Option Fault) → earliest (earliest a b) c ≡ earliest a (earliest b c)
earliest-assoc None b c = refl
earliest-assoc (Some f) None c = refl
earliest-assoc (Some f) (Some g) None = refl
earliest-assoc (Some f) (Some g) (Some h) = ap Some (three f g h)

pub least-append : (fs gs : List Fault) → least (fs ++ gs) ≡ earliest (least fs) (least gs)
least-append [] gs = refl
least-append (f ∷ fs) gs = ap (λ (o : Option Fault). earliest (Some f) o) (least-append fs gs) ∙ sym (earliest-assoc (Some f) (least fs) (least gs))

-- ---- the order in which faults are found, and how often, is not in the answer

two : (f g : Fault) → earlier_of f (Some g) ≡ earlier_of g (Some f)
two f g = by (stands_before g f) refl (stands_before f g) refl
  where
    by : (a : Bool) → stands_before g f ≡ a → (b : Bool) → stands_before f g ≡ b → earlier_of f (Some g) ≡ earlier_of g (Some f)
    by true p true q = absurd (not-both f g p q)
    by true p false q = rw (p, q) refl
    by false p true q = rw (p, q) refl
    by false p false q = rw (p, q) (antisymmetric f g p q)

pub earliest-comm : (a b : Option Fault) → earliest a b ≡ earliest b a
earliest-comm None b = sym (earliest-none b)
earliest-comm (Some f) None = refl
earliest-comm (Some f) (Some g) = ap Some (two f g)

pub earliest-same : (a : Option Fault) → earliest a a ≡ a
earliest-same None = refl
earliest-same (Some f) = ap Some (one f)
  where
    one : (f : Fault) → earlier_of f (Some f) ≡ f
    one f = rw (not-before-itself f) refl
