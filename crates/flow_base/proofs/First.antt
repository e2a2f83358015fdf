-- The fault that is kept is the first of the set.
use Rattle.std.proofs.Common.{◌≡◌, Bool, true, false, if◌then◌else◌, Option, None, Some, ◌⊎◌, inl, inr, refl, ap, ◌∙◌, arith}
use Rattle.std.proofs.lemmas.Bool.Decides.{nat_tests}
use Rattle.flow_base.specs.declared.faults.FlowFault.{FlowFault}
use Rattle.flow_base.specs.FaultSets.{Faults, none, one, ◌∪◌, IsAmong, IsFirstOf, stands_before}
use Rattle.flow_base.specs.way.Kept.{kept, first_of, KeptIsFirst}

irreflexive : (f : FlowFault) → stands_before f f ≡ false
irreflexive f = grind (arith, nat_tests)

not-both : (f g : FlowFault) → stands_before g f ≡ true → stands_before f g ≡ true → ⊥
not-both f g p q = grind (arith, nat_tests)

transitive : (f g h : FlowFault) → stands_before g f ≡ false → stands_before h g ≡ false → stands_before h f ≡ false
transitive f g h a b = grind (arith, nat_tests)

not-before : (f g : FlowFault) → stands_before g f ≡ true → stands_before f g ≡ false
not-before f g a = grind (arith, nat_tests)

-- the first of what a predicate holds of, where there is one
abbrev First : (FlowFault → Type 0) → Option FlowFault → Type 0
First P None = (f : FlowFault) → P f → ⊥
First P (Some f) = P f × ((g : FlowFault) → P g → stands_before g f ≡ false)

abbrev Or : (FlowFault → Type 0) → Faults → FlowFault → Type 0
Or P fs f = P f ⊎ IsAmong f fs

-- the two are compared
picked : (P : FlowFault → Type 0) (x g : FlowFault) (t : Bool) → stands_before g x ≡ t → P x → ((h : FlowFault) → P h → stands_before h x ≡ false) → First (λ f. P f ⊎ (f ≡ g)) (if t then Some g else Some x)
picked P x g true e p l =
    (inr refl, λ h q. elim q [ inl r ↦ transitive g x h (not-before x g e) (l h r) | inr r ↦ ap (λ (f : FlowFault). stands_before f g) r ∙ irreflexive g ])
picked P x g false e p l =
    (inl p, λ h q. elim q [ inl r ↦ l h r | inr r ↦ ap (λ (f : FlowFault). stands_before f x) r ∙ e ])

one_more : (P : FlowFault → Type 0) (b : Option FlowFault) (g : FlowFault) → First P b → First (λ f. P f ⊎ (f ≡ g)) (kept b g)
one_more P None g l = (inr refl, λ h p. elim p [ inl q ↦ absurd (l h q) | inr e ↦ ap (λ (f : FlowFault). stands_before f g) e ∙ irreflexive g ])
one_more P (Some x) g l = picked P x g (stands_before g x) refl l.0 l.1

-- the first of a predicate is that of another with the same members
moved : (P Q : FlowFault → Type 0) (b : Option FlowFault) → ((f : FlowFault) → P f → Q f) → ((f : FlowFault) → Q f → P f) → First P b → First Q b
moved P Q None to fro l = λ f q. l f (fro f q)
moved P Q (Some x) to fro l = (to x l.0, λ g q. l.1 g (fro g q))

all_more : (fs : Faults) (P : FlowFault → Type 0) (b : Option FlowFault) → First P b → First (Or P fs) (first_of b fs)
all_more none P b l = moved P (Or P none) b (λ f p. inl p) (λ f p. elim p [ inl q ↦ q | inr q ↦ absurd q ]) l
all_more (one g) P b l = one_more P b g l
all_more (fs ∪ gs) P b l =
    moved (Or (Or P fs) gs) (Or P (fs ∪ gs)) (first_of (first_of b fs) gs)
    (λ f p. elim p [ inl q ↦ elim q [ inl r ↦ inl r | inr r ↦ inr (inl r) ] | inr q ↦ inr (inr q) ])
    (λ f p. elim p [ inl q ↦ inl (inl q) | inr q ↦ elim q [ inl r ↦ inl (inr r) | inr r ↦ inr r ] ])
    (all_more gs (Or P fs) (first_of b fs) (all_more fs P b l))

as_first : (fs : Faults) (r : Option FlowFault) → First (Or (λ f. ⊥) fs) r → IsFirstOf fs r
as_first fs None l = λ f p. l f (inr p)
as_first fs (Some x) l = record { among = elim l.0 [ inl q ↦ absurd q | inr q ↦ q ]; first = λ g p. l.1 g (inr p) }

pub kept_is_first : KeptIsFirst
kept_is_first fs = as_first fs (first_of None fs) (all_more fs (λ f. ⊥) None (λ f p. p))
