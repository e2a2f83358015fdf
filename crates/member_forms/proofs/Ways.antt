-- Calls in a table, and the ways that they lead.
use Rattle.std.proofs.Common.{◌≡◌, ℕ, zero, suc, ◌+◌, ◌<◌, List, [], ◌∷◌, ◌++◌, length, get_or, take, Option, Some, None, refl, sym, ◌∙◌, ap}
use Rattle.std.specs.Prelude.{◌||◌, Bool, false, cond, map, nat_eq}
use Rattle.std.specs.List.{find}
use Rattle.std.proofs.lemmas.Bool.{eqb-true}
use Rattle.std.proofs.lemmas.List.{map-append, take_more}
use Rattle.je_classes.proofs.Lists.{bool_cases}
use Rattle.je_typing.specs.declared.fault.Refusal.TheVariants.{Fault}
use Rattle.je_typing.specs.declared.fault.TypeRule.TheVariants.{CtorCycle}
use Rattle.je_typing.specs.Answers.{IsFault, first_fault}
use Rattle.je_typing.specs.Judged.{gives}
use Rattle.class_typing.specs.Constructors.{OwnCall, call_at, leads_back, leads_on, leads_within, no_call, no_cycle}
use Rattle.member_forms.specs.declared.cycles.OwnCall.{OwnCall as Call}
use Rattle.member_forms.specs.Calls.{leads_back_by, leads_by, leads_on_by, or_called, own_call_seen, to_of}

-- ---- calls that are listed

module _ (n : ℕ) where
  abbrev is-at : OwnCall → Bool
  is-at c = nat_eq c.place n

  pub listed_more : (cs : List OwnCall) (c : OwnCall) → or_called (to_of (call_at cs n)) (nat_eq c.place n) c.to ≡ to_of (call_at (cs ++ c ∷ []) n)
  listed_more [] c = bool_cases (λ b. or_called None b c.to ≡ to_of (cond b (Some c) None)) (nat_eq c.place n) (λ e. refl) (λ e. refl)
  listed_more (d ∷ cs) c = bool_cases (λ b. or_called (to_of (cond b (Some d) (call_at cs n))) (nat_eq c.place n) c.to ≡ to_of (cond b (Some d) (call_at (cs ++ c ∷ []) n))) (nat_eq d.place n)
      (λ e. refl) (λ e. listed_more cs c)

pub call_more : (calls : List Call) (i : ℕ) (d : Call) (f g : ℕ → Option ℕ) → i < length calls →
    ((n : ℕ) → g n ≡ or_called (f n) (nat_eq (get_or calls i d).place n) (get_or calls i d).to) → ((n : ℕ) → f n ≡ to_of (call_at (map own_call_seen (take i calls)) n)) →
    (n : ℕ) → g n ≡ to_of (call_at (map own_call_seen (take (i + 1) calls)) n)
call_more calls i d f g l new old n =
    let call = get_or calls i d in
    new n ∙ ap (λ o. or_called o (nat_eq call.place n) call.to) (old n) ∙ listed_more n (map own_call_seen (take i calls)) (own_call_seen call)
    ∙ ap (λ cs. to_of (call_at cs n)) (sym (ap (map own_call_seen) (take_more calls i d l) ∙ map-append own_call_seen (take i calls) (call ∷ [])))

-- ---- ways

pub not_same : (x y : ℕ) → (x ≡ y → ⊥) → nat_eq x y ≡ false
not_same x y never = bool_cases (λ b. nat_eq x y ≡ b → nat_eq x y ≡ false) (nat_eq x y) (λ e r. absurd (never (eqb-true x y r))) (λ e r. r) refl

module _ (f : ℕ → Option ℕ) (to : ℕ) where
  pub goes : (k m from next : ℕ) → k ≡ suc m → f from ≡ Some next → leads_by f k to from ≡ (nat_eq next to || leads_by f m to next)
  goes k m from next s e = ap (λ n. leads_by f n to from) s ∙ ap (leads_on_by (λ at. nat_eq at to || leads_by f m to at)) e

  pub goes_on : (k m from next : ℕ) (r : Bool) → k ≡ suc m → f from ≡ Some next → nat_eq next to ≡ false → leads_by f k to from ≡ r → leads_by f m to next ≡ r
  goes_on k m from next r s e b h = sym (goes k m from next s e ∙ ap (λ t. t || leads_by f m to next) b) ∙ h

-- ---- the first that leads back

module _ (calls : List OwnCall) (f : ℕ → Option ℕ) (fits : (n : ℕ) → f n ≡ to_of (call_at calls n)) where
  on-by : (further : ℕ → Bool) (o : Option OwnCall) → leads_on_by further (to_of o) ≡ leads_on further o
  on-by further None = refl
  on-by further (Some c) = refl

  leads-so : (n to from : ℕ) → leads_by f n to from ≡ leads_within calls n to from
  leads-so zero to from = refl
  leads-so (suc n) to from = ap (leads_on_by (λ at. nat_eq at to || leads_by f n to at)) (fits from)
      ∙ on-by (λ at. nat_eq at to || leads_by f n to at) (call_at calls from)
      ∙ (λ i. leads_on (λ at. nat_eq at to || leads-so n to at i) (call_at calls from))

  pub same_first : (count : ℕ) → count ≡ length calls → find (leads_back_by f count) calls ≡ find (leads_back calls) calls
  same_first count e = (λ i. find (leads_back_by f (e i)) calls) ∙ (λ i. find (λ c. leads-so (length calls) c.place c.place i) calls)

  pub none_leads : (count : ℕ) → count ≡ length calls → None ≡ find (leads_back_by f count) calls → no_cycle calls ≡ gives tt
  unfolding no_cycle
  none_leads count e h = ap no_call (sym (h ∙ same_first count e))

  pub one_leads : (count : ℕ) (c : OwnCall) → count ≡ length calls → Some c ≡ find (leads_back_by f count) calls → IsFault (no_cycle calls) (Fault (record { rule = CtorCycle; span = c.word }))
  unfolding no_cycle
  one_leads count c e h = first_fault (ap no_call (sym (h ∙ same_first count e)))

pub count_same : (calls : List Call) → length calls ≡ length (map own_call_seen calls)
count_same [] = refl
count_same (c ∷ calls) = ap suc (count_same calls)
