-- A walk over the classes that a look-up comes by finds what is inherited.
use Rattle.std.proofs.Common.{◌≡◌, ℕ, zero, suc, ◌+◌, ◌-◌, ◌<◌, ◌≤◌, List, [], ◌∷◌, length, Option, Some, None, refl, sym, subst, arith}
use Rattle.std.specs.Prelude.{Bool, true, false, if◌then◌else◌, slice_index_or}
use Rattle.std.specs.List.{Contains}
use Rattle.je_base.specs.declared.span.NameId.{NameId}
use Rattle.je_scopes.specs.Headers.{site_at, is_private}
use Rattle.je_scopes.specs.Looks.{Look, waits, nothing, a_class, a_variable, unclear, found, joined, joined_over, or_further}
use Rattle.je_scopes.specs.Source.{Source}
use Rattle.je_scopes.specs.Scope.{Known, first_declared, declared, inheritable, from_supers, member_within}
use Rattle.scope_laws.specs.Walks.{above_one, leads_to, of_one, brings, IsMetIn, at_start, one_up, IsMetWithin, IsWalk}
use Rattle.scope_laws.specs.Laws.{WalkIsMember}
use Rattle.scope_laws.proofs.Parts.{IsPart, none, IsOfClasses, part-antisym, part-trans, part-joined, part-left, part-right, joined-nothing, classes-over, over-part, part-over}

-- ---- what is inherited

classes-unless : (c : ℕ) (b : Bool) → IsOfClasses (if b then nothing else a_class c)
classes-unless c true = tt
classes-unless c false = tt

pub classes-inheritable : (p : Source) (a : Look) → IsOfClasses a → IsOfClasses (inheritable p a)
classes-inheritable p waits h = tt
classes-inheritable p nothing h = tt
classes-inheritable p (a_class c) h = classes-unless c (is_private (site_at p.sites c))
classes-inheritable p (a_variable c at) h = absurd h
classes-inheritable p unclear h = tt

classes-found : (o : Option ℕ) → IsOfClasses (found o)
classes-found None = tt
classes-found (Some c) = tt

classes-further : (a b : Look) → IsOfClasses a → IsOfClasses b → IsOfClasses (or_further a b)
classes-further waits b h k = tt
classes-further nothing b h k = k
classes-further (a_class c) b h k = tt
classes-further (a_variable c at) b h k = absurd h
classes-further unclear b h k = tt

classes-supers : (f : ℕ → Look) (o : Option (List ℕ)) → ((c : ℕ) → IsOfClasses (f c)) → IsOfClasses (from_supers f o)
classes-supers f None h = tt
classes-supers f (Some ds) h = classes-over f ds h

-- a look-up that has nothing private
abbrev IsOpen : Source → Look → Type 0
IsOpen p a = inheritable p a ≡ a

open-unless : (p : Source) (c : ℕ) (b : Bool) → is_private (site_at p.sites c) ≡ b → IsOpen p (if b then nothing else a_class c)
open-unless p c true e = refl
open-unless p c false e = rw e refl

open-inheritable : (p : Source) (a : Look) → IsOpen p (inheritable p a)
open-inheritable p waits = refl
open-inheritable p nothing = refl
open-inheritable p (a_class c) = open-unless p c (is_private (site_at p.sites c)) refl
open-inheritable p (a_variable c at) = refl
open-inheritable p unclear = refl

open-if : (p : Source) (c : ℕ) (b : Bool) → IsOpen p (a_class c) → IsOpen p (if b then a_class c else unclear)
open-if p c true h = h
open-if p c false h = refl

open-joined : (p : Source) (a b : Look) → IsOpen p a → IsOpen p b → IsOpen p (joined a b)
open-joined p waits b h k = refl
open-joined p nothing b h k = k
open-joined p (a_class c) waits h k = refl
open-joined p (a_class c) nothing h k = h
open-joined p (a_class c) (a_class d) h k = open-if p c _ h
open-joined p (a_class c) (a_variable d at) h k = refl
open-joined p (a_class c) unclear h k = refl
open-joined p (a_variable c at) waits h k = refl
open-joined p (a_variable c at) nothing h k = refl
open-joined p (a_variable c at) (a_class d) h k = refl
open-joined p (a_variable c at) (a_variable d to) h k = refl
open-joined p (a_variable c at) unclear h k = refl
open-joined p unclear waits h k = refl
open-joined p unclear nothing h k = refl
open-joined p unclear (a_class d) h k = refl
open-joined p unclear (a_variable d at) h k = refl
open-joined p unclear unclear h k = refl

open-over : (p : Source) (f : ℕ → Look) (cs : List ℕ) → ((c : ℕ) → IsOpen p (f c)) → IsOpen p (joined_over f cs)
open-over p f [] h = refl
open-over p f (c ∷ cs) h = open-joined p (f c) (joined_over f cs) (h c) (open-over p f cs h)

module _ (p : Source) (known : Known) (x : NameId) where
  unfoldable pub inherits : ℕ → ℕ → Look
  inherits n c = inheritable p (member_within p known n x c)

  classes-within : (n c : ℕ) → IsOfClasses (member_within p known n x c)
  classes-within zero c = tt
  classes-within (suc n) c = classes-further (declared p (Some c) x) _ (classes-found (first_declared 0 p.sites (Some c) x))
      (classes-supers _ (known c) (λ d. classes-inheritable p (member_within p known n x d) (classes-within n d)))

  pub classes-inherits : (n c : ℕ) → IsOfClasses (inherits n c)
  unfolding inherits
  classes-inherits n c = classes-inheritable p (member_within p known n x c) (classes-within n c)

  classes-of : (look : Look) (o : Option (List ℕ)) → IsOfClasses look → IsOfClasses (of_one p look o)
  classes-of waits o h = tt
  classes-of nothing None h = tt
  classes-of nothing (Some ds) h = tt
  classes-of (a_class c) o h = classes-unless c (is_private (site_at p.sites c))
  classes-of (a_variable c at) o h = absurd h
  classes-of unclear o h = tt

  pub classes-brings : (c : ℕ) → IsOfClasses (brings p known x c)
  classes-brings c = classes-of (declared p (Some c) x) (known c) (classes-found (first_declared 0 p.sites (Some c) x))

  -- ---- one step up

  step-by : (n : ℕ) (o : Option ℕ) (k : Option (List ℕ)) →
      inheritable p (or_further (found o) (from_supers (inherits n) k)) ≡ joined (of_one p (found o) k) (joined_over (inherits n) (above_one (found o) k))
  step-by n None None = refl
  step-by n None (Some ds) = open-over p (inherits n) ds (unfold inherits in λ c. open-inheritable p (member_within p known n x c))
  step-by n (Some m) k = sym (joined-nothing (inheritable p (a_class m)) (classes-unless m (is_private (site_at p.sites m))))

  pub step-up : (n c : ℕ) → inherits (suc n) c ≡ joined (brings p known x c) (joined_over (inherits n) (leads_to p known x c))
  unfolding inherits
  step-up n c = step-by n (first_declared 0 p.sites (Some c) x) (known c)

  open-by : (n : ℕ) (k : Option (List ℕ)) → IsOpen p (from_supers (inherits n) k)
  open-by n None = refl
  open-by n (Some ds) = open-over p (inherits n) ds (unfold inherits in λ c. open-inheritable p (member_within p known n x c))

  -- what a class has that it doesn't declare can be inherited
  pub open-member : (n c : ℕ) → declared p (Some c) x ≡ nothing → inheritable p (member_within p known n x c) ≡ member_within p known n x c
  unfolding inherits
  open-member zero c e = refl
  open-member (suc n) c e = subst (λ a. inheritable p (or_further a (from_supers (inherits n) (known c))) ≡ or_further a (from_supers (inherits n) (known c))) (sym e) (open-by n (known c))

  brought : (n c : ℕ) → IsPart (brings p known x c) (inherits (suc n) c)
  brought n c = subst (IsPart (brings p known x c)) (sym (step-up n c)) (part-left (brings p known x c) _ (classes-brings c))

  from-above : (n c d : ℕ) → Contains (leads_to p known x c) d → IsPart (inherits n d) (inherits (suc n) c)
  from-above n c d q = subst (IsPart (inherits n d)) (sym (step-up n c))
      (part-trans (part-over (inherits n) (leads_to p known x c) (classes-inherits n) d q)
      (part-right (brings p known x c) _ (classes-over (inherits n) (leads_to p known x c) (classes-inherits n))))

  -- ---- what is met is inherited

  met-part : (starts : List ℕ) (n c : ℕ) → IsMetIn p known x starts n c → (m : ℕ) → IsPart (inherits m c) (joined_over (inherits (m + n)) starts)
  met-part starts _ c (at_start q) m = let e : m + 0 ≡ m = omega arith in rw e (part-over (inherits m) starts (classes-inherits m) c q)
  met-part starts _ d (one_up {n = n} {c = c} r q) m =
      let e : m + suc n ≡ suc m + n = omega arith in
      rw e (part-trans (from-above m c d q) (met-part starts n c r (suc m)))

  abbrev all_there : List ℕ → Look
  all_there starts = joined_over (inherits (length p.sites)) starts

  pub brings-part : (starts : List ℕ) (i c : ℕ) → i < length p.sites → IsMetWithin p known x starts i c → IsPart (brings p known x c) (all_there starts)
  brings-part starts i c l w =
      let few : w.steps ≤ i = w.few in
      let m = length p.sites - suc w.steps in
      let e : suc m + w.steps ≡ length p.sites = omega (arith, few) in
      part-trans (brought m c) (subst (λ k. IsPart (inherits (suc m) c) (joined_over (inherits k) starts)) e (met-part starts w.steps c w.met (suc m)))

  -- ---- what is inherited is met

  module _ (met : List ℕ) (all : Look) (goes_on : (c d : ℕ) → Contains met c → Contains (leads_to p known x c) d → Contains met d)
      (has : (c : ℕ) → Contains met c → IsPart (brings p known x c) all) where
    pub inherits-part : (n c : ℕ) → Contains met c → IsPart (inherits n c) all
    inherits-part zero c q = unfold inherits in none
    inherits-part (suc n) c q = subst (λ (a : Look). IsPart a all) (sym (step-up n c))
        (part-joined (has c q) (over-part (inherits n) (leads_to p known x c) all (λ d r. inherits-part n d (goes_on c d q r))))

  walked : (starts met : List ℕ) → IsWalk p known x starts met → joined_over (brings p known x) met ≡ all_there starts
  walked starts met w = part-antisym
      (over-part (brings p known x) met (all_there starts) (λ c q.
      let e : slice_index_or met q.0 0 ≡ c = named q.0 c met q.1 q.2 in
      let few : length met ≤ length p.sites = w.few in
      let l : q.0 < length met = q.1 in
      subst (λ d. IsPart (brings p known x d) (all_there starts)) e (brings-part starts q.0 (slice_index_or met q.0 0) (omega (arith, few, l)) (w.in_turn q.0 q.1))))
      (over-part (inherits (length p.sites)) starts (joined_over (brings p known x) met) (λ c q.
      inherits-part met (joined_over (brings p known x) met) w.goes_on (λ d r. part-over (brings p known x) met classes-brings d r) (length p.sites) c (w.begins c q)))
    where
      named : (k c : ℕ) (cs : List ℕ) → k < length cs → slice_index_or cs k c ≡ c → slice_index_or cs k 0 ≡ c
      named k c [] l e = absurd (omega arith)
      named zero c (d ∷ cs) l e = e
      named (suc k) c (d ∷ cs) l e = named k c cs (omega arith) e

pub walk_is_member : WalkIsMember
unfolding inherits
walk_is_member p known x starts met w = walked p known x starts met w
