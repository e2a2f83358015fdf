-- The order of look-ups as sets, in which their union is the least that has both.
use Rattle.std.proofs.Common.{◌≡◌, ℕ, List, [], ◌∷◌, refl, subst, sym, ap, ◌∙◌, arith}
use Rattle.std.specs.Prelude.{Bool, true, false, nat_eq, if◌then◌else◌}
use Rattle.std.specs.List.{Contains}
use Rattle.std.proofs.lemmas.Bool.Decides.{nat_tests}
use Rattle.je_classes.proofs.Lists.{bool_cases, contains-here, contains-later, contains-cases}
use Rattle.je_scopes.specs.Looks.{Look, waits, nothing, a_class, a_variable, unclear, joined, joined_over}
use Rattle.je_scopes.proofs.Either.{by_either, nothing-in}

pub data IsPart : Look → Look → Type 0 where
  none : {b : Look} → IsPart nothing b
  one : {c d : ℕ} → c ≡ d → IsPart (a_class c) (a_class d)
  more : {c : ℕ} → IsPart (a_class c) unclear
  several : IsPart unclear unclear
  unknown : {a : Look} → IsPart a waits

-- no type variable is met
abbrev pub IsOfClasses : Look → Type 0
IsOfClasses (a_variable c at) = ⊥
IsOfClasses _ = Unit {0}

same-refl : (c : ℕ) → nat_eq c c ≡ true
same-refl c = grind (arith, nat_tests)

pub part-antisym : {a b : Look} → IsPart a b → IsPart b a → a ≡ b
part-antisym none none = refl
part-antisym (one e) (one f) = ap a_class e
part-antisym more q = elim q [ ]
part-antisym several several = refl
part-antisym unknown unknown = refl

pub part-trans : {a b c : Look} → IsPart a b → IsPart b c → IsPart a c
part-trans none q = none
part-trans {c = b} (one {c = c} {d = d} e) q = subst (λ k. IsPart (a_class k) b) (sym e) q
part-trans more several = more
part-trans more unknown = unknown
part-trans several q = q
part-trans unknown unknown = unknown

two-in : (c d : ℕ) (b : Bool) → IsPart (if b then a_class c else unclear) unclear
two-in c d true = more
two-in c d false = several

one-of : (c d : ℕ) (b : Bool) → IsPart (a_class c) (if b then a_class c else unclear)
one-of c d true = one refl
one-of c d false = more

other-of : (c d : ℕ) → IsPart (a_class d) (if nat_eq c d then a_class c else unclear)
other-of c d = bool_cases (λ b. IsPart (a_class d) (if b then a_class c else unclear)) (nat_eq c d)
    (λ e. let s : c ≡ d = grind (arith, nat_tests) in subst (λ k. IsPart (a_class d) (a_class k)) (sym s) (one refl))
    (λ _. more)

pub part-joined : {a b c : Look} → IsPart a c → IsPart b c → IsPart (joined a b) c
part-joined none q = q
part-joined (one e) none = one e
part-joined (one {c = c} {d = k} e) (one {c = d} f) = let s : c ≡ d = e ∙ sym f in let t : nat_eq c d ≡ true = rw (← s) (same-refl c) in subst (λ b. IsPart (if b then a_class c else unclear) (a_class k)) (sym t) (one e)
part-joined more none = more
part-joined (more {c = c}) (more {c = d}) = two-in c d (nat_eq c d)
part-joined more several = several
part-joined several none = several
part-joined several more = several
part-joined several several = several
part-joined unknown q = unknown

pub part-left : (a b : Look) → IsOfClasses a → IsPart a (joined a b)
part-left waits b h = unknown
part-left nothing b h = none
part-left (a_class c) waits h = unknown
part-left (a_class c) nothing h = one refl
part-left (a_class c) (a_class d) h = one-of c d (nat_eq c d)
part-left (a_class c) (a_variable d at) h = more
part-left (a_class c) unclear h = more
part-left (a_variable c at) b h = absurd h
part-left unclear waits h = unknown
part-left unclear nothing h = several
part-left unclear (a_class d) h = several
part-left unclear (a_variable d at) h = several
part-left unclear unclear h = several

pub part-refl : (a : Look) → IsOfClasses a → IsPart a a
part-refl waits h = unknown
part-refl nothing h = none
part-refl (a_class c) h = one refl
part-refl (a_variable c at) h = absurd h
part-refl unclear h = several

pub part-right : (a b : Look) → IsOfClasses b → IsPart b (joined a b)
part-right waits b h = unknown
part-right nothing b h = part-refl b h
part-right (a_class c) waits h = unknown
part-right (a_class c) nothing h = none
part-right (a_class c) (a_class d) h = other-of c d
part-right (a_class c) (a_variable d at) h = absurd h
part-right (a_class c) unclear h = several
part-right (a_variable c at) waits h = unknown
part-right (a_variable c at) nothing h = none
part-right (a_variable c at) (a_class d) h = more
part-right (a_variable c at) (a_variable d to) h = absurd h
part-right (a_variable c at) unclear h = several
part-right unclear waits h = unknown
part-right unclear nothing h = none
part-right unclear (a_class d) h = more
part-right unclear (a_variable d at) h = absurd h
part-right unclear unclear h = several

classes-if : (c : ℕ) (b : Bool) → IsOfClasses (if b then a_class c else unclear)
classes-if c true = tt
classes-if c false = tt

pub classes-joined : (a b : Look) → IsOfClasses a → IsOfClasses b → IsOfClasses (joined a b)
classes-joined waits b h k = tt
classes-joined nothing b h k = k
classes-joined (a_class c) waits h k = tt
classes-joined (a_class c) nothing h k = tt
classes-joined (a_class c) (a_class d) h k = classes-if c (nat_eq c d)
classes-joined (a_class c) (a_variable d at) h k = tt
classes-joined (a_class c) unclear h k = tt
classes-joined (a_variable c at) b h k = absurd h
classes-joined unclear waits h k = tt
classes-joined unclear nothing h k = tt
classes-joined unclear (a_class d) h k = tt
classes-joined unclear (a_variable d at) h k = tt
classes-joined unclear unclear h k = tt

pub joined-nothing : (a : Look) → IsOfClasses a → joined a nothing ≡ a
joined-nothing waits h = refl
joined-nothing nothing h = refl
joined-nothing (a_class c) h = refl
joined-nothing (a_variable c at) h = absurd h
joined-nothing unclear h = refl

-- ---- over lists

pub classes-over : (f : ℕ → Look) (cs : List ℕ) → ((c : ℕ) → IsOfClasses (f c)) → IsOfClasses (joined_over f cs)
classes-over f [] h = tt
classes-over f (c ∷ cs) h = classes-joined (f c) (joined_over f cs) (h c) (classes-over f cs h)

-- the union is within what each is within
pub over-part : (f : ℕ → Look) (cs : List ℕ) (b : Look) → ((c : ℕ) → Contains cs c → IsPart (f c) b) → IsPart (joined_over f cs) b
over-part f [] b h = none
over-part f (c ∷ cs) b h = part-joined (h c (contains-here c cs)) (over-part f cs b (λ d q. h d (contains-later c d cs q)))

-- each is within the union
pub part-over : (f : ℕ → Look) (cs : List ℕ) → ((c : ℕ) → IsOfClasses (f c)) → (c : ℕ) → Contains cs c → IsPart (f c) (joined_over f cs)
part-over f [] h c q = absurd (nothing-in c q)
part-over f (k ∷ cs) h c q = by_either
    (λ e. subst (λ d. IsPart (f d) (joined_over f (k ∷ cs))) e (part-left (f k) (joined_over f cs) (h k)))
    (λ r. part-trans (part-over f cs h c r) (part-right (f k) (joined_over f cs) (classes-over f cs h)))
    (contains-cases k c cs q)

-- what waits is all there is
pub waits-part : {b : Look} → IsPart waits b → b ≡ waits
waits-part unknown = refl
