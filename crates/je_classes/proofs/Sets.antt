-- Elements of lists, and how many members a set has.
use Rattle.std.proofs.Common.{◌≡◌, ◌<◌, List, [], ◌∷◌, ◌++◌, refl, sym, ◌∙◌, subst, arith, inl, inr}
use Rattle.std.specs.Prelude.{Bool, true, cond, ◌&&◌, ◌⊎◌, filter, if◌then◌else◌}
use Rattle.std.specs.List.{list_all, flat_map, Contains}
use Rattle.std.proofs.lemmas.Bool.Decides.{nat_tests}
use Rattle.je_core.specs.declared.types.ClassId.{ClassId}
use Rattle.je_classes.specs.Members.{Member, same_member, Found, one, several, IsFound, is_nothing, is_one, are_several, joined, joined_over, found_in, In, first, further}
use Rattle.je_classes.proofs.Lists.{bool_cases, contains-here, contains-later, contains-cases}

pub same_member-equal : (m n : Member) → same_member m n ≡ true → m ≡ n
same_member-equal m n e = grind (arith, nat_tests)

pub same_member-refl : (m : Member) → same_member m m ≡ true
same_member-refl m = grind (arith, nat_tests)

-- the same set has the same size
pub found-same : {P Q : Member → Type 0} {f : Found} → ((m : Member) → P m → Q m) → ((m : Member) → Q m → P m) → IsFound P f → IsFound Q f
found-same there back (is_nothing n) = is_nothing (λ m q. n m (back m q))
found-same there back (is_one {m = m} p u) = is_one (there m p) (λ n q. u n (back n q))
found-same there back (are_several {m = m} {n = n} p q d) = are_several (there m p) (there n q) d

-- the union of two sets
pub by_either : {X Y Z : Type 0} → (X → Z) → (Y → Z) → X ⊎ Y → Z
by_either p q (inl x) = p x
by_either p q (inr x) = q x

pub one-one : {P Q : Member → Type 0} (m k : Member) → P m → ((n : Member) → P n → n ≡ m) → Q k → ((n : Member) → Q n → n ≡ k) →
    IsFound (λ n. P n ⊎ Q n) (if same_member m k then one m else several)
one-one {P = P} {Q = Q} m k p u q v = bool_cases (λ b. IsFound (λ n. P n ⊎ Q n) (if b then one m else several)) (same_member m k)
    (λ e. is_one (inl p) (λ n x. by_either (u n) (λ y. v n y ∙ sym (same_member-equal m k e)) x))
    (λ e. are_several (inl p) (inr q) (λ h. absurd (let r : same_member m k ≡ true = rw (← h) (same_member-refl m) in cc)))

pub union : {P Q : Member → Type 0} {f g : Found} → IsFound P f → IsFound Q g → IsFound (λ m. P m ⊎ Q m) (joined f g)
union (is_nothing n) q = found-same (λ m x. inr x) (λ m x. by_either (λ p. absurd (n m p)) (λ y. y) x) q
union (is_one {m = m} p u) (is_nothing n) = is_one (inl p) (λ k x. by_either (u k) (λ y. absurd (n k y)) x)
union (is_one {m = m} p u) (is_one {m = k} q v) = one-one m k p u q v
union (is_one p u) (are_several {m = m} {n = k} q r d) = are_several (inr q) (inr r) d
union (are_several p q d) x = are_several (inl p) (inl q) d

-- some member of one of the classes
pub record Among (P : ClassId → Member → Type 0) (cs : List ClassId) (m : Member) : Type 0 where
  pub class : ClassId
  pub there : Contains cs class
  pub has : P class m

pub among-more : (P : ClassId → Member → Type 0) (c : ClassId) (cs : List ClassId) (m : Member) → P c m ⊎ Among P cs m → Among P (c ∷ cs) m
among-more P c cs m (inl p) = record { class = c; there = contains-here c cs; has = p }
among-more P c cs m (inr a) = record { class = a.class; there = contains-later c a.class cs a.there; has = a.has }

pub among-less : (P : ClassId → Member → Type 0) (c : ClassId) (cs : List ClassId) (m : Member) → Among P (c ∷ cs) m → P c m ⊎ Among P cs m
among-less P c cs m a = by_either (λ e. inl (subst (λ d. P d m) (sym e) a.has)) (λ q. inr (record { class = a.class; there = q; has = a.has })) (contains-cases c a.class cs a.there)

pub over : (P : ClassId → Member → Type 0) (f : ClassId → Found) (cs : List ClassId) → ((c : ClassId) → Contains cs c → IsFound (P c) (f c)) → IsFound (Among P cs) (joined_over f cs)
over P f [] k = is_nothing (λ m a. absurd (let h : a.there.0 < 0 = a.there.1 in omega arith))
over P f (c ∷ cs) k = found-same (among-more P c cs) (among-less P c cs) (union (k c (contains-here c cs)) (over P f cs (λ d h. k d (contains-later c d cs h))))

-- elements of lists

pub in-filter : {A : Type 0} (test : A → Bool) {xs : List A} {y : A} → In xs y → test y ≡ true → In (filter test xs) y
in-filter test (first {x = x} {xs = xs}) e = rw e first
in-filter test (further {x = x} {y = y} {xs = xs} q) e = bool_cases (λ b. In (cond b (x ∷ filter test xs) (filter test xs)) y) (test x) (λ p. further (in-filter test q e)) (λ p. in-filter test q e)

pub record Passes {A : Type 0} (test : A → Bool) (xs : List A) (y : A) : Type 0 where
  pub there : In xs y
  pub passes : test y ≡ true

pub later-passes : {A : Type 0} {test : A → Bool} {x y : A} {xs : List A} → Passes test xs y → Passes test (x ∷ xs) y
later-passes p = record { there = further p.there; passes = p.passes }

pub in-kept : {A : Type 0} (test : A → Bool) (x : A) (xs : List A) (y : A) → test x ≡ true → (In (filter test xs) y → Passes test xs y) → In (x ∷ filter test xs) y → Passes test (x ∷ xs) y
in-kept test x xs y e k first = record { there = first; passes = e }
in-kept test x xs y e k (further q) = later-passes (k q)

pub filter-in : {A : Type 0} (test : A → Bool) (xs : List A) (y : A) → In (filter test xs) y → Passes test xs y
filter-in test [] y q = elim q [ ]
filter-in test (x ∷ xs) y q = bool_cases (λ b. In (cond b (x ∷ filter test xs) (filter test xs)) y → Passes test (x ∷ xs) y) (test x)
    (λ e. in-kept test x xs y e (filter-in test xs y)) (λ e r. later-passes (filter-in test xs y r)) q

pub in-left : {A : Type 0} {xs : List A} (ys : List A) {y : A} → In xs y → In (xs ++ ys) y
in-left ys first = first
in-left ys (further q) = further (in-left ys q)

pub in-right : {A : Type 0} (xs : List A) {ys : List A} {y : A} → In ys y → In (xs ++ ys) y
in-right [] q = q
in-right (x ∷ xs) q = further (in-right xs q)

pub in-either : {A : Type 0} (xs : List A) {ys : List A} {y : A} → In (xs ++ ys) y → In xs y ⊎ In ys y
in-either [] q = inr q
in-either (x ∷ xs) first = inl first
in-either (x ∷ xs) (further q) = by_either (λ p. inl (further p)) (λ p. inr p) (in-either xs q)

-- what is in one of the lists of a class's supers
pub record Above (f : ClassId → List Member) (cs : List ClassId) (m : Member) : Type 0 where
  pub class : ClassId
  pub there : Contains cs class
  pub has : In (f class) m

pub above-later : {f : ClassId → List Member} {c : ClassId} {cs : List ClassId} {m : Member} → Above f cs m → Above f (c ∷ cs) m
above-later {c = c} {cs = cs} a = record { class = a.class; there = contains-later c a.class cs a.there; has = a.has }

pub flat-above : (f : ClassId → List Member) (cs : List ClassId) (m : Member) → In (flat_map f cs) m → Above f cs m
flat-above f [] m q = elim q [ ]
flat-above f (c ∷ cs) m q = by_either (λ p. record { class = c; there = contains-here c cs; has = p }) (λ p. above-later (flat-above f cs m p)) (in-either (f c) q)

pub above-flat : (f : ClassId → List Member) (cs : List ClassId) (m : Member) (d : ClassId) → Contains cs d → In (f d) m → In (flat_map f cs) m
above-flat f [] m d q p = absurd (let h : q.0 < 0 = q.1 in omega arith)
above-flat f (c ∷ cs) m d q p = by_either (λ e. in-left (flat_map f cs) (subst (λ k. In (f k) m) (sym e) p)) (λ r. in-right (f c) (above-flat f cs m d r p)) (contains-cases c d cs q)

-- a set's size
pub found-in : (xs : List Member) → IsFound (In xs) (found_in xs)
found-in [] = is_nothing (λ m q. elim q [ ])
found-in (x ∷ xs) = found-same (there x xs) (back x xs) (union {P = λ m. m ≡ x} (is_one refl (λ n e. e)) (found-in xs))
  where
    there : (x : Member) (xs : List Member) (m : Member) → (m ≡ x) ⊎ In xs m → In (x ∷ xs) m
    there x xs m (inl e) = subst (λ k. In (x ∷ xs) k) (sym e) first
    there x xs m (inr q) = further q

    back : (x : Member) (xs : List Member) (m : Member) → In (x ∷ xs) m → (m ≡ x) ⊎ In xs m
    back x xs m first = inl refl
    back x xs m (further q) = inr q

pub all-in : (test : Member → Bool) (xs : List Member) → list_all test xs ≡ true → (n : Member) → In xs n → test n ≡ true
all-in test [] e n q = elim q [ ]
all-in test (x ∷ xs) e n first = bool_cases (λ b. (b && list_all test xs) ≡ true → b ≡ true) (test x) (λ p q. refl) (λ p q. absurd (cc)) e
all-in test (x ∷ xs) e n (further q) = all-in test xs (bool_cases (λ b. (b && list_all test xs) ≡ true → list_all test xs ≡ true) (test x) (λ p r. r) (λ p r. absurd (cc)) e) n q

pub in-all : (test : Member → Bool) (xs : List Member) → ((n : Member) → In xs n → test n ≡ true) → list_all test xs ≡ true
in-all test [] k = refl
in-all test (x ∷ xs) k = rw (k x first) (in-all test xs (λ n q. k n (further q)))
