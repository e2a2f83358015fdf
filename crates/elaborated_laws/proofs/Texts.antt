-- Each constant string of a program stands once among its texts.
use Rattle.std.proofs.Common.{◌≡◌, ℕ, ◌+◌, ◌≤◌, List, [], ◌∷◌, ◌++◌, length, refl, sym, ap, ◌∙◌, subst, arith, length-append}
use Rattle.std.specs.Prelude.{Bool, true, false, ◌||◌, filter, flat_map, if◌then◌else◌, map}
use Rattle.std.specs.List.{list_any}
use Rattle.std.specs.Str.{bytes_eq}
use Rattle.std.proofs.lemmas.List.Elements.{filter-append}
use Rattle.std.proofs.lemmas.List.Folds.{list_any-append}
use Rattle.std.proofs.lemmas.List.Sums.{length-filter}
use Rattle.std.proofs.lemmas.Slice.Eq.{bytes_eq-Decides}
use Rattle.je_core.specs.Core.{CoreClass}
use Rattle.je_classes.specs.Members.{In, first, further}
use Rattle.je_classes.proofs.Lists.{bool_cases}
use Rattle.je_classes.proofs.Sets.{in-left, in-right}
use Rattle.je_fitting.specs.Expressions.{StandOnce}
use Rattle.class_typing.specs.Texts.{TextAt, class_texts, each_once, in_order, inserted, stands_before, texts, units_of}

-- ---- how often a text stands among others

abbrev many : List ℕ → List (List ℕ) → ℕ
many u xs = length (filter (λ t. bytes_eq t u) xs)

abbrev has : List ℕ → List (List ℕ) → Bool
has u xs = list_any (bytes_eq u) xs

other-way : (t u : List ℕ) → bytes_eq u t ≡ false → bytes_eq t u ≡ false
other-way t u h = bool_cases (λ b. b ≡ false) (bytes_eq t u)
    (λ e. let same : t ≡ u = (bytes_eq-Decides t u).0 e in
    let back : bytes_eq u t ≡ true = (bytes_eq-Decides u t).1 (sym same) in absurd cc)
    (λ e. refl)

neither : (a b : Bool) → (a || b) ≡ false → (a ≡ false) × (b ≡ false)
neither false false e = (refl, refl)
neither true b e = absurd cc
neither false true e = absurd cc

none-many : (u : List ℕ) (xs : List (List ℕ)) → has u xs ≡ false → many u xs ≡ 0
none-many u [] h = refl
none-many u (x ∷ xs) h =
    let n = neither (bytes_eq u x) (has u xs) h in
    ap (λ b. length (if b then x ∷ filter (λ t. bytes_eq t u) xs else filter (λ t. bytes_eq t u) xs)) (other-way x u n.0)
    ∙ none-many u xs n.1

some-many : (u : List ℕ) (xs : List (List ℕ)) → has u xs ≡ true → 1 ≤ many u xs
some-many u [] h = absurd cc
some-many u (x ∷ xs) h = by (bytes_eq x u) refl (some-many u xs)
  where
    by : (b : Bool) → bytes_eq x u ≡ b → (has u xs ≡ true → 1 ≤ many u xs) →
        1 ≤ length (if b then x ∷ filter (λ t. bytes_eq t u) xs else filter (λ t. bytes_eq t u) xs)
    by true e f = omega arith
    by false e f = f (sym (ap (λ b. b || has u xs) (other-way u x e)) ∙ h)

push-many : (u t : List ℕ) (xs : List (List ℕ)) → many u (xs ++ t ∷ []) ≡ many u xs + many u (t ∷ [])
push-many u t xs =
    ap length (filter-append (λ x. bytes_eq x u) xs (t ∷ [])) ∙ length-append (filter (λ x. bytes_eq x u) xs) _

-- ---- each once

abbrev with-text : Bool → List ℕ → List (List ℕ) → List (List ℕ)
with-text b t done = if b then done else done ++ t ∷ []

few-more : (t : List ℕ) (done : List (List ℕ)) → ((u : List ℕ) → many u done ≤ 1) → (b : Bool) → has t done ≡ b →
    (u : List ℕ) → many u (with-text b t done) ≤ 1
few-more t done few true e u = few u
few-more t done few false e u = by (bytes_eq t u) refl
  where
    by : (b : Bool) → bytes_eq t u ≡ b → many u (done ++ t ∷ []) ≤ 1
    by true q =
        let same : t ≡ u = (bytes_eq-Decides t u).0 q in
        let none : many u done ≡ 0 = none-many u done (subst (λ x. has x done ≡ false) same e) in
        let one : many u (t ∷ []) ≡ 1 = ap (λ b. length (if b then t ∷ [] else [])) q in
        omega (arith, push-many u t done, none, one)
    by false q =
        let none : many u (t ∷ []) ≡ 0 = ap (λ b. length (if b then t ∷ [] else [])) q in
        omega (arith, push-many u t done, none, few u)

few-all : (ts done : List (List ℕ)) → ((u : List ℕ) → many u done ≤ 1) → (u : List ℕ) → many u (each_once done ts) ≤ 1
few-all [] done few u = few u
few-all (t ∷ ts) done few u = few-all ts (with-text (has t done) t done) (few-more t done few (has t done) refl) u

or-first : (a b : Bool) → a ≡ true → (a || b) ≡ true
or-first true b e = refl
or-first false b e = absurd cc

or-second : (a b : Bool) → b ≡ true → (a || b) ≡ true
or-second true b e = refl
or-second false b e = e

still-has : (u t : List ℕ) (done : List (List ℕ)) (b : Bool) → has u done ≡ true → has u (with-text b t done) ≡ true
still-has u t done true h = h
still-has u t done false h = list_any-append (bytes_eq u) done (t ∷ []) ∙ or-first (has u done) _ h

has-kept : (ts done : List (List ℕ)) (u : List ℕ) → has u done ≡ true → has u (each_once done ts) ≡ true
has-kept [] done u h = h
has-kept (t ∷ ts) done u h = has-kept ts (with-text (has t done) t done) u (still-has u t done (has t done) h)

itself : (u : List ℕ) → bytes_eq u u ≡ true
itself u = (bytes_eq-Decides u u).1 refl

now-has : (u : List ℕ) (done : List (List ℕ)) (b : Bool) → has u done ≡ b → has u (with-text b u done) ≡ true
now-has u done true h = h
now-has u done false h =
    list_any-append (bytes_eq u) done (u ∷ []) ∙ or-second (has u done) _ (or-first (bytes_eq u u) false (itself u))

has-put : (ts done : List (List ℕ)) (u : List ℕ) → In ts u → has u (each_once done ts) ≡ true
has-put [] done u q = elim q [ ]
has-put (t ∷ ts) done _ first = has-kept ts (with-text (has t done) t done) t (now-has t done (has t done) refl)
has-put (t ∷ ts) done u (further q) = has-put ts (with-text (has t done) t done) u q

-- ---- in the order of the text

put-in : (t u : TextAt) (us : List TextAt) (b : Bool) → (In us u → In (inserted t us) u) → (v : TextAt) →
    In (v ∷ us) u → In (if b then v ∷ inserted t us else t ∷ v ∷ us) u
put-in t _ us true f v first = first
put-in t u us true f v (further q) = further (f q)
put-in t u us false f v q = further q

still-in : (t u : TextAt) (us : List TextAt) → In us u → In (inserted t us) u
still-in t u [] q = elim q [ ]
still-in t u (v ∷ us) q = put-in t u us (stands_before v.span t.span) (still-in t u us) v q

itself-put : (t : TextAt) (us : List TextAt) (b : Bool) → In (inserted t us) t → (v : TextAt) →
    In (if b then v ∷ inserted t us else t ∷ v ∷ us) t
itself-put t us true q v = further q
itself-put t us false q v = first

itself-in : (t : TextAt) (us : List TextAt) → In (inserted t us) t
itself-in t [] = first
itself-in t (v ∷ us) = itself-put t us (stands_before v.span t.span) (itself-in t us) v

in-order : (ts : List TextAt) (t : TextAt) → In ts t → In (in_order ts) t
in-order [] t q = elim q [ ]
in-order (t ∷ ts) _ first = itself-in t (in_order ts)
in-order (u ∷ ts) t (further q) = still-in u t (in_order ts) (in-order ts t q)

in-mapped : {A B : Type 0} (f : A → B) (xs : List A) (x : A) → In xs x → In (map f xs) (f x)
in-mapped f [] x q = elim q [ ]
in-mapped f (x ∷ xs) _ first = first
in-mapped f (y ∷ xs) x (further q) = further (in-mapped f xs x q)

pub in-flat : {A B : Type 0} (f : A → List B) (xs : List A) (x : A) (y : B) → In xs x → In (f x) y → In (flat_map f xs) y
in-flat f [] x y q r = elim q [ ]
in-flat f (x ∷ xs) _ y first r = in-left (flat_map f xs) r
in-flat f (z ∷ xs) x y (further q) r = in-right (f z) (in-flat f xs x y q r)

-- ---- the whole

pub text-once : (cs : List CoreClass) (class : CoreClass) (t : TextAt) → In cs class → In (class_texts class) t →
    StandOnce t.units (texts cs)
unfolding texts
text-once cs class t q r =
    let all = map units_of (in_order (flat_map class_texts cs)) in
    let there : has t.units (each_once [] all) ≡ true =
    has-put all [] t.units (in-mapped units_of _ t (in-order _ t (in-flat class_texts cs class t q r))) in
    let more = some-many t.units (each_once [] all) there in
    let less = few-all all [] (λ u. omega arith) t.units in
    sym (length-filter (λ x. bytes_eq x t.units) (each_once [] all)) ∙ omega (arith, more, less)
