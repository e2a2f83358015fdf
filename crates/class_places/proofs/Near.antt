-- The users of all classes, as they are added.
use Rattle.std.proofs.Common.{◌≡◌, ℕ, ◌+◌, ◌<◌, List, [], ◌∷◌, ◌++◌, length, refl, sym, ◌∙◌, ap, subst, arith, inl, inr, eq-eqb}
use Rattle.std.specs.Prelude.{Bool, true, Option, Some, None, cond, filter, flat_map, map, nat_eq}
use Rattle.std.specs.List.{Contains}
use Rattle.std.proofs.lemmas.Bool.{eqb-true}
use Rattle.std.proofs.lemmas.List.{map-append}
use Rattle.je_classes.proofs.Lists.{bool_cases, contains-here, contains-later, contains-cases}
use Rattle.je_scopes.specs.Faults.{below}
use Rattle.je_scopes.specs.Headers.{site_at, within}
use Rattle.je_scopes.specs.SourceTypes.{SourceType}
use Rattle.je_scopes.proofs.Either.{by_either, nat_split, nothing-in}
use Rattle.je_scopes.proofs.Lists.{flat-from, in-below, in-either, in-filter, in-flat, in-left, in-right}
use Rattle.source_types.specs.Heads.{supers_of}
use Rattle.header_typing.specs.Supers.{class_in}
use Rattle.name_typing.specs.Program.{Frame, Program}
use Rattle.body_typing.specs.Bodies.{Met, makes}
use Rattle.body_typing.specs.Bodies as met_in
use Rattle.class_typing.specs.Captures.{class_made, class_of_type, classes_near, is_directly_in, listed}
use Rattle.class_typing.specs.Places.{same_number}
use Rattle.class_places.specs.declared.users.Users.{Users}
use Rattle.class_places.specs.way.Users.{Adds, AreUsers, IsBelow, IsMaker, IsPair, IsRound, IsUnder, users_of}
use Rattle.class_places.proofs.Ends.{at-snoc, in-snoc}
use Rattle.class_places.proofs.Using.{adds-none, adds-same, adds-then}

-- ---- above one class

module _ (user : ℕ) (a b c : Users) (types more : List SourceType) (t : SourceType) (e : more ≡ types ++ t ∷ []) where
  classes-more : map class_in more ≡ map class_in types ++ class_in t ∷ []
  classes-more = ap (map class_in) e ∙ map-append class_in types (t ∷ [])

  pub under_one : (above : ℕ) → class_in t ≡ Some above → Adds (IsUnder types user) a b → Adds (IsPair above user) b c → Adds (IsUnder more user) a c
  under_one above s g h =
      let grown : map class_in more ≡ map class_in types ++ Some above ∷ [] = classes-more ∙ ap (λ (o : Option ℕ). map class_in types ++ o ∷ []) s in
      adds-then (IsUnder types user) (IsPair above user) (IsUnder more user) a b c g h
      (λ x y q. by_either (λ r. inl (r, q.1)) (λ (r : Some above ≡ Some x). let k : x ≡ above = cc in inr (k, q.1)) (in-snoc (map class_in types) (Some above) (Some x) (subst (λ (l : List (Option ℕ)). Contains l (Some x)) grown q.0)))
      (λ x y q. (subst (λ (l : List (Option ℕ)). Contains l (Some x)) (sym grown) (in-left (map class_in types) (Some above ∷ []) (Some x) q.0), q.1))
      (λ x y q. (subst (λ (l : List (Option ℕ)). Contains l (Some x)) (sym grown) (subst (λ n. Contains (map class_in types ++ Some above ∷ []) (Some n)) (sym q.0) (at-snoc (map class_in types) (Some above))), q.1))

  pub under_none : class_in t ≡ None → Adds (IsUnder types user) a b → Adds (IsUnder more user) a b
  under_none s g =
      let grown : map class_in more ≡ map class_in types ++ None ∷ [] = classes-more ∙ ap (λ (o : Option ℕ). map class_in types ++ o ∷ []) s in
      adds-same (IsUnder types user) (IsUnder more user) a b g
      (λ x y q. by_either (λ r. (r, q.1)) (λ (r : None ≡ Some x). absurd (cc)) (in-snoc (map class_in types) None (Some x) (subst (λ (l : List (Option ℕ)). Contains l (Some x)) grown q.0)))
      (λ x y q. (subst (λ (l : List (Option ℕ)). Contains l (Some x)) (sym grown) (in-left (map class_in types) (None ∷ []) (Some x) q.0), q.1))

pub under_begins : (user : ℕ) (a : Users) → Adds (IsUnder [] user) a a
under_begins user a = adds-none (IsUnder [] user) a (λ x y q. nothing-in (Some x) q.0)

-- ---- makers

module _ (a b c : Users) (ms more : List Met) (m : Met) (e : more ≡ ms ++ m ∷ []) where
  pub maker_one : (user made : ℕ) → m ≡ makes user made → Adds (IsMaker ms) a b → Adds (IsPair made user) b c → Adds (IsMaker more) a c
  maker_one user made s g h =
      let grown : more ≡ ms ++ makes user made ∷ [] = e ∙ ap (λ k. ms ++ k ∷ []) s in
      adds-then (IsMaker ms) (IsPair made user) (IsMaker more) a b c g h
      (λ x y q. by_either (λ r. inl r) (λ (r : makes user made ≡ makes y x). let k : x ≡ made = cc in let l : y ≡ user = cc in inr (k, l)) (in-snoc ms (makes user made) (makes y x) (subst (λ (l : List Met). Contains l (makes y x)) grown q)))
      (λ x y q. subst (λ (l : List Met). Contains l (makes y x)) (sym grown) (in-left ms (makes user made ∷ []) (makes y x) q))
      (λ x y q. subst (λ (l : List Met). Contains l (makes y x)) (sym grown) (subst (λ n. Contains (ms ++ makes user made ∷ []) (makes y n)) (sym q.0) (subst (λ n. Contains (ms ++ makes user made ∷ []) (makes n made)) (sym q.1) (at-snoc ms (makes user made)))))

  pub maker_none : ((x y : ℕ) → m ≡ makes y x → ⊥) → Adds (IsMaker ms) a b → Adds (IsMaker more) a b
  maker_none never g = adds-same (IsMaker ms) (IsMaker more) a b g
      (λ x y q. by_either (λ r. r) (λ r. absurd (never x y r)) (in-snoc ms m (makes y x) (subst (λ (l : List Met). Contains l (makes y x)) e q)))
      (λ x y q. subst (λ (l : List Met). Contains l (makes y x)) (sym e) (in-left ms (m ∷ []) (makes y x) q))

pub makers_begin : (a : Users) → Adds (IsMaker []) a a
makers_begin a = adds-none (IsMaker []) a (λ x y q. nothing-in (makes y x) q)

module _ (p : Program) where
  -- ---- the classes round each

  pub round_begins : (a : Users) → Adds (IsRound p 0) a a
  round_begins a = adds-none (IsRound p 0) a (λ x y q. let l : x < 0 = q.0 in absurd (omega (arith, l)))

  module _ (a b c : Users) (n : ℕ) where
    pub round_one : (d : ℕ) → within (site_at p.source.sites n) ≡ Some d → Adds (IsRound p n) a b → Adds (IsPair n d) b c → Adds (IsRound p (n + 1)) a c
    round_one d s g h = adds-then (IsRound p n) (IsPair n d) (IsRound p (n + 1)) a b c g h
        (λ x y q. let l : x < n + 1 = q.0 in by_either (λ (k : x ≡ n). let u : Some y ≡ Some d = sym q.1 ∙ ap (λ m. within (site_at p.source.sites m)) k ∙ s in let v : y ≡ d = cc in inr (k, v)) (λ k. inl (k, q.1)) (nat_split x n (omega (arith, l))))
        (λ x y q. let l : x < n = q.0 in (omega (arith, l), q.1))
        (λ x y q. let k : x ≡ n = q.0 in (omega (arith, k), ap (λ m. within (site_at p.source.sites m)) k ∙ s ∙ ap Some (sym q.1)))

    pub round_none : within (site_at p.source.sites n) ≡ None → Adds (IsRound p n) a b → Adds (IsRound p (n + 1)) a b
    round_none s g = adds-same (IsRound p n) (IsRound p (n + 1)) a b g
        (λ x y q. let l : x < n + 1 = q.0 in by_either (λ (k : x ≡ n). let u : None ≡ Some y = sym s ∙ ap (λ m. within (site_at p.source.sites m)) (sym k) ∙ q.1 in absurd (cc)) (λ k. (k, q.1)) (nat_split x n (omega (arith, l))))
        (λ x y q. let l : x < n = q.0 in (omega (arith, l), q.1))

    -- ---- the classes below each

    pub below_one : Adds (IsBelow p n) a b → Adds (IsUnder (supers_of p.heads n) n) b c → Adds (IsBelow p (n + 1)) a c
    below_one g h = adds-then (IsBelow p n) (IsUnder (supers_of p.heads n) n) (IsBelow p (n + 1)) a b c g h
        (λ x y q. let l : y < n + 1 = q.0 in by_either (λ (k : y ≡ n). inr (subst (λ m. Contains (map class_in (supers_of p.heads m)) (Some x)) k q.1, k)) (λ k. inl (k, q.1)) (nat_split y n (omega (arith, l))))
        (λ x y q. let l : y < n = q.0 in (omega (arith, l), q.1))
        (λ x y q. let k : y ≡ n = q.1 in (omega (arith, k), subst (λ m. Contains (map class_in (supers_of p.heads m)) (Some x)) (sym k) q.0))

  pub below_begins : (a : Users) → Adds (IsBelow p 0) a a
  below_begins a = adds-none (IsBelow p 0) a (λ x y q. let l : y < 0 = q.0 in absurd (omega (arith, l)))

-- ---- all of them

in-map : {A B : Type 0} (f : A → B) (xs : List A) (x : A) → Contains xs x → Contains (map f xs) (f x)
in-map f [] x q = absurd (nothing-in x q)
in-map f (y ∷ xs) x q = by_either (λ e. subst (λ k. Contains (f y ∷ map f xs) (f k)) e (contains-here (f y) (map f xs))) (λ r. contains-later (f y) (f x) (map f xs) (in-map f xs x r)) (contains-cases y x xs q)

record Source {A B : Type 0} (f : A → B) (xs : List A) (y : B) : Type 0 where
  element : A
  there : Contains xs element
  is : f element ≡ y

map-from : {A B : Type 0} (f : A → B) (xs : List A) (y : B) → Contains (map f xs) y → Source f xs y
map-from f [] y q = absurd (nothing-in y q)
map-from f (x ∷ xs) y q = by_either (λ e. record { element = x; there = contains-here x xs; is = e })
    (λ r. let w = map-from f xs y r in record { element = w.element; there = contains-later x w.element xs w.there; is = w.is }) (contains-cases (f x) y (map f xs) q)

record Kept {A : Type 0} (test : A → Bool) (xs : List A) (x : A) : Type 0 where
  there : Contains xs x
  passes : test x ≡ true

filter-from : {A : Type 0} (test : A → Bool) (xs : List A) (x : A) → Contains (filter test xs) x → Kept test xs x
filter-from test [] x q = absurd (nothing-in x q)
filter-from test (y ∷ xs) x q = bool_cases (λ b. (test y ≡ b) → Contains (cond b (y ∷ filter test xs) (filter test xs)) x → Kept test (y ∷ xs) x) (test y)
    (λ e t r. by_either (λ s. record { there = subst (Contains (y ∷ xs)) s (contains-here y xs); passes = subst (λ k. test k ≡ true) s e })
    (λ s. let w = filter-from test xs x s in record { there = contains-later y x xs w.there; passes = w.passes }) (contains-cases y x (filter test xs) r))
    (λ e t r. let w = filter-from test xs x r in record { there = contains-later y x xs w.there; passes = w.passes }) refl q

one-listed : (o : Option ℕ) (c : ℕ) → Contains (listed o) c → o ≡ Some c
one-listed None c q = absurd (nothing-in c q)
one-listed (Some d) c q = by_either (λ e. ap Some e) (λ r. absurd (nothing-in c r)) (contains-cases d c [] q)

listed-one : (o : Option ℕ) (c : ℕ) → o ≡ Some c → Contains (listed o) c
listed-one o c e = subst (λ (k : Option ℕ). Contains (listed k) c) (sym e) (contains-here c [])

same-is : (d : ℕ) (o : Option ℕ) → same_number d o ≡ true → o ≡ Some d
same-is d None e = absurd (cc)
same-is d (Some c) e = ap Some (sym (eqb-true d c e))

is-same : (d : ℕ) (o : Option ℕ) → o ≡ Some d → same_number d o ≡ true
is-same d o e = ap (same_number d) e ∙ eq-eqb d d refl

module _ (p : Program) (met : List Met) (round : ℕ → List Frame) where
  made-so : (d c : ℕ) (m : Met) → Contains (class_made p met round d m) c → m ≡ makes d c
  made-so d c (met_in.captures w o n) q = absurd (nothing-in c q)
  made-so d c (met_in.makes w k) q = bool_cases (λ b. nat_eq w d ≡ b → Contains (cond b (k ∷ []) []) c → makes w k ≡ makes d c) (nat_eq w d)
      (λ e s r. by_either (λ t. ap (λ x. makes x k) (eqb-true w d e) ∙ ap (makes d) t) (λ t. absurd (nothing-in c t)) (contains-cases k c [] r))
      (λ e s r. absurd (nothing-in c r)) refl q
  made-so d c (met_in.stands e s) q = absurd (nothing-in c q)
  made-so d c (met_in.stands_behind_new e s word t es) q = absurd (nothing-in c q)

  so-made : (d c : ℕ) → Contains (class_made p met round d (makes d c)) c
  so-made d c = subst (λ b. Contains (cond b (c ∷ []) []) c) (sym (eq-eqb d d refl)) (contains-here c [])

  module _ (a b c u : Users) (none : (x : ℕ) → users_of a x ≡ []) (whole : length a.lists.items ≡ length p.source.sites)
      (rounds : Adds (IsRound p (length p.source.sites)) a b) (belows : Adds (IsBelow p (length p.source.sites)) b c) (makers : Adds (IsMaker met) c u) where
    abbrev inside : ℕ → List ℕ
    inside d = filter (is_directly_in p met round d) (below (length p.source.sites))

    abbrev made : ℕ → List ℕ
    made d = flat_map (class_made p met round d) met

    abbrev above : ℕ → List ℕ
    above d = flat_map (class_of_type p met round) (supers_of p.heads d)

    by-round : (x d : ℕ) → IsRound p (length p.source.sites) x d → Contains (classes_near p met round d) x
    by-round x d q = in-left (inside d ++ made d) (above d) x (in-left (inside d) (made d) x (in-filter (is_directly_in p met round d) (below (length p.source.sites)) x (in-below (length p.source.sites) x q.0) (is-same d (within (site_at p.source.sites x)) q.1)))

    by-making : (x d : ℕ) → IsMaker met x d → Contains (classes_near p met round d) x
    by-making x d q = in-left (inside d ++ made d) (above d) x (in-right (inside d) (made d) x (in-flat (class_made p met round d) met (makes d x) x q (so-made d x)))

    by-supers : (x d : ℕ) → IsBelow p (length p.source.sites) x d → Contains (classes_near p met round d) x
    by-supers x d q = let w = map-from class_in (supers_of p.heads d) (Some x) q.1 in
        in-right (inside d ++ made d) (above d) x (in-flat (class_of_type p met round) (supers_of p.heads d) w.element x w.there (listed-one (class_in w.element) x w.is))

    pub all_only : (x d : ℕ) → Contains (users_of u x) d → Contains (classes_near p met round d) x
    all_only x d q = by_either
        (λ r. by_either (λ s. by_either (λ t. absurd (nothing-in d (subst (λ (l : List ℕ). Contains l d) (none x) t))) (by-round x d) (rounds.only x d s)) (by-supers x d) (belows.only x d r))
        (by-making x d) (makers.only x d q)

    pub all_has : (x d : ℕ) → x < length p.source.sites → d < length p.source.sites → Contains (classes_near p met round d) x → Contains (users_of u x) d
    all_has x d l m q = by_either
        (λ r. by_either
        (λ s. let w = filter-from (is_directly_in p met round d) (below (length p.source.sites)) x s in
        makers.keeps x d (belows.keeps x d (rounds.has x d (subst (λ n. x < n) (sym whole) l) (l, same-is d (within (site_at p.source.sites x)) w.passes))))
        (λ s. let w = flat-from (class_made p met round d) met x s in
        makers.has x d (subst (λ n. x < n) (sym (belows.whole ∙ rounds.whole ∙ whole)) l) (subst (Contains met) (made-so d x w.from w.has) w.there))
        (in-either (inside d) (made d) x r))
        (λ r. let w = flat-from (class_of_type p met round) (supers_of p.heads d) x r in
        makers.keeps x d (belows.has x d (subst (λ n. x < n) (sym (rounds.whole ∙ whole)) l)
        (m, subst (Contains (map class_in (supers_of p.heads d))) (one-listed (class_in w.from) x w.has) (in-map class_in (supers_of p.heads d) w.from w.there))))
        (in-either (inside d ++ made d) (above d) x q)

pub are_users : (p : Program) (met : List Met) (a b c u : Users) → ((x : ℕ) → users_of a x ≡ []) → length a.lists.items ≡ length p.source.sites →
    Adds (IsRound p (length p.source.sites)) a b → Adds (IsBelow p (length p.source.sites)) b c → Adds (IsMaker met) c u → AreUsers p met u
are_users p met a b c u none whole rounds belows makers = record {
  only = λ round x d q. all_only p met round a b c u none whole rounds belows makers x d q;
  has = λ round x d l m q. all_has p met round a b c u none whole rounds belows makers x d l m q;
}
