-- A sort that keeps the order of what ties is the sort by insertion.
use Rattle.std.proofs.Common.{◌≡◌, ℕ, suc, ◌<◌, ◌≤◌, List, [], ◌∷◌, length, Bool, true, false, refl, sym, ap, ◌∙◌, subst, get_or, arith}
use Rattle.std.specs.Prelude.{filter, if◌then◌else◌}
use Rattle.std.specs.Cmp.{IsStrictWeakOrder}
use Rattle.std.specs.List.Sorted.{IsSortedBy, IsStableBy, ties}
use Rattle.std.proofs.lemmas.List.Sorted.{sorted_far}

module _ {X : Type 0} (lt : X → X → Bool) where
  -- in front of the first that isn't before it
  abbrev pub put : X → List X → List X
  put x [] = x ∷ []
  put x (y ∷ ys) = if lt y x then y ∷ put x ys else x ∷ y ∷ ys

  abbrev pub put_all : List X → List X
  put_all [] = []
  put_all (x ∷ xs) = put x (put_all xs)

  -- none of these is before it
  abbrev pub Least : X → List X → Type 0
  Least x [] = Unit {0}
  Least x (y ∷ ys) = (lt y x ≡ false) × Least x ys

  abbrev pub Ordered : List X → Type 0
  Ordered [] = Unit {0}
  Ordered (x ∷ xs) = Least x xs × Ordered xs

module _ {X : Type 0} (lt : X → X → Bool) (o : IsStrictWeakOrder lt) where
  itself : (x : X) → lt x x ≡ false
  itself x = by (lt x x) refl
    where
      by : (b : Bool) → lt x x ≡ b → lt x x ≡ false
      by true e = o.one_way x x e
      by false e = e

  tie : (x y : X) → lt x y ≡ false → lt y x ≡ false → ties lt x y ≡ true
  tie x y e f = rw (e, f) refl

  before : (x y : X) → ties lt x y ≡ true → lt x y ≡ false
  before x y e = by (lt x y) refl
    where
      by : (b : Bool) → lt x y ≡ b → lt x y ≡ false
      by false f = f
      by true f = let none : false ≡ true = rw f at e in absurd (cc)

  behind : (x y : X) → ties lt x y ≡ true → lt y x ≡ false
  behind x y e = by (lt y x) refl
    where
      by : (b : Bool) → lt y x ≡ b → lt y x ≡ false
      by false f = f
      by true f = let g : lt x y ≡ false = o.one_way y x f in let none : false ≡ true = rw (f, g) at e in absurd (cc)

  -- what ties with one of two doesn't with the other, where one is before the other
  apart : (x y z : X) → lt y x ≡ true → ties lt z y ≡ true → ties lt z x ≡ true → ⊥
  apart x y z e f g =
      let h : lt y x ≡ false = o.chain y z x (behind z y f) (before z x g) in absurd (cc)

  -- ---- the sort by insertion keeps the order of what ties

  stays : (z x : X) (ys : List X) → filter (ties lt z) (put lt x ys) ≡ filter (ties lt z) (x ∷ ys)
  stays z x [] = refl
  stays z x (y ∷ ys) = by (lt y x) refl (ties lt z y) refl (ties lt z x) refl (stays z x ys)
    where
      by : (b : Bool) → lt y x ≡ b → (c : Bool) → ties lt z y ≡ c → (d : Bool) → ties lt z x ≡ d →
          filter (ties lt z) (put lt x ys) ≡ (if ties lt z x then x ∷ filter (ties lt z) ys else filter (ties lt z) ys) →
          filter (ties lt z) (if b then y ∷ put lt x ys else x ∷ y ∷ ys)
          ≡ (if ties lt z x then x ∷ (if ties lt z y then y ∷ filter (ties lt z) ys else filter (ties lt z) ys) else (if ties lt z y then y ∷ filter (ties lt z) ys else filter (ties lt z) ys))
      by false e c f d g h = refl
      by true e true f true g h = absurd (apart x y z e f g)
      by true e true f false g h = rw (f, g) (ap (λ l. y ∷ l) (h ∙ rw g refl))
      by true e false f true g h = rw (f, g) (h ∙ rw g refl)
      by true e false f false g h = rw (f, g) (h ∙ rw g refl)

  stay : (z : X) (xs : List X) → filter (ties lt z) (put_all lt xs) ≡ filter (ties lt z) xs
  stay z [] = refl
  stay z (x ∷ xs) = stays z x (put_all lt xs) ∙ ap (λ l. if ties lt z x then x ∷ l else l) (stay z xs)

  -- ---- and it puts in order

  least-put : (w x : X) (ys : List X) → Least lt w ys → lt x w ≡ false → Least lt w (put lt x ys)
  least-put w x [] l e = (e, tt)
  least-put w x (y ∷ ys) l e = by (lt y x) (least-put w x ys l.1 e)
    where
      by : (b : Bool) → Least lt w (put lt x ys) → Least lt w (if b then y ∷ put lt x ys else x ∷ y ∷ ys)
      by true r = (l.0, r)
      by false r = (e, l)

  lower : (x y : X) (ys : List X) → lt y x ≡ false → Least lt y ys → Least lt x ys
  lower x y [] e l = tt
  lower x y (u ∷ us) e l = (o.chain u y x l.0 e, lower x y us e l.1)

  ordered-put : (x : X) (ys : List X) → Ordered lt ys → Ordered lt (put lt x ys)
  ordered-put x [] d = (tt, tt)
  ordered-put x (y ∷ ys) d = by (lt y x) refl (ordered-put x ys d.1)
    where
      by : (b : Bool) → lt y x ≡ b → Ordered lt (put lt x ys) → Ordered lt (if b then y ∷ put lt x ys else x ∷ y ∷ ys)
      by true e r = (least-put y x ys d.0 (o.one_way y x e), r)
      by false e r = ((e, lower x y ys e d.0), d)

  ordered : (xs : List X) → Ordered lt (put_all lt xs)
  ordered [] = tt
  ordered (x ∷ xs) = ordered-put x (put_all lt xs) (ordered xs)

  -- ---- two lists in order that have the same ties are one

  first-kept : (p : X → Bool) (w z : X) (xs rest : List X) → Least lt w xs → filter p xs ≡ z ∷ rest → lt z w ≡ false
  first-kept p w z [] rest l e = absurd (cc)
  first-kept p w z (x ∷ xs) rest l e = by (p x) e (first-kept p w z xs rest l.1)
    where
      by : (b : Bool) → (if b then x ∷ filter p xs else filter p xs) ≡ z ∷ rest → (filter p xs ≡ z ∷ rest → lt z w ≡ false) → lt z w ≡ false
      by true e r = let same : x ≡ z = cc in subst (λ k. lt k w ≡ false) same l.0
      by false e r = r e

  abbrev Tie : List X → List X → Type 0
  Tie ys zs = (x : X) → filter (ties lt x) ys ≡ filter (ties lt x) zs

  own : (z : X) (zs : List X) → filter (ties lt z) (z ∷ zs) ≡ z ∷ filter (ties lt z) zs
  own z zs = rw (tie z z (itself z) (itself z)) refl

  -- the first of one isn't before the first of the other
  not-before : (y z : X) (ys zs : List X) → Least lt y ys → Tie (y ∷ ys) (z ∷ zs) → lt z y ≡ false
  not-before y z ys zs l t = first-kept (ties lt z) y z (y ∷ ys) (filter (ties lt z) zs) (itself y, l) (t z ∙ own z zs)

  with-tie : (y z : X) (zs : List X) → ties lt y z ≡ true → filter (ties lt y) (z ∷ zs) ≡ z ∷ filter (ties lt y) zs
  with-tie y z zs e = rw e refl

  same-first : (y z : X) (ys zs : List X) → Least lt y ys → Least lt z zs → Tie (y ∷ ys) (z ∷ zs) → y ≡ z
  same-first y z ys zs l m t =
      let e : lt z y ≡ false = not-before y z ys zs l t in
      let f : lt y z ≡ false = not-before z y zs ys m (λ x. sym (t x)) in
      let g : y ∷ filter (ties lt y) ys ≡ z ∷ filter (ties lt y) zs = sym (own y ys) ∙ t y ∙ with-tie y z zs (tie y z f e) in
      cc

  tails : (y z : X) (ys zs : List X) → y ≡ z → Tie (y ∷ ys) (z ∷ zs) → Tie ys zs
  tails y z ys zs e t x = by (ties lt x y) refl (t x)
    where
      by : (b : Bool) → ties lt x y ≡ b → filter (ties lt x) (y ∷ ys) ≡ filter (ties lt x) (z ∷ zs) → filter (ties lt x) ys ≡ filter (ties lt x) zs
      by b f h = go b f (ap (ties lt x) (sym e) ∙ f) h
        where
          go : (b : Bool) → ties lt x y ≡ b → ties lt x z ≡ b → filter (ties lt x) (y ∷ ys) ≡ filter (ties lt x) (z ∷ zs) → filter (ties lt x) ys ≡ filter (ties lt x) zs
          go true f g h = let k : y ∷ filter (ties lt x) ys ≡ z ∷ filter (ties lt x) zs = rw (f, g) at h in cc
          go false f g h = rw (f, g) at h

  one-order : (ys zs : List X) → Ordered lt ys → Ordered lt zs → Tie ys zs → ys ≡ zs
  one-order [] [] d e t = refl
  one-order [] (z ∷ zs) d e t = let h : [] ≡ z ∷ filter (ties lt z) zs = t z ∙ own z zs in absurd (cc)
  one-order (y ∷ ys) [] d e t = let h : [] ≡ y ∷ filter (ties lt y) ys = sym (t y) ∙ own y ys in absurd (cc)
  one-order (y ∷ ys) (z ∷ zs) d e t =
      let s : y ≡ z = same-first y z ys zs d.0 e.0 t in
      (λ i. s i ∷ one-order ys zs d.1 e.1 (tails y z ys zs s t) i)

  -- ---- what a library's sort says

  least-of : (x : X) (xs : List X) → ((j : ℕ) (d : X) → j < length xs → lt (get_or xs j d) x ≡ false) → Least lt x xs
  least-of x [] h = tt
  least-of x (y ∷ ys) h = (h 0 y (omega arith), least-of x ys (λ j d l. h (suc j) d (omega (arith, l))))

  ordered-of : (xs : List X) → ((i j : ℕ) (d : X) → i ≤ j → j < length xs → lt (get_or xs j d) (get_or xs i d) ≡ false) → Ordered lt xs
  ordered-of [] h = tt
  ordered-of (x ∷ xs) h = (
    least-of x xs (λ j d l. h 0 (suc j) d (omega arith) (omega (arith, l))),
    ordered-of xs (λ i j d l m. h (suc i) (suc j) d (omega (arith, l)) (omega (arith, m))),
  )

  pub sorted_is : (xs ys : List X) → IsSortedBy lt ys → IsStableBy lt xs ys → ys ≡ put_all lt xs
  sorted_is xs ys up s =
      one-order ys (put_all lt xs) (ordered-of ys (sorted_far lt o ys up)) (ordered xs) (λ x. s x ∙ sym (stay x xs))
