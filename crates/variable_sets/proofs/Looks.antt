-- Lists of exits, by what is before each way.
use Rattle.std.proofs.Common.{◌≡◌, Bool, true, false, ◌&&◌, ◌||◌, List, [], ◌∷◌, ◌++◌, if◌then◌else◌, refl, ap, sym, ◌∙◌, subst, append-nil}
use Rattle.flow_base.specs.declared.jumps.Way.{Way}
use Rattle.variable_sets.specs.declared.exits.Exit.{Exit}
use Rattle.variable_sets.specs.Sets.{Set, everything, both, either}
use Rattle.variable_sets.specs.SetView.{set_view}
use Rattle.flow_base.specs.Ways.{same_way}
use Rattle.flow_base.proofs.SameWays.{same_way_true}
use Rattle.variable_sets.specs.ExitSets.{no_exits, exit_by, met, beyond, gaining, limited}
use Rattle.variable_sets.specs.way.Lists.{look, others, there, exits_of, Each}

pub and_true : (a : Bool) → (a && true) ≡ a
and_true true = refl
and_true false = refl

pub and_assoc : (a b c : Bool) → ((a && b) && c) ≡ (a && (b && c))
and_assoc true b c = refl
and_assoc false b c = refl

pub both_everything : (a : Set) → both a everything ≡ a
unfolding both everything
both_everything a = λ i. record { has = λ v. and_true (a.has v) i }

pub everything_both : (a : Set) → both everything a ≡ a
unfolding both everything
everything_both a = refl

pub both_assoc : (a b c : Set) → both (both a b) c ≡ both a (both b c)
unfolding both
both_assoc a b c = λ i. record { has = λ v. and_assoc (a.has v) (b.has v) (c.has v) i }

-- what is before the first exit may be taken last
pub look_both : (xs : List Exit) (a : Set) (w : Way) → look a xs w ≡ both a (look everything xs w)
look_both [] a w = sym (both_everything a)
look_both (x ∷ xs) a w =
    elim (same_way x.way w) as (λ t. look (if t then both a (set_view x.before) else a) xs w ≡ both a (look (if t then both everything (set_view x.before) else everything) xs w)) [
      | true ↦
          look_both xs (both a (set_view x.before)) w
          ∙ both_assoc a (set_view x.before) (look everything xs w)
          ∙ ap (both a) (sym (look_both xs (set_view x.before) w) ∙ ap (λ (s : Set). look s xs w) (sym (everything_both (set_view x.before))))
      | false ↦ look_both xs a w
    ]

look_append : (xs ys : List Exit) (a : Set) (w : Way) → look a (xs ++ ys) w ≡ look (look a xs w) ys w
look_append [] ys a w = refl
look_append (x ∷ xs) ys a w = look_append xs ys (if same_way x.way w then both a (set_view x.before) else a) w

pub exits_none : (xs : List Exit) → xs ≡ [] → exits_of xs ≡ no_exits
unfolding exits_of no_exits
exits_none xs h = λ i. record { by = λ w. look everything (h i) w; is_there = λ w. there (h i) w }

pub exits_one : (xs : List Exit) (x : Exit) → xs ≡ x ∷ [] → exits_of xs ≡ exit_by x.way (set_view x.before)
unfolding exits_of exit_by both everything
exits_one xs x h = λ i. record { by = λ w. look everything (h i) w; is_there = λ w. there (h i) w }

there_append : (xs ys : List Exit) (w : Way) → there (xs ++ ys) w ≡ (there xs w || there ys w)
there_append [] ys w = refl
there_append (x ∷ xs) ys w =
    elim (same_way x.way w) as (λ t. (if t then true else there (xs ++ ys) w) ≡ ((if t then true else there xs w) || there ys w)) [
      | true ↦ refl
      | false ↦ there_append xs ys w
    ]

pub exits_met : (xs ys zs : List Exit) → zs ≡ xs ++ ys → exits_of zs ≡ met (exits_of xs) (exits_of ys)
unfolding exits_of met
exits_met xs ys zs h = λ i. record {
  by = λ w. (ap (λ (l : List Exit). look everything l w) h ∙ look_append xs ys everything w ∙ look_both ys (look everything xs w) w) i;
  is_there = λ w. (ap (λ (l : List Exit). there l w) h ∙ there_append xs ys w) i;
}

left_here : (x : Exit) (xs : List Exit) (a : Set) (w : Way) (t : Bool) → same_way x.way w ≡ t → look a (others w xs) w ≡ a → look a (if t then others w xs else x ∷ others w xs) w ≡ a
left_here x xs a w true h e = e
left_here x xs a w false h e = subst (λ (t : Bool). look (if t then both a (set_view x.before) else a) (others w xs) w ≡ a) (sym h) e

-- behind its own filter no exit by that way is left
none_left : (xs : List Exit) (a : Set) (w : Way) → look a (others w xs) w ≡ a
none_left [] a w = refl
none_left (x ∷ xs) a w = left_here x xs a w (same_way x.way w) refl (none_left xs a w)

-- and those by another way are
other_here : (x : Exit) (xs : List Exit) (a : Set) (w v : Way) (t : Bool) → same_way x.way w ≡ t → same_way w v ≡ false →
    ((b : Set) → look b (others w xs) v ≡ look b xs v) → look a (if t then others w xs else x ∷ others w xs) v ≡ look (if same_way x.way v then both a (set_view x.before) else a) xs v
other_here x xs a w v true h n e =
    subst (λ (t : Bool). look a (others w xs) v ≡ look (if t then both a (set_view x.before) else a) xs v) (sym (ap (λ (u : Way). same_way u v) (same_way_true x.way w h) ∙ n)) (e a)
other_here x xs a w v false h n e = e (if same_way x.way v then both a (set_view x.before) else a)

others_left : (xs : List Exit) (a : Set) (w v : Way) → same_way w v ≡ false → look a (others w xs) v ≡ look a xs v
others_left [] a w v n = refl
others_left (x ∷ xs) a w v n = other_here x xs a w v (same_way x.way w) refl n (λ b. others_left xs b w v n)

beyond_at : (xs : List Exit) (w v : Way) (t : Bool) → same_way w v ≡ t → look everything (others w xs) v ≡ (if t then everything else look everything xs v)
beyond_at xs w v true h = subst (λ (u : Way). look everything (others w xs) u ≡ everything) (same_way_true w v h) (none_left xs everything w)
beyond_at xs w v false h = others_left xs everything w v h

-- behind its own filter no exit by that way is there, and those by another way are
there_here : (x : Exit) (xs : List Exit) (w : Way) (t : Bool) → same_way x.way w ≡ t → there (others w xs) w ≡ false → there (if t then others w xs else x ∷ others w xs) w ≡ false
there_here x xs w true h e = e
there_here x xs w false h e = subst (λ (t : Bool). (if t then true else there (others w xs) w) ≡ false) (sym h) e

none_there : (xs : List Exit) (w : Way) → there (others w xs) w ≡ false
none_there [] w = refl
none_there (x ∷ xs) w = there_here x xs w (same_way x.way w) refl (none_there xs w)

other_there : (x : Exit) (xs : List Exit) (w v : Way) (t : Bool) → same_way x.way w ≡ t → same_way w v ≡ false →
    there (others w xs) v ≡ there xs v → there (if t then others w xs else x ∷ others w xs) v ≡ (if same_way x.way v then true else there xs v)
other_there x xs w v true h n e =
    subst (λ (t : Bool). there (others w xs) v ≡ (if t then true else there xs v)) (sym (ap (λ (u : Way). same_way u v) (same_way_true x.way w h) ∙ n)) e
other_there x xs w v false h n e = ap (λ (t : Bool). if same_way x.way v then true else t) e

others_there : (xs : List Exit) (w v : Way) → same_way w v ≡ false → there (others w xs) v ≡ there xs v
others_there [] w v n = refl
others_there (x ∷ xs) w v n = other_there x xs w v (same_way x.way w) refl n (others_there xs w v n)

there_beyond : (xs : List Exit) (w v : Way) (t : Bool) → same_way w v ≡ t → there (others w xs) v ≡ (if t then false else there xs v)
there_beyond xs w v true h = subst (λ (u : Way). there (others w xs) u ≡ false) (same_way_true w v h) (none_there xs w)
there_beyond xs w v false h = others_there xs w v h

pub exits_beyond : (w : Way) (xs ys : List Exit) → ys ≡ others w xs → exits_of ys ≡ beyond w (exits_of xs)
unfolding exits_of beyond
exits_beyond w xs ys h = λ i. record {
  by = λ v. (ap (λ (l : List Exit). look everything l v) h ∙ beyond_at xs w v (same_way w v) refl) i;
  is_there = λ v. (ap (λ (l : List Exit). there l v) h ∙ there_beyond xs w v (same_way w v) refl) i;
}

-- a filter takes one more item at the end
others_append : (w : Way) (xs ys : List Exit) → others w (xs ++ ys) ≡ others w xs ++ others w ys
others_append w [] ys = refl
others_append w (x ∷ xs) ys =
    elim (same_way x.way w) as (λ t. (if t then others w (xs ++ ys) else x ∷ others w (xs ++ ys)) ≡ (if t then others w xs else x ∷ others w xs) ++ others w ys) [
      | true ↦ others_append w xs ys
      | false ↦ ap (λ (l : List Exit). x ∷ l) (others_append w xs ys)
    ]

pub others_taken : (w : Way) (xs : List Exit) (x : Exit) → same_way x.way w ≡ true → others w (xs ++ x ∷ []) ≡ others w xs
others_taken w xs x h = others_append w xs (x ∷ []) ∙ ap (λ (t : Bool). others w xs ++ (if t then [] else x ∷ [])) h ∙ append-nil (others w xs)

pub others_kept : (w : Way) (xs : List Exit) (x : Exit) → same_way x.way w ≡ false → others w (xs ++ x ∷ []) ≡ others w xs ++ x ∷ []
others_kept w xs x h = others_append w xs (x ∷ []) ∙ ap (λ (t : Bool). others w xs ++ (if t then [] else x ∷ [])) h

or_and : (a b c : Bool) → ((a && b) || c) ≡ ((a || c) && (b || c))
or_and true b true = refl
or_and true b false = refl
or_and false true true = refl
or_and false false true = refl
or_and false true false = refl
or_and false false false = refl

pub either_both : (a b c : Set) → either (both a b) c ≡ both (either a c) (either b c)
unfolding both either
either_both a b c = λ i. record { has = λ v. or_and (a.has v) (b.has v) (c.has v) i }

-- what is done to the set before each exit keeps the ways
there_each : (f : Set → Set) (xs ys : List Exit) (w : Way) → Each f xs ys → there ys w ≡ there xs w
there_each f [] [] w h = refl
there_each f [] (y ∷ ys) w h = absurd h
there_each f (x ∷ xs) [] w h = absurd h
there_each f (x ∷ xs) (y ∷ ys) w h =
    ap (λ (v : Way). if same_way v w then true else there ys w) h.0 ∙ ap (λ (t : Bool). if same_way x.way w then true else t) (there_each f xs ys w h.2)

look_gaining : (g : Set) (xs ys : List Exit) (a : Set) (w : Way) → Each (λ s. either s g) xs ys → look (either a g) ys w ≡ either (look a xs w) g
look_gaining g [] [] a w h = refl
look_gaining g [] (y ∷ ys) a w h = absurd h
look_gaining g (x ∷ xs) [] a w h = absurd h
look_gaining g (x ∷ xs) (y ∷ ys) a w h =
    ap (λ (v : Way). look (if same_way v w then both (either a g) (set_view y.before) else either a g) ys w) h.0
    ∙ elim (same_way x.way w) as (λ t. look (if t then both (either a g) (set_view y.before) else either a g) ys w ≡ either (look (if t then both a (set_view x.before) else a) xs w) g) [
      | true ↦
          ap (λ (s : Set). look s ys w) (ap (both (either a g)) h.1 ∙ sym (either_both a (set_view x.before) g))
          ∙ look_gaining g xs ys (both a (set_view x.before)) w h.2
      | false ↦ look_gaining g xs ys a w h.2
    ]

pub everything_or : (g : Set) → either everything g ≡ everything
unfolding everything either
everything_or g = refl

pub exits_gaining : (g : Set) (xs ys : List Exit) → Each (λ s. either s g) xs ys → exits_of ys ≡ gaining g (exits_of xs)
unfolding exits_of gaining
exits_gaining g xs ys h = λ i. record {
  by = λ w. (ap (λ (s : Set). look s ys w) (sym (everything_or g)) ∙ look_gaining g xs ys everything w h) i;
  is_there = λ w. there_each (λ s. either s g) xs ys w h i;
}

limit_more : (s g l : Bool) → ((s && g) && (l && g)) ≡ ((s && l) && g)
limit_more true true l = refl
limit_more true false true = refl
limit_more true false false = refl
limit_more false g l = refl

limit_last : (s g l : Bool) → ((s && g) && l) ≡ ((s && l) && g)
limit_last true true true = refl
limit_last true true false = refl
limit_last true false true = refl
limit_last true false false = refl
limit_last false g l = refl

-- one exit more, of which only what is in g counts, before others
limit_step : (t : Bool) (s g l : Set) → both (both s g) (if t then both l g else l) ≡ both (both s l) g
unfolding both
limit_step true s g l = λ i. record { has = λ v. limit_more (s.has v) (g.has v) (l.has v) i }
limit_step false s g l = λ i. record { has = λ v. limit_last (s.has v) (g.has v) (l.has v) i }

look_limited : (g : Set) (xs ys : List Exit) (w : Way) → Each (λ s. both s g) xs ys → look everything ys w ≡ (if there xs w then both (look everything xs w) g else look everything xs w)
look_limited g [] [] w h = refl
look_limited g [] (y ∷ ys) w h = absurd h
look_limited g (x ∷ xs) [] w h = absurd h
look_limited g (x ∷ xs) (y ∷ ys) w h =
    ap (λ (v : Way). look (if same_way v w then both everything (set_view y.before) else everything) ys w) h.0
    ∙ elim (same_way x.way w) as (λ t. look (if t then both everything (set_view y.before) else everything) ys w ≡ (if (if t then true else there xs w) then both (look (if t then both everything (set_view x.before) else everything) xs w) g else look (if t then both everything (set_view x.before) else everything) xs w)) [
      | true ↦
          ap (λ (s : Set). look s ys w) (everything_both (set_view y.before) ∙ h.1)
          ∙ look_both ys (both (set_view x.before) g) w
          ∙ ap (both (both (set_view x.before) g)) (look_limited g xs ys w h.2)
          ∙ limit_step (there xs w) (set_view x.before) g (look everything xs w)
          ∙ ap (λ (s : Set). both s g) (sym (ap (λ (s : Set). look s xs w) (everything_both (set_view x.before)) ∙ look_both xs (set_view x.before) w))
      | false ↦ look_limited g xs ys w h.2
    ]

pub exits_limited : (g : Set) (xs ys : List Exit) → Each (λ s. both s g) xs ys → exits_of ys ≡ limited g (exits_of xs)
unfolding exits_of limited
exits_limited g xs ys h = λ i. record {
  by = λ w. look_limited g xs ys w h i;
  is_there = λ w. there_each (λ s. both s g) xs ys w h i;
}

pub each_append : (f : Set → Set) (xs ys : List Exit) (x y : Exit) → Each f xs ys → y.way ≡ x.way → set_view y.before ≡ f (set_view x.before) → Each f (xs ++ x ∷ []) (ys ++ y ∷ [])
each_append f [] [] x y h w b = (w, b, tt)
each_append f [] (z ∷ ys) x y h w b = absurd h
each_append f (z ∷ xs) [] x y h w b = absurd h
each_append f (z ∷ xs) (u ∷ ys) x y h w b = (h.0, h.1, each_append f xs ys x y h.2 w b)
