-- Lists of ways, by which ways they have.
use Rattle.std.proofs.Common.{◌≡◌, Bool, true, false, ◌||◌, List, [], ◌∷◌, ◌++◌, if◌then◌else◌, refl, ap, sym, ◌∙◌, subst}
use Rattle.flow_base.specs.declared.jumps.Way.{Way}
use Rattle.flow_base.specs.Ways.{same_way}
use Rattle.flow_base.proofs.SameWays.{same_way_true}
use Rattle.reachability.specs.Jumps.{no_jumps, jump_where, joined, beyond, any_by, others, jumps_of}

or_assoc : (a b c : Bool) → ((a || b) || c) ≡ (a || (b || c))
or_assoc true b c = refl
or_assoc false b c = refl

or_false : (a : Bool) → (a || false) ≡ a
or_false true = refl
or_false false = refl

any_append : (xs ys : List Way) (v : Way) → any_by (xs ++ ys) v ≡ (any_by xs v || any_by ys v)
any_append [] ys v = refl
any_append (x ∷ xs) ys v = ap (λ b. same_way x v || b) (any_append xs ys v) ∙ sym (or_assoc (same_way x v) (any_by xs v) (any_by ys v))

pub jumps_none : (xs : List Way) → xs ≡ [] → jumps_of xs ≡ no_jumps
unfolding jumps_of no_jumps
jumps_none xs h = λ i. record { by = λ v. any_by (h i) v }

pub jumps_one : (xs : List Way) (w : Way) → xs ≡ w ∷ [] → jumps_of xs ≡ jump_where true w
unfolding jumps_of jump_where
jumps_one xs w h = λ i. record { by = λ v. (ap (λ (l : List Way). any_by l v) h ∙ or_false (same_way w v)) i }

pub not_reached : (w : Way) (r : Bool) → r ≡ false → no_jumps ≡ jump_where r w
unfolding no_jumps jump_where
not_reached w r h = ap (λ (b : Bool). jump_where b w) (sym h)

pub jumps_joined : (xs ys zs : List Way) → zs ≡ xs ++ ys → jumps_of zs ≡ joined (jumps_of xs) (jumps_of ys)
unfolding jumps_of joined
jumps_joined xs ys zs h = λ i. record { by = λ v. (ap (λ (l : List Way). any_by l v) h ∙ any_append xs ys v) i }

none_here : (x : Way) (xs : List Way) (w : Way) (t : Bool) → same_way x w ≡ t → any_by (others w xs) w ≡ false → any_by (if t then others w xs else x ∷ others w xs) w ≡ false
none_here x xs w true h e = e
none_here x xs w false h e = subst (λ (t : Bool). (t || any_by (others w xs) w) ≡ false) (sym h) e

none_left : (xs : List Way) (w : Way) → any_by (others w xs) w ≡ false
none_left [] w = refl
none_left (x ∷ xs) w = none_here x xs w (same_way x w) refl (none_left xs w)

other_here : (x : Way) (xs : List Way) (w v : Way) (t : Bool) → same_way x w ≡ t → same_way w v ≡ false → any_by (others w xs) v ≡ any_by xs v → any_by (if t then others w xs else x ∷ others w xs) v ≡ (same_way x v || any_by xs v)
other_here x xs w v true h n e = e ∙ ap (λ b. b || any_by xs v) (sym (ap (λ (u : Way). same_way u v) (same_way_true x w h) ∙ n))
other_here x xs w v false h n e = ap (λ b. same_way x v || b) e

others_left : (xs : List Way) (w v : Way) → same_way w v ≡ false → any_by (others w xs) v ≡ any_by xs v
others_left [] w v n = refl
others_left (x ∷ xs) w v n = other_here x xs w v (same_way x w) refl n (others_left xs w v n)

beyond_at : (xs : List Way) (w v : Way) (t : Bool) → same_way w v ≡ t → any_by (others w xs) v ≡ (if t then false else any_by xs v)
beyond_at xs w v true h = subst (λ (u : Way). any_by (others w xs) u ≡ false) (same_way_true w v h) (none_left xs w)
beyond_at xs w v false h = others_left xs w v h

pub jumps_beyond : (w : Way) (xs ys : List Way) → ys ≡ others w xs → jumps_of ys ≡ beyond w (jumps_of xs)
unfolding jumps_of beyond
jumps_beyond w xs ys h = λ i. record { by = λ v. (ap (λ (l : List Way). any_by l v) h ∙ beyond_at xs w v (same_way w v) refl) i }
