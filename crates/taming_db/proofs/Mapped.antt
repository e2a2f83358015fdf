-- Tests and places in a list whose elements are seen as something else, and in two lists that are seen alike.
use Rattle.std.proofs.Common.{◌≡◌, ℕ, ◌+◌, ◌<◌, List, [], ◌∷◌, map, length, drop, get_or, Bool, not, cond, ◌||◌, Option, Some, None, option_map, slice_get, refl, sym, ap, ◌∙◌}
use Rattle.std.specs.List.{list_any, position, position_or_len}
use Rattle.std.proofs.lemmas.List.{at_drop_more, length-map}
use Rattle.std.proofs.lemmas.Option.{slice_get-map}
use Rattle.taming_db.specs.Rows.{has_twice}

pub any_seen : {X Y : Type 0} (p : Y → Bool) (f : X → Y) (xs : List X) → list_any p (map f xs) ≡ list_any (λ x. p (f x)) xs
any_seen p f [] = refl
any_seen p f (x ∷ xs) = ap (λ b. p (f x) || b) (any_seen p f xs)

pub same_map : {X : Type 0} (xs : List X) → map (λ x. x) xs ≡ xs
same_map [] = refl
same_map (x ∷ xs) = ap (λ ys. x ∷ ys) (same_map xs)

first_seen : {X Y : Type 0} (p : Y → Bool) (f : X → Y) (xs : List X) → position_or_len p (map f xs) ≡ position_or_len (λ x. p (f x)) xs
first_seen p f [] = refl
first_seen p f (x ∷ xs) = ap (λ (n : ℕ). cond (not (p (f x))) (1 + n) 0) (first_seen p f xs)

pub position_seen : {X Y : Type 0} (p : Y → Bool) (f : X → Y) (xs : List X) → position p (map f xs) ≡ position (λ x. p (f x)) xs
position_seen p f xs = rw (first_seen p f xs, length-map xs f) refl

fused : {X Y Z : Type 0} (h : Y → Z) (f : X → Y) (o : Option X) → option_map h (option_map f o) ≡ option_map (λ x. h (f x)) o
fused h f None = refl
fused h f (Some x) = refl

-- what stands at a place is seen alike
pub seen_at : {X Y Z W : Type 0} (f : X → Z) (g : Y → Z) (h : Z → W) (xs : List X) (ys : List Y) (k : ℕ) → map f xs ≡ map g ys
    → option_map (λ x. h (f x)) (slice_get xs k) ≡ option_map (λ y. h (g y)) (slice_get ys k)
seen_at f g h xs ys k alike =
    sym (fused h f (slice_get xs k))
    ∙ ap (λ o. option_map h o) (sym (slice_get-map f xs k) ∙ ap (λ zs. slice_get zs k) alike ∙ slice_get-map g ys k)
    ∙ fused h g (slice_get ys k)

-- whether something stands twice, from one place on
pub twice_from : {X : Type 0} (same : X → X → Bool) (xs : List X) (i : ℕ) (d : X) → i < length xs
    → has_twice same (drop i xs) ≡ (list_any (λ y. same y (get_or xs i d)) (drop (i + 1) xs) || has_twice same (drop (i + 1) xs))
twice_from same xs i d within = at_drop_more (has_twice same) xs i d within
