-- Constant strings in the order of the text.
use Rattle.std.proofs.Common.{◌≡◌, ℕ, List, [], ◌∷◌, Bool, true, false, Ordering, Less, Equal, Greater, map, refl, ap, ◌∙◌, nat_lt, nat_eq}
use Rattle.std.specs.Prelude.{◌||◌, ◌&&◌, if◌then◌else◌}
use Rattle.std.specs.Cmp.{IsTotalOrder}
use Rattle.std.specs.List.Sorted.{IsSortedByKey, IsStableByKey}
use Rattle.std.specs.Ordering.{is_lt, nat_cmp, ordering_then}
use Rattle.std.proofs.lemmas.Cmp.{nat_cmp_total, on_total, then_total}
use Rattle.std.proofs.lemmas.List.Sorted.{ranks_by}
use Rattle.class_typing.specs.Texts.{in_order, inserted, stands_before}
use Rattle.program_tables.specs.declared.found.Found.{Found}
use Rattle.program_tables.specs.way.Seen.{found_seen}
use Rattle.program_tables.proofs.Orders.{put, put_all, sorted_is}

abbrev pub key_of : Found → ℕ × ℕ
key_of f = (f.span.file, f.span.start)

abbrev pub key_cmp : ℕ × ℕ → ℕ × ℕ → Ordering
key_cmp x y = ordering_then (nat_cmp x.0 y.0) (nat_cmp x.1 y.1)

total : IsTotalOrder key_cmp
total = then_total (on_total (λ (x : ℕ × ℕ). x.0) nat_cmp_total) (on_total (λ (x : ℕ × ℕ). x.1) nat_cmp_total)

abbrev is_before : Found → Found → Bool
is_before f g = is_lt (key_cmp (key_of f) (key_of g))

before-is : (f g : Found) → is_before f g ≡ stands_before f.span g.span
before-is f g = by (nat_lt f.span.file g.span.file) (nat_eq f.span.file g.span.file) (nat_lt f.span.start g.span.start) (nat_eq f.span.start g.span.start)
  where
    one : Bool → Bool → Ordering
    one b c = if b then Less else (if c then Equal else Greater)

    by : (a b c d : Bool) → is_lt (ordering_then (one a b) (one c d)) ≡ (a || (b && c))
    by true b c d = refl
    by false false c d = refl
    by false true true d = refl
    by false true false true = refl
    by false true false false = refl

put-is : (f : Found) (gs : List Found) → map found_seen (put is_before f gs) ≡ inserted (found_seen f) (map found_seen gs)
put-is f [] = refl
put-is f (g ∷ gs) =
    ap (λ (b : Bool). map found_seen (if b then g ∷ put is_before f gs else f ∷ g ∷ gs)) (before-is g f)
    ∙ by (stands_before g.span f.span) (put-is f gs)
  where
    by : (b : Bool) → map found_seen (put is_before f gs) ≡ inserted (found_seen f) (map found_seen gs) →
        map found_seen (if b then g ∷ put is_before f gs else f ∷ g ∷ gs)
        ≡ (if b then found_seen g ∷ inserted (found_seen f) (map found_seen gs) else found_seen f ∷ found_seen g ∷ map found_seen gs)
    by true h = ap (λ ts. found_seen g ∷ ts) h
    by false h = refl

all-is : (fs : List Found) → map found_seen (put_all is_before fs) ≡ in_order (map found_seen fs)
all-is [] = refl
all-is (f ∷ fs) = put-is f (put_all is_before fs) ∙ ap (inserted (found_seen f)) (all-is fs)

pub sorted_found : (xs ys : List Found) → IsSortedByKey key_of key_cmp ys → IsStableByKey key_of key_cmp xs ys →
    map found_seen ys ≡ in_order (map found_seen xs)
sorted_found xs ys up s = ap (map found_seen) (sorted_is is_before (ranks_by total key_of) xs ys up s) ∙ all-is xs
