-- Reading and writing a row through its pages.
use Rattle.std.proofs.Common.{◌≡◌, ◌<◌, ◌≤◌, ◌+◌, ◌*◌, ◌-◌, ℕ, zero, suc, List, [], ◌∷◌, ◌++◌, length, take, drop, Option, Some, None, refl, sym, ◌∙◌, ap, subst, arith}
use Rattle.std.specs.Prelude.{◌/◌, ◌%◌, slice_get, slice_set, slice_index_or}
use Rattle.std.proofs.Math.Nat.{div-add-mod, mod-lt}
use Rattle.std.proofs.Math.Seq.{drop-append-add, take-append-add, take-append_seam, drop-append_seam}
use Rattle.std.proofs.Math.ListN.{drop_of_length-le}
use Rattle.std.proofs.lemmas.List.{length-append, set-append_left, set-append_right, length-set, append_assoc, append-nil, take-append-le, drop-append-le}
use Rattle.std.proofs.lemmas.Option.{none-some, same_Some, slice_get_within, slice_get_read}
use Rattle.je_pages.specs.Paging.{page_length, page_of}
use Rattle.je_pages.specs.way.Laid.{row_of, AreFull}

-- ---- lists

get-left : {A : Type 0} (xs ys : List A) (n : ℕ) → n < length xs → slice_get (xs ++ ys) n ≡ slice_get xs n
get-left [] ys n lt = absurd (omega arith)
get-left (x ∷ xs) ys zero lt = refl
get-left (x ∷ xs) ys (suc n) lt = get-left xs ys n (omega arith)

get-right : {A : Type 0} (xs ys : List A) (n m : ℕ) → m ≡ length xs + n → slice_get (xs ++ ys) m ≡ slice_get ys n
get-right [] ys n m e = let at : m ≡ n = omega arith in rw at refl
get-right (x ∷ xs) ys n zero e = absurd (omega arith)
get-right (x ∷ xs) ys n (suc m) e = get-right xs ys n m (omega arith)

get-none : {A : Type 0} (xs : List A) (n : ℕ) → slice_get xs n ≡ None → length xs ≤ n
get-none [] n e = omega arith
get-none (x ∷ xs) zero e = absurd (none-some x (sym e))
get-none (x ∷ xs) (suc n) e = let h = get-none xs n e in omega arith

take-all : {A : Type 0} (xs : List A) (n : ℕ) → length xs ≤ n → take n xs ≡ xs
take-all [] zero le = refl
take-all [] (suc n) le = refl
take-all (x ∷ xs) zero le = absurd (omega arith)
take-all (x ∷ xs) (suc n) le = ap (λ t. x ∷ t) (take-all xs n (omega arith))

take-short : {A : Type 0} (xs : List A) (n m : ℕ) → length xs ≤ m → length (take n xs) ≤ m
take-short [] zero m le = le
take-short [] (suc n) m le = le
take-short (x ∷ xs) zero m le = omega arith
take-short (x ∷ xs) (suc n) zero le = absurd (omega arith)
take-short (x ∷ xs) (suc n) (suc m) le = let h = take-short xs n m (omega arith) in omega arith

drop-behind : {A : Type 0} (xs ys : List A) (n m : ℕ) → n ≡ length xs + m → drop n (xs ++ ys) ≡ drop m ys
drop-behind xs ys n m e = rw e (drop-append-add xs ys m)

take-behind : {A : Type 0} (xs ys : List A) (n m : ℕ) → n ≡ length xs + m → take n (xs ++ ys) ≡ xs ++ take m ys
take-behind xs ys n m e = rw e (take-append-add xs ys m)

take-front : {A : Type 0} (xs ys : List A) (n : ℕ) → n ≡ length xs → take n (xs ++ ys) ≡ xs
take-front xs ys n e = rw e (take-append_seam xs ys)

drop-front : {A : Type 0} (xs ys : List A) (n : ℕ) → n ≡ length xs → drop n (xs ++ ys) ≡ ys
drop-front xs ys n e = rw e (drop-append_seam xs ys)

-- ---- reading

pub row-length : {A : Type 0} (ps : List (List A)) → AreFull ps → length (row_of ps) ≡ 4096 * length ps
row-length [] f = refl
row-length (p ∷ ps) f =
    let h = row-length ps f.1 in
    let l = length-append p (row_of ps) in
    let e = f.0 in omega arith

get-page : {A : Type 0} (ps : List (List A)) (ys : List A) (k r n : ℕ) (p : List A) → AreFull ps → slice_get ps k ≡ Some p → r < 4096 → n ≡ 4096 * k + r →
    slice_get (row_of ps ++ ys) n ≡ slice_get p r
get-page [] ys k r n p f e lt m = absurd (none-some p e)
get-page (q ∷ ps) ys zero r n p f e lt m =
    let same = same_Some q p e in
    let l = length-append q (row_of ps) in
    let full = f.0 in
    let at : n ≡ r = omega arith in
    rw at (rw (sym same) (get-left (q ++ row_of ps) ys r (omega arith) ∙ get-left q (row_of ps) r (omega arith)))
get-page (q ∷ ps) ys (suc k) r n p f e lt m =
    let full = f.0 in
    rw (append_assoc q (row_of ps) ys) (get-right q (row_of ps ++ ys) (n - 4096) n (omega arith) ∙ get-page ps ys k r (n - 4096) p f.1 e lt (omega arith))

-- a page by its number, as an index gives it
page-read : {A : Type 0} (ps : List (List A)) (k : ℕ) (p : List A) → k < length ps → p ≡ slice_index_or ps k p → slice_get ps k ≡ Some p
page-read ps k p lt e = slice_get_read ps (length ps) k p refl lt e

pub on_page : {A : Type 0} (ps : List (List A)) (ys : List A) (n : ℕ) {p : List A} → AreFull ps → n / 4096 < length ps → p ≡ slice_index_or ps (n / 4096) p →
    slice_get p (n % 4096) ≡ slice_get (row_of ps ++ ys) n
on_page ps ys n f lt e =
    let small : n % 4096 < 4096 = mod-lt n (omega arith) in
    sym (get-page ps ys (n / 4096) (n % 4096) n _ f (page-read ps (n / 4096) _ lt e) small (sym (div-add-mod n 4096)))

pub on_last : {A : Type 0} (ps : List (List A)) (ys : List A) (n : ℕ) → AreFull ps → length ps ≤ n / 4096 →
    slice_get ys (n - length ps * 4096) ≡ slice_get (row_of ps ++ ys) n
on_last ps ys n f past =
    let d = div-add-mod n 4096 in
    let l = row-length ps f in
    sym (get-right (row_of ps) ys (n - length ps * 4096) n (omega arith))

-- ---- writing

set-page : {A : Type 0} (ps : List (List A)) (ys : List A) (k r n : ℕ) (p : List A) (v : A) → AreFull ps → slice_get ps k ≡ Some p → r < 4096 → n ≡ 4096 * k + r →
    slice_set (row_of ps ++ ys) n v ≡ row_of (slice_set ps k (slice_set p r v)) ++ ys
set-page [] ys k r n p v f e lt m = absurd (none-some p e)
set-page (q ∷ ps) ys zero r n p v f e lt m =
    let same = same_Some q p e in
    let l = length-append q (row_of ps) in
    let full = f.0 in
    let at : n ≡ r = omega arith in
    rw at (rw (sym same) (set-append_left (q ++ row_of ps) ys r v (omega arith) ∙ ap (λ t. t ++ ys) (set-append_left q (row_of ps) r v (omega arith))))
set-page (q ∷ ps) ys (suc k) r n p v f e lt m =
    let full = f.0 in
    rw (append_assoc q (row_of ps) ys) (set-append_right q (row_of ps ++ ys) 4096 n v full (omega arith) ∙
    (ap (λ t. q ++ t) (set-page ps ys k r (n - 4096) p v f.1 e lt (omega arith)) ∙ sym (append_assoc q (row_of (slice_set ps k (slice_set p r v))) ys)))

pub set_on_page : {A : Type 0} (ps : List (List A)) (ys : List A) (n : ℕ) (v : A) {p : List A} → AreFull ps → n / 4096 < length ps → p ≡ slice_index_or ps (n / 4096) p →
    row_of (slice_set ps (n / 4096) (slice_set p (n % 4096) v)) ++ ys ≡ slice_set (row_of ps ++ ys) n v
set_on_page ps ys n v f lt e =
    let small : n % 4096 < 4096 = mod-lt n (omega arith) in
    sym (set-page ps ys (n / 4096) (n % 4096) n _ v f (page-read ps (n / 4096) _ lt e) small (sym (div-add-mod n 4096)))

pub set_on_last : {A : Type 0} (ps : List (List A)) (ys : List A) (n : ℕ) (v : A) → AreFull ps → length ps ≤ n / 4096 →
    row_of ps ++ slice_set ys (n - length ps * 4096) v ≡ slice_set (row_of ps ++ ys) n v
set_on_last ps ys n v f past =
    let d = div-add-mod n 4096 in
    let l = row-length ps f in
    let at : n - length (row_of ps) ≡ n - length ps * 4096 = omega arith in
    sym (set-append_right (row_of ps) ys (length (row_of ps)) n v refl (omega arith) ∙ ap (λ t. row_of ps ++ slice_set ys t v) at)

full-at : {A : Type 0} (ps : List (List A)) (k : ℕ) (p : List A) → AreFull ps → slice_get ps k ≡ Some p → length p ≡ 4096
full-at [] k p f e = absurd (none-some p e)
full-at (q ∷ ps) zero p f e = rw (sym (same_Some q p e)) f.0
full-at (q ∷ ps) (suc k) p f e = full-at ps k p f.1 e

set-full : {A : Type 0} (ps : List (List A)) (k : ℕ) (q : List A) → AreFull ps → length q ≡ 4096 → AreFull (slice_set ps k q)
set-full [] k q f e = tt
set-full (p ∷ ps) zero q f e = (e, f.1)
set-full (p ∷ ps) (suc k) q f e = (f.0, set-full ps k q f.1 e)

-- pages stay full, where one is written on
pub still_full : {A : Type 0} (ps : List (List A)) (n : ℕ) (v : A) {p : List A} → AreFull ps → n / 4096 < length ps → p ≡ slice_index_or ps (n / 4096) p →
    AreFull (slice_set ps (n / 4096) (slice_set p (n % 4096) v))
still_full ps n v f lt e = set-full ps (n / 4096) _ f (length-set _ (n % 4096) v ∙ full-at ps (n / 4096) _ f (page-read ps (n / 4096) _ lt e))

pub place_on_page : {A : Type 0} (ps : List (List A)) (n : ℕ) {p : List A} → AreFull ps → n / 4096 < length ps → p ≡ slice_index_or ps (n / 4096) p →
    n % 4096 < length p
place_on_page ps n f lt e =
    let small : n % 4096 < 4096 = mod-lt n (omega arith) in
    let l = full-at ps (n / 4096) _ f (page-read ps (n / 4096) _ lt e) in omega arith

pub place_on_last : {A : Type 0} (ps : List (List A)) (ys : List A) (n : ℕ) → AreFull ps → length ps ≤ n / 4096 → n < length (row_of ps ++ ys) →
    n - length ps * 4096 < length ys
place_on_last ps ys n f past lt =
    let d = div-add-mod n 4096 in
    let l = row-length ps f in
    let a = length-append (row_of ps) ys in omega arith

-- ---- one page more

pub full_with : {A : Type 0} (ps : List (List A)) (q : List A) → AreFull ps → length q ≡ 4096 → AreFull (ps ++ q ∷ [])
full_with [] q f e = (e, tt)
full_with (p ∷ ps) q f e = (f.0, full_with ps q f.1 e)

pub row_with : {A : Type 0} (ps : List (List A)) (q : List A) → row_of (ps ++ q ∷ []) ≡ row_of ps ++ q
row_with [] q = append-nil q
row_with (p ∷ ps) q = ap (λ t. p ++ t) (row_with ps q) ∙ sym (append_assoc p (row_of ps) q)

-- the page that is full now stands behind the others, before an empty one
pub turned : {A : Type 0} (ps : List (List A)) (q : List A) → row_of (ps ++ q ∷ []) ++ [] ≡ row_of ps ++ q
turned ps q = append-nil (row_of (ps ++ q ∷ [])) ∙ row_with ps q

pub pushed : {A : Type 0} (ps : List (List A)) (q : List A) (v : A) → row_of (ps ++ q ∷ []) ++ v ∷ [] ≡ (row_of ps ++ q) ++ v ∷ []
pushed ps q v = ap (λ t. t ++ v ∷ []) (row_with ps q)

-- ---- counts and pages

pub counted : {A : Type 0} (ps : List (List A)) (ys : List A) → AreFull ps → length ps * 4096 + length ys ≡ length (row_of ps ++ ys)
counted ps ys f =
    let l = row-length ps f in
    let a = length-append (row_of ps) ys in omega arith

-- what stands from a page on
from-page : {A : Type 0} (ps : List (List A)) (ys : List A) (k n : ℕ) (p : List A) → AreFull ps → slice_get ps k ≡ Some p → n ≡ 4096 * k →
    (zs : List A) × (drop n (row_of ps ++ ys) ≡ p ++ zs)
from-page [] ys k n p f e m = absurd (none-some p e)
from-page (q ∷ ps) ys zero n p f e m =
    let at : n ≡ 0 = omega arith in
    (row_of ps ++ ys, rw at (rw (sym (same_Some q p e)) (append_assoc q (row_of ps) ys)))
from-page (q ∷ ps) ys (suc k) n p f e m =
    let full = f.0 in
    let rest = from-page ps ys k (n - 4096) p f.1 e (omega arith) in
    (rest.0, rw (append_assoc q (row_of ps) ys) (drop-behind q (row_of ps ++ ys) n (n - 4096) (omega arith)) ∙ rest.1)

pub page_there : {A : Type 0} (ps : List (List A)) (ys : List A) (k : ℕ) {p : List A} → AreFull ps → k < length ps → p ≡ slice_index_or ps k p →
    p ≡ page_of (row_of ps ++ ys) k
page_there ps ys k {p} f lt e =
    let there = page-read ps k p lt e in
    let rest = from-page ps ys k (4096 * k) p f there refl in
    sym (ap (take 4096) rest.1 ∙ take-front p rest.0 4096 (sym (full-at ps k p f there)))

pub page_last : {A : Type 0} (ps : List (List A)) (ys : List A) → AreFull ps → length ys ≤ 4096 → ys ≡ page_of (row_of ps ++ ys) (length ps)
page_last ps ys f short = sym (ap (take 4096) (drop-front (row_of ps) ys (4096 * length ps) (sym (row-length ps f))) ∙ take-all ys 4096 short)

pub page_past : {A : Type 0} (ps : List (List A)) (ys : List A) (k : ℕ) → AreFull ps → length ys ≤ 4096 → length ps < k → [] ≡ page_of (row_of ps ++ ys) k
page_past ps ys k f short past =
    let c = counted ps ys f in
    sym (rw (drop_of_length-le (row_of ps ++ ys) {i = 4096 * k} (omega arith)) refl)

-- ---- the front

cut-page : {A : Type 0} (ps : List (List A)) (ys : List A) (k r n : ℕ) (p : List A) → AreFull ps → slice_get ps k ≡ Some p → r < 4096 → n ≡ 4096 * k + r →
    row_of (take k (slice_set ps k [])) ++ take r p ≡ take n (row_of ps ++ ys)
cut-page [] ys k r n p f e lt m = absurd (none-some p e)
cut-page (q ∷ ps) ys zero r n p f e lt m =
    let l = length-append q (row_of ps) in
    let full = f.0 in
    let at : n ≡ r = omega arith in
    sym (rw at (rw (sym (same_Some q p e)) (take-append-le r (q ++ row_of ps) ys (omega arith) ∙ take-append-le r q (row_of ps) (omega arith))))
cut-page (q ∷ ps) ys (suc k) r n p f e lt m =
    let full = f.0 in
    append_assoc q (row_of (take k (slice_set ps k []))) (take r p) ∙
    (ap (λ t. q ++ t) (cut-page ps ys k r (n - 4096) p f.1 e lt (omega arith)) ∙
    sym (rw (append_assoc q (row_of ps) ys) (take-behind q (row_of ps ++ ys) n (n - 4096) (omega arith))))

pub cut_on_page : {A : Type 0} (ps : List (List A)) (ys : List A) (n : ℕ) {p : List A} → AreFull ps → n / 4096 < length ps → p ≡ slice_index_or ps (n / 4096) p →
    row_of (take (n / 4096) (slice_set ps (n / 4096) [])) ++ take (n % 4096) p ≡ take n (row_of ps ++ ys)
cut_on_page ps ys n f lt e =
    let small : n % 4096 < 4096 = mod-lt n (omega arith) in
    cut-page ps ys (n / 4096) (n % 4096) n _ f (page-read ps (n / 4096) _ lt e) small (sym (div-add-mod n 4096))

pub cut_on_last : {A : Type 0} (ps : List (List A)) (ys : List A) (n : ℕ) → AreFull ps → length ps ≤ n / 4096 →
    row_of ps ++ take (n - length ps * 4096) ys ≡ take n (row_of ps ++ ys)
cut_on_last ps ys n f past =
    let d = div-add-mod n 4096 in
    let l = row-length ps f in
    sym (take-behind (row_of ps) ys n (n - length ps * 4096) (omega arith))

-- a part of the front is one of full pages, and of a page that has no more than one can have
pub full_front : {A : Type 0} (ps : List (List A)) (k : ℕ) (q : List A) {front : List (List A)} → front ≡ take k (slice_set ps k q) → AreFull ps → AreFull front
full_front ps k q e f = rw e (front-of ps k q f) where
  front-of : {A : Type 0} (ps : List (List A)) (k : ℕ) (q : List A) → AreFull ps → AreFull (take k (slice_set ps k q))
  front-of [] zero q f = tt
  front-of [] (suc k) q f = tt
  front-of (p ∷ ps) zero q f = tt
  front-of (p ∷ ps) (suc k) q f = (f.0, front-of ps k q f.1)

pub short_front : {A : Type 0} (ps : List (List A)) (k n : ℕ) {p front : List A} → front ≡ take n p → AreFull ps → k < length ps → p ≡ slice_index_or ps k p →
    length front ≤ 4096
short_front ps k n {p} e f lt r =
    let l = full-at ps k p f (page-read ps k p lt r) in
    rw e (take-short p n 4096 (omega arith))

pub rest_on_last : {A : Type 0} (ps : List (List A)) (ys : List A) (n : ℕ) → AreFull ps → n ≤ length (row_of ps ++ ys) → n - length ps * 4096 ≤ length ys
rest_on_last ps ys n f le = let c = counted ps ys f in omega arith

-- ---- one value after another

take-more : {A : Type 0} (xs : List A) (n m : ℕ) (x : A) → m ≡ suc n → slice_get xs n ≡ Some x → take m xs ≡ take n xs ++ x ∷ []
take-more xs n zero x m e = absurd (omega arith)
take-more [] n (suc k) x m e = absurd (none-some x e)
take-more (y ∷ xs) zero (suc k) x m e =
    let none : k ≡ 0 = omega arith in
    rw none (rw (same_Some y x e) refl)
take-more (y ∷ xs) (suc n) (suc k) x m e = ap (λ t. y ∷ t) (take-more xs n k x (omega arith) e)

pub take_next : {A : Type 0} (xs : List A) (n : ℕ) {x : A} → slice_get xs n ≡ Some x → take (n + 1) xs ≡ take n xs ++ x ∷ []
take_next xs n {x} e = take-more xs n (n + 1) x (omega arith) e

-- values, those that stand behind the first of them so far, and one more
pub one_more : {A : Type 0} (front xs : List A) (n : ℕ) {x : A} → slice_get xs n ≡ Some x → (front ++ take n xs) ++ x ∷ [] ≡ front ++ take (n + 1) xs
one_more front xs n {x} e = append_assoc front (take n xs) (x ∷ []) ∙ ap (λ t. front ++ t) (sym (take_next xs n e))

pub all_taken : {A : Type 0} (xs : List A) (n : ℕ) → slice_get xs n ≡ None → n < length xs → ⊥
all_taken xs n e lt = let past = get-none xs n e in omega arith
