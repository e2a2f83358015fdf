-- One element more of a list that is tested in order, and types that are left where there are no more to compare with.
use Rattle.std.proofs.Common.{◌≡◌, ℕ, zero, suc, ◌+◌, ◌-◌, ◌<◌, List, [], ◌∷◌, length, get_or, drop, take, map, refl, sym, ap, ◌∙◌, arith}
use Rattle.std.specs.Prelude.{Bool, false, ◌&&◌}
use Rattle.std.specs.List.{list_all}
use Rattle.std.proofs.lemmas.List.{drop_more}
use Rattle.je_core.specs.declared.program.Field.{Field}
use Rattle.je_core.specs.declared.types.Ty.{Ty}
use Rattle.je_core.specs.View.{field_view}
use Rattle.je_fitting.specs.Classes.{is_hidden, same_places}

pub all_more : {A B : Type 0} (see : A → B) (test : B → Bool) (xs : List A) (i : ℕ) (x : A) → i < length xs →
    x ≡ get_or xs i x →
    list_all test (map see (drop i xs)) ≡ (test (see x) && list_all test (map see (drop (i + 1) xs)))
all_more {A = A} see test xs i x l e =
    ap (λ (ys : List A). list_all test (map see ys)) (drop_more xs i x l)
    ∙ ap (λ (y : A). test (see y) && list_all test (map see (drop (i + 1) xs))) (sym e)

pub begin_more : (fs : List Field) (n i : ℕ) (f : Field) → i < length fs → f ≡ get_or fs i f → 0 < n →
    list_all is_hidden (take n (map field_view (drop i fs))) ≡
    (is_hidden (field_view f) && list_all is_hidden (take (n - 1) (map field_view (drop (i + 1) fs))))
begin_more fs zero i f l e h = absurd (omega arith)
begin_more fs (suc n) i f l e h =
    let s : n ≡ suc n - 1 = omega arith in
    ap (λ (ys : List Field). list_all is_hidden (take (suc n) (map field_view ys))) (drop_more fs i f l)
    ∙ ap (λ (g : Field). is_hidden (field_view g) && list_all is_hidden (take n (map field_view (drop (i + 1) fs)))) (sym e)
    ∙ ap (λ (k : ℕ). is_hidden (field_view f) && list_all is_hidden (take k (map field_view (drop (i + 1) fs)))) s

pub none_left : (xs ys : List Ty) (i : ℕ) → i < length xs → length ys ≡ 0 → same_places (drop i xs) ys ≡ false
none_left [] ys i l e = absurd (omega arith)
none_left (x ∷ xs) (y ∷ ys) i l e = absurd (omega arith)
none_left (x ∷ xs) [] zero l e = refl
none_left (x ∷ xs) [] (suc i) l e = none_left xs [] i (omega arith) refl
