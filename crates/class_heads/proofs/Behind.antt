-- Classes of a program behind those of the library.
use Rattle.std.proofs.Common.{◌≡◌, ℕ, zero, suc, ◌<◌, ◌≤◌, List, [], ◌∷◌, ◌++◌, drop, length, refl, sym, ap, ◌∙◌, arith}
use Rattle.std.specs.Prelude.{slice_get}
use Rattle.class_heads.specs.View.{behind}
use Rattle.declarations.specs.Declarations.{DeclaredClass}

drop-none : (n : ℕ) → drop {A = DeclaredClass} n [] ≡ []
drop-none zero = refl
drop-none (suc n) = refl

pub count_library : (xs ys : List DeclaredClass) → length ys ≤ length xs → length (behind xs ys) ≡ length xs
count_library [] [] l = refl
count_library [] (y ∷ ys) l = absurd (omega arith)
count_library (x ∷ xs) [] l = ap suc (ap (λ (ks : List DeclaredClass). length (xs ++ ks)) (sym (drop-none (length xs))) ∙ count_library xs [] (omega arith))
count_library (x ∷ xs) (y ∷ ys) l = ap suc (count_library xs ys (omega (arith, l)))

pub count_all : (xs ys : List DeclaredClass) → length xs ≤ length ys → length (behind xs ys) ≡ length ys
count_all [] ys l = refl
count_all (x ∷ xs) [] l = absurd (omega arith)
count_all (x ∷ xs) (y ∷ ys) l = ap suc (count_all xs ys (omega (arith, l)))

pub in_library : (xs ys : List DeclaredClass) (c : ℕ) → c < length xs → slice_get (behind xs ys) c ≡ slice_get xs c
in_library [] ys c l = absurd (omega arith)
in_library (x ∷ xs) ys zero l = refl
in_library (x ∷ xs) [] (suc c) l = ap (λ (ks : List DeclaredClass). slice_get (xs ++ ks) c) (sym (drop-none (length xs))) ∙ in_library xs [] c (omega (arith, l))
in_library (x ∷ xs) (y ∷ ys) (suc c) l = in_library xs ys c (omega (arith, l))

pub in_program : (xs ys : List DeclaredClass) (c : ℕ) → length xs ≤ c → slice_get (behind xs ys) c ≡ slice_get ys c
in_program [] ys c l = refl
in_program (x ∷ xs) ys zero l = absurd (omega arith)
in_program (x ∷ xs) [] (suc c) l = ap (λ (ks : List DeclaredClass). slice_get (xs ++ ks) c) (sym (drop-none (length xs))) ∙ in_program xs [] c (omega (arith, l))
in_program (x ∷ xs) (y ∷ ys) (suc c) l = in_program xs ys c (omega (arith, l))
