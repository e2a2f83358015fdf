-- Ends of lists, and the choice by the lists of the best.
use Rattle.std.proofs.Common.{◌≡◌, ℕ, zero, suc, ◌<◌, List, [], ◌∷◌, ◌++◌, length, drop, get_or, map, refl, ap, ◌∙◌, append_assoc, arith}
use Rattle.std.specs.Prelude.{Bool, true, false, cond, filter, if◌then◌else◌}
use Rattle.je_core.specs.declared.types.ClassId.{ClassId}
use Rattle.je_core.specs.declared.types.Ty.{Ty}
use Rattle.je_core.specs.Core.{CoreProgram}
use Rattle.je_classes.specs.Members.{Member, Found, nothing, one, several, found_in}
use Rattle.je_classes.specs.Methods.{all_pass, is_best, is_concrete, chosen_of, first_unless, counts, first_of}
use Rattle.je_classes.specs.way.Reaching.{with_reached, with_all}
use Rattle.class_members.specs.Places.{member_of}

pub passing_end : (p : CoreProgram) (xs ys : List Ty) (i : ℕ) → i < length xs → length ys ≡ 0 → all_pass p (drop i xs) ys ≡ false
passing_end p [] ys i l e = absurd (omega arith)
passing_end p (x ∷ xs) (y ∷ ys) i l e = absurd (omega arith)
passing_end p (x ∷ xs) [] zero l e = refl
passing_end p (x ∷ xs) [] (suc i) l e = passing_end p xs [] i (omega arith) refl

-- ---- reaching

pub reaching_more : (n : ℕ) (xs ys zs : List ClassId) → with_all n xs (ys ++ zs) ≡ with_all n (with_all n xs ys) zs
reaching_more n xs [] zs = refl
reaching_more n xs (y ∷ ys) zs = reaching_more n (with_reached n xs y) ys zs

-- ---- lists that are filtered

abbrev pub kept_in : Bool → List (ClassId × ℕ) → ClassId × ℕ → List (ClassId × ℕ)
kept_in b xs x = if b then xs ++ x ∷ [] else xs

appended : (xs ys : List (ClassId × ℕ)) → map member_of (xs ++ ys) ≡ map member_of xs ++ map member_of ys
appended [] ys = refl
appended (x ∷ xs) ys = ap (λ zs. member_of x ∷ zs) (appended xs ys)

one-more : (test : Member → Bool) (b : Bool) (xs : List (ClassId × ℕ)) (x : ClassId × ℕ) (rest : List Member) → b ≡ test (member_of x) →
    map member_of (kept_in b xs x) ++ filter test rest ≡ map member_of xs ++ filter test (member_of x ∷ rest)
one-more test true xs x rest e = ap (λ ys. ys ++ filter test rest) (appended xs (x ∷ [])) ∙ append_assoc (map member_of xs) (member_of x ∷ []) (filter test rest)
    ∙ ap (λ c. map member_of xs ++ (cond c (member_of x ∷ filter test rest) (filter test rest))) e
one-more test false xs x rest e = ap (λ c. map member_of xs ++ (cond c (member_of x ∷ filter test rest) (filter test rest))) e

pub keeping : (test : Member → Bool) (b : Bool) (xs cs : List (ClassId × ℕ)) (i : ℕ) (d : ClassId × ℕ) → i < length cs → b ≡ test (member_of (get_or cs i d)) →
    map member_of (kept_in b xs (get_or cs i d)) ++ filter test (map member_of (drop (suc i) cs)) ≡ map member_of xs ++ filter test (map member_of (drop i cs))
keeping test b xs [] i d l e = absurd (omega arith)
keeping test b xs (c ∷ cs) zero d l e = one-more test b xs c (map member_of cs) e
keeping test b xs (c ∷ cs) (suc i) d l e = keeping test b xs cs i d (omega (arith, l)) e

-- ---- the choice

pub chosen_none : (p : CoreProgram) (best : List Member) → chosen_of p [] best ≡ nothing
chosen_none p best = refl

pub chosen_no_best : (p : CoreProgram) (c : Member) (cs : List Member) → chosen_of p (c ∷ cs) [] ≡ several
chosen_no_best p c cs = refl

pub chosen_best : (p : CoreProgram) (cs best : List Member) → 0 < length cs → 0 < length best → chosen_of p cs best ≡ first_unless p best (found_in (filter (is_concrete p) best))
chosen_best p [] best l m = absurd (omega arith)
chosen_best p (c ∷ cs) [] l m = absurd (omega arith)
chosen_best p (c ∷ cs) (b ∷ bs) l m = refl

pub ruleset choosing = (chosen_none, chosen_no_best, chosen_best)
