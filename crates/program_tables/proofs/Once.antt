-- One text more in a set of them.
use Rattle.std.proofs.Common.{◌≡◌, ℕ, List, [], ◌∷◌, ◌++◌, Bool, true, false, Bor, refl, sym, ap, ◌∙◌}
use Rattle.std.specs.Prelude.{◌||◌, if◌then◌else◌}
use Rattle.std.specs.BTreeSet.{BTreeSet, Updates}
use Rattle.std.specs.Cmp.Lexicographic.{slice_cmp}
use Rattle.std.specs.List.{list_any}
use Rattle.std.specs.Ordering.{nat_cmp}
use Rattle.std.specs.Str.{bytes_eq}
use Rattle.std.proofs.lemmas.Map.Text.{is_eq-slice_cmp}
use Rattle.std.proofs.lemmas.Slice.Eq.{bytes_eq-Decides}
use Rattle.program_tables.specs.way.Once.{Has}

same-both : (xs ys : List ℕ) → bytes_eq xs ys ≡ bytes_eq ys xs
same-both xs ys = by (bytes_eq xs ys) refl (bytes_eq ys xs) refl
  where
    by : (b : Bool) → bytes_eq xs ys ≡ b → (c : Bool) → bytes_eq ys xs ≡ c → b ≡ c
    by true e true f = refl
    by false e false f = refl
    by true e false f =
        let g : bytes_eq ys xs ≡ true = (bytes_eq-Decides ys xs).1 (sym ((bytes_eq-Decides xs ys).0 e)) in absurd (cc)
    by false e true f =
        let g : bytes_eq xs ys ≡ true = (bytes_eq-Decides xs ys).1 (sym ((bytes_eq-Decides ys xs).0 f)) in absurd (cc)

at-end : (test : List ℕ → Bool) (ts : List (List ℕ)) (t : List ℕ) →
    (if test t then true else list_any test ts) ≡ list_any test (ts ++ t ∷ [])
at-end test [] t = by (test t)
  where
    by : (b : Bool) → (if b then true else false) ≡ (b || false)
    by true = refl
    by false = refl
at-end test (u ∷ us) t = by (test t) (test u) ∙ ap (λ b. test u || b) (at-end test us t)
  where
    by : (b c : Bool) → (if b then true else (c || list_any test us)) ≡ (c || (if b then true else list_any test us))
    by true true = refl
    by true false = refl
    by false true = refl
    by false false = refl

pub has_new : (s n : BTreeSet (Bor (List ℕ))) (k : Bor (List ℕ)) (ts : List (List ℕ)) → Has s ts →
    Updates (λ x y. slice_cmp nat_cmp x.now y.now) s n k true → Has n (ts ++ k.now ∷ [])
has_new s n k ts h u = record {
  each = λ q. u.0 q
      ∙ (λ i. if (is_eq-slice_cmp k.now q.now ∙ same-both k.now q.now) i then true else h.each q i)
      ∙ at-end (bytes_eq q.now) ts k.now;
}
