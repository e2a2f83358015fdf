-- The headers of classes, one after another.
use Rattle.std.proofs.Common.{◌≡◌, ℕ, zero, suc, ◌+◌, ◌<◌, List, [], ◌∷◌, ◌++◌, drop, length, refl, sym, ap, ◌∙◌, arith}
use Rattle.std.specs.Prelude.{slice_get}
use Rattle.std.proofs.lemmas.List.{append_assoc}
use Rattle.source_types.specs.Heads.{ClassHead}
use Rattle.declarations.specs.Declarations.{DeclaredClass}
use Rattle.class_heads.specs.Headers.{heads_from}
use Rattle.class_heads.specs.way.Rounds.{head_if}

module _ (classes : List DeclaredClass) where
  one-first : (ds : List DeclaredClass) (k n : ℕ) → k < length ds → heads_from classes n (drop k ds) ≡ head_if classes n (slice_get ds k) ++ heads_from classes (suc n) (drop (suc k) ds)
  one-first [] k n l = absurd (omega arith)
  one-first (d ∷ ds) zero n l = refl
  one-first (d ∷ ds) (suc k) n l = one-first ds k n (omega (arith, l))

  pub one-more : (at : ℕ) (old new whole : List ClassHead) → at < length classes → old ++ heads_from classes at (drop at classes) ≡ whole →
      new ≡ old ++ head_if classes at (slice_get classes at) → new ++ heads_from classes (at + 1) (drop (at + 1) classes) ≡ whole
  one-more at old new whole l inv e =
      let next : at + 1 ≡ suc at = omega arith in
      (λ i. e i ++ heads_from classes (next i) (drop (next i) classes))
      ∙ append_assoc old (head_if classes at (slice_get classes at)) (heads_from classes (suc at) (drop (suc at) classes))
      ∙ ap (λ (hs : List ClassHead). old ++ hs) (sym (one-first classes at at l)) ∙ inv
