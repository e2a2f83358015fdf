-- What is met, behind what was met before.
use Rattle.std.proofs.Common.{◌≡◌, List, [], ◌∷◌, ◌++◌, refl, sym, ap, ◌∙◌, append_assoc, append-nil}
use Rattle.std.specs.Prelude.{flat_map}
use Rattle.std.proofs.lemmas.Grind.{flat_map-append}

module _ {A B : Type 0} (f : A → List B) where
  pub none_met : (before : List B) → before ≡ before ++ flat_map f []
  none_met before = sym (append-nil before)

  pub one_met : (before after : List B) (m : A) → after ≡ before ++ f m → after ≡ before ++ flat_map f (m ∷ [])
  one_met before after m h = h ∙ ap (λ x. before ++ x) (sym (append-nil (f m)))

  pub first_met : (before then after : List B) (m : A) (ms : List A) → then ≡ before ++ f m → after ≡ then ++ flat_map f ms →
      after ≡ before ++ flat_map f (m ∷ ms)
  first_met before then after m ms h k = k ∙ ap (λ x. x ++ flat_map f ms) h ∙ append_assoc before (f m) (flat_map f ms)

  pub further_met : (before then after : List B) (ms ns : List A) → then ≡ before ++ flat_map f ms → after ≡ then ++ flat_map f ns →
      after ≡ before ++ flat_map f (ms ++ ns)
  further_met before then after ms ns h k =
      k ∙ ap (λ x. x ++ flat_map f ns) h ∙ append_assoc before (flat_map f ms) (flat_map f ns)
      ∙ ap (λ x. before ++ x) (sym (flat_map-append f ms ns))

  -- those that are left
  pub rest_met : (before then : List B) (ms ns : List A) (all : List B) → then ≡ before ++ flat_map f ms →
      before ++ flat_map f (ms ++ ns) ≡ all → then ++ flat_map f ns ≡ all
  rest_met before then ms ns all h k = further_met before then (then ++ flat_map f ns) ms ns h refl ∙ k

pub ruleset added = (none_met, one_met, first_met, further_met, rest_met)
