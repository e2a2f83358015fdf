-- A list of five, pushed one after the other.
use Rattle.std.proofs.Common.{◌≡◌, List, [], ◌∷◌, ◌++◌, map, ap, ◌∙◌}

module _ {V Y : Type 0} (see : V → Y) where
  pub five_pushed : {l m n o p q : List V} {v w x y z : V} {a b c d e : Y} → l ≡ [] → m ≡ l ++ v ∷ [] → n ≡ m ++ w ∷ [] →
      o ≡ n ++ x ∷ [] → p ≡ o ++ y ∷ [] → q ≡ p ++ z ∷ [] →
      see v ≡ a → see w ≡ b → see x ≡ c → see y ≡ d → see z ≡ e → map see q ≡ a ∷ b ∷ c ∷ d ∷ e ∷ []
  five_pushed {v = v} {w = w} {x = x} {y = y} {z = z} none first second third fourth fifth sees_v sees_w sees_x sees_y sees_z =
      let one = first ∙ ap (λ (vs : List V). vs ++ v ∷ []) none in
      let two = second ∙ ap (λ (vs : List V). vs ++ w ∷ []) one in
      let three = third ∙ ap (λ (vs : List V). vs ++ x ∷ []) two in
      let four = fourth ∙ ap (λ (vs : List V). vs ++ y ∷ []) three in
      let five = fifth ∙ ap (λ (vs : List V). vs ++ z ∷ []) four in
      ap (map see) five ∙ (λ i. sees_v i ∷ sees_w i ∷ sees_x i ∷ sees_y i ∷ sees_z i ∷ [])
