-- The class of a body further out.
use Rattle.std.proofs.Common.{◌≡◌, ℕ, zero, suc, ◌-◌, List, [], ◌∷◌, Some, None, map, refl, sym, ap, ◌∙◌, arith}
use Rattle.std.specs.Prelude.{Option, slice_get}
use Rattle.name_typing.specs.Program as words
use Rattle.name_typing.specs.Variables.{class_of_frame}
use Rattle.body_places.specs.declared.place.Frame.{Frame}
use Rattle.body_places.specs.Places.{frame_seen}

abbrev class_in : Option Frame → ℕ
class_in None = 0
class_in (Some g) = g.class.0

class-at : (fs : List Frame) (n : ℕ) → class_in (slice_get fs n) ≡ class_of_frame (map frame_seen fs) n
class-at [] n = refl
class-at (f ∷ fs) zero = refl
class-at (f ∷ fs) (suc n) = class-at fs n

behind : (f : words.Frame) (fs : List words.Frame) (n : ℕ) → (n ≡ 0 → ⊥) → class_of_frame fs (n - 1) ≡ class_of_frame (f ∷ fs) n
behind f fs zero e = absurd (e refl)
behind f fs (suc n) e = let less : suc n - 1 ≡ n = omega arith in ap (class_of_frame fs) less

pub class_further : (f : words.Frame) (fs : List Frame) (n : ℕ) (o : Option Frame) → (n ≡ 0 → ⊥) → slice_get fs (n - 1) ≡ o →
    class_in o ≡ class_of_frame (f ∷ map frame_seen fs) n
class_further f fs n o e h = ap class_in (sym h) ∙ class-at fs (n - 1) ∙ behind f (map frame_seen fs) n e
