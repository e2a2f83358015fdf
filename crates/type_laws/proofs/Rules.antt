-- Rules for what holds of the answer of a reading, if there is one, that want what was decided.
use Rattle.std.proofs.Common.{◌≡◌, Bool, true, false, cond, Option, Some, None, IfSome, refl}
use Rattle.parse_laws.specs.way.Tokens.{with}

pub choose : {A : Type 0} (b : Bool) (x y : Option A) (Q : A → Type 0) → (b ≡ true → IfSome x Q) → (b ≡ false → IfSome y Q) → IfSome (cond b x y) Q
choose true x y Q f g = f refl
choose false x y Q f g = g refl

-- what holds of either answer
pub either : {A B : Type 0} (o : Option A) (f : A → B) (y : B) (P : A → Type 0) (Q : B → Type 0) → IfSome o P → ((x : A) → P x → Q (f x)) → (o ≡ None → Q y) → Q (with o f y)
either (Some x) f y P Q h g k = g x h
either None f y P Q h g k = k refl
