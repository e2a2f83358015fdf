-- Rules for what holds of the answer of a reading, if there is one.
use Rattle.std.proofs.Common.{◌≡◌, Bool, true, false, cond, Option, Some, None, IfSome, refl, ap, ◌||◌}
use Rattle.parse_laws.specs.way.Tokens.{◌>>=◌, with, is_some}

pub bind : {A B : Type 0} (o : Option A) (f : A → Option B) (P : A → Type 0) (Q : B → Type 0) → IfSome o P → ((x : A) → P x → IfSome (f x) Q) → IfSome (o >>= f) Q
bind (Some x) f P Q h g = g x h
bind None f P Q h g = tt

pub either : {A B : Type 0} (o : Option A) (f : A → B) (y : B) (P : A → Type 0) (Q : B → Type 0) → IfSome o P → ((x : A) → P x → Q (f x)) → Q y → Q (with o f y)
either (Some x) f y P Q h g k = g x h
either None f y P Q h g k = k

-- where the second choice takes that nothing was read
pub otherwise : {A B : Type 0} (o : Option A) (f : A → B) (y : B) (P : A → Type 0) (Q : B → Type 0) → IfSome o P → ((x : A) → o ≡ Some x → P x → Q (f x)) → (is_some o ≡ false → Q y) → Q (with o f y)
otherwise (Some x) f y P Q h g k = g x refl h
otherwise None f y P Q h g k = k refl

pub choose : {A : Type 0} (b : Bool) (x y : A) (Q : A → Type 0) → (b ≡ true → Q x) → (b ≡ false → Q y) → Q (cond b x y)
choose true x y Q f g = f refl
choose false x y Q f g = g refl

pub weaken : {A : Type 0} (o : Option A) (P Q : A → Type 0) → IfSome o P → ((x : A) → P x → Q x) → IfSome o Q
weaken (Some x) P Q h f = f x h
weaken None P Q h f = tt

pub or_split : (a b : Bool) → (a || b) ≡ false → (a ≡ false) × (b ≡ false)
or_split true b e = absurd cc
or_split false b e = (refl, e)

pub is_none : {A : Type 0} (o : Option A) → is_some o ≡ false → o ≡ None
is_none (Some x) e = absurd cc
is_none None e = refl

pub none_where : {A : Type 0} (o : Option A) (P : A → Type 0) → IfSome o P → ((x : A) → ¬ P x) → is_some o ≡ false
none_where (Some x) P h f = absurd (f x h)
none_where None P h f = refl

-- what can't be true is false
pub unless : (b : Bool) → ¬ (b ≡ true) → b ≡ false
unless true f = absurd (f refl)
unless false f = refl

some_or : {A : Type 0} → A → Option A → A
some_or a (Some b) = b
some_or a None = a

-- what is the same in two answers
pub same_some : {A : Type 0} {a b : A} → Some a ≡ Some b → a ≡ b
unfolding some_or
same_some {A} {a} e = ap (some_or a) e
