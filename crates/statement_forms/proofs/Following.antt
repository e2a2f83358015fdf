-- Steps behind steps.
use Rattle.std.proofs.Common.{◌≡◌, refl}
use Rattle.je_typing.specs.Judged.{Judged, gives, faulty, bind}

pub bind_behind : {A B C : Type 0} (m : Judged A) (f : A → Judged B) (g : B → Judged C) → bind (bind m f) g ≡ bind m (λ (a : A). bind (f a) g)
unfolding bind
bind_behind (gives a) f g = refl
bind_behind (faulty fault) f g = refl

-- a step that changes nothing
pub bind_kept : {A : Type 0} (m : Judged A) (f : A → Judged A) → ((a : A) → f a ≡ gives a) → bind m f ≡ m
unfolding bind
bind_kept (gives a) f h = h a
bind_kept (faulty fault) f h = refl
