-- What a chain of steps gave was given by each of them.
use Rattle.std.proofs.Common.{◌≡◌, refl}
use Rattle.je_typing.specs.Judged.{Judged, bind, faulty, gives}

pub record Came {A B : Type 0} (m : Judged A) (f : A → Judged B) (b : B) : Type 0 where
  pub first : A
  pub is : m ≡ gives first
  pub rest : f first ≡ gives b

pub came : {A B : Type 0} (m : Judged A) (f : A → Judged B) (b : B) → bind m f ≡ gives b → Came m f b
unfolding bind
came (gives a) f b e = record { first = a; is = refl; rest = e }
came (faulty fault) f b e = absurd (cc)

pub given : {A : Type 0} (a b : A) → gives a ≡ gives b → a ≡ b
given a b e = cc
