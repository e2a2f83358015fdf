-- One step behind another one.
use Rattle.std.proofs.Common.{◌≡◌, ◌∙◌}
use Rattle.je_typing.specs.Judged.{Judged, gives, bind}
use Rattle.je_typing.proofs.Walks.{bind_gives}

pub then_gives : {A B : Type 0} (m : Judged A) (f : A → Judged B) (a : A) (whole : Judged B) → m ≡ gives a → f a ≡ whole → bind m f ≡ whole
then_gives m f a whole e h = bind_gives m f a e ∙ h
