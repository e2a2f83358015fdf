-- What comes of an assignment, where something is asked behind it.
use Rattle.std.proofs.Common.{◌≡◌, refl}
use Rattle.je_typing.specs.declared.fault.Refusal.{Refusal}
use Rattle.je_typing.specs.Answers.{IsFault}
use Rattle.je_typing.specs.Judged.{Judged, gives, bind}
use Rattle.je_typing.proofs.Walks.{bind_faults}

pub both_give : {A B : Type 0} (judged : Judged A) (asked : Judged B) (a : A) (b : B) → judged ≡ gives a → asked ≡ gives b →
    bind judged (λ (x : A). bind asked (λ (y : B). gives x)) ≡ gives a
unfolding bind
both_give judged asked a b e f = rw (e, f) refl

pub asked_faults : {A B : Type 0} (judged : Judged A) (asked : Judged B) (a : A) (r : Refusal) → judged ≡ gives a → IsFault asked r →
    IsFault (bind judged (λ (x : A). bind asked (λ (y : B). gives x))) r
unfolding bind
asked_faults {A = A} {B = B} judged asked a r e h = rw e (bind_faults asked (λ (y : B). gives a) r h)

pub ruleset asking = (both_give, asked_faults)
