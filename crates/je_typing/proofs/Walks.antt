-- How the answers of parts make the answer of the whole.
use Rattle.std.proofs.Common.{◌≡◌, refl}
use Rattle.je_typing.specs.declared.fault.Refusal.{Refusal}
use Rattle.je_typing.specs.declared.fault.Refusal.TheVariants.{Fault, Memory}
use Rattle.je_typing.specs.Judged.{Judged, gives, bind}
use Rattle.je_typing.specs.Answers.{IsFault, wants_memory, first_fault}

pub bind_gives : {A B : Type 0} (m : Judged A) (f : A → Judged B) (a : A) → m ≡ gives a → bind m f ≡ f a
unfolding bind
bind_gives m f a e = rw e refl

pub bind_faults : {A B : Type 0} (m : Judged A) (f : A → Judged B) (r : Refusal) → IsFault m r → IsFault (bind m f) r
unfolding bind
bind_faults m f Memory wants_memory = wants_memory
bind_faults m f (Fault fault) (first_fault e) = first_fault (rw e refl)

pub fault_later : {A B : Type 0} (m : Judged A) (f : A → Judged B) (a : A) (r : Refusal) → m ≡ gives a → IsFault (f a) r → IsFault (bind m f) r
unfolding bind
fault_later m f a r e h = rw e h

pub ruleset walks = (bind_gives, bind_faults, fault_later, wants_memory, first_fault)
