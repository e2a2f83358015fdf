-- What a chain of steps gives has a property where each step has one.
use Rattle.std.proofs.Common.{◌≡◌, Option, Some, None, refl}
use Rattle.std.specs.Prelude.{Bool, true, false}
use Rattle.je_base.specs.declared.span.Span.{Span}
use Rattle.je_typing.specs.declared.fault.TypeRule.{TypeRule}
use Rattle.je_typing.specs.Judged.{Judged, bind, check, faulty, gives, need}
use Rattle.typing_laws.specs.Fitting.{Gives}

pub behind : {A B : Type 0} (P : A → Type 0) (Q : B → Type 0) (j : Judged A) (f : A → Judged B) → Gives P j → ((a : A) → P a → Gives Q (f a)) → Gives Q (bind j f)
unfolding bind
behind P Q (faulty fault) f h k = tt
behind P Q (gives a) f h k = k a h

-- where what was given is told, too
pub behind-given : {A B : Type 0} (P : A → Type 0) (Q : B → Type 0) (j : Judged A) (f : A → Judged B) → Gives P j → ((a : A) → j ≡ gives a → P a → Gives Q (f a)) → Gives Q (bind j f)
unfolding bind
behind-given P Q (faulty fault) f h k = tt
behind-given P Q (gives a) f h k = k a refl h

pub behind-check : {B : Type 0} (Q : B → Type 0) (rule : TypeRule) (span : Span) (b : Bool) (j : Judged B) → (b ≡ true → Gives Q j) → Gives Q (bind (check rule span b) (λ u. j))
unfolding bind check
behind-check Q rule span true j h = h refl
behind-check Q rule span false j h = tt

pub checked : (rule : TypeRule) (span : Span) (b : Bool) → Gives (λ u. b ≡ true) (check rule span b)
unfolding check
checked rule span true = refl
checked rule span false = tt

pub behind-need : {A B : Type 0} (Q : B → Type 0) (rule : TypeRule) (span : Span) (o : Option A) (f : A → Judged B) → ((a : A) → o ≡ Some a → Gives Q (f a)) → Gives Q (bind (need rule span o) f)
unfolding bind need
behind-need Q rule span (Some a) f h = h a refl
behind-need Q rule span None f h = tt

pub weaker : {A : Type 0} (P Q : A → Type 0) (j : Judged A) → Gives P j → ((a : A) → P a → Q a) → Gives Q j
weaker P Q (gives a) h k = k a h
weaker P Q (faulty fault) h k = tt

pub together : {A : Type 0} (P Q R : A → Type 0) (j : Judged A) → Gives P j → Gives Q j → ((a : A) → P a → Q a → R a) → Gives R j
together P Q R (gives a) h k f = f a h k
together P Q R (faulty fault) h k f = tt
