-- What a step of typing comes to: what it gives, or the first fault that it meets. Nothing behind a fault is looked at.
use Rattle.std.specs.Prelude.{Bool, true, false, Option, Some, None}
use Rattle.je_base.specs.declared.span.Span.{Span}
use Rattle.je_typing.specs.declared.fault.TypeFault.{TypeFault}
use Rattle.je_typing.specs.declared.fault.TypeRule.{TypeRule}

pub data Judged (A : Type 0) : Type 0 where
  gives : A → Judged A
  faulty : TypeFault → Judged A

-- one after the other: what follows a fault is not reached
unfoldable pub bind : {A B : Type 0} → Judged A → (A → Judged B) → Judged B
bind (gives a) f = f a
bind (faulty fault) f = faulty fault

infixr 30 ◌>>=◌
abbrev pub ◌>>=◌ : {A B : Type 0} → Judged A → (A → Judged B) → Judged B
◌>>=◌ m f = bind m f

infixr 30 ◌>>◌
abbrev pub ◌>>◌ : {A B : Type 0} → Judged A → Judged B → Judged B
◌>>◌ m n = bind m (λ a. n)

abbrev pub breaks : {A : Type 0} → TypeRule → Span → Judged A
breaks rule span = faulty (record { rule = rule; span = span })

-- what must hold, else the fault
unfoldable pub check : TypeRule → Span → Bool → Judged (Unit {0})
check rule span true = gives tt
check rule span false = breaks rule span

-- what must be there, else the fault
unfoldable pub need : {A : Type 0} → TypeRule → Span → Option A → Judged A
need rule span (Some a) = gives a
need rule span None = breaks rule span
