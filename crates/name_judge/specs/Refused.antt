-- What a refusal says of a program.
use Rattle.std.specs.Prelude.{◌≡◌, ⊤, Some}
use Rattle.je_scopes.specs.Source.{Source}
use Rattle.je_scopes.specs.Faults.{first_fault}
use Rattle.name_faults.specs.View.{fault_view}
use Rattle.name_judge.specs.declared.refusal.Refusal.{Refusal}
use Rattle.name_judge.specs.declared.refusal.Refusal.TheVariants as refusal

-- A fault is the first one of the program. Want of memory says nothing of it.
abbrev pub IsRefused : Source → Refusal → Type 0
IsRefused p refusal.Memory = ⊤
IsRefused p (refusal.Fault f) = first_fault p ≡ Some (fault_view f)
