-- The two phases one after the other.
use Rattle.std.proofs.Common.{ℕ, List}
use Rattle.source_units.specs.Files.{FileTokens, AreTokens}
use Rattle.source_units.specs.Faults.{IsFirstTokenFault, IsFirstSyntaxFault, IsFirstFault, IsRefusal}
use Rattle.source_units.specs.declared.refusal.Refusal.{Refusal}
use Rattle.source_units.specs.declared.refusal.Refusal.TheVariants as refusal

pub of_tokens : (files : List (List ℕ)) (r : Refusal) → IsRefusal (IsFirstTokenFault files) r → IsRefusal (IsFirstFault files) r
of_tokens files refusal.Memory h = tt
of_tokens files (refusal.Fault x) h = IsFirstFault.of_tokens h

pub of_syntax : (files : List (List ℕ)) (fs : List FileTokens) (r : Refusal) → AreTokens 0 files fs → IsRefusal (IsFirstSyntaxFault fs) r → IsRefusal (IsFirstFault files) r
of_syntax files fs refusal.Memory lexed h = tt
of_syntax files fs (refusal.Fault x) lexed h = IsFirstFault.of_syntax lexed h
