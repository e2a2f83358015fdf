-- When two lists of numbers spell the same signature.
use Rattle.std.specs.Prelude.{◌≡◌, ℕ}
use Rattle.std.specs.Str.{bytes_eq}
use Rattle.je_scopes.specs.Source.{Source}
use Rattle.je_scopes.specs.Members.{MethodSite}
use Rattle.je_scopes.specs.Faults.{same_signature}
use Rattle.name_judge.specs.Spelled.{signature_of}

abbrev pub SameLists : Type 0
SameLists = (p : Source) (c : ℕ) (m n : MethodSite) → bytes_eq (signature_of p c m) (signature_of p c n) ≡ same_signature p c m n
