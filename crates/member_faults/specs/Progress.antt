-- How far the fields of a class are judged.
use Rattle.std.specs.Prelude.{◌≡◌, ℕ, List}
use Rattle.std.specs.List.{list_any}
use Rattle.je_base.specs.declared.span.NameId.{NameId}
use Rattle.je_scopes.specs.Headers.{same_name}
use Rattle.je_scopes.specs.Source.{Source}
use Rattle.je_scopes.specs.Members.{FieldSite}
use Rattle.je_scopes.specs.Faults.{Fault, name_of_field, of_fields}
use Rattle.name_faults.specs.declared.faults.Faults.{Faults}
use Rattle.name_faults.proofs.Left.{Left}
use Rattle.name_faults.specs.declared.met.Met.{Met}
use Rattle.name_faults.specs.Met.{is_met}

-- Some fields were judged, whose names were met, and these are left.
pub record FieldsLeft (p : Source) (c : ℕ) (start now : Faults) (met : Met) (rest : List FieldSite) (whole : List Fault) : Type 0 where
  pub earlier : List FieldSite
  pub have : (x : NameId) → is_met met x ≡ list_any (λ e. same_name (name_of_field e) x) earlier
  pub left : Left start now (of_fields p c earlier rest) whole
