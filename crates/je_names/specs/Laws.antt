-- The scopes of units are one, and units have scopes or a fault.
use Rattle.std.specs.Prelude.{◌≡◌, map}
use Rattle.je_scopes.specs.Source.{Source}
use Rattle.name_faults.specs.declared.faults.NameFault.{NameFault}
use Rattle.name_judge.specs.declared.refusal.Refusal.TheVariants as refusal
use Rattle.name_judge.specs.Refused.{IsRefused}
use Rattle.name_lookup.specs.View.{known_of}
use Rattle.name_sites.specs.View.{source_of}
use Rattle.declarations.specs.View.{class_shown}
use Rattle.je_names.specs.declared.program.Scopes.{Scopes}
use Rattle.je_names.specs.Scopes.{AreScopesOf}

-- They have the same classes, headers that name the same, and the same declarations.
pub record AreAlike (s t : Scopes) : Type 0 where
  pub sources : source_of s.sites ≡ source_of t.sites
  pub headers : known_of s.headers ≡ known_of t.headers
  pub classes : map class_shown s.classes.items ≡ map class_shown t.classes.items

abbrev pub ScopesAreOne : Type 0
ScopesAreOne = (p : Source) (s t : Scopes) → AreScopesOf p s → AreScopesOf p t → AreAlike s t

abbrev pub NoScopesBesideAFault : Type 0
NoScopesBesideAFault = (p : Source) (s : Scopes) (fault : NameFault) → AreScopesOf p s → ¬ IsRefused p (refusal.Fault fault)
