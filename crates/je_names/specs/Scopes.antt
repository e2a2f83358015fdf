-- What the classes of a program declare, whose names have no fault.
use Rattle.std.specs.Prelude.{◌≡◌, List, None, length, map}
use Rattle.je_scopes.specs.Source.{Source}
use Rattle.je_scopes.specs.Faults.{below, first_fault}
use Rattle.je_scopes.specs.Settled.{settled}
use Rattle.name_sites.specs.View.{source_of}
use Rattle.name_lookup.specs.Table.{AreHeadersOf}
use Rattle.name_lookup.specs.View.{known_of}
use Rattle.declarations.specs.Declarations.{DeclaredClass, declared_class}
use Rattle.declarations.specs.View.{class_shown}
use Rattle.je_names.specs.declared.program.Scopes.{Scopes}

-- those of all classes, by number
unfoldable pub declared_classes : Source → List DeclaredClass
declared_classes p = map (declared_class p) (below (length p.sites))

-- The scopes of a program: no name of it has a fault, its headers name what is settled, and its classes declare what is written.
pub record AreScopesOf (p : Source) (s : Scopes) : Type 0 where
  pub faultless : first_fault p ≡ None
  pub source : source_of s.sites ≡ p
  pub fits : AreHeadersOf p s.headers
  pub headers : settled p ≡ known_of s.headers
  pub classes : map class_shown s.classes.items ≡ declared_classes p
