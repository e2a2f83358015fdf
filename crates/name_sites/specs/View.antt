-- What contracts see of the sites.
use Rattle.std.specs.Prelude.{map}
use Rattle.je_ast.specs.View.{unit_view}
use Rattle.je_scopes.specs.Source.{Source, imports_of}
use Rattle.name_walk.specs.View.{sites_of}
use Rattle.name_sites.specs.declared.sites.Sites.{Sites}

unfoldable pub source_of : Sites → Source
source_of s = record { texts = s.names.now; imports = map imports_of (map unit_view s.units.now); sites = sites_of s.classes.items }
