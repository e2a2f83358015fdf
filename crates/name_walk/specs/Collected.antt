-- The classes that the walk has met, and where it stands, as the definition of the walk has them.
use Rattle.std.specs.Prelude.{List}
use Rattle.je_scopes.specs.Sites as sites
use Rattle.je_scopes.specs.Sites.{Site}
use Rattle.name_walk.specs.declared.collector.Collector.{Collector}
use Rattle.name_walk.specs.View.{sites_of, spot_from}

unfoldable pub collected : Collector → List Site
collected c = sites_of c.classes.items

unfoldable pub spot_of : Collector → sites.Spot
spot_of c = spot_from (sites_of c.classes.items) c.spot
