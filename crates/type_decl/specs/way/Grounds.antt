-- What both walks go by.
use Rattle.std.specs.Prelude.{◌≡◌, map}
use Rattle.je_scopes.specs.Source.{Source}
use Rattle.declarations.specs.View.{class_shown}
use Rattle.library_declarations.specs.Library.{library_declared}
use Rattle.source_subtypes.specs.View.{heads_of}
use Rattle.class_typing.specs.Programs.{heads, number}
use Rattle.type_decl.specs.declared.ground.Ground.{Ground}

-- the headers of all classes, and what the library's declare
pub record IsGround (source : Source) (ground : Ground) : Type 0 where
  pub heads_are : heads_of ground.heads.now ≡ heads source
  pub library_is : map class_shown ground.library.now ≡ library_declared (number source)
