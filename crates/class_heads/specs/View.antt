-- What contracts see of all classes.
use Rattle.std.specs.Prelude.{List, ◌++◌, drop, length, map}
use Rattle.declarations.specs.Declarations.{DeclaredClass}
use Rattle.declarations.specs.View.{class_shown}
use Rattle.class_heads.specs.declared.all.AllClasses.{AllClasses}

-- the library's, then those of the program behind as many
abbrev pub behind : List DeclaredClass → List DeclaredClass → List DeclaredClass
behind library program = library ++ drop (length library) program

unfoldable pub classes_of : AllClasses → List DeclaredClass
classes_of all = behind (map class_shown all.library.now) (map class_shown all.program.now)
