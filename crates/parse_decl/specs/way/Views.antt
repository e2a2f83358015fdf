-- What the functions give, without where it lies in memory, at a place of the file's tokens.
use Rattle.std.specs.Prelude.{ℕ, List, Vec, map, drop, Option, option_map}
use Rattle.std.specs.declared.alloc.Global.{Global}
use Rattle.je_token.specs.declared.token.Token.{Token}
use Rattle.je_ast.specs.declared.name.Name.{Name}
use Rattle.je_ast.specs.declared.decl.Decl.{Decl}
use Rattle.je_ast.specs.declared.decl.Unit as node
use Rattle.je_ast.specs.Types.{QualifiedName, name_view}
use Rattle.je_ast.specs.Trees.{Declaration, CompilationUnit}
use Rattle.je_ast.specs.View.{declaration_view, unit_view}
use Rattle.parse_laws.specs.way.Tokens.{Read}

abbrev pub seen_import : List Token → Option (Name × ℕ) → Read QualifiedName
seen_import list o = option_map (λ x. (name_view x.0, drop x.1 list)) o

abbrev pub seen_imports : List Token → Vec Name Global × ℕ → List QualifiedName × List Token
seen_imports list x = (map name_view x.0.items, drop x.1 list)

abbrev pub seen_declarations : Option (Vec Decl Global) → Option (List Declaration)
seen_declarations o = option_map (λ ds. map declaration_view ds.items) o

abbrev pub seen_unit : Option node.Unit → Option CompilationUnit
seen_unit o = option_map unit_view o
