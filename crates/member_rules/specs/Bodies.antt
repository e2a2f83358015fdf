-- Which members have a body, and what a constructor is called (JLS 8.4.7, 8.6, 8.7, 8.8, 9.1.4, 9.4).
use Rattle.std.specs.Prelude.{Bool, true, false, not, ◌&&◌, ◌||◌, List, Option, Some, None, if◌then◌else◌}
use Rattle.std.specs.List.{list_any}
use Rattle.je_base.specs.declared.span.NameId.{NameId}
use Rattle.je_base.specs.declared.span.Span.{Span}
use Rattle.je_ast.specs.declared.name.Identifier.{Identifier}
use Rattle.je_ast.specs.declared.decl.Modifier.{Modifier}
use Rattle.je_ast.specs.declared.decl.ModifierKind.{ModifierKind}
use Rattle.je_ast.specs.declared.decl.ModifierKind.TheVariants as word
use Rattle.je_ast.specs.Trees.{Member, MaybeBlock}
use Rattle.je_ast.specs.Trees as tree
use Rattle.je_scopes.specs.Headers.{has_name}

-- a method that is abstract has no body, and the body of a native one stands elsewhere
abbrev pub is_without_body : ModifierKind → Bool
is_without_body word.Abstract = true
is_without_body word.Native = true
is_without_body _ = false

abbrev pub has_no_body : List Modifier → Bool
has_no_body ms = list_any (λ (m : Modifier). is_without_body m.kind) ms

abbrev pub is_there : MaybeBlock → Bool
is_there tree.no_block = false
is_there (tree.a_block opening body closing) = true

abbrev pub same_bool : Bool → Bool → Bool
same_bool true b = b
same_bool false b = not b

-- a method of an interface is abstract without the word
abbrev pub bad_method : Bool → List Modifier → Identifier → Bool → Option Span
bad_method in_interface ms id has_body = if same_bool has_body (in_interface || has_no_body ms) then Some id.span else None

-- a constructor has the simple name of its class, and an interface has none
abbrev pub bad_constructor : Option NameId → Bool → Identifier → Option Span
bad_constructor class in_interface id = if in_interface || not (has_name class id.name) then Some id.span else None

-- an interface has no initializer blocks
abbrev pub bad_initializer : Bool → Span → Option Span
bad_initializer in_interface opening = if in_interface then Some opening else None

-- the place that offends in a member of a class of that simple name, if it has one, or of an interface
abbrev pub bad_body : Option NameId → Bool → Member → Option Span
bad_body class in_interface (tree.method ms result id formals throws body span) = bad_method in_interface ms id (is_there body)
bad_body class in_interface (tree.constructor ms id formals throws call opening body closing span) = bad_constructor class in_interface id
bad_body class in_interface (tree.initializer static opening body closing span) = bad_initializer in_interface opening
bad_body class in_interface _ = None
