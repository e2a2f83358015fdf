-- Trees of worked rows.
use Rattle.std.proofs.Common.{ℕ, List, Option, Some}
use Rattle.std.specs.Prelude.{false}
use Rattle.je_base.specs.declared.span.Span.{Span}
use Rattle.je_ast.specs.declared.name.Identifier.{Identifier}
use Rattle.je_ast.specs.declared.decl.Modifier.{Modifier}
use Rattle.je_ast.specs.declared.decl.ModifierKind.{ModifierKind}
use Rattle.je_ast.specs.Types.{QualifiedName, TypeName, TypeParameter, FormalParameter}
use Rattle.je_ast.specs.Trees.{Declaration, CompilationUnit}
use Rattle.je_scopes.specs.Faults.{Fault}

abbrev pub at : ℕ → ℕ → ℕ → Span
at file start end = record { file = file; start = start; end = end }

abbrev pub id : ℕ → Span → Identifier
id x span = record { name = record { 0 = x }; span = span }

abbrev pub qualified : List Identifier → Span → QualifiedName
qualified parts span = record { parts = parts; span = span }

abbrev pub modified : ModifierKind → Span → Modifier
modified kind span = record { kind = kind; span = span }

abbrev pub parameter : Identifier → Option TypeName → TypeParameter
parameter name bound = record { name = name; bound = bound }

abbrev pub formal : TypeName → Identifier → ℕ → FormalParameter
formal t name dims = record { is_final = false; declared = t; name = name; dims = dims }

abbrev pub unit : List QualifiedName → List Declaration → CompilationUnit
unit imports declarations = record { imports = imports; declarations = declarations }

abbrev pub fault : ℕ → Span → Option Fault
fault number span = Some (record { number = number; span = span })
