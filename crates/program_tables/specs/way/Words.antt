-- The words of `Enums` for one enum.
use Rattle.std.specs.Prelude.{ℕ, ◌+◌, List, [], ◌∷◌, codes, false}
use Rattle.je_base.specs.declared.span.NameId.{NameId}
use Rattle.je_base.specs.declared.span.Span.{Span}
use Rattle.je_core.specs.declared.program.Access.TheVariants as access
use Rattle.je_core.specs.declared.program.Flags.{Flags}
use Rattle.je_core.specs.declared.program.Local.{Local as LocalOf}
use Rattle.je_core.specs.declared.types.Ty.{Ty}
use Rattle.je_core.specs.Core.{Core, CoreForm, CoreInitializer, CoreMethod, CoreStmt, ArrayOf, Static, cores, no_core, node}
use Rattle.je_ast.specs.declared.name.Identifier.{Identifier}
use Rattle.je_fitting.specs.Types.{int, string, void}
use Rattle.library_classes.specs.Numbers.{number_in}
use Rattle.class_typing.specs.Enums as words
use Rattle.program_tables.specs.declared.nodes.EnumClass.{EnumClass}

module _ (e : EnumClass) where
  abbrev pub number : List ℕ → NameId
  number word = number_in e.names.now word

  abbrev pub node_of : CoreForm → Ty → Core
  node_of form ty = words.enum_node number e.names.now e.class.0 e.span e.constants.now form ty

  abbrev pub ty_of : Ty
  ty_of = words.enum_ty number e.names.now e.class.0 e.span e.constants.now

  abbrev pub array_of : Ty
  array_of = words.array_ty number e.names.now e.class.0 e.span e.constants.now

  abbrev pub field_of : ℕ → Ty → Core
  field_of at ty = words.own_field number e.names.now e.class.0 e.span e.constants.now at ty

  abbrev pub body_of : List CoreStmt → CoreStmt
  body_of parts = words.enum_body number e.names.now e.class.0 e.span e.constants.now parts

  abbrev pub kept_in : ℕ → Ty → CoreStmt
  kept_in at ty = words.kept number e.names.now e.class.0 e.span e.constants.now at ty

  -- the body of the constructor
  abbrev pub both_kept : CoreStmt
  both_kept = body_of (kept_in words.name_place string ∷ kept_in words.ordinal_place int ∷ [])

  abbrev pub returning_of : Core → CoreStmt
  returning_of value = words.returning number e.names.now e.class.0 e.span e.constants.now value

  abbrev pub constant_in : ℕ → Span → Core
  constant_in at span = node (Static no_core e.class (words.first_constant + at)) ty_of span span

  abbrev pub constants_of : ℕ → List Identifier → List Core
  constants_of at ids = words.constants_from number e.names.now e.class.0 e.span e.constants.now at ids

  abbrev pub all_constants : Core
  all_constants = node_of (ArrayOf (cores (constants_of 0 e.constants.now))) array_of

  abbrev pub parameter_of : Ty → LocalOf
  parameter_of ty = words.parameter number e.names.now e.class.0 e.span e.constants.now ty

  abbrev pub method_of : List ℕ → List Ty → Ty → Flags → List LocalOf → CoreStmt → CoreMethod
  method_of word params returns f locals body =
      words.enum_method number e.names.now e.class.0 e.span e.constants.now word params returns f locals body

  abbrev pub constructor : CoreMethod
  constructor =
      method_of (codes "new") (string ∷ int ∷ []) void (words.flags access.Private false)
      (parameter_of string ∷ parameter_of int ∷ []) both_kept

  abbrev pub new_of : ℕ → Identifier → Core
  new_of at id = words.made number e.names.now e.class.0 e.span e.constants.now at id

  abbrev pub made_of : ℕ → Identifier → CoreInitializer
  made_of at id = words.constant_made number e.names.now e.class.0 e.span e.constants.now at id

  abbrev pub all_made : ℕ → List Identifier → List CoreInitializer
  all_made at ids = words.constants_made number e.names.now e.class.0 e.span e.constants.now at ids
