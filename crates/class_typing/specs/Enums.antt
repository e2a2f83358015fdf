-- Enums (JLS 8.9): a final class directly below Object whose objects are its constants, each with its name and its
-- place in two hidden fields, and the methods that no source writes.
use Rattle.std.specs.Prelude.{ℕ, suc, pos, ◌+◌, Bool, true, false, List, [], ◌∷◌, Some, codes, flat_map}
use Rattle.std.specs.Char.Escape.{encode_utf16}
use Rattle.std.specs.Str.{chars}
use Rattle.je_base.specs.declared.span.NameId.{NameId}
use Rattle.je_base.specs.declared.span.Span.{Span}
use Rattle.je_core.specs.declared.program.Access.{Access}
use Rattle.je_core.specs.declared.program.Access.TheVariants as access
use Rattle.je_core.specs.declared.program.Flags.{Flags}
use Rattle.je_core.specs.declared.program.Local.{Local as LocalOf}
use Rattle.je_core.specs.declared.types.Base.TheVariants as base
use Rattle.je_core.specs.declared.types.Ty.{Ty}
use Rattle.je_core.specs.declared.value.Value.TheVariants as value
use Rattle.je_core.specs.Core.{Core, CoreForm, CoreInitializer, CoreMethod, CoreStmt, ArrayOf, Assign, Block, Const, Do, Field, Local, New, Return, Static, Text, This, core_stmts, cores, no_core, node, stmt}
use Rattle.je_ast.specs.declared.name.Identifier.{Identifier}
use Rattle.je_fitting.specs.Types.{int, of, string, void}
use Rattle.je_scopes.specs.Headers.{no_span}
use Rattle.je_scopes.specs.Source.{text_in}
use Rattle.je_scopes.specs.SourceTypes.{SourceType, no_source_types, of_class, plain}
use Rattle.source_types.specs.Erasure.{class_numbered}
use Rattle.declarations.specs.Declarations.{DeclaredMethod}
use Rattle.je_typing.specs.Typed.{string_type}

-- ---- what an enum declares without words of its own

abbrev pub flags : Access → Bool → Flags
flags a is_static = record {
  is_static = is_static;
  is_final = false;
  is_abstract = false;
  is_native = false;
  is_finalizer = false;
  access = a;
}

-- the hidden fields: the name and the place of a constant
abbrev pub hidden_types : List SourceType
hidden_types = string_type ∷ plain base.Int 0 ∷ []

abbrev pub name_place : ℕ
name_place = 0

abbrev pub ordinal_place : ℕ
ordinal_place = 1

-- behind them stand the constants
abbrev pub first_constant : ℕ
first_constant = 2

module _ (number : List ℕ → NameId) where
  abbrev pub declared : List ℕ → Bool → List SourceType → SourceType → Flags → DeclaredMethod
  declared word is_constructor parameters result f = record {
    name = record { name = number word; span = no_span };
    is_constructor = is_constructor;
    parameters = parameters;
    result = result;
    throws = [];
    flags = f;
  }

  -- its constructor, which a source never calls, and `name`, `toString`, `ordinal` and `values`
  abbrev pub enum_methods : ℕ → List DeclaredMethod
  enum_methods c =
      declared (codes "new") true hidden_types (plain base.Void 0) (flags access.Private false)
      ∷ declared (codes "name") false [] string_type (flags access.Public false)
      ∷ declared (codes "toString") false [] string_type (flags access.Public false)
      ∷ declared (codes "ordinal") false [] (plain base.Int 0) (flags access.Public false)
      ∷ declared (codes "values") false [] (of_class c no_source_types 1) (flags access.Public true)
      ∷ []

-- ---- their code, which has the span of the enum's name

-- the UTF-16 units of the text of a name
abbrev pub name_units : List (List ℕ) → NameId → List ℕ
name_units texts x = flat_map encode_utf16 (chars (text_in texts x))

module _ (number : List ℕ → NameId) (texts : List (List ℕ)) (c : ℕ) (span : Span) (constants : List Identifier) where
  abbrev pub enum_node : CoreForm → Ty → Core
  enum_node form ty = node form ty span span

  abbrev pub enum_ty : Ty
  enum_ty = of (base.Class (class_numbered c))

  abbrev pub this_enum : Core
  this_enum = enum_node This enum_ty

  abbrev pub own_field : ℕ → Ty → Core
  own_field at ty = enum_node (Field this_enum (class_numbered c) at) ty

  abbrev pub enum_body : List CoreStmt → CoreStmt
  enum_body parts = stmt (Block [] (core_stmts parts)) span span

  abbrev pub kept : ℕ → Ty → CoreStmt
  kept at ty = stmt (Do (enum_node (Assign (own_field at ty) (enum_node (Local at) ty)) ty)) span span

  abbrev pub returning : Core → CoreStmt
  returning e = enum_body (stmt (Return (Some e)) span span ∷ [])

  abbrev pub parameter : Ty → LocalOf
  parameter ty = record { name = number []; ty = ty; is_final = false; span = span }

  abbrev pub enum_method : List ℕ → List Ty → Ty → Flags → List LocalOf → CoreStmt → CoreMethod
  enum_method word params returns f locals body = record {
    name = number word;
    span = span;
    params = params;
    returns = returns;
    flags = f;
    throws = [];
    locals = locals;
    body = Some body;
  }

  -- the constants in order, from a place on
  abbrev pub constants_from : ℕ → List Identifier → List Core
  constants_from at [] = []
  constants_from at (id ∷ ids) =
      enum_node (Static no_core (class_numbered c) (first_constant + at)) enum_ty ∷ constants_from (suc at) ids

  abbrev pub array_ty : Ty
  array_ty = record { base = base.Class (class_numbered c); dims = 1 }

  abbrev pub enum_code : List CoreMethod
  enum_code =
      enum_method (codes "new") (string ∷ int ∷ []) void (flags access.Private false)
      (parameter string ∷ parameter int ∷ [])
      (enum_body (kept name_place string ∷ kept ordinal_place int ∷ []))
      ∷ enum_method (codes "name") [] string (flags access.Public false) [] (returning (own_field name_place string))
      ∷ enum_method (codes "toString") [] string (flags access.Public false) []
      (returning (own_field name_place string))
      ∷ enum_method (codes "ordinal") [] int (flags access.Public false) [] (returning (own_field ordinal_place int))
      ∷ enum_method (codes "values") [] array_ty (flags access.Public true) []
      (returning (enum_node (ArrayOf (cores (constants_from 0 constants))) array_ty))
      ∷ []

  -- ---- each constant is made with its name and its place

  abbrev pub made : ℕ → Identifier → Core
  made at id = node (New (class_numbered c) 0 (cores arguments) [] id.span) enum_ty id.span id.span
    where
      arguments : List Core
      arguments =
          node (Text (name_units texts id.name) []) string id.span id.span
          ∷ node (Const (value.Int (pos at)) []) int id.span id.span
          ∷ []

  abbrev pub constant_at : ℕ → Identifier → Core
  constant_at at id = node (Static no_core (class_numbered c) (first_constant + at)) enum_ty id.span id.span

  abbrev pub constant_made : ℕ → Identifier → CoreInitializer
  constant_made at id = record {
    is_static = true;
    span = id.span;
    locals = [];
    body = stmt (Do (node (Assign (constant_at at id) (made at id)) enum_ty id.span id.span)) id.span id.span;
  }

  abbrev pub constants_made : ℕ → List Identifier → List CoreInitializer
  constants_made at [] = []
  constants_made at (id ∷ ids) = constant_made at id ∷ constants_made (suc at) ids
