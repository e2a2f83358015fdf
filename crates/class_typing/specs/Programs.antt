-- What bodies know of all classes: what these declare, with what no source writes of them. Fields that no name finds
-- stand first in a class: the one with the instance round it (JLS 8.1.3), those with captured locals, in order of
-- their declarations, and an enum's two.
use Rattle.std.specs.Prelude.{ℕ, suc, ◌+◌, Bool, true, false, ◌&&◌, List, [], ◌∷◌, ◌++◌, length, drop, map, Option, Some, None, nat_eq, if◌then◌else◌}
use Rattle.std.specs.List.{position}
use Rattle.je_base.specs.declared.span.NameId.{NameId}
use Rattle.je_core.specs.declared.program.Access.TheVariants as access
use Rattle.je_scopes.specs.Headers.{is_guest, no_span, site_at, within}
use Rattle.je_scopes.specs.Source.{Source}
use Rattle.je_scopes.specs.SourceTypes.{SourceType}
use Rattle.source_types.specs.Heads.{ClassHead}
use Rattle.declarations.specs.Declarations.{DeclaredClass, DeclaredField, is_enum_sort}
use Rattle.header_typing.specs.Supers.{own_type}
use Rattle.name_typing.specs.Fields.{fields_of}
use Rattle.name_typing.specs.Instances.{is_instance}
use Rattle.name_typing.specs.Program.{LocalVariable, Program}
use Rattle.class_heads.specs.Headers.{class_heads}
use Rattle.library_classes.specs.Numbers.{number_in}
use Rattle.library_declarations.specs.Library.{library_declared}
use Rattle.je_names.specs.Scopes.{declared_classes}
use Rattle.class_typing.specs.Enums.{enum_methods, hidden_types}

-- a local of a body of the class of a number, which a class inside that body captures
pub record CapturedLocal : Type 0 where
  pub owner : ℕ
  pub variable : LocalVariable

abbrev pub is_of : ℕ → ℕ → CapturedLocal → Bool
is_of owner number l = nat_eq l.owner owner && nat_eq l.variable.number number

module _ (source : Source) where
  abbrev pub number : List ℕ → NameId
  number word = number_in source.texts word

  -- ---- what is declared

  abbrev pub with_enum_methods : ℕ → DeclaredClass → DeclaredClass
  with_enum_methods c d = if is_enum_sort d.kind.sort then record d { methods = enum_methods number c } else d

  abbrev pub all_with_methods : ℕ → List DeclaredClass → List DeclaredClass
  all_with_methods c [] = []
  all_with_methods c (d ∷ ds) = with_enum_methods c d ∷ all_with_methods (suc c) ds

  abbrev pub library_count : ℕ
  library_count = length (library_declared number)

  -- the library's classes, and those of the program
  unfoldable pub classes : List DeclaredClass
  classes = library_declared number ++ all_with_methods library_count (drop library_count (declared_classes source))

  unfoldable pub heads : List ClassHead
  heads = class_heads classes

  -- ---- the instance round an object (JLS 8.1.3)

  -- the class of the instance round those of a class, if there is one
  abbrev pub enclosing : ℕ → Option ℕ
  enclosing c = if is_instance (site_at source.sites c).spot.context then within (site_at source.sites c) else None

  abbrev pub outer_types : Option ℕ → List SourceType
  outer_types None = []
  outer_types (Some d) = own_type heads d ∷ []

  abbrev pub outer_count : ℕ → ℕ
  outer_count c = length (outer_types (enclosing c))

  -- ---- hidden fields; of each class the locals that it captures are known

  abbrev pub captured_type : CapturedLocal → SourceType
  captured_type l = l.variable.type

  abbrev pub enum_types : Bool → List SourceType
  enum_types is_enum = if is_enum then hidden_types else []

  abbrev pub types_before : (ℕ → List CapturedLocal) → ℕ → List SourceType
  types_before captured c =
      outer_types (enclosing c)
      ++ map captured_type (captured c)
      ++ enum_types (is_enum_sort (site_at source.sites c).sort)

  -- no name means it, since the empty text is none
  abbrev pub hidden_field : SourceType → DeclaredField
  hidden_field t = record {
    name = record { name = number []; span = no_span };
    ty = t;
    is_static = false;
    is_final = true;
    access = access.Hidden;
  }

  abbrev pub hidden_fields : (ℕ → List CapturedLocal) → ℕ → List DeclaredField
  hidden_fields captured c =
      if is_guest (site_at source.sites c).written then map hidden_field (types_before captured c) else []

  abbrev pub with_hidden : (ℕ → List CapturedLocal) → ℕ → List DeclaredClass → List DeclaredClass
  with_hidden captured c [] = []
  with_hidden captured c (d ∷ ds) =
      record d { fields = hidden_fields captured c ++ d.fields } ∷ with_hidden captured (suc c) ds

  -- ---- the program, without constants

  abbrev pub place_or : ℕ → Option ℕ → ℕ → ℕ
  place_or past None first = past
  place_or past (Some n) first = first + n

  -- the field with the value of a local of a body of a class; where that isn't known, it is past all fields
  abbrev pub captured_place : (ℕ → List CapturedLocal) → ℕ → ℕ → ℕ → ℕ
  captured_place captured c owner local =
      place_or (length (fields_of (with_hidden captured 0 classes) c)) (position (is_of owner local) (captured c))
      (outer_count c)

  unfoldable pub plain_program : (ℕ → List CapturedLocal) → Program
  plain_program captured = record {
    source = source;
    heads = heads;
    classes = with_hidden captured 0 classes;
    constants = λ m. None;
    outer = λ c. 0;
    captured = captured_place captured;
  }
