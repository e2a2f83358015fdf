-- Classes of the core program (JLS 8, 9, 13.1), by what they declare and the code of their members.
use Rattle.std.specs.Prelude.{ℕ, Bool, true, false, List, [], ◌∷◌, ◌++◌, length, map, drop, Option, Some, None, option_map, slice_get, codes, unwrap_or, if◌then◌else◌}
use Rattle.je_base.specs.declared.span.NameId.{NameId}
use Rattle.je_core.specs.declared.program.Access.TheVariants as access
use Rattle.je_core.specs.declared.program.Head.{Head}
use Rattle.je_core.specs.declared.program.Kind.{Kind}
use Rattle.je_core.specs.declared.program.Sort.TheVariants as sort
use Rattle.je_core.specs.declared.types.ClassId.{ClassId}
use Rattle.je_core.specs.Core.{Core, CoreClass, CoreField}
use Rattle.je_ast.specs.Types.{TypeName}
use Rattle.je_scopes.specs.BinaryNames.{number_in}
use Rattle.je_scopes.specs.Headers.{heads_in, is_interface_sort, name_in, site_at, span_in, top_of, within}
use Rattle.je_scopes.specs.Sites.{Site}
use Rattle.je_scopes.specs.SourceTypes.{SourceType}
use Rattle.source_types.specs.Erasure.{class_numbered, erased}
use Rattle.source_types.specs.Heads.{supers_of}
use Rattle.declarations.specs.Declarations.{DeclaredClass, DeclaredField, is_enum_sort}
use Rattle.header_typing.specs.Supers.{class_in}
use Rattle.name_typing.specs.Program.{Program}
use Rattle.body_typing.specs.Expressions.{name_span}
use Rattle.class_typing.specs.Bridges.{bridges}
use Rattle.class_typing.specs.Captures.{listed}
use Rattle.class_typing.specs.Members.{MembersDone}
use Rattle.class_typing.specs.Programs.{CapturedLocal, classes, enclosing, number, types_before}

-- ---- what stands above a class: of an interface only interfaces

abbrev pub classes_of_types : List SourceType → List ClassId
classes_of_types [] = []
classes_of_types (t ∷ ts) = map class_numbered (listed (class_in t)) ++ classes_of_types ts

abbrev pub first : List ClassId → Option ClassId
first [] = None
first (c ∷ cs) = Some c

abbrev pub superclass_if : Bool → List ClassId → Option ClassId
superclass_if is_interface cs = if is_interface then None else first cs

abbrev pub interfaces_if : Bool → List ClassId → List ClassId
interfaces_if is_interface cs = if is_interface then cs else drop 1 cs

-- the classes that are named, with their names
abbrev pub heads_from : List TypeName → List ClassId → List Head
heads_from (t ∷ ts) (c ∷ cs) = record { class = c; span = name_span t } ∷ heads_from ts cs
heads_from ts cs = []

abbrev pub plain_kind : Kind
plain_kind = record { sort = sort.Class; is_abstract = false; is_final = false; is_static = false }

module _ (p : Program) (captured : ℕ → List CapturedLocal) (c : ℕ) where
  abbrev pub site : Site
  site = site_at p.source.sites c

  abbrev pub is_interface : Bool
  is_interface = is_interface_sort site.sort

  abbrev pub above : List ClassId
  above = classes_of_types (supers_of p.heads c)

  abbrev pub declared_heads : Option DeclaredClass → List ClassId
  declared_heads None = []
  declared_heads (Some d) = classes_of_types d.heads

  -- ---- fields: hidden ones first

  abbrev pub captured_name : CapturedLocal → NameId
  captured_name l = l.variable.name

  abbrev pub outer_names : Option ℕ → List NameId
  outer_names None = []
  outer_names (Some d) = number p.source [] ∷ []

  abbrev pub enum_names : Bool → List NameId
  enum_names is_enum = if is_enum then number p.source (codes "name") ∷ number p.source (codes "ordinal") ∷ [] else []

  abbrev pub names_before : List NameId
  names_before =
      outer_names (enclosing p.source c) ++ map captured_name (captured c) ++ enum_names (is_enum_sort site.sort)

  abbrev pub hidden_field : NameId → SourceType → CoreField
  hidden_field x t = record {
    name = x;
    span = span_in site.written;
    ty = erased p.heads t;
    is_static = false;
    is_final = true;
    access = access.Hidden;
    constant = None;
  }

  abbrev pub hidden_from : List NameId → List SourceType → List CoreField
  hidden_from (x ∷ xs) (t ∷ ts) = hidden_field x t ∷ hidden_from xs ts
  hidden_from xs ts = []

  abbrev pub declared_field : DeclaredField → Option Core → CoreField
  declared_field f constant = record {
    name = f.name.name;
    span = f.name.span;
    ty = erased p.heads f.ty;
    is_static = f.is_static;
    is_final = f.is_final;
    access = f.access;
    constant = constant;
  }

  abbrev pub declared_from : List DeclaredField → List (Option Core) → List CoreField
  declared_from (f ∷ fs) (constant ∷ constants) = declared_field f constant ∷ declared_from fs constants
  declared_from fs constants = []

  -- those that a source writes
  abbrev pub fields_in : Option DeclaredClass → List DeclaredField
  fields_in None = []
  fields_in (Some d) = d.fields

  abbrev pub written_fields : List DeclaredField
  written_fields = fields_in (slice_get (classes p.source) c)

  abbrev pub fields : MembersDone → List CoreField
  fields d = hidden_from names_before (types_before p.source captured c) ++ declared_from written_fields d.constants

  -- ---- the class

  abbrev pub kind_in : Option DeclaredClass → Kind
  kind_in None = plain_kind
  kind_in (Some d) = d.kind

  abbrev pub core_class : MembersDone → CoreClass
  core_class d = record {
    name = unwrap_or (name_in site.written) (number p.source []);
    span = span_in site.written;
    kind = kind_in (slice_get p.classes c);
    superclass = superclass_if is_interface above;
    interfaces = interfaces_if is_interface above;
    heads = heads_from (heads_in site.written) (declared_heads (slice_get p.classes c));
    fields = fields d;
    initializers = d.initializers;
    methods = d.methods;
    enclosing = option_map class_numbered (enclosing p.source c);
    captured = length (captured c);
    within = option_map class_numbered (within site);
    nth = number_in p.source c;
    top = class_numbered (top_of p.source.sites c);
    bridges = bridges p.heads p.classes c;
  }
