-- A class of the core program, of what its parts come to.
use Rattle.std.specs.Prelude.{ℕ, List, [], ◌∷◌, ◌++◌, length, Option, option_map, slice_get, unwrap_or}
use Rattle.je_core.specs.declared.program.Bridge.{Bridge}
use Rattle.je_core.specs.declared.program.Head.{Head}
use Rattle.je_core.specs.declared.program.Kind.{Kind}
use Rattle.je_core.specs.declared.types.ClassId.{ClassId}
use Rattle.je_core.specs.Core.{Core, CoreClass, CoreField, CoreInitializer, CoreMethod}
use Rattle.je_ast.specs.Types.{TypeName}
use Rattle.je_scopes.specs.Headers.{heads_in, is_interface_sort, name_in, site_at, span_in, top_of, within}
use Rattle.source_types.specs.Erasure.{class_numbered}
use Rattle.source_types.specs.Heads.{supers_of}
use Rattle.declarations.specs.Declarations.{DeclaredClass, DeclaredField}
use Rattle.name_typing.specs.Program.{Program}
use Rattle.body_typing.specs.Expressions.{name_span}
use Rattle.class_typing.specs.Classes.{classes_of_types, declared_field, declared_from, declared_heads, heads_from, interfaces_if, kind_in, superclass_if}
use Rattle.class_typing.specs.Programs.{CapturedLocal, enclosing, number}
use Rattle.core_making.specs.way.HiddenFields.{hidden_fields}

-- a class with a name of it
abbrev pub head : ClassId → TypeName → Head
head c t = record { class = c; span = name_span t }

-- what classes capture doesn't matter to the words below
abbrev pub no_captures : ℕ → List CapturedLocal
no_captures c = []

module _ (p : Program) where
  abbrev pub kind_of : Option DeclaredClass → Kind
  kind_of d = kind_in p no_captures 0 d

  abbrev pub classes_above : Option DeclaredClass → List ClassId
  classes_above d = declared_heads p no_captures 0 d

  abbrev pub field_of : DeclaredField → Option Core → CoreField
  field_of f constant = declared_field p no_captures 0 f constant

  abbrev pub fields_from : List DeclaredField → List (Option Core) → List CoreField
  fields_from fs constants = declared_from p no_captures 0 fs constants

  -- the first of them, if there is one
  abbrev pub next_field : List DeclaredField → Option Core → List CoreField
  next_field [] constant = []
  next_field (f ∷ fs) constant = field_of f constant ∷ []

  abbrev pub heads_of : ℕ → List Head
  heads_of c = heads_from (heads_in (site_at p.source.sites c).written) (classes_above (slice_get p.classes c))

  abbrev pub made : ℕ → List CapturedLocal → List DeclaredField → List (Option Core) → List CoreInitializer → List CoreMethod → ℕ →
      List Bridge → CoreClass
  made c captured declared constants initializers methods nth bridges = record {
    name = unwrap_or (name_in (site_at p.source.sites c).written) (number p.source []);
    span = span_in (site_at p.source.sites c).written;
    kind = kind_of (slice_get p.classes c);
    superclass = superclass_if (is_interface_sort (site_at p.source.sites c).sort) (classes_of_types (supers_of p.heads c));
    interfaces = interfaces_if (is_interface_sort (site_at p.source.sites c).sort) (classes_of_types (supers_of p.heads c));
    heads = heads_of c;
    fields = hidden_fields p c captured ++ fields_from declared constants;
    initializers = initializers;
    methods = methods;
    enclosing = option_map class_numbered (enclosing p.source c);
    captured = length captured;
    within = option_map class_numbered (within (site_at p.source.sites c));
    nth = nth;
    top = class_numbered (top_of p.source.sites c);
    bridges = bridges;
  }
