-- The hidden fields of a class, kind by kind, with the span of the class.
use Rattle.std.specs.Prelude.{ℕ, false, true, List, [], ◌∷◌, ◌++◌, map, Option, Some, None, codes, if◌then◌else◌}
use Rattle.je_base.specs.declared.span.NameId.{NameId}
use Rattle.je_base.specs.declared.span.Span.{Span}
use Rattle.je_core.specs.declared.program.Access.TheVariants as access
use Rattle.je_core.specs.declared.types.Base.TheVariants as base
use Rattle.je_core.specs.declared.types.Ty.{Ty}
use Rattle.je_core.specs.Core.{CoreField}
use Rattle.je_fitting.specs.Types.{int, of, string}
use Rattle.je_scopes.specs.Headers.{site_at, span_in}
use Rattle.source_types.specs.Erasure.{class_numbered, erased}
use Rattle.declarations.specs.Declarations.{is_enum_sort}
use Rattle.name_typing.specs.Program.{Program}
use Rattle.class_typing.specs.Programs.{CapturedLocal, enclosing, number}

abbrev pub hidden : Span → NameId → Ty → CoreField
hidden span x ty = record {
  name = x;
  span = span;
  ty = ty;
  is_static = false;
  is_final = true;
  access = access.Hidden;
  constant = None;
}

module _ (p : Program) (span : Span) where
  abbrev pub outer_field : Option ℕ → List CoreField
  outer_field None = []
  outer_field (Some d) = hidden span (number p.source []) (of (base.Class (class_numbered d))) ∷ []

  abbrev pub outer_fields : ℕ → List CoreField
  outer_fields c = outer_field (enclosing p.source c)

  abbrev pub captured_field : CapturedLocal → CoreField
  captured_field l = hidden span l.variable.name (erased p.heads l.variable.type)

  abbrev pub enum_fields : ℕ → List CoreField
  enum_fields c =
      if is_enum_sort (site_at p.source.sites c).sort then
      hidden span (number p.source (codes "name")) string ∷ hidden span (number p.source (codes "ordinal")) int ∷ []
      else []

abbrev pub hidden_fields : Program → ℕ → List CapturedLocal → List CoreField
hidden_fields p c ls =
    let span = span_in (site_at p.source.sites c).written in
    outer_fields p span c ++ map (captured_field p span) ls ++ enum_fields p span c
