-- A field whose initializer came to a node, by the constant that is kept of it, if it is one.
use Rattle.std.specs.Prelude.{ℕ, Bool, true, [], ◌∷◌, Option, Some, None, ◌&&◌, is_some, not}
use Rattle.je_base.specs.declared.span.Span.{Span}
use Rattle.je_core.specs.Core.{Core, Static, no_core, node}
use Rattle.je_ast.specs.declared.name.Identifier.{Identifier}
use Rattle.je_ast.specs.Trees.{Expression}
use Rattle.source_types.specs.Erasure.{class_numbered, erased}
use Rattle.declarations.specs.Declarations.{DeclaredField}
use Rattle.header_typing.specs.Statics.{is_inner}
use Rattle.je_typing.specs.declared.fault.TypeRule.TheVariants.{BadStatic}
use Rattle.je_typing.specs.Judged.{Judged, check}
use Rattle.name_typing.specs.Program.{Constant}
use Rattle.body_typing.specs.Bodies.{met_in_expression}
use Rattle.class_typing.specs.Members.{MembersDone, nothing}
use Rattle.member_forms.specs.declared.walk.ClassWalk.{ClassWalk}
use Rattle.member_forms.specs.Seen.{program_of}
use Rattle.member_forms.specs.Walks.{constant_node, field_initializer, field_scope}

-- a static field, where it is named
abbrev pub static_node : ClassWalk → DeclaredField → ℕ → Span → Core
static_node w f at span =
    node (Static no_core (class_numbered w.class.0) at) (erased (program_of w).heads f.ty) span span

abbrev pub kept_constant : ClassWalk → DeclaredField → Span → Core → Bool → Option Constant → Option Core
kept_constant w f span from true (Some constant) = Some (constant_node w f span from constant)
kept_constant w f span from is_static constant = None

-- a static field of an inner class is kept as a constant
abbrev pub static_kept : ClassWalk → DeclaredField → Identifier → Option Core → Judged (Unit {0})
static_kept w f id kept =
    check BadStatic id.span (not (f.is_static && not (is_some kept) && is_inner (program_of w).source.sites (program_of w).heads w.class.0))

abbrev pub code_by : ClassWalk → DeclaredField → ℕ → Identifier → Expression → Core → Option Core → MembersDone
code_by w f at id e n (Some kept) = record nothing {
  constants = Some kept ∷ [];
  met = met_in_expression (program_of w) (field_scope w f.is_static at) e;
}
code_by w f at id e n None = record nothing {
  constants = None ∷ [];
  initializers = field_initializer w f at id.span n ∷ [];
  met = met_in_expression (program_of w) (field_scope w f.is_static at) e;
}
