-- The code of a field, by whether a constant is kept of it.
use Rattle.std.proofs.Common.{◌≡◌, ℕ, refl, sym, ap, subst, ◌∙◌}
use Rattle.std.specs.Prelude.{Bool, true, false, not, ◌&&◌, Option, Some, None, is_some}
use Rattle.je_base.specs.declared.span.Span.{Span}
use Rattle.je_core.specs.Core.{Core}
use Rattle.je_ast.specs.declared.name.Identifier.{Identifier}
use Rattle.je_ast.specs.Spans.{span_of}
use Rattle.je_ast.specs.Trees.{Expression}
use Rattle.declarations.specs.Declarations.{DeclaredField}
use Rattle.je_typing.specs.Conversions.{assigned}
use Rattle.je_typing.specs.declared.fault.Refusal.{Refusal}
use Rattle.je_typing.specs.declared.fault.TypeRule.TheVariants.{BadStatic}
use Rattle.je_typing.specs.Answers.{IsFault}
use Rattle.je_typing.specs.Judged.{Judged, bind, check, gives}
use Rattle.je_typing.specs.Typed.{TypedNode}
use Rattle.je_typing.proofs.Walks.{bind_faults, bind_gives}
use Rattle.name_typing.specs.Program.{Constant}
use Rattle.body_typing.specs.ConstantVariables.{variable_constant}
use Rattle.member_forms.specs.declared.walk.ClassWalk.{ClassWalk}
use Rattle.member_forms.specs.Seen.{program_of}
use Rattle.class_typing.specs.Members.{MembersDone}
use Rattle.class_typing.specs.Members as words
use Rattle.header_typing.specs.Statics.{is_inner}
use Rattle.member_forms.specs.Walks.{field_code, initialized_by, inner_static}
use Rattle.member_forms.specs.way.Fields.{code_by, kept_constant, static_kept}

codes : (w : ClassWalk) (f : DeclaredField) (at : ℕ) (id : Identifier) (e : Expression) (from : TypedNode) (n : Core) (is_static : Bool) (constant : Option Constant) →
    field_code w f at id e from n is_static constant ≡ code_by w f at id e n (kept_constant w f (span_of e) from.node is_static constant)
codes w f at id e from n true (Some constant) = refl
codes w f at id e from n true None = refl
codes w f at id e from n false constant = refl

kept-statics : (w : ClassWalk) (f : DeclaredField) (span : Span) (from : Core) (is_static inner : Bool) (constant : Option Constant) →
    (is_static && not (is_some constant) && inner) ≡ (is_static && not (is_some (kept_constant w f span from is_static constant)) && inner)
kept-statics w f span from true inner (Some constant) = refl
kept-statics w f span from true inner None = refl
kept-statics w f span from false inner constant = refl

statics-by : (w : ClassWalk) (f : DeclaredField) (id : Identifier) (span : Span) (from : Core) (constant : Option Constant) →
    inner_static w f id constant ≡ static_kept w f id (kept_constant w f span from f.is_static constant)
unfolding words.inner_static
statics-by w f id span from constant =
    ap (λ b. check BadStatic id.span (not b)) (kept-statics w f span from f.is_static (is_inner (program_of w).source.sites (program_of w).heads w.class.0) constant)

module _ (w : ClassWalk) (at : ℕ) (id : Identifier) (e : Expression) (f : DeclaredField) (from : TypedNode) (n : Core) (kept : Option Core)
    (converted : assigned (program_of w).heads f.ty (span_of e) from ≡ gives n)
    (is : kept ≡ kept_constant w f (span_of e) from.node f.is_static (variable_constant f.is_final f.ty from.node)) where
  abbrev constant : Option Constant
  constant = variable_constant f.is_final f.ty from.node

  abbrev behind : Core → Judged MembersDone
  behind m = bind (inner_static w f id constant) (λ done. gives (field_code w f at id e from m f.is_static constant))

  asked : inner_static w f id constant ≡ static_kept w f id kept
  asked = statics-by w f id (span_of e) from.node constant ∙ ap (static_kept w f id) (sym is)

  pub initialized_is : (done : Unit {0}) → static_kept w f id kept ≡ gives done → initialized_by w at id e f from ≡ gives (code_by w f at id e n kept)
  initialized_is done kept-well =
      bind_gives (assigned (program_of w).heads f.ty (span_of e) from) behind n converted
      ∙ bind_gives (inner_static w f id constant) (λ done. gives (field_code w f at id e from n f.is_static constant)) done (asked ∙ kept-well)
      ∙ ap gives (codes w f at id e from n f.is_static constant ∙ ap (code_by w f at id e n) (sym is))

  pub initialized_faults : (r : Refusal) → IsFault (static_kept w f id kept) r → IsFault (initialized_by w at id e f from) r
  initialized_faults r h =
      subst (λ (j : Judged MembersDone). IsFault j r) (sym (bind_gives (assigned (program_of w).heads f.ty (span_of e) from) behind n converted))
      (bind_faults (inner_static w f id constant) (λ done. gives (field_code w f at id e from n f.is_static constant)) r
      (subst (λ (j : Judged (Unit {0})). IsFault j r) (sym asked) h))
