-- A class type that is written in a body: its arguments, and what stands behind them.
use Rattle.std.proofs.Common.{◌≡◌, ℕ, refl, sym, ap, ◌∙◌}
use Rattle.je_base.specs.declared.span.Span.{Span}
use Rattle.je_ast.specs.Types.{QualifiedName, TypeName, TypeNames, class_type}
use Rattle.je_scopes.specs.SourceTypes.{SourceTypes}
use Rattle.je_typing.specs.declared.fault.Refusal.{Refusal}
use Rattle.je_typing.specs.Answers.{IsFault}
use Rattle.je_typing.specs.Judged.{gives, bind}
use Rattle.je_typing.proofs.Walks.{bind_gives, bind_faults}
use Rattle.written_types.proofs.Walking.{fault_of}
use Rattle.name_typing.specs.Program.{Frame, Program}
use Rattle.body_types.specs.BodyTypes.{body_type, body_types}
use Rattle.body_type_steps.specs.way.Checked.{behind_arguments}

module _ (p : Program) (here : Frame) (ty : TypeName) (q : QualifiedName) (args : TypeNames) (dims : ℕ) (span : Span)
    (is : class_type q args dims span ≡ ty) (walked : TypeNames) (same : walked ≡ args) where
  whole-is : (asked : TypeNames) → asked ≡ args → body_type p here ty ≡ bind (body_types p here walked) (λ (ts : SourceTypes). behind_arguments p here q asked dims span ts)
  whole-is asked alike =
      ap (body_type p here) (sym is)
      ∙ (λ i. bind (body_types p here (sym same i)) (λ (ts : SourceTypes). behind_arguments p here q (sym alike i) dims span ts))

  pub arguments_fail : (r : Refusal) → IsFault (body_types p here walked) r → IsFault (body_type p here ty) r
  arguments_fail r f = fault_of (whole-is args refl) (bind_faults (body_types p here walked) (λ (ts : SourceTypes). behind_arguments p here q args dims span ts) r f)

  pub behind_them : (asked : TypeNames) (ts : SourceTypes) → asked ≡ args → body_types p here walked ≡ gives ts → body_type p here ty ≡ behind_arguments p here q asked dims span ts
  behind_them asked ts alike g = whole-is asked alike ∙ bind_gives (body_types p here walked) (λ (us : SourceTypes). behind_arguments p here q asked dims span us) ts g
