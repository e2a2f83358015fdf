-- A class type that is written: its arguments, their bounds, and then the whole.
use Rattle.std.proofs.Common.{◌≡◌, ℕ, List, ap, sym, ◌∙◌}
use Rattle.std.specs.Prelude.{Bool}
use Rattle.je_base.specs.declared.span.Span.{Span}
use Rattle.je_ast.specs.Types.{QualifiedName, TypeName, TypeNames, class_type}
use Rattle.je_scopes.specs.SourceTypes.{SourceType}
use Rattle.source_types.specs.Heads.{ClassHead}
use Rattle.je_typing.specs.declared.fault.Refusal.{Refusal}
use Rattle.je_typing.specs.declared.fault.TypeRule.TheVariants.{BadArray}
use Rattle.je_typing.specs.Answers.{IsFault}
use Rattle.je_typing.specs.Judged.{Judged, gives, bind, check}
use Rattle.je_typing.proofs.Walks.{bind_gives, bind_faults}
use Rattle.header_typing.specs.WrittenTypes.{all_well_written, bounded, is_in_limit, well_written}
use Rattle.written_types.proofs.Walking.{fault_of}

module _ (heads : List ClassHead) (means : TypeName → SourceType) (ty : TypeName) (q : QualifiedName) (args : TypeNames) (dims : ℕ) (span : Span)
    (is : ty ≡ class_type q args dims span) (walked : TypeNames) (same : walked ≡ args) where
  abbrev of_whole : Judged (Unit {0})
  of_whole = check BadArray span (is_in_limit dims)

  abbrev behind_arguments : TypeNames → Judged (Unit {0})
  behind_arguments asked = bind (bounded heads (means ty) asked) (λ (e : Unit {0}). of_whole)

  whole_is : (asked : TypeNames) → asked ≡ args → well_written heads means ty ≡ bind (all_well_written heads means walked) (λ (d : Unit {0}). behind_arguments asked)
  whole_is asked a =
      ap (well_written heads means) is
      ∙ (λ i. bind (all_well_written heads means (sym same i)) (λ (d : Unit {0}). bind (bounded heads (means (sym is i)) (sym a i)) (λ (e : Unit {0}). of_whole)))

  pub arguments_fail : (r : Refusal) → IsFault (all_well_written heads means walked) r → IsFault (well_written heads means ty) r
  arguments_fail r f = fault_of (whole_is walked same) (bind_faults (all_well_written heads means walked) (λ (d : Unit {0}). behind_arguments walked) r f)

  module _ (asked : TypeNames) (alike : asked ≡ args) (done : Unit {0}) (walk : all_well_written heads means walked ≡ gives done) where
    pub bounds_fail : (r : Refusal) → IsFault (bounded heads (means ty) asked) r → IsFault (well_written heads means ty) r
    bounds_fail r f =
        fault_of (whole_is asked alike ∙ bind_gives (all_well_written heads means walked) (λ (d : Unit {0}). behind_arguments asked) done walk)
        (bind_faults (bounded heads (means ty) asked) (λ (e : Unit {0}). of_whole) r f)

    pub comes_to_whole : (within : Unit {0}) (fits : Bool) → bounded heads (means ty) asked ≡ gives within → fits ≡ is_in_limit dims → well_written heads means ty ≡ check BadArray span fits
    comes_to_whole within fits b f =
        whole_is asked alike ∙ bind_gives (all_well_written heads means walked) (λ (d : Unit {0}). behind_arguments asked) done walk
        ∙ bind_gives (bounded heads (means ty) asked) (λ (e : Unit {0}). of_whole) within b ∙ ap (check BadArray span) (sym f)
