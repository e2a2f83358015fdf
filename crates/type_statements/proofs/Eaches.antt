-- A `for` over an array, step by step.
use Rattle.std.proofs.Common.{◌≡◌, ℕ, Option, ◌∙◌}
use Rattle.je_base.specs.declared.span.Span.{Span}
use Rattle.je_ast.specs.declared.name.Identifier.{Identifier}
use Rattle.je_ast.specs.Spans.{span_of}
use Rattle.je_ast.specs.Trees.{Expression}
use Rattle.je_core.specs.Core.{Core, CoreStmt}
use Rattle.je_scopes.specs.SourceTypes.{SourceType}
use Rattle.je_typing.specs.declared.fault.Refusal.{Refusal}
use Rattle.je_typing.specs.declared.fault.TypeRule.TheVariants.{BadForEach}
use Rattle.je_typing.specs.Answers.{IsFault}
use Rattle.je_typing.specs.Conversions.{assigned}
use Rattle.je_typing.specs.Judged.{Judged, gives, need}
use Rattle.je_typing.specs.Typed.{TypedNode, element_type}
use Rattle.je_typing.proofs.Walks.{bind_faults, bind_gives, fault_later}
use Rattle.body_typing.specs.FinalVariables.{Scope}
use Rattle.body_typing.specs.ForEach.{element}
use Rattle.body_typing.specs.LocalVariables.{new_name}
use Rattle.body_typing.specs.Statements.{for_each_code, for_each_judged}
use Rattle.statement_forms.specs.declared.walk.Walk.{Walk}
use Rattle.statement_forms.specs.Seen.{known_of, program_of, returning_of}

module _ (w : Walk) (s : Scope) (label : Option Identifier) (word : Span) (e : Expression) (array : TypedNode) (n : ℕ) (t : SourceType) (id : Identifier)
    (body : CoreStmt) where
  abbrev whole : Judged CoreStmt
  whole = for_each_judged (program_of w) (known_of w) (returning_of w) s label word e array n t id body

  abbrev of_type : Judged SourceType
  of_type = need BadForEach (span_of e) (element_type array.type)

  abbrev converted : SourceType → Judged Core
  converted of = assigned (program_of w).heads t (span_of e) (element (program_of w).heads (span_of e) array n of)

  pub each_is : (u : Unit {0}) (of : SourceType) (from : Core) → new_name s id ≡ gives u → of_type ≡ gives of → converted of ≡ gives from →
      whole ≡ gives (for_each_code (program_of w) (known_of w) (returning_of w) label word e array n t id from body)
  each_is u of from h g k = bind_gives (new_name s id) _ u h ∙ bind_gives of_type _ of g ∙ bind_gives (converted of) _ from k

  pub no_elements : (u : Unit {0}) (r : Refusal) → new_name s id ≡ gives u → IsFault of_type r → IsFault whole r
  no_elements u r h f = fault_later (new_name s id) _ u r h (bind_faults of_type _ r f)

  pub not_assigned : (u : Unit {0}) (of : SourceType) (r : Refusal) → new_name s id ≡ gives u → of_type ≡ gives of → IsFault (converted of) r → IsFault whole r
  not_assigned u of r h g f = fault_later (new_name s id) _ u r h (fault_later of_type _ of r g (bind_faults (converted of) _ r f))
