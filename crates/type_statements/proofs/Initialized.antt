-- A local variable with an initializer, step by step.
use Rattle.std.proofs.Common.{◌≡◌, ℕ, Option, None, ap, sym, subst, ◌∙◌}
use Rattle.std.specs.Prelude.{Bool}
use Rattle.je_base.specs.declared.span.Span.{Span}
use Rattle.je_ast.specs.declared.name.Identifier.{Identifier}
use Rattle.je_ast.specs.Spans.{span_of}
use Rattle.je_ast.specs.Trees.{Expression}
use Rattle.je_ast.specs.Types.{TypeName}
use Rattle.je_core.specs.Core.{Core}
use Rattle.je_scopes.specs.SourceTypes.{SourceType}
use Rattle.header_typing.specs.WrittenTypes.{well_declared}
use Rattle.je_typing.specs.declared.fault.Refusal.{Refusal}
use Rattle.je_typing.specs.Answers.{IsFault}
use Rattle.je_typing.specs.Conversions.{assigned}
use Rattle.je_typing.specs.Judged.{Judged, gives}
use Rattle.je_typing.specs.Typed.{TypedNode}
use Rattle.je_typing.proofs.Walks.{bind_faults, bind_gives, fault_later}
use Rattle.name_typing.specs.Program.{Constant, LocalVariable}
use Rattle.body_typing.specs.ConstantVariables.{variable_constant}
use Rattle.body_typing.specs.Expressions.{expression, initial, value}
use Rattle.body_typing.specs.FinalVariables.{Scope}
use Rattle.body_typing.specs.Bodies.{Done, Progress, local_of, next_number, with_local}
use Rattle.body_typing.specs.LocalVariables.{new_name, with_initializer}
use Rattle.statement_forms.specs.declared.walk.Walk.{Walk}
use Rattle.statement_forms.specs.Seen.{known_of, program_of}
use Rattle.type_statements.specs.way.Declared.{declared}

module _ (w : Walk) (is_final : Bool) (start : Span) (written : TypeName) (of : SourceType) (s : Scope) (pr : Progress) (id : Identifier) (dims : ℕ) (t : SourceType)
    (e : Expression) where
  abbrev whole : Judged Done
  whole = with_initializer (program_of w) (known_of w) is_final start written of s pr id dims t e

  abbrev numbered : ℕ → Option Constant → LocalVariable
  numbered n constant = local_of id.name t is_final n constant

  -- the value, with that variable in scope
  abbrev valued : LocalVariable → Judged TypedNode
  valued v = value (expression (program_of w) (known_of w) (with_local v.is_final v s) (initial t) e)

  abbrev judged : Judged TypedNode
  judged = valued (numbered (next_number pr) None)

  abbrev converted : TypedNode → Judged Core
  converted from = assigned (program_of w).heads t (span_of e) from

  module _ (n : ℕ) (v : LocalVariable) (counted : n ≡ next_number pr) (known : v ≡ numbered n None) where
    valued_is : valued v ≡ judged
    valued_is = ap valued (known ∙ ap (λ (k : ℕ). numbered k None) counted)

    pub no_value : (r : Refusal) → IsFault (valued v) r → IsFault whole r
    no_value r f = bind_faults judged _ r (subst (λ (j : Judged TypedNode). IsFault j r) valued_is f)

    module _ (from : TypedNode) (came : valued v ≡ gives from) (later : Scope) (stays : later ≡ s) where
      comes : judged ≡ gives from
      comes = sym valued_is ∙ came

      pub old_name : (r : Refusal) → IsFault (new_name later id) r → IsFault whole r
      old_name r f = fault_later judged _ from r comes (bind_faults (new_name s id) _ r (subst (λ (at : Scope). IsFault (new_name at id) r) stays f))

      module _ (u : Unit {0}) (new : new_name later id ≡ gives u) where
        is_new : new_name s id ≡ gives u
        is_new = subst (λ (at : Scope). new_name at id ≡ gives u) stays new

        pub not_converted : (r : Refusal) → IsFault (converted from) r → IsFault whole r
        not_converted r f = fault_later judged _ from r comes (fault_later (new_name s id) _ u r is_new (bind_faults (converted from) _ r f))

        module _ (to : Core) (fits : converted from ≡ gives to) where
          pub too_many : (r : Refusal) → IsFault (well_declared written dims id) r → IsFault whole r
          too_many r f =
              fault_later judged _ from r comes (fault_later (new_name s id) _ u r is_new
              (fault_later (converted from) _ to r fits (bind_faults (well_declared written dims id) _ r f)))

          pub initialized_is : (few : Unit {0}) (constant : Option Constant) (x : LocalVariable) (d : Done) → well_declared written dims id ≡ gives few →
              constant ≡ variable_constant is_final t from.node → x ≡ numbered n constant → d ≡ declared (program_of w) is_final start later pr x id e to →
              whole ≡ gives d
          initialized_is few constant x d h k is made =
              let whole_variable : x ≡ numbered (next_number pr) (variable_constant is_final t from.node) =
              is ∙ ap (λ (at : ℕ). numbered at constant) counted ∙ ap (numbered (next_number pr)) k in
              bind_gives judged _ from comes ∙ bind_gives (new_name s id) _ u is_new ∙ bind_gives (converted from) _ to fits
              ∙ bind_gives (well_declared written dims id) _ few h
              ∙ ap gives (sym (made ∙ ap (λ (at : Scope). declared (program_of w) is_final start at pr x id e to) stays
              ∙ ap (λ (y : LocalVariable). declared (program_of w) is_final start s pr y id e to) whole_variable))
