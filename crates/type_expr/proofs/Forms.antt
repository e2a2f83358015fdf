-- What forms of several parts come to.
use Rattle.std.proofs.Common.{◌≡◌, ◌⊎◌, inl, inr, ℕ, Bool, List, Option, Result, IfOk, IfErr, refl, sym, ap, subst, ◌∙◌}
use Rattle.je_base.specs.declared.span.Span.{Span}
use Rattle.je_ast.specs.declared.name.Identifier.{Identifier}
use Rattle.je_ast.specs.declared.operator.BinaryOp.{BinaryOp}
use Rattle.je_ast.specs.Spans.{span_of}
use Rattle.je_ast.specs.Trees.{Expression, Expressions, assign, array_init, call_on, conditional, new_array_of}
use Rattle.je_ast.specs.Types.{TypeName}
use Rattle.je_scopes.specs.SourceTypes.{SourceType}
use Rattle.je_typing.specs.declared.fault.Refusal.{Refusal}
use Rattle.je_typing.specs.declared.fault.Refusal.TheVariants.{Fault}
use Rattle.je_typing.specs.declared.fault.TypeRule.TheVariants.{BadArray}
use Rattle.je_typing.specs.Answers.{IsFault, first_fault}
use Rattle.je_typing.specs.Arrays.{Part, array_type, elements_if, elements_node}
use Rattle.je_typing.specs.Conditionals.{choice}
use Rattle.je_typing.specs.Judged.{Judged, bind, gives}
use Rattle.je_typing.specs.Typed.{TypedNode, element_type}
use Rattle.je_typing.proofs.Walks.{bind_faults, bind_gives, fault_later}
use Rattle.body_types.specs.BodyTypes.{bare_type}
use Rattle.body_typing.specs.Expressions.{Purpose, array_over, assign_step, assigned_by, innermost, is_variable, name_span, read, target_purpose}
use Rattle.type_expr.specs.Seen.{purpose_seen}
use Rattle.type_expr.specs.declared.purpose.Purpose.{Purpose as Purposed}
use Rattle.type_expr.specs.declared.purpose.Purpose.TheVariants.{Read, Assigned, Updated}
use Rattle.typed_nodes.specs.declared.typed.TypedExpr.{TypedExpr}
use Rattle.typed_nodes.specs.Seen.{seen}
use Rattle.body_scopes.specs.View.{scope_seen}
use Rattle.body_scopes.specs.declared.scope.Scope.{Scope}
use Rattle.body_walks.specs.Walks.{known_in, program_in}
use Rattle.body_walks.specs.declared.bodies.Bodies.{Bodies}
use Rattle.type_expr.specs.way.Calls.{called_on}
use Rattle.type_expr.specs.Walk.{elements_behind, expression_in, value_in}

module _ (b : Bodies) (s : Scope) where
  -- an assignment, of parts with their spans
  pub assign_is : (o : Option BinaryOp) (at span : Span) (e f : Expression) (q : Purpose) (left right : TypedNode) (left_span right_span : Span) (written : Bool) →
      q ≡ target_purpose o → value_in b s q e ≡ gives left → left_span ≡ span_of e → value_in b s read f ≡ gives right → right_span ≡ span_of f → written ≡ is_variable e →
      expression_in b s read (assign o at e f span)
      ≡ assigned_by (program_in b) (known_in b) (scope_seen s) left_span written left (assign_step (program_in b) (known_in b) (scope_seen s) o at left_span right_span span left right)
  assign_is o at span e f q left right left_span right_span written for h spans g ends is =
      rw (spans, ends, is)
      (bind_gives (value_in b s (target_purpose o) e) _ left (subst (λ (x : Purpose). value_in b s x e ≡ gives left) for h)
      ∙ bind_gives (value_in b s read f) _ right g)

  -- a call is the same whatever it is for
  call_on_for : (q : Purpose) (e : Expression) (id : Identifier) (es : Expressions) (span : Span) →
      expression_in b s q (call_on e id es span) ≡ called_on b s e id es span
  unfolding called_on
  call_on_for q e id es span = refl

  pub call_on_gives : (q : Purpose) (x e : Expression) (id : Identifier) (es : Expressions) (span : Span) (r : Result TypedExpr Refusal) → x ≡ call_on e id es span →
      IfOk r (λ t. called_on b s e id es span ≡ gives (seen t)) → IfOk r (λ t. expression_in b s q x ≡ gives (seen t))
  call_on_gives q x e id es span r is h =
      subst (λ (j : Judged TypedNode). IfOk r (λ t. j ≡ gives (seen t))) (sym (ap (expression_in b s q) is ∙ call_on_for q e id es span)) h

  pub call_on_faulty : (q : Purpose) (x e : Expression) (id : Identifier) (es : Expressions) (span : Span) (r : Result TypedExpr Refusal) → x ≡ call_on e id es span →
      IfErr r (IsFault (called_on b s e id es span)) → IfErr r (IsFault (expression_in b s q x))
  call_on_faulty q x e id es span r is h =
      subst (λ (j : Judged TypedNode). IfErr r (IsFault j)) (sym (ap (expression_in b s q) is ∙ call_on_for q e id es span)) h

  -- a conditional, of parts of which the first has its span
  pub conditional_is : (at span : Span) (c e f : Expression) (condition first second : TypedNode) (written : Span) →
      value_in b s read c ≡ gives condition → written ≡ span_of c → value_in b s read e ≡ gives first → value_in b s read f ≡ gives second →
      expression_in b s read (conditional at c e f span) ≡ choice (program_in b).heads at written span condition first second
  conditional_is at span c e f condition first second written h spans g k =
      rw spans
      (bind_gives (value_in b s read c) _ condition h
      ∙ bind_gives (value_in b s read e) _ first g
      ∙ bind_gives (value_in b s read f) _ second k)

  -- the third part of a conditional is at fault
  pub third_faults : (at span : Span) (c e f : Expression) (condition first : TypedNode) (r : Refusal) →
      value_in b s read c ≡ gives condition → value_in b s read e ≡ gives first → IsFault (value_in b s read f) r →
      IsFault (expression_in b s read (conditional at c e f span)) r
  third_faults at span c e f condition first r h g last =
      fault_later (value_in b s read c) _ condition r h (fault_later (value_in b s read e) _ first r g (bind_faults (value_in b s read f) _ r last))

  -- a new array with its elements
  pub elements_are_made : (t : TypeName) (dims : ℕ) (e : Expression) (span name : Span) (of ty : SourceType) (es : List Part) →
      bare_type (program_in b) (scope_seen s).place.here t ≡ gives of → ty ≡ array_over of dims → elements_behind b s ty e ≡ gives es → name ≡ name_span t →
      expression_in b s read (new_array_of t dims e span)
      ≡ bind (elements_if (program_in b).heads (element_type (array_over of dims)) es) (λ given. bind (array_type (program_in b).heads (innermost of) dims name)
      (λ made. gives (elements_node (program_in b).heads made span given)))
  elements_are_made t dims e span name of ty es h over g named =
      rw named
      (bind_gives (bare_type (program_in b) (scope_seen s).place.here t) _ of h
      ∙ bind_gives (elements_behind b s (array_over of dims) e) _ es (subst (λ (x : SourceType). elements_behind b s x e ≡ gives es) over g))

  -- an array initializer where no type is known
  pub no_type_known : (es : Expressions) (span : Span) (q : Purposed) → (q ≡ Read) ⊎ ((q ≡ Assigned) ⊎ (q ≡ Updated)) →
      IsFault (expression_in b s (purpose_seen q) (array_init es span)) (Fault (record { rule = BadArray; span = span }))
  no_type_known es span q (inl e) = rw e (first_fault refl)
  no_type_known es span q (inr (inl e)) = rw e (first_fault refl)
  no_type_known es span q (inr (inr e)) = rw e (first_fault refl)
