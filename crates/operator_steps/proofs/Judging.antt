-- Assignments by what they judge of their sides.
use Rattle.std.proofs.Common.{◌≡◌, List, refl, sym, ◌∙◌, subst}
use Rattle.je_base.specs.declared.span.Span.{Span}
use Rattle.je_core.specs.declared.expr.BinOp.{BinOp}
use Rattle.je_core.specs.Core.{Core}
use Rattle.source_types.specs.Heads.{ClassHead}
use Rattle.je_typing.specs.declared.fault.Refusal.{Refusal}
use Rattle.je_typing.specs.declared.fault.TypeRule.TheVariants.{BadOperand}
use Rattle.je_typing.specs.Answers.{IsFault}
use Rattle.je_typing.specs.Assignments.{assign_node, assignment, place, update, update_node, updates}
use Rattle.je_typing.specs.Conversions.{assigned}
use Rattle.je_typing.specs.Judged.{Judged, gives, faulty, bind, check}
use Rattle.je_typing.specs.Typed.{TypedNode}
use Rattle.je_typing.proofs.Walks.{bind_gives, bind_faults}
use Rattle.operator_steps.specs.way.Judging.{judged_sides, judged_value}

-- what is judged first is a step of its own
before : {A C : Type 0} (m : Judged A) (n : Judged (Unit {0})) (g : A → C) →
    bind m (λ (a : A). bind n (λ done. gives (g a))) ≡ bind (bind m (λ (a : A). bind n (λ done. gives a))) (λ (a : A). gives (g a))
unfolding bind
before (gives a) (gives d) g = refl
before (gives a) (faulty fault) g = refl
before (faulty fault) n g = refl

both : {C : Type 0} (m n : Judged (Unit {0})) (x : C) → bind m (λ done. bind n (λ again. gives x)) ≡ bind (bind m (λ done. n)) (λ done. gives x)
unfolding bind
both (gives a) n x = refl
both (faulty fault) n x = refl

module _ (heads : List ClassHead) (at left_span right_span span : Span) (left right : TypedNode) where
  by-value : assignment heads at left_span right_span span left right ≡ bind (judged_value heads left_span right_span left right) (λ (v : Core). gives (assign_node heads at span left v))
  unfolding assignment judged_value
  by-value = before (assigned heads left.type right_span right) (place left_span left) (assign_node heads at span left)

  pub assignment_gives : (v : Core) → judged_value heads left_span right_span left right ≡ gives v → assignment heads at left_span right_span span left right ≡ gives (assign_node heads at span left v)
  assignment_gives v e = by-value ∙ bind_gives (judged_value heads left_span right_span left right) (λ (u : Core). gives (assign_node heads at span left u)) v e

  pub assignment_faults : (r : Refusal) → IsFault (judged_value heads left_span right_span left right) r → IsFault (assignment heads at left_span right_span span left right) r
  assignment_faults r h = subst (λ (step : Judged TypedNode). IsFault step r) (sym by-value)
      (bind_faults (judged_value heads left_span right_span left right) (λ (u : Core). gives (assign_node heads at span left u)) r h)

module _ (heads : List ClassHead) (o : BinOp) (at left_span span : Span) (left right : TypedNode) where
  by-sides : update heads o at left_span span left right ≡ bind (judged_sides o at left_span left right) (λ done. gives (update_node heads o at span left right.node))
  unfolding update judged_sides
  by-sides = both (check BadOperand at (updates o left.type right.type)) (place left_span left) (update_node heads o at span left right.node)

  pub update_gives : (done : Unit {0}) → judged_sides o at left_span left right ≡ gives done → update heads o at left_span span left right ≡ gives (update_node heads o at span left right.node)
  update_gives done e = by-sides ∙ bind_gives (judged_sides o at left_span left right) (λ again. gives (update_node heads o at span left right.node)) done e

  pub update_faults : (r : Refusal) → IsFault (judged_sides o at left_span left right) r → IsFault (update heads o at left_span span left right) r
  update_faults r h = subst (λ (step : Judged TypedNode). IsFault step r) (sym by-sides)
      (bind_faults (judged_sides o at left_span left right) (λ again. gives (update_node heads o at span left right.node)) r h)
