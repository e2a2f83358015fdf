-- `? :` by its type.
use Rattle.std.proofs.Common.{◌≡◌, List, Option, Some, None, Bool, true, false, refl, sym, ◌∙◌, subst}
use Rattle.je_base.specs.declared.span.Span.{Span}
use Rattle.je_scopes.specs.SourceTypes.{SourceType}
use Rattle.source_types.specs.Heads.{ClassHead}
use Rattle.je_typing.specs.declared.fault.Refusal.{Refusal}
use Rattle.je_typing.specs.declared.fault.TypeRule.TheVariants.{BadCondition, BadOperand}
use Rattle.je_typing.specs.Answers.{IsFault}
use Rattle.je_typing.specs.Conditionals.{choice, choice_node, choice_type}
use Rattle.je_typing.specs.Judged.{Judged, bind, check, gives, need}
use Rattle.je_typing.specs.Typed.{TypedNode, is_boolean}
use Rattle.je_typing.proofs.Walks.{bind_gives, bind_faults}
use Rattle.operator_steps.specs.way.ConditionalTypes.{judged_type}

in-turn : (at span : Span) (o : Option SourceType) (b : Bool) (f : SourceType → TypedNode) →
    bind (need BadOperand at o) (λ (t : SourceType). bind (check BadCondition span b) (λ done. gives (f t))) ≡
    bind (bind (need BadOperand at o) (λ (t : SourceType). bind (check BadCondition span b) (λ done. gives t))) (λ (t : SourceType). gives (f t))
unfolding bind check need
in-turn at span None b f = refl
in-turn at span (Some t) true f = refl
in-turn at span (Some t) false f = refl

module _ (heads : List ClassHead) (at condition_span span : Span) (c y n : TypedNode) where
  abbrev whole : SourceType → TypedNode
  whole t = record { node = choice_node heads t at span c.node y.node n.node; type = t }

  by-type : choice heads at condition_span span c y n ≡ bind (judged_type heads at condition_span c y n) (λ (t : SourceType). gives (whole t))
  unfolding choice judged_type
  by-type = in-turn at condition_span (choice_type heads y n) (is_boolean c.type) whole

  pub choice_gives : (t : SourceType) → judged_type heads at condition_span c y n ≡ gives t → choice heads at condition_span span c y n ≡ gives (whole t)
  choice_gives t e = by-type ∙ bind_gives (judged_type heads at condition_span c y n) (λ (u : SourceType). gives (whole u)) t e

  pub choice_faults : (r : Refusal) → IsFault (judged_type heads at condition_span c y n) r → IsFault (choice heads at condition_span span c y n) r
  choice_faults r h = subst (λ (step : Judged TypedNode). IsFault step r) (sym by-type)
      (bind_faults (judged_type heads at condition_span c y n) (λ (u : SourceType). gives (whole u)) r h)
