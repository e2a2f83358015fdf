use Rattle.std.proofs.Common.{refl, arith}
use Rattle.name_lookup.proofs.Sets.{gains-next, distinct-numbers}
use Rattle.name_lookup.proofs.member.add_all.Goals as goal

pub loop-class-preserved : goal.loop-class-preserved
loop-class-preserved c = record {
  gains = gains-next _ (λ a b. refl) _ _ _ _ _ _ (omega arith) c.in_ok-insert.ensures.keys c.loop-class.invariant.gains;
  distinct = λ d. distinct-numbers _ (λ a b. refl) _ c.in_ok-insert.ensures.unique;
}
