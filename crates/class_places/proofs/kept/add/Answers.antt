use Rattle.std.proofs.Common.{refl, sym, ◌∙◌}
use Rattle.body_places.specs.View.{program_seen}
use Rattle.class_places.proofs.Gained.{gains_inserted}
use Rattle.class_places.proofs.kept.add.Goals as goal

pub returns-in_ok-insert : goal.returns-in_ok-insert
returns-in_ok-insert c = gains_inserted (program_seen c.args.program.now) _ (λ a b. refl) c.args.all.now.keys _ c.args.one
    (sym c.is_outside.ensures ∙ c.if-is_outside.true) c.in_ok-insert.ensures.keys
