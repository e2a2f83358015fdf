use Rattle.std.proofs.Common.{sym, ◌∙◌}
use Rattle.std.specs.Prelude.{slice_index}
use Rattle.std.proofs.lemmas.Bool.{ltb-true}
use Rattle.scope_laws.proofs.Cycles.{ranked_is_free}
use Rattle.name_cycles.specs.Graph.{depends_on}
use Rattle.name_cycles.proofs.cycles.Dependences.is_on_cycle.Goals as goal

pub returns-then-is_ranked : goal.returns-then-is_ranked
returns-then-is_ranked c =
    (λ e. absurd (cc), λ w. absurd (ranked_is_free (depends_on c.args.self.now) c.args.ranks.now c.requires.grounding c.args.class.0 (ltb-true 0 (slice_index c.args.ranks.now c.args.class.0) (sym c.is_ranked.ensures ∙ c.if-is_ranked.true)) w))
