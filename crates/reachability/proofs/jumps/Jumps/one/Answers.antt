use Rattle.std.proofs.Common.{◌∙◌, ap, sym, Bool, List, [], ◌∷◌, ◌++◌}
use Rattle.flow_base.specs.declared.jumps.Way.{Way}
use Rattle.reachability.specs.Jumps.{jump_where}
use Rattle.reachability.specs.View.{jumps_view}
use Rattle.reachability.proofs.Jumped.{jumps_one, not_reached}
use Rattle.reachability.proofs.jumps.Jumps.one.Goals as goal

pub returns-then-not-reachable : goal.returns-then-not-reachable
returns-then-not-reachable c = c.none.ensures ∙ not_reached c.args.way c.args.reachable c.if-not-reachable.true

pub returns : goal.returns
unfolding jumps_view
returns c =
    jumps_one _ c.args.way (c.in_ok-push.ensures.items ∙ ap (λ (l : List Way). l ++ c.args.way ∷ []) c.new-ways.ensures.items)
    ∙ ap (λ (b : Bool). jump_where b c.args.way) (sym c.if-not-reachable.false)
