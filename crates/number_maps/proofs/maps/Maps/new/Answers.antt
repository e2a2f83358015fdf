use Rattle.std.proofs.Common.{◌++◌, List, [], ◌∷◌, ap, ◌∙◌}
use Rattle.std.specs.Prelude.{slice_get}
use Rattle.number_maps.specs.declared.maps.Node.{Node}
use Rattle.number_maps.specs.way.Nodes.{empty}
use Rattle.number_maps.proofs.Sharing.{begins_empty}
use Rattle.number_maps.proofs.maps.Maps.new.Goals as goal

pub returns-clause-empty : goal.returns-clause-empty
returns-clause-empty c = begins_empty _ (ap (λ xs. slice_get xs 0) (c.in_ok-push.ensures.items ∙ ap (λ (xs : List Node). xs ++ empty ∷ []) c.new-nodes.ensures.items))
