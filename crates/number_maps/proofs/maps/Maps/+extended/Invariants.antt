use Rattle.number_maps.proofs.maps.Maps.+extended.Given as goal

abbrev pub decreases-extended : goal.decreases-extended
decreases-extended l = l.bits
