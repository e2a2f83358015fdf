use Rattle.std.proofs.Common.{◌≡◌, ℕ, ◌<◌, map, option_map, true}
use Rattle.std.specs.Prelude.{slice_get}
use Rattle.body_places.specs.Tables.{constant_seen, values_in}
use Rattle.type_decl.specs.way.Asked.{is_asked}
use Rattle.type_decl.proofs.rows.are_settled.Given as goal

abbrev pub invariant-loop-at : goal.invariant-loop-at
invariant-loop-at l = (c : ℕ) → c < l.at → is_asked l.asked c ≡ true →
    map (option_map constant_seen) (values_in (slice_get l.rows c)) ≡ map (option_map constant_seen) (values_in (slice_get l.constants c))
