use Rattle.std.proofs.Common.{◌≡◌, ◌++◌, drop, map, string_bytes, option_map}
use Rattle.taming_db.specs.Rows.{member_places}
use Rattle.taming_db.proofs.judge.members.Given as goal

-- the places so far, and those of the rest
abbrev pub invariant-loop-signature : goal.invariant-loop-signature
invariant-loop-signature l =
    option_map (λ ps. l.places.items ++ ps) (member_places l.class (map string_bytes (drop l.signature-index l.signatures))) ≡ member_places l.class (map string_bytes l.signatures)
