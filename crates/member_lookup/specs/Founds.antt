-- What a look-up finds, as the definitions have it.
use Rattle.je_classes.specs.Members.{Found, nothing, one, several}
use Rattle.member_lookup.specs.declared.found.Found.{Found as TheFound}
use Rattle.member_lookup.specs.declared.found.Found.TheVariants.{Nothing, One, Several}

abbrev pub found_seen : TheFound → Found
found_seen Nothing = nothing
found_seen (One class at) = one (record { class = class; at = at })
found_seen Several = several
