-- What contracts see of the constant strings that the walk finds.
use Rattle.class_typing.specs.Texts.{TextAt}
use Rattle.program_tables.specs.declared.found.Found.{Found}

abbrev pub found_seen : Found → TextAt
found_seen f = record { units = f.units.now; span = f.span }
