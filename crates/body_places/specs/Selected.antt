-- What contracts see of a field that a name finds.
use Rattle.std.specs.Prelude.{◌<◌, ◌^◌}
use Rattle.je_classes.specs.Members.{Found, one}
use Rattle.declarations.specs.View.{field_shown}
use Rattle.name_typing.specs.Accesses as words
use Rattle.body_places.specs.declared.fields.Selected.{Selected}

abbrev pub selected_seen : Selected → words.Selected
selected_seen s = record { member = record { class = s.class; at = s.field }; declared = field_shown s.declared.now }

-- the place of a field that is there
abbrev pub IsSmall : Found → Type 0
IsSmall (one m) = m.at < 2 ^ 32
IsSmall _ = Unit {0}
