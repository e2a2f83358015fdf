-- Of which types objects may be made, by the headers of all classes alone (JLS 15.9.1, 15.9.5).
use Rattle.std.specs.Prelude.{Bool, not, ◌||◌, List, if◌then◌else◌}
use Rattle.je_scopes.specs.SourceTypes.{SourceType}
use Rattle.source_types.specs.Heads.{ClassHead, object_type}
use Rattle.header_typing.specs.Supers.{head_of, is_interface}
use Rattle.call_typing.specs.Creations.{is_abstract_in, is_enum_in, is_variable}

abbrev pub has_constructors : List ClassHead → SourceType → Bool
has_constructors heads t = not (is_variable t || is_interface heads t || is_enum_in (head_of heads t))

abbrev pub is_abstract : List ClassHead → SourceType → Bool
is_abstract heads t = is_abstract_in (head_of heads t)

abbrev pub made_of : List ClassHead → SourceType → SourceType
made_of heads t = if is_interface heads t then object_type else t
