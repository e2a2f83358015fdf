-- The enum of a class.
use Rattle.std.specs.Prelude.{ℕ, List, Option, Some, None}
use Rattle.source_types.specs.Heads.{ClassHead, head_at}
use Rattle.call_typing.specs.Creations.{is_enum_in}
use Rattle.body_typing.specs.Switches.{enum_if}

abbrev pub enum_in : List ClassHead → Option ℕ → Option ℕ
enum_in heads None = None
enum_in heads (Some c) = enum_if (is_enum_in (head_at heads c)) c
