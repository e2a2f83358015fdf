-- What tells where a class stands.
use Rattle.std.specs.Prelude.{Bool, is_some}
use Rattle.body_typing.specs.Bodies.{Met}
use Rattle.class_typing.specs.Places.{class_standing}

abbrev pub tells : Met → Bool
tells m = is_some (class_standing m)
