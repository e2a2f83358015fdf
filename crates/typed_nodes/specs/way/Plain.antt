-- What is asked of types by their base alone.
use Rattle.std.specs.Prelude.{zero, Bool, true, false, Option, Some, None, if◌then◌else◌}
use Rattle.je_core.specs.declared.types.Base.{Base}
use Rattle.je_fitting.specs.Types.{is_number_base}
use Rattle.je_scopes.specs.SourceTypes.{SourceType, plain}
use Rattle.je_typing.specs.Promotion.{promoted_base}
use Rattle.je_classes.specs.Subtypes.{is_reference_base}
use Rattle.je_typing.specs.Typed.{is_bool_base, is_primitive_base, is_void_base}

-- the base of a type that is no class, no type variable and no array
abbrev pub plain_of : SourceType → Option Base
plain_of (plain b zero) = Some b
plain_of _ = None

abbrev pub promoted_if : Option Base → Option Base
promoted_if None = None
promoted_if (Some b) = promoted_base b

abbrev pub is_bool_if : Option Base → Bool
is_bool_if None = false
is_bool_if (Some b) = is_bool_base b

abbrev pub is_number_if : Option Base → Bool
is_number_if None = false
is_number_if (Some b) = is_number_base b

abbrev pub is_void_if : Option Base → Bool
is_void_if None = false
is_void_if (Some b) = is_void_base b

abbrev pub primitive_if : Option Base → Option Base
primitive_if None = None
primitive_if (Some b) = if is_primitive_base b then Some b else None

abbrev pub is_reference_if : Option Base → Bool
is_reference_if None = true
is_reference_if (Some b) = is_reference_base b
