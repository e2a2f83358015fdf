-- What a `throws` clause may name: a class below Throwable, or a type variable with such a bound (JLS 8.4.6).
use Rattle.std.specs.Prelude.{List}
use Rattle.je_ast.specs.Types.{QualifiedName}
use Rattle.je_scopes.specs.SourceTypes.{SourceType}
use Rattle.source_types.specs.Heads.{ClassHead}
use Rattle.source_types.specs.Subtypes.{is_subtype}
use Rattle.je_typing.specs.declared.fault.TypeRule.TheVariants.{BadThrow}
use Rattle.je_typing.specs.Judged.{Judged, check}
use Rattle.header_typing.specs.Supers.{throwable_type}

-- a type behind `throws`, and the name that is written for it
unfoldable pub thrown : List ClassHead → SourceType → QualifiedName → Judged (Unit {0})
thrown heads t name = check BadThrow name.span (is_subtype heads t throwable_type)
