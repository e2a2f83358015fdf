-- The constants of a class of the library, field by field.
use Rattle.std.specs.Prelude.{List, [], map, Option, if◌then◌else◌}
use Rattle.je_core.specs.Core.{CoreField}
use Rattle.je_scopes.specs.Headers.{is_guest}
use Rattle.je_scopes.specs.Sites.{Written}
use Rattle.name_typing.specs.Program.{Constant}
use Rattle.class_typing.specs.ConstantFields.{constant_if}

abbrev pub constant_kept : CoreField → Option Constant
constant_kept f = constant_if f.constant

abbrev pub constants_due : Written → List CoreField → List (Option Constant)
constants_due w fs = if is_guest w then [] else map constant_kept fs
