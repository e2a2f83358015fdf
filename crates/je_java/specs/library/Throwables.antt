-- What the members of java.lang.Throwable (its page in the Java SE 5 API), of the classes below it and of host.Refused do,
-- each under its signature. The constructors take the object under construction.
use Rattle.std.specs.Prelude.{ℕ, List, [], ◌∷◌, codes}
use Rattle.je_core.specs.declared.types.ClassId.{ClassId}
use Rattle.je_core.specs.declared.value.Value.{Value}
use Rattle.je_core.specs.declared.value.Value.TheVariants.{Null}
use Rattle.je_core.specs.Core.{CoreProgram}
use Rattle.je_classes.specs.Hierarchy.{library_class}
use Rattle.je_java.specs.Steps.{Computation, ret, ◌>>=◌, wrong, read_field, write_field}
use Rattle.je_java.specs.library.Arguments.{argument, Entry, entry_of}

unfoldable pub throwable_class : ClassId
throwable_class = library_class (codes "java.lang.Throwable")

unfoldable pub refused_class : ClassId
refused_class = library_class (codes "host.Refused")

-- Throwable keeps its message, and Refused its code, each in the one field of the class.
abbrev pub kept : ℕ
kept = 0

-- the message may be null
unfoldable pub with_message : CoreProgram → Value → List Value → Computation Value
with_message program this given = do
  message ← argument given 0
  write_field program throwable_class kept this message

abbrev pub throwable_entries : CoreProgram → Value → List Value → List Entry
throwable_entries program this given =
    (codes "code()", read_field program refused_class kept this) ∷
    (codes "getMessage()", read_field program throwable_class kept this) ∷
    (codes "new()", ret Null) ∷
    (codes "new(String)", with_message program this given) ∷
    []

unfoldable pub throwable_member : CoreProgram → List ℕ → Value → List Value → Computation Value
throwable_member program signature this given = entry_of signature (throwable_entries program this given) wrong
