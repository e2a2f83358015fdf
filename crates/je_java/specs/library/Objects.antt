-- What the tame members of java.lang.Object (its page in the Java SE 5 API) and of org.joe_e.Token do, each under its
-- signature. The constructors take the object under construction.
use Rattle.std.specs.Prelude.{ℕ, List, [], ◌∷◌, codes}
use Rattle.je_core.specs.declared.value.Value.{Value}
use Rattle.je_core.specs.declared.value.Value.TheVariants.{Bool as Truth, Null}
use Rattle.je_java.specs.Equality.{same_reference}
use Rattle.je_java.specs.Steps.{Computation, ret, ◌>>=◌, wrong, need}
use Rattle.je_java.specs.library.Arguments.{argument, Entry, entry_of}

-- one object is equal to itself alone
unfoldable pub identity : Value → List Value → Computation Value
identity this given = do
  other ← argument given 0
  same ← need (same_reference this other)
  ret (Truth same)

abbrev pub object_entries : Value → List Value → List Entry
object_entries this given =
    (codes "equals(Object)", identity this given) ∷
    (codes "new()", ret Null) ∷
    []

unfoldable pub object_member : List ℕ → Value → List Value → Computation Value
object_member signature this given = entry_of signature (object_entries this given) wrong
