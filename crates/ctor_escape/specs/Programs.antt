-- The rule that no object escapes from the code that makes it: its constructors (JLS 8.8), its instance initializers (JLS 8.6) and
-- the initializers of its instance fields (JLS 8.3.2). A class in a class has a `this` of its own.
use Rattle.std.specs.Prelude.{Option, Some, None, if◌then◌else◌}
use Rattle.je_core.specs.Core.{CoreStmt, CoreInitializer, CoreMethod, CoreClass, CoreProgram}
use Rattle.constructor_calls.specs.Calls.{is_constructor}
use Rattle.rule_breaks.specs.Breaks.{Breaks, none, ◌∪◌, of_each}
use Rattle.ctor_escape.specs.Statements.{statement_escapes}

module _ (p : CoreProgram) where
  abbrev pub body_escapes : Option CoreStmt → Breaks
  body_escapes None = none
  body_escapes (Some body) = statement_escapes p body

  abbrev pub constructor_escapes : CoreMethod → Breaks
  constructor_escapes m = if is_constructor p m then body_escapes m.body else none

  -- that of an instance field is one too
  abbrev pub initializer_escapes : CoreInitializer → Breaks
  initializer_escapes i = if i.is_static then none else statement_escapes p i.body

  abbrev pub class_escapes : CoreClass → Breaks
  class_escapes c = of_each initializer_escapes c.initializers ∪ of_each constructor_escapes c.methods

-- of all classes: those of the library have no bodies
unfoldable pub program_escapes : CoreProgram → Breaks
program_escapes p = of_each (class_escapes p) p.classes
