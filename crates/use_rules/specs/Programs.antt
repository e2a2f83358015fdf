-- The breaks of a whole program: of the heads, the constants, the initializers and the methods of its own classes, and of what these
-- implement and construct.
use Rattle.std.specs.Prelude.{List, Option, Some, None}
use Rattle.je_core.specs.declared.types.ClassId.{ClassId}
use Rattle.je_core.specs.Core.{CoreStmt, CoreField, CoreInitializer, CoreMethod, CoreClass, CoreProgram}
use Rattle.taming_db.specs.Rows.{Row}
use Rattle.rule_breaks.specs.Breaks.{Breaks, none, ◌∪◌, of_each}
use Rattle.overlay_types.specs.Guests.{of_each_guest}
use Rattle.class_uses.specs.Constructed.{constructing_breaks}
use Rattle.class_uses.specs.Extended.{head_breaks}
use Rattle.class_uses.specs.Implemented.{implementing_breaks}
use Rattle.use_rules.specs.Expressions.{value_breaks}
use Rattle.use_rules.specs.Statements.{statement_breaks}

module _ (p : CoreProgram) (rows : List Row) where
  abbrev pub field_breaks : CoreField → Breaks
  field_breaks f = value_breaks p rows f.constant

  abbrev pub initializer_breaks : CoreInitializer → Breaks
  initializer_breaks i = statement_breaks p rows i.body

  abbrev pub body_breaks : Option CoreStmt → Breaks
  body_breaks None = none
  body_breaks (Some s) = statement_breaks p rows s

  abbrev pub method_breaks : CoreMethod → Breaks
  method_breaks m = body_breaks m.body

  -- of what a class is declared as
  abbrev pub header_breaks : ClassId → CoreClass → Breaks
  header_breaks class c = of_each (head_breaks rows) c.heads ∪ implementing_breaks p rows class c ∪ constructing_breaks p rows c

  abbrev pub members_breaks : CoreClass → Breaks
  members_breaks c = of_each field_breaks c.fields ∪ of_each initializer_breaks c.initializers ∪ of_each method_breaks c.methods

  abbrev pub class_breaks : ClassId → CoreClass → Breaks
  class_breaks class c = header_breaks class c ∪ members_breaks c

-- of the classes of the program's own
unfoldable pub program_breaks : CoreProgram → List Row → Breaks
program_breaks p rows = of_each_guest (class_breaks p rows) p
