-- Whether a program is plain, as a test of each class, body and node in turn.
use Rattle.std.specs.Prelude.{ℕ, Bool, true, false, not, ◌&&◌, ◌||◌, length, Option, Some, None}
use Rattle.std.specs.List.{list_all}
use Rattle.je_core.specs.declared.types.ClassId.{ClassId}
use Rattle.je_core.specs.Core.{CoreForm, CoreStmt, CoreStmtForm, CoreInitializer, CoreMethod, CoreClass, CoreProgram}
use Rattle.je_classes.specs.Hierarchy.{class_at, is_below}
use Rattle.je_classes.specs.Members.{Member}
use Rattle.je_classes.specs.Dispatch.{dispatched}
use Rattle.je_fitting.specs.Classes.{is_interface}
use Rattle.je_fitting.specs.Expressions.{is_interface_sort, places_up_to}
use Rattle.je_fitting.specs.Members.{is_guest}
use Rattle.je_fitting.specs.way.Quantifying.{implies, if_there, each_method}
use Rattle.plain_programs.specs.Nodes.{throughout}
use Rattle.plain_programs.specs.Plain.{has_finally, assigns_static, names_wild, joins_wild}
use Rattle.plain_programs.specs.Wild.{is_wild}

-- a statement without `finally`
abbrev pub is_plain_form : CoreStmtForm → Bool
is_plain_form f = not (has_finally f)

abbrev pub is_wild_if : Option Member → Bool
is_wild_if None = false
is_wild_if (Some m) = is_wild m

module _ (program : CoreProgram) where
  -- an expression of a static initializer, or of another body
  abbrev pub is_plain_node : Bool → CoreForm → Bool
  is_plain_node starts f = (starts || not (assigns_static f)) && not (names_wild f) && not (joins_wild program f)

  abbrev pub is_plain_body : Bool → CoreStmt → Bool
  is_plain_body starts s = throughout (is_plain_node starts) is_plain_form s

  abbrev pub is_plain_method : CoreMethod → Bool
  is_plain_method m = not m.flags.is_native && if_there (is_plain_body false) m.body

  abbrev pub is_plain_initializer : CoreInitializer → Bool
  is_plain_initializer i = is_plain_body i.is_static i.body

  -- what a class has for a method of a class above it isn't wild, unless that is no interface
  abbrev pub implements_plainly : ClassId → ClassId → ℕ → Bool
  implements_plainly class above at = implies (is_interface (class_at program above)) (not (is_wild_if (dispatched program class (record { class = above; at = at }))))

  abbrev pub implements_all_plainly : ClassId → CoreClass → Bool
  implements_all_plainly class c = implies (is_guest class && not (is_interface_sort c.kind.sort))
      (each_method program (λ above at k. implies (is_below program class above) (implements_plainly class above at)))

  abbrev pub is_plain_class : ClassId → CoreClass → Bool
  is_plain_class class c = list_all is_plain_method c.methods && list_all is_plain_initializer c.initializers && implements_all_plainly class c

  unfoldable pub is_plain : Bool
  is_plain = list_all (λ n. if_there (is_plain_class (record { 0 = n })) (class_at program (record { 0 = n }))) (places_up_to (length program.classes))
