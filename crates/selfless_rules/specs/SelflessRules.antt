-- The rules of Joe-E on selfless classes (Mettler, Wagner, Close, 'Joe-E: A Security-Oriented Subset of Java', NDSS 2010): nothing tells
-- two objects of one with the same content apart.
use Rattle.std.specs.Prelude.{Bool, false, not, ◌&&◌, List, Option, Some, None, if◌then◌else◌}
use Rattle.std.specs.List.{list_any}
use Rattle.je_core.specs.declared.types.ClassId.{ClassId}
use Rattle.je_core.specs.Core.{CoreField, CoreMethod, CoreClass, CoreStmt, CoreProgram}
use Rattle.je_classes.specs.Dispatch.{same_signature}
use Rattle.je_classes.specs.Hierarchy.{object_class, same_class}
use Rattle.je_classes.specs.Members.{method_of, names_constructors}
use Rattle.je_fitting.specs.Expressions.{is_interface_sort}
use Rattle.rule_breaks.specs.declared.rules.ConfinementRule.TheVariants as rule
use Rattle.rule_breaks.specs.Breaks.{Breaks, none, ◌∪◌, break_where, of_each}
use Rattle.super_equals.specs.Calls.{equals_place}
use Rattle.super_equals.specs.Statements.{calls_in_statement}
use Rattle.taming_db.specs.declared.marker.Marker.TheVariants.{Selfless, Equatable}
use Rattle.taming_db.specs.Rows.{Row}
use Rattle.overlay_types.specs.Overlay.{class_has}
use Rattle.overlay_types.specs.Guests.{of_each_guest, is_declared}

-- An instance field isn't final: its name.
abbrev pub changing_breaks : CoreField → Breaks
changing_breaks f = break_where (is_declared f && not f.is_final) rule.SelflessClass f.span

abbrev pub has_like : CoreClass → Option CoreMethod → Bool
has_like c None = false
has_like c (Some k) = list_any (λ m. same_signature m k) c.methods

abbrev pub is_object : Option ClassId → Bool
is_object None = false
is_object (Some s) = same_class s object_class

abbrev pub calls_in_body : Option CoreStmt → Breaks
calls_in_body None = none
calls_in_body (Some s) = calls_in_statement s

module _ (program : CoreProgram) where
  -- The class declares a method of the name and parameter types of Object's `equals(Object)`.
  abbrev pub declares_equals : CoreClass → Bool
  declares_equals c = has_like c (method_of program (record { class = object_class; at = equals_place }))

  -- A method, which is no constructor, calls that of Object by `super`: the name `equals`.
  abbrev pub identity_breaks : CoreMethod → Breaks
  identity_breaks m = if names_constructors program m.name then none else calls_in_body m.body

  abbrev pub identities_in : CoreClass → Breaks
  identities_in c = if is_object c.superclass then of_each identity_breaks c.methods else none

module _ (program : CoreProgram) (rows : List Row) where
  abbrev pub is_no_selfless : Option ClassId → Bool
  is_no_selfless None = false
  is_no_selfless (Some s) = not (class_has program rows Selfless s)

  -- The superclass doesn't have Selfless, unless it is Object and the class declares `equals(Object)`.
  abbrev pub extends_other : CoreClass → Bool
  extends_other c = is_no_selfless c.superclass && not (is_object c.superclass && declares_equals program c)

  -- What a class that has Selfless, and is no interface, breaks: at a field's name, at the class's, at the name `equals` of a call.
  abbrev pub selfless_class_breaks : CoreClass → Breaks
  selfless_class_breaks c = of_each changing_breaks c.fields ∪ break_where (extends_other c) rule.SelflessClass c.span ∪ identities_in program c

  abbrev pub class_breaks_of : ClassId → CoreClass → Breaks
  class_breaks_of id c =
      (if is_interface_sort c.kind.sort then none else selfless_class_breaks c)
      ∪ break_where (class_has program rows Equatable id) rule.SelflessEquatable c.span

  -- A class that has Selfless; a class or interface that has Equatable too breaks a rule of its own: the class's name.
  abbrev pub class_breaks : ClassId → CoreClass → Breaks
  class_breaks id c = if class_has program rows Selfless id then class_breaks_of id c else none

  unfoldable pub selfless_breaks : Breaks
  selfless_breaks = of_each_guest class_breaks program
