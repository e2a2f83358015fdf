-- The rules of Joe-E on the fields of immutable and of powerless classes (Mettler, Wagner, Close, 'Joe-E: A Security-Oriented Subset of
-- Java', NDSS 2010): what an immutable object holds never changes, and what a powerless one holds grants nothing.
use Rattle.std.specs.Prelude.{Bool, not, ◌&&◌, ◌||◌, List, if◌then◌else◌}
use Rattle.std.specs.List.{list_any}
use Rattle.je_core.specs.declared.types.ClassId.{ClassId}
use Rattle.je_core.specs.Core.{CoreField, CoreClass, CoreProgram}
use Rattle.je_table.specs.declared.classes.LibraryClass.TheVariants as class
use Rattle.je_classes.specs.Hierarchy.{is_below}
use Rattle.rule_breaks.specs.declared.rules.ConfinementRule.TheVariants as rule
use Rattle.rule_breaks.specs.Breaks.{Breaks, none, ◌∪◌, break_where, of_each}
use Rattle.taming_db.specs.declared.marker.Marker.TheVariants.{Immutable, Powerless}
use Rattle.taming_db.specs.Rows.{Row}
use Rattle.overlay_types.specs.Overlay.{class_has, holds, is_under_immutable, of_library}
use Rattle.overlay_types.specs.Guests.{of_each_guest, has_superclass_that, is_declared}

-- the objects of a class can be told from all others, and grant what they were made for
abbrev pub is_token : CoreProgram → ClassId → Bool
is_token program id = is_below program id (of_library class.Token)

module _ (program : CoreProgram) (rows : List Row) where
  -- ---- immutable classes

  -- It isn't final, or its type is neither primitive nor immutable.
  abbrev pub may_change : CoreField → Bool
  may_change f = is_declared f && (not f.is_final || not (holds program rows Immutable f.ty))

  abbrev pub one_may_change : CoreClass → Bool
  one_may_change c = list_any may_change c.fields

  abbrev pub change_breaks : CoreField → Breaks
  change_breaks f = break_where (may_change f) rule.ImmutableField f.span

  -- A class under Immutable declares such a field: the field's name. A superclass of the program's own does: the class's name.
  abbrev pub immutable_breaks : CoreClass → Breaks
  immutable_breaks c = of_each change_breaks c.fields ∪ break_where (has_superclass_that one_may_change program c) rule.ImmutableField c.span

  -- ---- powerless classes

  -- Its type is neither primitive nor powerless.
  abbrev pub may_grant : CoreField → Bool
  may_grant f = is_declared f && not (holds program rows Powerless f.ty)

  abbrev pub one_may_grant : CoreClass → Bool
  one_may_grant c = list_any may_grant c.fields

  abbrev pub grant_breaks : CoreField → Breaks
  grant_breaks f = break_where (may_grant f) rule.PowerlessField f.span

  -- A class that has Powerless declares such a field: the field's name. A superclass of the program's own does, or the class is below
  -- Token: the class's name.
  abbrev pub powerless_breaks : ClassId → CoreClass → Breaks
  powerless_breaks id c = of_each grant_breaks c.fields ∪ break_where (has_superclass_that one_may_grant program c || is_token program id) rule.PowerlessField c.span

  -- ---- programs

  abbrev pub class_breaks : ClassId → CoreClass → Breaks
  class_breaks id c =
      (if is_under_immutable program rows id then immutable_breaks c else none)
      ∪ (if class_has program rows Powerless id then powerless_breaks id c else none)

  unfoldable pub field_breaks : Breaks
  field_breaks = of_each_guest class_breaks program
