-- The rules of Joe-E on what the objects of inner classes hold beside their fields (Mettler, Wagner, Close, 'Joe-E: A Security-Oriented
-- Subset of Java', NDSS 2010): the locals that a class captures, and the object round it (JLS 8.1.3).
use Rattle.std.specs.Prelude.{Bool, false, not, ◌&&◌, ◌||◌, List, take, drop, Option, Some, None}
use Rattle.std.specs.List.{list_any}
use Rattle.je_core.specs.declared.types.ClassId.{ClassId}
use Rattle.je_core.specs.Core.{CoreField, CoreClass, CoreProgram}
use Rattle.je_fitting.specs.Expressions.{outer_count}
use Rattle.rule_breaks.specs.declared.rules.ConfinementRule.TheVariants as rule
use Rattle.rule_breaks.specs.Breaks.{Breaks, ◌∪◌, break_where}
use Rattle.taming_db.specs.declared.marker.Marker.{Marker}
use Rattle.taming_db.specs.declared.marker.Marker.TheVariants.{Immutable, Powerless}
use Rattle.taming_db.specs.Rows.{Row}
use Rattle.overlay_types.specs.Overlay.{class_has, holds, is_under_immutable}
use Rattle.overlay_types.specs.Guests.{of_each_guest, has_superclass_that}

-- the hidden fields of the captured locals, which stand behind that of the object round it
abbrev pub captured_fields : CoreClass → List CoreField
captured_fields c = take c.captured (drop (outer_count c.enclosing) c.fields)

module _ (program : CoreProgram) (rows : List Row) where
  -- the type of a captured local is neither primitive nor has the marker
  unfoldable pub is_other : Marker → CoreField → Bool
  is_other marker f = not (holds program rows marker f.ty)

  -- A class captures such a local.
  abbrev pub captures_other : Marker → CoreClass → Bool
  captures_other marker c = list_any (is_other marker) (captured_fields c)

  abbrev pub lacks : Marker → Option ClassId → Bool
  lacks marker None = false
  lacks marker (Some d) = not (class_has program rows marker d)

  -- The objects of a class have one round them whose class doesn't have the marker.
  abbrev pub is_in_other : Marker → CoreClass → Bool
  is_in_other marker c = lacks marker c.enclosing

  -- those of the class or of a superclass of the program's own
  abbrev pub holds_other : Marker → CoreClass → Bool
  holds_other marker c = is_in_other marker c || has_superclass_that (is_in_other marker) program c

  -- ---- each of a class under Immutable, and of one that has Powerless: the class's name

  abbrev pub captures_wrong : ClassId → CoreClass → Bool
  captures_wrong id c = (is_under_immutable program rows id && captures_other Immutable c) || (class_has program rows Powerless id && captures_other Powerless c)

  abbrev pub holds_wrong : ClassId → CoreClass → Bool
  holds_wrong id c = (is_under_immutable program rows id && holds_other Immutable c) || (class_has program rows Powerless id && holds_other Powerless c)

  abbrev pub class_breaks : ClassId → CoreClass → Breaks
  class_breaks id c = break_where (captures_wrong id c) rule.CapturedLocal c.span ∪ break_where (holds_wrong id c) rule.EnclosingObject c.span

  unfoldable pub inner_breaks : Breaks
  inner_breaks = of_each_guest class_breaks program
