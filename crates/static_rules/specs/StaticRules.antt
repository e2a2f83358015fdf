-- The rules of Joe-E on static state (Mettler, Wagner, Close, 'Joe-E: A Security-Oriented Subset of Java', NDSS 2010): what all code can
-- reach grants nothing and never changes, and no class has native code or a finalizer.
use Rattle.std.specs.Prelude.{not, ◌&&◌, ◌||◌, List}
use Rattle.je_core.specs.declared.types.ClassId.{ClassId}
use Rattle.je_core.specs.Core.{CoreField, CoreMethod, CoreClass, CoreProgram}
use Rattle.rule_breaks.specs.declared.rules.ConfinementRule.TheVariants as rule
use Rattle.rule_breaks.specs.Breaks.{Breaks, ◌∪◌, break_where, of_each}
use Rattle.taming_db.specs.declared.marker.Marker.TheVariants.{Powerless}
use Rattle.taming_db.specs.Rows.{Row}
use Rattle.overlay_types.specs.Overlay.{holds}
use Rattle.overlay_types.specs.Guests.{of_each_guest}

-- A static field, one of an interface too, is not final, or its type is neither primitive nor powerless: the field's name.
abbrev pub static_field_breaks : CoreProgram → List Row → CoreField → Breaks
static_field_breaks program rows f =
    break_where (f.is_static && (not f.is_final || not (holds program rows Powerless f.ty))) rule.StaticField f.span

-- A method is native: its name.
abbrev pub native_breaks : CoreMethod → Breaks
native_breaks m = break_where m.flags.is_native rule.NativeMethod m.span

-- A method named `finalize` without parameters is declared: its name.
abbrev pub finalizer_breaks : CoreMethod → Breaks
finalizer_breaks m = break_where m.flags.is_finalizer rule.Finalizer m.span

abbrev pub method_breaks : CoreMethod → Breaks
method_breaks m = native_breaks m ∪ finalizer_breaks m

abbrev pub class_breaks : CoreProgram → List Row → ClassId → CoreClass → Breaks
class_breaks program rows id c = of_each (static_field_breaks program rows) c.fields ∪ of_each method_breaks c.methods

unfoldable pub static_breaks : CoreProgram → List Row → Breaks
static_breaks program rows = of_each_guest (class_breaks program rows) program
