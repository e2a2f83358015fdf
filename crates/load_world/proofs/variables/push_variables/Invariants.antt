use Rattle.std.proofs.Common.{◌≡◌, ◌++◌, drop, map, filter}
use Rattle.je_classes.specs.Statics.{is_static}
use Rattle.je_core.specs.View.{field_view}
use Rattle.je_load.specs.Loading.{first_value}
use Rattle.load_world.proofs.variables.push_variables.Given as goal

abbrev pub invariant-loop-field : goal.invariant-loop-field
invariant-loop-field l =
    l.statics ++ map (first_value l.texts l.number) (filter is_static (map field_view (drop l.field-index l.class.fields.items)))
    ≡ l.fn.statics ++ map (first_value l.texts l.number) (filter is_static (map field_view l.class.fields.items))
