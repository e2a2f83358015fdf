use Rattle.std.proofs.Common.{◌≡◌, ◌++◌, drop, map}
use Rattle.std.specs.Prelude.{flat_map}
use Rattle.je_core.specs.View.{class_view}
use Rattle.je_load.specs.Loading.{variables_of}
use Rattle.load_world.proofs.variables.first_statics.Given as goal

abbrev pub invariant-loop-class : goal.invariant-loop-class
invariant-loop-class l =
    l.statics ++ flat_map (variables_of l.program.texts.items l.number) (map class_view (drop l.class-index l.program.classes.items))
    ≡ flat_map (variables_of l.program.texts.items l.number) (map class_view l.program.classes.items)
