use Rattle.std.proofs.Common.{◌≡◌, ◌++◌, drop, map}
use Rattle.je_core.specs.declared.object.Obj.TheVariants.{Text}
use Rattle.je_heap.specs.Contents.{with_objects}
use Rattle.load_world.proofs.objects.add_texts.Given as goal

abbrev pub invariant-loop-text : goal.invariant-loop-text
invariant-loop-text l =
    with_objects l.heap (l.heap.world.objects ++ map Text (drop l.text-index l.texts))
    ≡ with_objects l.fn.heap (l.fn.heap.world.objects ++ map Text l.texts)
