use Rattle.std.proofs.Common.{◌≡◌, ◌++◌, drop}
use Rattle.je_heap.specs.Contents.{with_objects}
use Rattle.je_load.specs.Loading.{capabilities}
use Rattle.load_world.proofs.objects.add_capabilities.Given as goal

abbrev pub invariant-loop-device : goal.invariant-loop-device
invariant-loop-device l =
    with_objects l.heap (l.heap.world.objects ++ capabilities l.device (drop l.device l.interfaces))
    ≡ with_objects l.fn.heap (l.fn.heap.world.objects ++ capabilities 0 l.interfaces)
