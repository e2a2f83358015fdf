use Rattle.std.proofs.Common.{◌≡◌, ◌+◌, ◌++◌, length, map, ap, ◌∙◌, arith}
use Rattle.je_core.specs.View.{program_view}
use Rattle.je_core.specs.declared.object.Obj.TheVariants.{Text}
use Rattle.je_heap.specs.Contents.{Contents, with_objects}
use Rattle.je_java.specs.Classes.{statics_of}
use Rattle.je_load.specs.Loading.{capabilities}
use Rattle.load_world.proofs.Statics.{length-statics}
use Rattle.load_world.proofs.world.world_before.Goals as goal

pub of-heap-requires : goal.of-heap-requires
of-heap-requires c =
    let p = program_view c.args.program.now in
    let count : length c.in_ok-statics.statics ≡ statics_of p.classes + length p.texts =
    ap length c.in_ok-statics.ensures ∙ length-statics p.texts (length c.args.interfaces.now) p.classes in
    omega arith

pub returns-clause-world : goal.returns-clause-world
unfolding program_view
returns-clause-world c =
    let capable = capabilities 0 c.args.interfaces.now in
    let made = c.of-heap.ensures in
    let statics = made.statics ∙ c.in_ok-statics.ensures in
    ap (λ (heap : Contents). heap.world) c.in_ok-add_texts.ensures
    ∙ (λ i. (with_objects (c.in_ok-add_capabilities.ensures i) ((c.in_ok-add_capabilities.ensures i).world.objects ++ map Text (c.deref.ensures.value i))).world)
    ∙ (λ i. record { objects = (made.objects i ++ capable) ++ map Text c.args.program.now.texts.items; statics = statics i })
