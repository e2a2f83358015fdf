use Rattle.std.proofs.Common.{List, ◌++◌, map, sym, ap, ◌∙◌}
use Rattle.std.specs.declared.alloc.Global.{Global}
use Rattle.std.specs.declared.vec.Vec.{Vec}
use Rattle.std.proofs.lemmas.List.{append-nil, drop_all}
use Rattle.body_places.specs.declared.tables.Captured.{Captured}
use Rattle.core_making.specs.declared.known.CapturedLocal.{CapturedLocal}
use Rattle.type_faults.specs.Program.{source_in}
use Rattle.program_tables.specs.way.Places.{all_places}
use Rattle.program_tables.proofs.Places.{all_captured}
use Rattle.program_tables.proofs.program.captured_fields.Goals as goal

pub returns : goal.returns
returns c =
    all_captured (source_in c.args.layout.source) c.args.layout.captured.now c.loop-at.all.items
    (sym (append-nil (map (λ (fs : Vec Captured Global). fs.items) c.loop-at.all.items))
    ∙ ap (λ (rest : List (Vec CapturedLocal Global)). map (λ (fs : Vec Captured Global). fs.items) c.loop-at.all.items
    ++ all_places (source_in c.args.layout.source) c.loop-at.at rest)
    (sym (drop_all c.loop-at.at c.args.layout.captured.now c.loop-at-test.false))
    ∙ c.loop-at.invariant)
