use Rattle.std.proofs.Common.{◌≡◌, ◌<◌, length, Some, arith}
use Rattle.std.specs.Prelude.{slice_get, slice_index_or}
use Rattle.std.proofs.lemmas.Option.{slice_get-get_or, get_or_from_slice_get}
use Rattle.je_core.specs.declared.types.ClassId.{ClassId}
use Rattle.je_core.specs.View.{program_view}
use Rattle.class_tables.proofs.ClassesAbove.{known-next}
use Rattle.class_tables.proofs.subclasses.SubclassTable.add_each.Goals as goal

pub loop-class-preserved : goal.loop-class-preserved
loop-class-preserved c =
    let p = program_view c.args.program.now in
    let xs = c.args.classes.now in
    let i = c.loop-class.class-index in
    let k : ClassId = slice_index_or xs i (record { 0 = 0 }) in
    let there : slice_get xs i ≡ Some k = slice_get-get_or xs i (record { 0 = 0 }) (omega arith) in
    let within : i < length xs = omega arith in (
      c.in_ok-add.ensures.known,
      known-next p c.add.new.self xs i k within (get_or_from_slice_get xs i k k there)
          (λ d q. c.in_ok-add.ensures.others d (c.loop-class.invariant.1 d q)) c.in_ok-add.ensures.own,
    )
