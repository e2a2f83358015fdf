use Rattle.std.proofs.Common.{◌≡◌, ◌≤◌, length, arith}
use Rattle.je_core.specs.View.{program_view}
use Rattle.class_tables.proofs.ClassesAbove.{is_itself, not_there, above_not_there}
use Rattle.class_tables.proofs.subclasses.SubclassTable.is_below.Goals as goal

pub returns-then-class-above : goal.returns-then-class-above
returns-then-class-above c = is_itself (program_view c.args.program.now) c.args.self.now c.requires c.args.class c.args.above c.if-class-above.true

pub returns-then-class-count : goal.returns-then-class-count
returns-then-class-count c =
    let p = program_view c.args.program.now in
    let n : ¬ c.args.class.0 ≡ c.args.above.0 = (λ e. let z : ⊥ = omega (arith, e, c.if-class-above.false) in z) in
    let l : length p.classes ≤ c.args.class.0 = omega (arith, c.if-class-count.true, c.class_count-count.ensures) in
    not_there p c.args.self.now c.requires c.args.class c.args.above n l

pub returns-then-above-count : goal.returns-then-above-count
returns-then-above-count c =
    let p = program_view c.args.program.now in
    let n : ¬ c.args.class.0 ≡ c.args.above.0 = (λ e. let z : ⊥ = omega (arith, e, c.if-class-above.false) in z) in
    let l : length p.classes ≤ c.args.above.0 = omega (arith, c.if-above-count.true, c.class_count-count.ensures) in
    above_not_there p c.args.self.now c.requires c.args.class c.args.above n l
