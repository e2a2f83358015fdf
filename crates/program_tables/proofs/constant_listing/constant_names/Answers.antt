use Rattle.std.proofs.Common.{◌≤◌, length, ap, ◌∙◌, arith}
use Rattle.std.specs.Prelude.{◌&&◌, ◌||◌, nat_eq}
use Rattle.class_typing.specs.Elaboration.{is_constant}
use Rattle.program_tables.proofs.FirstFields.{class_next, classes_end}
use Rattle.program_tables.proofs.constant_listing.constant_names.Goals as goal

pub loop-number-preserved : goal.loop-number-preserved
loop-number-preserved c = λ source p e f k x. c.in_ok-add_names.ensures source p e f k x
    ∙ ap (λ b. b || (nat_eq c.loop-number.number k && is_constant source p k x)) (c.loop-number.invariant source p e f k x)
    ∙ class_next k c.loop-number.number (is_constant source p k x)

pub returns : goal.returns
returns c = λ source p e f.
    let l : length p.classes ≤ c.loop-number.number = omega (arith, ap length e, c.len.ensures, c.in-Ok.ensures, c.loop-number-test.false) in
    λ i. λ k. λ x. (c.loop-number.invariant source p e f k x ∙ classes_end source p k x c.loop-number.number l) i
