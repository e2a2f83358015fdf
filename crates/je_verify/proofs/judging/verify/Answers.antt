use Rattle.std.proofs.Common.{◌≡◌, length, arith}
use Rattle.std.proofs.lemmas.Bool.Decides.{nat_tests}
use Rattle.je_types.specs.Views.{program_of}
use Rattle.taming_db.specs.View.{rows}
use Rattle.je_verify.proofs.Plain.{accepted_is_plain}
use Rattle.je_verify.proofs.Unbroken.{none_broken}
use Rattle.je_verify.proofs.judging.verify.Goals as goal

pub invariant_of-result : goal.invariant_of-result
invariant_of-result c =
    let empty : length c.in-Ok.list.items ≡ 0 = grind (arith, nat_tests, c.if-is_empty.true, c.is_empty.ensures) in
    record { unbroken = none_broken (program_of c.args.typed) (rows c.args.taming) c.in-Ok.list.items c.in-Ok.ensures empty }

pub returns-then-is_empty-clause-plain : goal.returns-then-is_empty-clause-plain
returns-then-is_empty-clause-plain c =
    let empty : length c.in-Ok.list.items ≡ 0 = grind (arith, nat_tests, c.if-is_empty.true, c.is_empty.ensures) in
    accepted_is_plain c.args.typed c.args.taming (none_broken (program_of c.args.typed) (rows c.args.taming) c.in-Ok.list.items c.in-Ok.ensures empty)
