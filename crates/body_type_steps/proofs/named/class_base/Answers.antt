use Rattle.std.proofs.Common.{◌≡◌, length, arith}
use Rattle.name_types.proofs.Bases.{made_base}
use Rattle.body_type_steps.proofs.Bases.{bare_class}
use Rattle.body_type_steps.proofs.named.class_base.Goals as goal

pub returns-then-is_empty : goal.returns-then-is_empty
returns-then-is_empty c = λ n.
    let z : length c.args.types.items ≡ 0 = grind (arith, c.is_empty.ensures, c.if-is_empty.true) in
    bare_class c.args.class c.args.types.items n z

pub returns : goal.returns
returns c = λ n. made_base c.args.class c.args.types n
