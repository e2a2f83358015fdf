use Rattle.std.proofs.Common.{length}
use Rattle.std.specs.Prelude.{pos}
use Rattle.text_members.proofs.Comparison.{difference_is}
use Rattle.text_members.proofs.comparing.length_difference.Goals as goal

pub returns : goal.returns
returns c =
    difference_is (pos (length c.args.left.now)) (pos (length c.args.right.now))
    c.count_as_int.result c.count_as_int-2.result c.count_as_int.ensures c.count_as_int-2.ensures
