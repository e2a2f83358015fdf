use Rattle.std.proofs.Common.{arith}
use Rattle.body_places.specs.View.{program_seen}
use Rattle.class_places.proofs.Gained.{handed_more}
use Rattle.class_places.proofs.kept.add_users.Goals as goal

pub loop-user-preserved : goal.loop-user-preserved
loop-user-preserved c = handed_more (program_seen c.args.program.now) c.args.users.now c.loop-user.user-index _ c.args.one c.args.all.now.keys c.loop-user.all.keys
    c.add.new.all.keys (omega arith) c.loop-user.invariant c.in_ok-add.ensures
