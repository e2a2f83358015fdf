use Rattle.std.proofs.Common.{◌≡◌, drop}
use Rattle.je_classes.specs.Dispatch.{bridged_in}
use Rattle.class_members.proofs.dispatch.bridged_in.Given as goal

abbrev pub invariant-loop-bridge : goal.invariant-loop-bridge
invariant-loop-bridge l = bridged_in (drop l.bridge-index l.bridges) (record { class = l.class; at = l.at }) ≡ bridged_in l.bridges (record { class = l.class; at = l.at })
