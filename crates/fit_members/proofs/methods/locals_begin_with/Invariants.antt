use Rattle.std.proofs.Common.{◌≡◌, drop}
use Rattle.je_fitting.specs.Members.{local_types}
use Rattle.fit_members.specs.way.Begins.{begin_with}
use Rattle.fit_members.proofs.methods.locals_begin_with.Given as goal

abbrev pub invariant-loop-param : goal.invariant-loop-param
invariant-loop-param l = begin_with (local_types l.left) (drop l.param-index l.params) ≡ begin_with (local_types l.fn.locals) l.params
