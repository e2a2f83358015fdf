use Rattle.std.proofs.Common.{◌≡◌, drop}
use Rattle.std.specs.List.{list_all}
use Rattle.je_core.specs.View.{views}
use Rattle.je_fitting.specs.Types.{is_int, types_of}
use Rattle.fit_parts.proofs.agree.each_is_int.Given as goal

abbrev pub invariant-loop-e : goal.invariant-loop-e
invariant-loop-e l = list_all is_int (types_of (views (drop l.e-index l.list))) ≡ list_all is_int (types_of (views l.list))
