use Rattle.std.proofs.Common.{◌<◌, ◌-◌, ◌+◌, length, sym, arith}
use Rattle.std.proofs.lemmas.Option.{slice_get_within}
use Rattle.je_ast.specs.Types.{type_view}
use Rattle.je_scopes.specs.Settled.{heads_of}
use Rattle.type_faults.specs.Program.{source_in}
use Rattle.name_judge.proofs.Back.{got_is_there, head_next, heads_end}
use Rattle.name_judge.proofs.heads.judge_heads.Goals as goal

pub judge_head-requires-clause-named : goal.judge_head-requires-clause-named
judge_head-requires-clause-named c = got_is_there (heads_of (source_in c.args.program.now) c.args.class.0) c.loop-head.at (type_view c.in-Some.head.now) (sym c.in-Some.ensures.lookup)

pub loop-head-preserved : goal.loop-head-preserved
loop-head-preserved c = head_next (source_in c.args.program.now) c.args.class.0 (heads_of (source_in c.args.program.now) c.args.class.0) c.loop-head.at _ (type_view c.in-Some.head.now) (sym c.in-Some.ensures.lookup) c.loop-head.invariant c.in_ok-judge_head.ensures

pub loop-head-smaller : goal.loop-head-smaller
loop-head-smaller c =
    let l : c.loop-head.at < length (heads_of (source_in c.args.program.now) c.args.class.0) = slice_get_within (heads_of (source_in c.args.program.now) c.args.class.0) c.loop-head.at (type_view c.in-Some.head.now) (sym c.in-Some.ensures.lookup) in
    let k : length (heads_of (source_in c.args.program.now) c.args.class.0) - (c.loop-head.at + 1) < length (heads_of (source_in c.args.program.now) c.args.class.0) - c.loop-head.at = omega (arith, l) in k

pub returns : goal.returns
returns c = heads_end (source_in c.args.program.now) c.args.class.0 (heads_of (source_in c.args.program.now) c.args.class.0) c.loop-head.at _ (sym c.in_default.ensures.lookup) c.loop-head.invariant
