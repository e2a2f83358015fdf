use Rattle.std.proofs.Common.{◌<◌, ◌-◌, ◌+◌, length, sym, arith}
use Rattle.std.proofs.lemmas.Option.{slice_get_within}
use Rattle.je_ast.specs.Types.{type_view}
use Rattle.je_scopes.specs.Scope.{header}
use Rattle.je_scopes.specs.Settled.{heads_of}
use Rattle.name_types.specs.View.{shown}
use Rattle.type_faults.specs.Program.{source_in}
use Rattle.declarations.specs.Declarations.{type_at}
use Rattle.declarations.proofs.Adding.{met_end, met_next}
use Rattle.declarations.proofs.header.heads_of.Goals as goal

pub loop-head-preserved : goal.loop-head-preserved
loop-head-preserved c = met_next shown (type_at (source_in c.args.program.now) c.args.class.0 header) (heads_of (source_in c.args.program.now) c.args.class.0) c.loop-head.at c.loop-head.heads.items _ c.loop-head.invariant
    c.push.new.self.items c.in_ok-header_type.field-0 (type_view c.in-Some.head.now) c.in_ok-push.ensures.items (sym c.in-Some.ensures.lookup) c.in_ok-header_type.ensures

pub loop-head-smaller : goal.loop-head-smaller
loop-head-smaller c =
    let l : c.loop-head.at < length (heads_of (source_in c.args.program.now) c.args.class.0) = slice_get_within (heads_of (source_in c.args.program.now) c.args.class.0) c.loop-head.at (type_view c.in-Some.head.now) (sym c.in-Some.ensures.lookup) in
    let k : length (heads_of (source_in c.args.program.now) c.args.class.0) - (c.loop-head.at + 1) < length (heads_of (source_in c.args.program.now) c.args.class.0) - c.loop-head.at = omega (arith, l) in k

pub returns : goal.returns
returns c = met_end shown (type_at (source_in c.args.program.now) c.args.class.0 header) (heads_of (source_in c.args.program.now) c.args.class.0) c.loop-head.at c.loop-head.heads.items _ c.loop-head.invariant (sym c.in_default.ensures.lookup)

pub overflow_add-at : goal.overflow_add-at
overflow_add-at c = omega (arith, c.in-Some.ensures.few)
