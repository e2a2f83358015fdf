use Rattle.std.proofs.Common.{◌<◌, length, arith}
use Rattle.std.proofs.lemmas.List.{map_push}
use Rattle.je_ast.specs.Types.{name_view}
use Rattle.parse_decl.proofs.Imports.{import_some, import_turn}
use Rattle.parse_decl.proofs.units.imports.Goals as goal

pub loop-preserved : goal.loop-preserved
loop-preserved c =
    let f = c.args.tokens.now in
    let e = import_some f.list.items _ _ c.in-Some.is c.in_ok-found.ensures.value in
    let lt : c.loop.counter < length f.list.items = omega arith in
    record {
      same = rw (c.in_ok-push.ensures.items, map_push name_view c.loop.list.items c.in-Some.found.0) (import_turn f.names f.texts.items f.list.items (length f.list.items) c.loop.counter c.loop.place _ _ _ _ c.loop.invariant.same lt e);
      inside = rw c.in-Some.is at c.in_ok-found.ensures.inside;
    }
