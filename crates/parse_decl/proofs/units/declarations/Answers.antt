use Rattle.std.proofs.Common.{◌<◌, ◌≤◌, length, sym, arith}
use Rattle.std.proofs.lemmas.List.{map_push}
use Rattle.je_ast.specs.View.{declaration_view}
use Rattle.parse_decl.proofs.Files.{slice_tail}
use Rattle.parse_decl.proofs.Turns.{end_turn, semicolon_turn, declaration_turn, stuck_turn, over}
use Rattle.parse_decl.proofs.units.declarations.Goals as goal

pub returns-then-ends : goal.returns-then-ends
returns-then-ends c =
    let f = c.args.tokens.now in
    let lt : c.loop.counter < length f.list.items = omega arith in
    end_turn f.names f.texts.items f.list.items (length f.list.items) c.loop.counter c.loop.place _ _ _ (slice_tail _ _ c.loop.place c.deref.ensures.value) c.loop.invariant.same lt (sym c.if-ends.ensures)

pub loop-preserved-then-is_symbol : goal.loop-preserved-then-is_symbol
loop-preserved-then-is_symbol c =
    let f = c.args.tokens.now in
    let lt : c.loop.counter < length f.list.items = omega arith in
    let t = semicolon_turn f.names f.texts.items f.list.items (length f.list.items) c.loop.counter c.loop.place _ _ _ (slice_tail _ _ c.loop.place c.deref.ensures.value) c.loop.invariant.same lt (sym c.if-ends.ensures) (sym c.if-is_symbol.ensures) in
    record { same = t.0; inside = t.1 }

pub returns-in-Err-Syntax : goal.returns-in-Err-Syntax
returns-in-Err-Syntax c =
    let f = c.args.tokens.now in
    let lt : c.loop.counter < length f.list.items = omega arith in
    let none = rw c.in-Err-Syntax.field-0-is at c.in-Err-Syntax.ensures.none in
    stuck_turn f.names f.texts.items f.list.items (length f.list.items) c.loop.counter c.loop.place _ _ _ (slice_tail _ _ c.loop.place c.deref.ensures.value) c.loop.invariant.same lt (sym c.if-ends.ensures) (sym c.if-is_symbol.ensures) none.none

pub loop-preserved : goal.loop-preserved
loop-preserved c =
    let f = c.args.tokens.now in
    let lt : c.loop.counter < length f.list.items = omega arith in
    let l = c.in-Ok.ensures.longest in
    record {
      same = rw (c.in_ok-push-in-Ok.ensures.items, map_push declaration_view c.loop.list.items c.in-Ok.found.0)
          (declaration_turn f.names f.texts.items f.list.items (length f.list.items) c.loop.counter c.loop.place _ _ _ (slice_tail _ _ c.loop.place c.deref.ensures.value) c.loop.invariant.same lt (sym c.if-ends.ensures) (sym c.if-is_symbol.ensures) _ _ l.longest);
      inside = l.inside;
    }

pub returns : goal.returns
returns c =
    let f = c.args.tokens.now in
    let le : length f.list.items ≤ c.loop.counter = omega arith in
    over f.names f.texts.items f.list.items (length f.list.items) c.loop.counter c.loop.place _ _ f.list.items c.loop.invariant.same le
