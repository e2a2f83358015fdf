use Rattle.je_ast.specs.View.{view}
use Rattle.parse_expr.proofs.Longest.{read_some, read_none, slice_tail, expression_found, no_expression}
use Rattle.parse_expr.proofs.front.expr.Goals as goal

pub place_of-requires : goal.place_of-requires
place_of-requires c =
    let f = c.args.tokens.now in
    let e = read_some view _ _ c.in-Some.is c.in_ok-found.ensures.0 in
    (expression_found f.names f.texts.items _ _ _ f.list.items _ c.args.from _ _ e c.setting-setting.ensures.names c.setting-setting.ensures.texts c.setting-setting.ensures.height (slice_tail _ _ c.args.from c.deref.ensures.value)).1

pub returns-in-Some-clause-longest : goal.returns-in-Some-clause-longest
returns-in-Some-clause-longest c =
    let f = c.args.tokens.now in
    let e = read_some view _ _ c.in-Some.is c.in_ok-found.ensures.0 in
    rw c.place_of.ensures
    (expression_found f.names f.texts.items _ _ _ f.list.items _ c.args.from _ _ e c.setting-setting.ensures.names c.setting-setting.ensures.texts c.setting-setting.ensures.height (slice_tail _ _ c.args.from c.deref.ensures.value)).0

pub returns-in-None-clause-none : goal.returns-in-None-clause-none
returns-in-None-clause-none c =
    let f = c.args.tokens.now in
    let e = read_none view _ c.in-None.is c.in_ok-found.ensures.0 in
    rw c.fault_at.ensures
    (no_expression f.names f.texts.items _ _ _ f.list.items _ c.args.from e c.setting-setting.ensures.names c.setting-setting.ensures.texts c.setting-setting.ensures.height (slice_tail _ _ c.args.from c.deref.ensures.value))
