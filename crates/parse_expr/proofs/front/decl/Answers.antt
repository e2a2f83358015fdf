use Rattle.je_ast.specs.View.{declaration_view}
use Rattle.parse_expr.proofs.Longest.{read_some, read_none, slice_tail, declaration_found, no_declaration}
use Rattle.parse_expr.proofs.front.decl.Goals as goal

pub place_of-requires : goal.place_of-requires
place_of-requires c =
    let f = c.args.tokens.now in
    let e = read_some declaration_view _ _ c.in-Some.is c.in_ok-found.ensures.0 in
    (declaration_found f.names f.texts.items _ _ _ f.list.items _ c.args.from _ _ e c.setting-setting.ensures.names c.setting-setting.ensures.texts c.setting-setting.ensures.height (slice_tail _ _ c.args.from c.deref.ensures.value)).1

pub returns-in-Some-clause-longest : goal.returns-in-Some-clause-longest
returns-in-Some-clause-longest c =
    let f = c.args.tokens.now in
    let e = read_some declaration_view _ _ c.in-Some.is c.in_ok-found.ensures.0 in
    rw c.place_of.ensures
    (declaration_found f.names f.texts.items _ _ _ f.list.items _ c.args.from _ _ e c.setting-setting.ensures.names c.setting-setting.ensures.texts c.setting-setting.ensures.height (slice_tail _ _ c.args.from c.deref.ensures.value)).0

pub returns-in-None-clause-none : goal.returns-in-None-clause-none
returns-in-None-clause-none c =
    let f = c.args.tokens.now in
    let e = read_none declaration_view _ c.in-None.is c.in_ok-found.ensures.0 in
    rw c.fault_at.ensures
    (no_declaration f.names f.texts.items _ _ _ f.list.items _ c.args.from e c.setting-setting.ensures.names c.setting-setting.ensures.texts c.setting-setting.ensures.height (slice_tail _ _ c.args.from c.deref.ensures.value))
