use Rattle.std.proofs.Common.{◌≡◌, length, arith}
use Rattle.parse_decl.proofs.Files.{slice_tail}
use Rattle.parse_decl.proofs.Imports.{name_some, import_found}
use Rattle.parse_decl.proofs.units.import.Goals as goal

pub overflow_sub-result : goal.overflow_sub-result
overflow_sub-result c =
    let f = c.args.tokens.now in
    let e = name_some _ _ c.in-Some.is (c.in_ok-found.ensures f.names f.texts.items) in
    let n : c.len.result ≡ length f.list.items = omega arith in
    rw n (import_found f.names f.texts.items f.list.items _ c.args.from _ _ c.requires.from e (slice_tail _ _ c.args.from c.deref.ensures.value)).0

pub returns-in-Some-clause-value : goal.returns-in-Some-clause-value
returns-in-Some-clause-value c =
    let f = c.args.tokens.now in
    let e = name_some _ _ c.in-Some.is (c.in_ok-found.ensures f.names f.texts.items) in
    let n : c.len.result ≡ length f.list.items = omega arith in
    rw n (import_found f.names f.texts.items f.list.items _ c.args.from _ _ c.requires.from e (slice_tail _ _ c.args.from c.deref.ensures.value)).1
