use Rattle.std.proofs.Common.{◌≡◌, length, arith}
use Rattle.parse_decl.proofs.Places.{is_place}
use Rattle.parse_decl.proofs.place.syntax_place.Goals as goal

pub overflow_sub-result : goal.overflow_sub-result
overflow_sub-result c =
    let f = c.args.tokens.now in
    let s = c.setting-setting.ensures in
    let n : c.len.result ≡ length f.list.items = omega arith in
    rw n (is_place f.names f.texts.items f.list.items _ _ _ _ _ c.requires.file c.in_ok-place.ensures s.names s.texts s.height c.deref.ensures.value).2

pub returns : goal.returns
returns c =
    let f = c.args.tokens.now in
    let s = c.setting-setting.ensures in
    let g = is_place f.names f.texts.items f.list.items _ _ _ _ _ c.requires.file c.in_ok-place.ensures s.names s.texts s.height c.deref.ensures.value in
    let n : c.len.result ≡ length f.list.items = omega arith in
    rw n (record { is_place = g.0; inside = g.1 })
