use Rattle.std.proofs.Common.{◌≡◌, suc, ◌+◌, ◌++◌, drop, get_or, map, filter, ap, ◌∙◌, arith}
use Rattle.std.specs.List.{list_all}
use Rattle.je_core.specs.View.{program_view}
use Rattle.je_classes.specs.Methods.{all_pass, params_of, is_best}
use Rattle.class_members.specs.Places.{member_of}
use Rattle.method_lookup.proofs.Lists.{kept_in, keeping}
use Rattle.method_lookup.proofs.choice.best_of.Goals as goal

pub loop-one-preserved : goal.loop-one-preserved
loop-one-preserved c =
    let p = program_view c.args.program.now in
    let cs = c.args.candidates.now in
    let i = c.loop-one.one-index in
    let test = is_best p (map member_of cs) in
    let next : i + 1 ≡ suc i = omega arith in
    ap (λ xs. map member_of xs ++ filter test (map member_of (drop (i + 1) cs))) c.in_ok-keep_if.ensures
    ∙ ap (λ k. map member_of (kept_in c.in_ok-is_best.is_best c.loop-one.best.items (get_or cs i (record { 0 = 0 }, 0))) ++ filter test (map member_of (drop k cs))) next
    ∙ keeping test c.in_ok-is_best.is_best c.loop-one.best.items cs i (record { 0 = 0 }, 0) c.loop-one-test.true
    (c.in_ok-is_best.ensures ∙ ap (λ ts. list_all (λ n. all_pass p ts (params_of p n)) (map member_of cs)) c.params.ensures)
    ∙ c.loop-one.invariant
