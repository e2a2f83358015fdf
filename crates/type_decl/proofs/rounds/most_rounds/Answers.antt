use Rattle.std.proofs.Common.{◌≡◌, ℕ, suc, ◌+◌, ◌<◌, take, length, ap, sym, ◌∙◌, add-one, arith}
use Rattle.std.specs.List.{sum_by}
use Rattle.std.proofs.lemmas.List.{length-map}
use Rattle.declarations.specs.View.{field_shown}
use Rattle.name_typing.specs.Fields.{fields_of}
use Rattle.class_heads.specs.View.{classes_of}
use Rattle.type_decl.specs.way.Rows.{fields_declared}
use Rattle.type_decl.proofs.Due.{sum_next}
use Rattle.type_decl.proofs.rounds.most_rounds.Goals as goal

pub loop-at-preserved : goal.loop-at-preserved
loop-at-preserved c =
    let more : length c.fields_of.result.now ≡ length (fields_of (classes_of c.args.classes) c.loop-at.at) =
    sym (length-map c.fields_of.result.now field_shown) ∙ ap length c.fields_of.ensures ∙ ap (λ (k : ℕ). length (fields_of (classes_of c.args.classes) k)) c.in_ok-class_at.ensures in
    let l : c.loop-at.at < length (classes_of c.args.classes) = omega (arith, c.len-at-end.ensures, c.loop-at-test.true) in
    let next : suc (sum_by fields_declared (take c.loop-at.at (classes_of c.args.classes))) + length (fields_of (classes_of c.args.classes) c.loop-at.at)
    ≡ suc (sum_by fields_declared (take (suc c.loop-at.at) (classes_of c.args.classes))) = omega (arith, sum_next (classes_of c.args.classes) c.loop-at.at l) in
    c.in-Some.ensures.1 ∙ (λ i. c.loop-at.invariant i + more i) ∙ next
    ∙ ap (λ (n : ℕ). suc (sum_by fields_declared (take n (classes_of c.args.classes)))) (sym (add-one c.loop-at.at))
