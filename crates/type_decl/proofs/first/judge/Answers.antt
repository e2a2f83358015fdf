use Rattle.std.proofs.Common.{◌≡◌, map}
use Rattle.std.proofs.lemmas.Result.{err_from_is_err_and}
use Rattle.class_heads.specs.View.{behind, classes_of}
use Rattle.declarations.specs.View.{class_shown}
use Rattle.signature_steps.specs.View.{is_among}
use Rattle.source_subtypes.specs.View.{heads_of}
use Rattle.type_faults.specs.Program.{source_in}
use Rattle.type_decl.proofs.Beginning.{judged_faults, judged_gives}
use Rattle.type_decl.proofs.first.judge.Goals as goal

pub returns-in_err-judge_signatures-clause-err : goal.returns-in_err-judge_signatures-clause-err
unfolding classes_of
returns-in_err-judge_signatures-clause-err c =
    let p = err_from_is_err_and c.from_residual-in_err-judge_signatures.result c.from_residual-in_err-judge_signatures.ensures.1 in
    rw (p.1, p.2)
    (judged_faults (source_in c.args.ground.now.source) (behind (map class_shown c.args.ground.now.library.now) (map class_shown c.args.declared.now)) c.requires.classes
    (heads_of c.args.ground.now.heads.now) c.requires.ground.heads_are (is_among c.args.named.now) c.requires.named c.in_err-judge_signatures.field-0.0
    c.in_err-judge_signatures.ensures.err)

pub returns-clause-ok : goal.returns-clause-ok
unfolding classes_of
returns-clause-ok c =
    judged_gives (source_in c.args.ground.now.source) (behind (map class_shown c.args.ground.now.library.now) (map class_shown c.args.declared.now)) c.requires.classes
    (heads_of c.args.ground.now.heads.now) c.requires.ground.heads_are (is_among c.args.named.now) c.requires.named tt c.in_ok-judge_signatures.ensures.ok
