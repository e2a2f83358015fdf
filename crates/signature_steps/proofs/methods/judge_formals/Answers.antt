use Rattle.std.proofs.Common.{List, map, refl, arith}
use Rattle.std.proofs.lemmas.Result.{err_from_is_err_and}
use Rattle.je_ast.specs.declared.decl.Formal.{Formal}
use Rattle.je_ast.specs.Types.{formal_view}
use Rattle.name_lookup.specs.View.{part_view}
use Rattle.header_typing.specs.WrittenTypes.{well_formed_formal}
use Rattle.signature_typing.specs.Signatures.{formals}
use Rattle.signature_steps.specs.View.{setting_of}
use Rattle.written_types.proofs.Walking.{walk_on, walk_fails}
use Rattle.signature_steps.proofs.methods.judge_formals.Goals as goal

pub loop-at-preserved : goal.loop-at-preserved
loop-at-preserved c =
    walk_on (λ (u : Unit {0}) (fs : List Formal). formals (setting_of c.args.setting) c.args.place.class.0 (part_view c.args.place.part) (map formal_view fs)) c.args.formals.now c.loop-at.at tt _ c.index-formals-at.result (well_formed_formal (setting_of c.args.setting).heads ((setting_of c.args.setting).means c.args.place.class.0 (part_view c.args.place.part)) (formal_view c.index-formals-at.result)) tt (λ ys. refl) (omega arith) c.index-formals-at.is c.loop-at.invariant tt c.in_ok-judge_formal.ensures.ok

pub returns-in_err-judge_formal-clause-err : goal.returns-in_err-judge_formal-clause-err
returns-in_err-judge_formal-clause-err c =
    let p = err_from_is_err_and c.from_residual.result c.from_residual.ensures.1 in
    rw (p.1, p.2) (walk_fails (λ (u : Unit {0}) (fs : List Formal). formals (setting_of c.args.setting) c.args.place.class.0 (part_view c.args.place.part) (map formal_view fs)) c.args.formals.now c.loop-at.at tt _ c.index-formals-at.result (well_formed_formal (setting_of c.args.setting).heads ((setting_of c.args.setting).means c.args.place.class.0 (part_view c.args.place.part)) (formal_view c.index-formals-at.result)) tt (λ ys. refl) (omega arith) c.index-formals-at.is c.loop-at.invariant _ c.in_err-judge_formal.ensures.err)
