use Rattle.std.proofs.Common.{List, get_or, map, refl, ap, arith}
use Rattle.std.proofs.lemmas.Result.{err_from_is_err_and}
use Rattle.je_ast.specs.declared.decl.TypeParam.{TypeParam}
use Rattle.je_ast.specs.Types.{parameter_view}
use Rattle.je_scopes.specs.Scope.{header}
use Rattle.header_typing.specs.WrittenTypes.{well_written_if}
use Rattle.signature_typing.specs.Signatures.{bounds}
use Rattle.signature_steps.specs.View.{setting_of}
use Rattle.written_types.proofs.Walking.{walk_on, walk_fails}
use Rattle.signature_steps.proofs.headers.judge_bounds.Goals as goal

pub loop-at-preserved : goal.loop-at-preserved
loop-at-preserved c =
    walk_on (λ (u : Unit {0}) (ps : List TypeParam). bounds (setting_of c.args.setting) c.args.class.0 (map parameter_view ps)) c.args.parameters.now c.loop-at.at tt _ (get_or c.args.parameters.now c.loop-at.at c.index-parameters-at.result) (well_written_if (setting_of c.args.setting).heads ((setting_of c.args.setting).means c.args.class.0 header) (parameter_view (get_or c.args.parameters.now c.loop-at.at c.index-parameters-at.result)).bound) tt (λ ys. refl) (omega arith) (ap (get_or c.args.parameters.now c.loop-at.at) c.index-parameters-at.is) c.loop-at.invariant tt c.in_ok-judge_optional_type.ensures.ok

pub returns-in_err-judge_optional_type-clause-err : goal.returns-in_err-judge_optional_type-clause-err
returns-in_err-judge_optional_type-clause-err c =
    let p = err_from_is_err_and c.from_residual.result c.from_residual.ensures.1 in
    rw (p.1, p.2) (walk_fails (λ (u : Unit {0}) (ps : List TypeParam). bounds (setting_of c.args.setting) c.args.class.0 (map parameter_view ps)) c.args.parameters.now c.loop-at.at tt _ (get_or c.args.parameters.now c.loop-at.at c.index-parameters-at.result) (well_written_if (setting_of c.args.setting).heads ((setting_of c.args.setting).means c.args.class.0 header) (parameter_view (get_or c.args.parameters.now c.loop-at.at c.index-parameters-at.result)).bound) tt (λ ys. refl) (omega arith) (ap (get_or c.args.parameters.now c.loop-at.at) c.index-parameters-at.is) c.loop-at.invariant _ c.in_err-judge_optional_type.ensures.err)
