use Rattle.std.proofs.Common.{◌<◌, ◌≤◌, length, sym, ◌∙◌, subst, arith}
use Rattle.std.proofs.lemmas.Bool.{eqb-true, eqb-false}
use Rattle.je_ast.specs.Types.{type_view}
use Rattle.je_scopes.specs.Scope.{Part}
use Rattle.je_scopes.specs.Faults.{of_type}
use Rattle.name_faults.specs.View.{Adds}
use Rattle.name_faults.proofs.Covers.{covers_found, covers_on}
use Rattle.type_faults.specs.Program.{source_in}
use Rattle.member_faults.proofs.FieldSteps.{variable_next, variables_ahead, variables_end}
use Rattle.member_faults.proofs.fields.judge_variables.Goals as goal

pub returns-then-is_empty : goal.returns-then-is_empty
returns-then-is_empty c = λ r s w h.
    let none : length c.args.vars.now ≤ 0 = omega (arith, eqb-true (length c.args.vars.now) 0 (sym c.is_empty.ensures ∙ c.if-is_empty.true)) in
    variables_end (source_in c.args.program.now) c.args.class.0 w c.args.modifiers.now (type_view c.args.ty.now) c.args.vars.now 0 r s c.args.faults.now c.args.met.now none h

pub loop-var-init : goal.loop-var-init
loop-var-init c = record {
  left = λ r s w h. h;
  known = covers_found _ (subst (λ (k : Part). Adds c.args.faults.now c.judge_type.new.faults (of_type (source_in c.args.program.now) c.args.class.0 k (type_view c.args.ty.now))) c.field_part-part.ensures c.in_ok-judge_type.ensures);
}

pub loop-var-preserved : goal.loop-var-preserved
loop-var-preserved c =
    let known = covers_on _ _ c.loop-var.invariant.known c.in_ok-judge_name.ensures.faults in
    record {
      left = λ r s w h. variable_next (source_in c.args.program.now) c.args.class.0 w c.args.modifiers.now (type_view c.args.ty.now) c.args.vars.now c.loop-var.var-index r s c.loop-var.faults c.judge_name.new.faults c.loop-var.met c.judge_name.new.met
          c.var-item.result (omega arith) c.var-item.is (c.loop-var.invariant.left r s w h) known c.in_ok-judge_name.ensures.met c.in_ok-judge_name.ensures.faults;
      known = known;
    }

pub returns : goal.returns
returns c = λ r s w h.
    let some : 0 < length c.args.vars.now = omega (arith, eqb-false (length c.args.vars.now) 0 (sym c.is_empty.ensures ∙ c.if-is_empty.false)) in
    variables_end (source_in c.args.program.now) c.args.class.0 w c.args.modifiers.now (type_view c.args.ty.now) c.args.vars.now c.loop-var.var-index r s c.loop-var.faults c.loop-var.met (omega arith)
    (c.loop-var.invariant.left r s w
    (variables_ahead (source_in c.args.program.now) c.args.class.0 w c.args.modifiers.now (type_view c.args.ty.now) c.args.vars.now r s c.args.faults.now c.judge_type.new.faults c.args.met.now some
    (subst (λ (k : Part). Adds c.args.faults.now c.judge_type.new.faults (of_type (source_in c.args.program.now) c.args.class.0 k (type_view c.args.ty.now))) c.field_part-part.ensures c.in_ok-judge_type.ensures) h))
