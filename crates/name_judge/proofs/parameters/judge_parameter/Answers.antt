use Rattle.std.proofs.Common.{Bool, ◌++◌, subst}
use Rattle.je_ast.specs.Types.{type_view_of_option}
use Rattle.je_scopes.specs.Scope.{header}
use Rattle.je_scopes.specs.Faults.{cycle_in_bound, of_optional_type, twice, where_so}
use Rattle.name_faults.specs.Met.{is_met}
use Rattle.name_faults.specs.View.{Adds}
use Rattle.name_faults.proofs.Left.{adds_both}
use Rattle.type_faults.specs.Program.{source_in}
use Rattle.name_judge.proofs.parameters.judge_parameter.Goals as goal

pub returns-clause-faults : goal.returns-clause-faults
returns-clause-faults c =
    let repeated = where_so (is_met c.args.met.now c.args.parameter.now.name.name) (twice c.args.parameter.now.name.span) in
    let of_bound = of_optional_type (source_in c.args.program.now) c.args.class.0 header (type_view_of_option c.args.parameter.now.bound) in
    adds_both (repeated ++ of_bound) (cycle_in_bound c.args.back (type_view_of_option c.args.parameter.now.bound))
    (adds_both repeated of_bound
    (subst (λ (b : Bool). Adds c.args.faults.now c.add_where.new.self (where_so b (twice c.args.parameter.now.name.span))) c.in_ok-before.ensures.before c.add_where.ensures)
    c.in_ok-judge_optional_type.ensures)
    c.judge_cycle.ensures
