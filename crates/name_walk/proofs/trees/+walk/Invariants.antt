use Rattle.std.proofs.Common.{◌≡◌, drop}
use Rattle.je_ast.specs.View.{views_of, variable_views_of, group_views_of, label_views_of, catch_views_of, member_views_of, statement_views_of}
use Rattle.je_scopes.specs.Sites.{in_expressions, in_variables, in_groups, in_labels, in_catches, in_members, in_block}
use Rattle.name_walk.specs.Collected.{collected, spot_of}
use Rattle.name_walk.proofs.trees.+walk.Given as goal

abbrev pub invariant-expressions-loop-expr : goal.invariant-expressions-loop-expr
invariant-expressions-loop-expr l =
    (spot_of l.collector ≡ spot_of l.initial.collector)
    × (in_expressions (spot_of l.initial.collector) (views_of (drop l.expr-index l.list)) (collected l.collector)
    ≡ in_expressions (spot_of l.initial.collector) (views_of l.list) (collected l.initial.collector))

abbrev pub invariant-variables-loop-var : goal.invariant-variables-loop-var
invariant-variables-loop-var l =
    (spot_of l.collector ≡ spot_of l.initial.collector)
    × (in_variables (spot_of l.initial.collector) (variable_views_of (drop l.var-index l.list)) (collected l.collector)
    ≡ in_variables (spot_of l.initial.collector) (variable_views_of l.list) (collected l.initial.collector))

abbrev pub invariant-switch_groups-loop-group : goal.invariant-switch_groups-loop-group
invariant-switch_groups-loop-group l =
    (spot_of l.collector ≡ spot_of l.initial.collector)
    × (in_groups (spot_of l.initial.collector) (group_views_of (drop l.group-index l.list)) (collected l.collector)
    ≡ in_groups (spot_of l.initial.collector) (group_views_of l.list) (collected l.initial.collector))

abbrev pub invariant-switch_labels-loop-label : goal.invariant-switch_labels-loop-label
invariant-switch_labels-loop-label l =
    (spot_of l.collector ≡ spot_of l.initial.collector)
    × (in_labels (spot_of l.initial.collector) (label_views_of (drop l.label-index l.list)) (collected l.collector)
    ≡ in_labels (spot_of l.initial.collector) (label_views_of l.list) (collected l.initial.collector))

abbrev pub invariant-catch_blocks-loop-catch : goal.invariant-catch_blocks-loop-catch
invariant-catch_blocks-loop-catch l =
    (spot_of l.collector ≡ spot_of l.initial.collector)
    × (in_catches (spot_of l.initial.collector) (catch_views_of (drop l.catch-index l.list)) (collected l.collector)
    ≡ in_catches (spot_of l.initial.collector) (catch_views_of l.list) (collected l.initial.collector))

abbrev pub invariant-class_members-loop-member : goal.invariant-class_members-loop-member
invariant-class_members-loop-member l =
    (spot_of l.collector ≡ spot_of l.initial.collector)
    × (in_members l.in_interface (spot_of l.initial.collector) (member_views_of (drop l.member-index l.list)) (collected l.collector)
    ≡ in_members l.in_interface (spot_of l.initial.collector) (member_views_of l.list) (collected l.initial.collector))

abbrev pub invariant-block_statements-loop-stmt : goal.invariant-block_statements-loop-stmt
invariant-block_statements-loop-stmt l =
    in_block (spot_of l.collector) (statement_views_of (drop l.stmt-index l.list)) (collected l.collector)
    ≡ in_block (spot_of l.initial.collector) (statement_views_of l.list) (collected l.initial.collector)
