use Rattle.std.proofs.Common.{◌+◌, ◌*◌}
use Rattle.parse_expr.proofs.knot.+knot.Given as goal

abbrev pub decreases-expr : goal.decreases-expr
decreases-expr l = l.setting.now.below * 8 + 4

abbrev pub decreases-expr-inner : goal.decreases-expr-inner
decreases-expr-inner l = l.below.below * 8 + 8

abbrev pub decreases-expr-values : goal.decreases-expr-values
decreases-expr-values l = l.below.below * 8 + 8

abbrev pub decreases-expr-members : goal.decreases-expr-members
decreases-expr-members l = l.below.below * 8 + 8

abbrev pub decreases-initializer : goal.decreases-initializer
decreases-initializer l = l.setting.now.below * 8 + 6

abbrev pub decreases-initializer-values : goal.decreases-initializer-values
decreases-initializer-values l = l.below.below * 8 + 8

abbrev pub decreases-body : goal.decreases-body
decreases-body l = l.setting.now.below * 8 + 7

abbrev pub decreases-body-members : goal.decreases-body-members
decreases-body-members l = l.setting.now.below * 8 + 5

abbrev pub decreases-stmt : goal.decreases-stmt
decreases-stmt l = l.setting.now.below * 8 + 4

abbrev pub decreases-stmt-inner : goal.decreases-stmt-inner
decreases-stmt-inner l = l.below.below * 8 + 8

abbrev pub decreases-stmt-values : goal.decreases-stmt-values
decreases-stmt-values l = l.below.below * 8 + 8

abbrev pub decreases-stmt-stmts : goal.decreases-stmt-stmts
decreases-stmt-stmts l = l.below.below * 8 + 8

abbrev pub decreases-stmt-items : goal.decreases-stmt-items
decreases-stmt-items l = l.below.below * 8 + 8

abbrev pub decreases-stmt-blocks : goal.decreases-stmt-blocks
decreases-stmt-blocks l = l.below.below * 8 + 8

abbrev pub decreases-block_stmt : goal.decreases-block_stmt
decreases-block_stmt l = l.setting.now.below * 8 + 5

abbrev pub decreases-class_statement-members : goal.decreases-class_statement-members
decreases-class_statement-members l = l.below.below * 8 + 8

abbrev pub decreases-local_variables-values : goal.decreases-local_variables-values
decreases-local_variables-values l = l.below.below * 8 + 8

abbrev pub decreases-block : goal.decreases-block
decreases-block l = l.setting.now.below * 8 + 4

abbrev pub decreases-block-items : goal.decreases-block-items
decreases-block-items l = l.below.below * 8 + 8

abbrev pub decreases-member : goal.decreases-member
decreases-member l = l.setting.now.below * 8 + 4

abbrev pub decreases-member-inner : goal.decreases-member-inner
decreases-member-inner l = l.below.below * 8 + 8

abbrev pub decreases-member-values : goal.decreases-member-values
decreases-member-values l = l.below.below * 8 + 8

abbrev pub decreases-member-items : goal.decreases-member-items
decreases-member-items l = l.below.below * 8 + 8

abbrev pub decreases-member-blocks : goal.decreases-member-blocks
decreases-member-blocks l = l.below.below * 8 + 8

abbrev pub decreases-member-members : goal.decreases-member-members
decreases-member-members l = l.below.below * 8 + 8

abbrev pub decreases-class_statement : goal.decreases-class_statement
decreases-class_statement l = l.setting.now.below * 8 + 4

abbrev pub decreases-local_variables : goal.decreases-local_variables
decreases-local_variables l = l.setting.now.below * 8 + 4
