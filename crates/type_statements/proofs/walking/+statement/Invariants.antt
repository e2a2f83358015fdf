use Rattle.std.specs.Prelude.{option_map}
use Rattle.std.proofs.Common.{◌≡◌, ℕ, ◌+◌, ◌*◌, List, max}
use denote.Param.Weighed.{most}
use Rattle.je_ast.specs.declared.stmt.Stmt.{Stmt}
use Rattle.je_ast.specs.View.{catch_views_of, group_views_of, statement_views_of}
use Rattle.je_ast.proofs.stmt.Block.TheLaws as in_block
use Rattle.je_ast.proofs.stmt.Catch.TheLaws as in_catch
use Rattle.je_ast.proofs.stmt.Group.TheLaws as in_group
use Rattle.je_ast.proofs.stmt.Stmt.TheLaws.{the_size}
use Rattle.je_core.specs.declared.types.ClassId.{ClassId}
use Rattle.body_typing.specs.Statements.{catches, groups}
use Rattle.body_scopes.specs.Extending.{Extends}
use Rattle.body_scopes.specs.View.{scope_seen}
use Rattle.statement_forms.specs.Seen.{done_seen, groups_in, known_of, program_of, progress_seen, returning_of}
use Rattle.type_statements.specs.Walk.{statements_by}
use Rattle.type_statements.proofs.Blocks.{block_left}
use Rattle.type_statements.proofs.Catches.{catches_left}
use Rattle.type_statements.proofs.Groups.{groups_left}
use Rattle.type_statements.proofs.walking.+statement.Given as goal

abbrev pub invariant-statements-loop-stmt : goal.invariant-statements-loop-stmt
invariant-statements-loop-stmt l =
    (block_left l.walk l.targets l.list
    (statements_by l.walk l.targets (scope_seen l.initial.scope) (progress_seen l.initial.progress) (statement_views_of l.list))
    (done_seen l.done l.scope l.progress) l.stmt-index)
    × Extends (scope_seen l.initial.scope) (scope_seen l.scope)

abbrev pub invariant-switch_groups-loop-group : goal.invariant-switch_groups-loop-group
invariant-switch_groups-loop-group l =
    (groups_left l.walk l.targets (option_map (λ (c : ClassId). c.0) l.of_enum) l.list
    (groups (program_of l.walk) (known_of l.walk) (returning_of l.walk) l.targets (option_map (λ (c : ClassId). c.0) l.of_enum)
    (scope_seen l.initial.scope) (progress_seen l.initial.progress) (group_views_of l.list))
    (groups_in l.written (progress_seen l.progress)) (scope_seen l.scope) l.group-index)
    × Extends (scope_seen l.initial.scope) (scope_seen l.scope)

abbrev pub invariant-catch_blocks-loop-catch : goal.invariant-catch_blocks-loop-catch
invariant-catch_blocks-loop-catch l =
    (catches_left l.walk l.targets (scope_seen l.initial.scope) l.list
    (catches (program_of l.walk) (known_of l.walk) (returning_of l.walk) l.targets (scope_seen l.initial.scope) (progress_seen l.initial.progress) (catch_views_of l.list))
    l.written.items (progress_seen l.progress) l.catch-index)
    × (scope_seen l.scope ≡ scope_seen l.initial.scope)

-- each function goes down by the deepest of the trees that it is given, and stands above those that it calls with the same
abbrev deepest : List Stmt → ℕ
deepest ss = most (λ x. the_size x) ss

abbrev pub decreases-statement_here : goal.decreases-statement_here
decreases-statement_here l = 8 * the_size l.stmt.now

abbrev pub decreases-statement : goal.decreases-statement
decreases-statement l = 8 * the_size l.stmt.now + 1

abbrev pub decreases-statements : goal.decreases-statements
decreases-statements l = 8 * deepest l.list.now + 2

abbrev pub decreases-inner_block : goal.decreases-inner_block
decreases-inner_block l = 8 * in_block.the_size l.block.now + 3

abbrev pub decreases-labelled : goal.decreases-labelled
decreases-labelled l = 8 * the_size l.body.now + 2

abbrev pub decreases-if_only : goal.decreases-if_only
decreases-if_only l = 8 * the_size l.yes.now + 2

abbrev pub decreases-if_else : goal.decreases-if_else
decreases-if_else l = 8 * max (the_size l.yes.now) (the_size l.no.now) + 2

abbrev pub decreases-while_loop : goal.decreases-while_loop
decreases-while_loop l = 8 * the_size l.body.now + 2

abbrev pub decreases-do_while : goal.decreases-do_while
decreases-do_while l = 8 * the_size l.body.now + 2

abbrev pub decreases-for_loop : goal.decreases-for_loop
decreases-for_loop l = 8 * the_size l.body.now + 2

abbrev pub decreases-for_each : goal.decreases-for_each
decreases-for_each l = 8 * the_size l.body.now + 2

abbrev pub decreases-switch_group : goal.decreases-switch_group
decreases-switch_group l = 8 * in_group.the_size l.group.now + 3

abbrev pub decreases-switch_groups : goal.decreases-switch_groups
decreases-switch_groups l = 8 * most (λ x. in_group.the_size x) l.list.now + 4

abbrev pub decreases-switch : goal.decreases-switch
decreases-switch l = 8 * most (λ x. in_group.the_size x) l.groups.now + 5

abbrev pub decreases-catch_block : goal.decreases-catch_block
decreases-catch_block l = 8 * in_catch.the_size l.catch.now + 3

abbrev pub decreases-catch_blocks : goal.decreases-catch_blocks
decreases-catch_blocks l = 8 * most (λ x. in_catch.the_size x) l.list.now + 4

abbrev pub decreases-try_only : goal.decreases-try_only
decreases-try_only l = 8 * max (in_block.the_size l.block.now) (most (λ x. in_catch.the_size x) l.catches.now) + 5

abbrev pub decreases-try_finally : goal.decreases-try_finally
decreases-try_finally l = 8 * max (max (in_block.the_size l.block.now) (in_block.the_size l.last.now)) (most (λ x. in_catch.the_size x) l.catches.now) + 5
