use Rattle.std.proofs.Common.{◌+◌, ◌∷◌, [], map, None, refl, ap, arith, ◌∙◌}
use Rattle.std.proofs.lemmas.List.{map-append}
use Rattle.std.specs.Prelude.{option_map}
use Rattle.std.proofs.lemmas.Result.{err_from_is_err_and, on_ok_weaker}
use Rattle.je_core.specs.declared.types.ClassId.{ClassId}
use Rattle.je_core.specs.Core.{core_catches}
use Rattle.je_core.specs.View.{catch_view as catch_seen, stmt_view, views}
use Rattle.je_ast.specs.declared.decl.ConstructorCall.TheViews.{size-Stmt, sized-Switch, sized-Try, sized-TryFinally}
use Rattle.je_ast.specs.declared.stmt.Block.{size_is-Block}
use Rattle.je_ast.specs.declared.stmt.Stmt.TheVariants as node
use Rattle.je_ast.specs.Types.{type_view}
use Rattle.je_ast.specs.View.{block_view, catch_view, catch_views_of, for_initializer_view, group_view, group_views_of, statement_view, view, view_of_option, views_of}
use Rattle.je_fitting.specs.Statements.{in_loop}
use Rattle.je_typing.specs.Answers.{wants_memory}
use Rattle.je_typing.proofs.Walks.{bind_faults}
use Rattle.name_types.specs.View.{shown}
use Rattle.fit_statements.specs.Labels.{label_seen as label_shown}
use Rattle.body_typing.specs.Bodies.{local_of}
use Rattle.value_statements.specs.Labels.{label_seen}
use Rattle.typed_nodes.specs.Seen.{seen}
use Rattle.body_places.specs.Places.{local_seen}
use Rattle.body_scopes.specs.View.{scope_seen}
use Rattle.body_scopes.proofs.Extending.{extends_further, extends_itself}
use Rattle.statement_forms.specs.View.{clause_seen, group_seen}
use Rattle.statement_forms.specs.Seen.{done_seen, groups_in, known_of, program_of, progress_seen, returning_of}
use Rattle.type_statements.proofs.Staying.{local_added, stays_extends}
use Rattle.type_statements.proofs.Blocks.{block_begin, block_end, block_fail, block_on}
use Rattle.type_statements.proofs.Catches.{catch_fails, catch_is, catches_begin, catches_end, catches_fail, catches_on}
use Rattle.type_statements.proofs.Faults.{array_fails, clauses_fail, do_while_code_fails, do_while_fails, finally_catches_fail, finally_clauses_fail, finally_fails, first_branch_fails, for_code_fails, for_condition_fails, for_each_code_fails, for_each_fails, for_fails, for_steps_fail, if_code_fails, if_else_code_fails, if_fails, label_fails, labelled_fails, second_branch_fails, switch_code_fails, switch_fails, try_fails, while_code_fails, while_fails}
use Rattle.type_statements.proofs.Forms.{block_is, empty_stands, if_else_is, if_is, inside_label, labelled_is, switch_is, try_finally_is, try_is, with_labels}
use Rattle.type_statements.proofs.Groups.{group_extends, group_fails, group_is, groups_begin, groups_end, groups_fail, groups_on}
use Rattle.type_statements.proofs.Loops.{do_while_is, for_each_is, for_is, while_is}
use Rattle.type_statements.specs.way.Grouped.{group_done}
use Rattle.type_statements.specs.way.Written.{statement_by}
use Rattle.type_statements.proofs.walking.+statement.Goals as goal

pub inner_block-returns-clause-ok : goal.inner_block-returns-clause-ok
inner_block-returns-clause-ok t c =
    block_is c.args.walk c.args.targets.now None (scope_seen c.args.scope.now) (progress_seen c.args.progress.now) (block_view c.args.block.now)
    (done_seen c.in_ok-done.done c.statements.new.scope c.statements.new.progress)
    (done_seen c.in_ok-whole.whole c.leave.new.self c.statements.new.progress) (scope_seen c.leave.new.self) (stmt_view c.in_ok-code.code)
    (rw c.deref.ensures.value at c.in_ok-done.ensures.ok)
    (c.leave.ensures (scope_seen c.args.scope.now) c.in_ok-done.ensures.extends c.depth-depth.ensures)
    (c.in_ok-code.ensures (scope_seen c.statements.new.scope) (progress_seen c.statements.new.progress))
    (c.in_ok-whole.ensures (scope_seen c.leave.new.self) (progress_seen c.statements.new.progress))

pub inner_block-returns-clause-stays : goal.inner_block-returns-clause-stays
inner_block-returns-clause-stays t c = c.leave.ensures (scope_seen c.args.scope.now) c.in_ok-done.ensures.extends c.depth-depth.ensures

pub labelled-returns-clause-ok : goal.labelled-returns-clause-ok
labelled-returns-clause-ok t c =
    labelled_is c.args.walk c.args.targets.now None (scope_seen c.args.scope.now) (progress_seen c.args.progress.now) c.args.label (statement_view c.args.body.now)
    (with_labels (map label_shown c.deref.result.now) c.targets.inside.has_break c.targets.inside.has_continue)
    (done_seen c.in_ok-done.done c.statement.new.scope c.statement.new.progress)
    (done_seen c.in_ok-whole.whole c.leave.new.self c.statement.new.progress) (scope_seen c.leave.new.self) (stmt_view c.alone.result) (stmt_view c.in_ok-code.code)
    (inside_label c.args.label (statement_view c.args.body.now) c.args.targets.now (map label_shown c.deref.result.now) (map label_shown c.targets.inside.labels.now)
    c.targets.inside.has_break c.targets.inside.has_continue c.is_loop.result c.targets.view_is
    (ap (map label_shown) c.deref.ensures.value ∙ c.in_ok-labels.ensures) c.is_loop.ensures)
    c.in_ok-done.ensures.ok
    (c.leave.ensures (scope_seen c.args.scope.now) c.in_ok-done.ensures.extends c.depth-depth.ensures)
    (c.alone.ensures (scope_seen c.statement.new.scope) (progress_seen c.statement.new.progress))
    c.in_ok-code.ensures.ok
    (c.in_ok-whole.ensures (scope_seen c.leave.new.self) (progress_seen c.statement.new.progress))

pub labelled-returns-clause-stays : goal.labelled-returns-clause-stays
labelled-returns-clause-stays t c = c.leave.ensures (scope_seen c.args.scope.now) c.in_ok-done.ensures.extends c.depth-depth.ensures

pub if_only-returns-clause-ok : goal.if_only-returns-clause-ok
if_only-returns-clause-ok t c =
    if_is c.args.walk c.args.targets.now None (scope_seen c.args.scope.now) (progress_seen c.args.progress.now) c.args.word c.span.result
    (view c.args.condition.now) (seen c.in_ok-asked.asked) (progress_seen c.valued.new.progress)
    c.in_ok-asked.ensures.ok c.in_ok-asked.ensures.met c.span.ensures (statement_view c.args.yes.now)
    (done_seen c.in_ok-chosen.chosen c.statement.new.scope c.statement.new.progress)
    (done_seen c.in_ok-whole.whole c.leave.new.self c.statement.new.progress) (scope_seen c.leave.new.self) (stmt_view c.alone-yes.result) (stmt_view c.in_ok-code.code)
    c.in_ok-chosen.ensures.ok
    (c.leave.ensures (scope_seen c.args.scope.now) c.in_ok-chosen.ensures.extends c.depth-depth.ensures)
    (c.alone-yes.ensures (scope_seen c.statement.new.scope) (progress_seen c.statement.new.progress))
    c.in_ok-code.ensures.ok
    (c.in_ok-whole.ensures (scope_seen c.leave.new.self) (progress_seen c.statement.new.progress))

pub if_only-returns-clause-stays : goal.if_only-returns-clause-stays
if_only-returns-clause-stays t c = c.leave.ensures (scope_seen c.args.scope.now) c.in_ok-chosen.ensures.extends c.depth-depth.ensures

pub if_else-returns-clause-ok : goal.if_else-returns-clause-ok
if_else-returns-clause-ok t c =
    if_else_is c.args.walk c.args.targets.now None (scope_seen c.args.scope.now) (progress_seen c.args.progress.now) c.args.word c.span.result
    (view c.args.condition.now) (seen c.in_ok-asked.asked) (progress_seen c.valued.new.progress)
    c.in_ok-asked.ensures.ok c.in_ok-asked.ensures.met c.span.ensures (statement_view c.args.yes.now) (statement_view c.args.no.now)
    (done_seen c.in_ok-chosen.chosen c.statement.new.scope c.statement.new.progress)
    (done_seen c.in_ok-other.other c.statement-2.new.scope c.statement-2.new.progress)
    (done_seen c.in_ok-whole.whole c.leave-2.new.self c.statement-2.new.progress) (scope_seen c.leave.new.self) (scope_seen c.leave-2.new.self)
    (stmt_view c.alone-yes.result) (stmt_view c.alone-no.result) (stmt_view c.in_ok-code.code)
    c.in_ok-chosen.ensures.ok
    (c.leave.ensures (scope_seen c.args.scope.now) c.in_ok-chosen.ensures.extends c.depth-depth.ensures)
    c.in_ok-other.ensures.ok
    (c.leave-2.ensures (scope_seen c.leave.new.self) c.in_ok-other.ensures.extends c.depth-depth-2.ensures)
    (c.alone-yes.ensures (scope_seen c.statement.new.scope) (progress_seen c.statement.new.progress))
    (c.alone-no.ensures (scope_seen c.statement-2.new.scope) (progress_seen c.statement-2.new.progress))
    c.in_ok-code.ensures.ok
    (c.in_ok-whole.ensures (scope_seen c.leave-2.new.self) (progress_seen c.statement-2.new.progress))

pub if_else-returns-clause-stays : goal.if_else-returns-clause-stays
if_else-returns-clause-stays t c =
    c.leave-2.ensures (scope_seen c.leave.new.self) c.in_ok-other.ensures.extends c.depth-depth-2.ensures
    ∙ c.leave.ensures (scope_seen c.args.scope.now) c.in_ok-chosen.ensures.extends c.depth-depth.ensures

pub while_loop-returns-clause-ok : goal.while_loop-returns-clause-ok
while_loop-returns-clause-ok t c =
    while_is c.args.walk c.args.targets.now c.in_loop.result None (scope_seen c.args.scope.now) (progress_seen c.args.progress.now) c.args.word c.in_loop.ensures
    (view c.args.condition.now) c.span.result (seen c.in_ok-asked.asked) (progress_seen c.valued.new.progress) (statement_view c.args.body.now)
    (done_seen c.in_ok-done.done c.statement.new.scope c.statement.new.progress)
    (done_seen c.in_ok-whole.whole c.leave.new.self c.statement.new.progress) (scope_seen c.leave.new.self) (views c.new-steps.result.items)
    (stmt_view c.alone.result) (stmt_view c.in_ok-code.code)
    c.in_ok-asked.ensures.ok c.in_ok-asked.ensures.met c.span.ensures c.in_ok-done.ensures.ok
    (c.leave.ensures (scope_seen c.args.scope.now) c.in_ok-done.ensures.extends c.depth-depth.ensures)
    (ap views c.new-steps.ensures.items)
    (c.alone.ensures (scope_seen c.statement.new.scope) (progress_seen c.statement.new.progress))
    c.in_ok-code.ensures.ok
    (c.in_ok-whole.ensures (scope_seen c.leave.new.self) (progress_seen c.statement.new.progress))

pub while_loop-returns-clause-stays : goal.while_loop-returns-clause-stays
while_loop-returns-clause-stays t c = c.leave.ensures (scope_seen c.args.scope.now) c.in_ok-done.ensures.extends c.depth-depth.ensures

pub do_while-returns-clause-ok : goal.do_while-returns-clause-ok
do_while-returns-clause-ok t c =
    do_while_is c.args.walk c.args.targets.now c.in_loop.result None (scope_seen c.args.scope.now) (progress_seen c.args.progress.now) c.args.word c.in_loop.ensures
    (statement_view c.args.body.now) (view c.args.condition.now) c.span.result (seen c.in_ok-asked.asked) (progress_seen c.valued.new.progress)
    (done_seen c.in_ok-done.done c.statement.new.scope c.statement.new.progress)
    (done_seen c.in_ok-whole.whole c.leave.new.self c.valued.new.progress) (scope_seen c.leave.new.self)
    (stmt_view c.alone.result) (stmt_view c.in_ok-code.code)
    c.in_ok-done.ensures.ok
    (c.leave.ensures (scope_seen c.args.scope.now) c.in_ok-done.ensures.extends c.depth-depth.ensures)
    c.in_ok-asked.ensures.ok c.in_ok-asked.ensures.met c.span.ensures
    (c.alone.ensures (scope_seen c.statement.new.scope) (progress_seen c.statement.new.progress))
    c.in_ok-code.ensures.ok
    (c.in_ok-whole.ensures (scope_seen c.leave.new.self) (progress_seen c.valued.new.progress))

pub do_while-returns-clause-stays : goal.do_while-returns-clause-stays
do_while-returns-clause-stays t c = c.leave.ensures (scope_seen c.args.scope.now) c.in_ok-done.ensures.extends c.depth-depth.ensures

pub for_loop-returns-clause-ok : goal.for_loop-returns-clause-ok
for_loop-returns-clause-ok t c =
    for_is c.args.walk c.args.targets.now c.in_loop.result c.args.label (scope_seen c.args.scope.now) (progress_seen c.args.progress.now) c.args.head.word c.in_loop.ensures
    (for_initializer_view c.args.head.init.now) (view_of_option c.args.head.condition.now) (views_of c.args.head.steps.now) (statement_view c.args.body.now)
    (done_seen c.in_ok-first.first c.for_start.new.scope c.for_start.new.progress)
    (done_seen c.in_ok-done.done c.statement.new.scope c.statement.new.progress)
    (done_seen c.in_ok-whole.whole c.leave.new.self c.statement.new.progress)
    (seen c.in_ok-asked.asked) (progress_seen c.condition_or.new.progress) (progress_seen c.steps.new.progress) (views c.in_ok-further.further.items)
    c.condition_span-at.result (scope_seen c.leave.new.self) (stmt_view c.alone.result) (stmt_view c.in_ok-turn.turn) (stmt_view c.in_ok-code.code)
    c.in_ok-first.ensures.ok c.in_ok-asked.ensures.ok c.in_ok-asked.ensures.met c.in_ok-further.ensures.ok c.in_ok-done.ensures.ok
    (c.leave.ensures (scope_seen c.args.scope.now)
    (extends_further (scope_seen c.args.scope.now) (scope_seen c.for_start.new.scope) (scope_seen c.statement.new.scope) c.in_ok-first.ensures.extends c.in_ok-done.ensures.extends)
    c.depth-depth.ensures)
    (c.condition_span-at.ensures (program_of c.args.walk) (known_of c.args.walk) (returning_of c.args.walk))
    (c.alone.ensures (scope_seen c.statement.new.scope) (progress_seen c.statement.new.progress))
    c.in_ok-turn.ensures.ok
    (c.in_ok-code.ensures (scope_seen c.for_start.new.scope) (progress_seen c.for_start.new.progress))
    (c.in_ok-whole.ensures (scope_seen c.leave.new.self) (progress_seen c.statement.new.progress))

pub for_loop-returns-clause-stays : goal.for_loop-returns-clause-stays
for_loop-returns-clause-stays t c =
    c.leave.ensures (scope_seen c.args.scope.now)
    (extends_further (scope_seen c.args.scope.now) (scope_seen c.for_start.new.scope) (scope_seen c.statement.new.scope) c.in_ok-first.ensures.extends c.in_ok-done.ensures.extends)
    c.depth-depth.ensures

pub for_each-returns-clause-ok : goal.for_each-returns-clause-ok
for_each-returns-clause-ok t c =
    for_each_is c.args.walk c.args.targets.now c.in_loop.result c.args.label (scope_seen c.args.scope.now) (progress_seen c.args.progress.now) c.args.head.word c.in_loop.ensures
    c.args.head.is_final (type_view c.args.head.ty.now) c.args.head.name (view c.args.head.array.now) (statement_view c.args.body.now)
    (shown c.in_ok-ty.ty) c.in_ok-local.local (seen c.in_ok-array.array) (progress_seen c.valued.new.progress) (progress_seen c.add_element.new.progress)
    (scope_seen c.add_element.new.scope) (scope_seen c.leave.new.self)
    (done_seen c.in_ok-done.done c.statement.new.scope c.statement.new.progress)
    (done_seen c.in_ok-whole.whole c.leave.new.self c.statement.new.progress) (stmt_view c.alone.result) (stmt_view c.in_ok-code.code)
    c.in_ok-ty.ensures.ok c.in_ok-local.ensures.number c.in_ok-array.ensures.ok c.in_ok-array.ensures.met c.in_ok-add_element.ensures.scope
    c.in_ok-add_element.ensures.progress c.in_ok-done.ensures.ok
    (c.leave.ensures (scope_seen c.args.scope.now)
    (extends_further (scope_seen c.args.scope.now) (scope_seen c.add_element.new.scope) (scope_seen c.statement.new.scope)
    (local_added (scope_seen c.args.scope.now) (scope_seen c.add_element.new.scope) c.args.head.is_final
    (local_of c.args.head.name.name (shown c.in_ok-ty.ty) c.args.head.is_final (c.in_ok-local.local + 2) None) c.in_ok-add_element.ensures.scope) c.in_ok-done.ensures.extends)
    c.depth-depth.ensures)
    (c.alone.ensures (scope_seen c.statement.new.scope) (progress_seen c.statement.new.progress))
    c.in_ok-code.ensures.ok
    (c.in_ok-whole.ensures (scope_seen c.leave.new.self) (progress_seen c.statement.new.progress))

pub for_each-returns-clause-stays : goal.for_each-returns-clause-stays
for_each-returns-clause-stays t c =
    c.leave.ensures (scope_seen c.args.scope.now)
    (extends_further (scope_seen c.args.scope.now) (scope_seen c.add_element.new.scope) (scope_seen c.statement.new.scope)
    (local_added (scope_seen c.args.scope.now) (scope_seen c.add_element.new.scope) c.args.head.is_final
    (local_of c.args.head.name.name (shown c.in_ok-ty.ty) c.args.head.is_final (c.in_ok-local.local + 2) None) c.in_ok-add_element.ensures.scope) c.in_ok-done.ensures.extends)
    c.depth-depth.ensures

pub switch-returns-clause-ok : goal.switch-returns-clause-ok
switch-returns-clause-ok t c =
    switch_is c.args.walk c.args.targets.now None (scope_seen c.args.scope.now) (progress_seen c.args.progress.now) c.args.word (view c.args.selector.now)
    (group_views_of c.args.groups.now) c.args.whole (seen c.in_ok-asked.asked) (seen c.in_ok-by.by) (progress_seen c.valued.new.progress) c.in_switch-inside.result
    (option_map (λ (n : ClassId). n.0) c.enum_of-of_enum.result) (groups_in c.in_ok-done.done (progress_seen c.switch_groups.new.progress))
    (scope_seen c.leave.new.self) (stmt_view c.in_ok-code.code)
    (done_seen c.in_ok-whole.whole c.leave.new.self c.switch_groups.new.progress)
    c.in_ok-asked.ensures.ok c.in_ok-asked.ensures.met c.in_switch-inside.ensures c.enum_of-of_enum.ensures c.in_ok-done.ensures.ok
    (c.leave.ensures (scope_seen c.args.scope.now) c.in_ok-done.ensures.extends c.depth-depth.ensures)
    c.in_ok-by.ensures (c.in_ok-code.ensures.ok (progress_seen c.switch_groups.new.progress))
    (c.in_ok-whole.ensures (scope_seen c.leave.new.self) (progress_seen c.switch_groups.new.progress))

pub switch-returns-clause-stays : goal.switch-returns-clause-stays
switch-returns-clause-stays t c = c.leave.ensures (scope_seen c.args.scope.now) c.in_ok-done.ensures.extends c.depth-depth.ensures

pub try_only-returns-clause-ok : goal.try_only-returns-clause-ok
try_only-returns-clause-ok t c =
    try_is c.args.walk c.args.targets.now None (scope_seen c.args.scope.now) (progress_seen c.args.progress.now) c.args.word (block_view c.args.block.now)
    (catch_views_of c.args.catches.now) (done_seen c.in_ok-done.done c.statements.new.scope c.statements.new.progress)
    (scope_seen c.leave.new.self) (scope_seen c.catch_blocks.new.scope) (stmt_view c.in_ok-body.body)
    (record { items = map clause_seen c.in_ok-written.written.items; progress = progress_seen c.catch_blocks.new.progress })
    (rw c.deref.ensures.value at c.in_ok-done.ensures.ok)
    (c.leave.ensures (scope_seen c.args.scope.now) c.in_ok-done.ensures.extends c.depth-depth.ensures)
    (c.in_ok-body.ensures (scope_seen c.statements.new.scope) (progress_seen c.statements.new.progress))
    c.in_ok-written.ensures.ok c.in_ok-written.ensures.stays
    (core_catches (map catch_seen c.in_ok-caught.caught.items)) (stmt_view c.in_ok-code.code)
    (done_seen c.in_ok-whole.whole c.catch_blocks.new.scope c.catch_blocks.new.progress)
    c.in_ok-caught.ensures.ok c.in_ok-code.ensures
    (c.in_ok-whole.ensures (scope_seen c.catch_blocks.new.scope) (progress_seen c.catch_blocks.new.progress))

pub try_only-returns-clause-stays : goal.try_only-returns-clause-stays
try_only-returns-clause-stays t c =
    c.in_ok-written.ensures.stays ∙ c.leave.ensures (scope_seen c.args.scope.now) c.in_ok-done.ensures.extends c.depth-depth.ensures

pub try_finally-returns-clause-ok : goal.try_finally-returns-clause-ok
try_finally-returns-clause-ok t c =
    try_finally_is c.args.walk c.args.targets.now None (scope_seen c.args.scope.now) (progress_seen c.args.progress.now) c.args.word (block_view c.args.block.now)
    (catch_views_of c.args.catches.now) (done_seen c.in_ok-done.done c.statements.new.scope c.statements.new.progress)
    (scope_seen c.leave.new.self) (scope_seen c.catch_blocks.new.scope) (stmt_view c.in_ok-body.body)
    (record { items = map clause_seen c.in_ok-written.written.items; progress = progress_seen c.catch_blocks.new.progress })
    (rw c.deref.ensures.value at c.in_ok-done.ensures.ok)
    (c.leave.ensures (scope_seen c.args.scope.now) c.in_ok-done.ensures.extends c.depth-depth.ensures)
    (c.in_ok-body.ensures (scope_seen c.statements.new.scope) (progress_seen c.statements.new.progress))
    c.in_ok-written.ensures.ok c.in_ok-written.ensures.stays
    c.args.at (block_view c.args.last.now) (done_seen c.in_ok-finished.finished c.statements-2.new.scope c.statements-2.new.progress)
    (done_seen c.in_ok-whole.whole c.leave-2.new.self c.statements-2.new.progress) (scope_seen c.leave-2.new.self) (stmt_view c.in_ok-end.end)
    (stmt_view c.in_ok-code.code) (core_catches (map catch_seen c.in_ok-caught.caught.items))
    (rw c.deref-2.ensures.value at c.in_ok-finished.ensures.ok)
    (c.leave-2.ensures (scope_seen c.catch_blocks.new.scope) c.in_ok-finished.ensures.extends c.depth-depth-2.ensures)
    (c.in_ok-end.ensures (scope_seen c.statements-2.new.scope) (progress_seen c.statements-2.new.progress))
    c.in_ok-caught.ensures.ok c.in_ok-code.ensures
    (c.in_ok-whole.ensures (scope_seen c.leave-2.new.self) (progress_seen c.statements-2.new.progress))

pub try_finally-returns-clause-stays : goal.try_finally-returns-clause-stays
try_finally-returns-clause-stays t c =
    c.leave-2.ensures (scope_seen c.catch_blocks.new.scope) c.in_ok-finished.ensures.extends c.depth-depth-2.ensures
    ∙ c.in_ok-written.ensures.stays ∙ c.leave.ensures (scope_seen c.args.scope.now) c.in_ok-done.ensures.extends c.depth-depth.ensures

pub switch_group-returns-clause-ok : goal.switch_group-returns-clause-ok
switch_group-returns-clause-ok t c =
    group_is c.args.walk c.args.targets.now (option_map (λ (n : ClassId). n.0) c.args.of_enum) (scope_seen c.args.scope.now) (progress_seen c.args.progress.now)
    (group_view c.args.group.now) (record { labels = map label_seen c.in_ok-labels.labels.items; progress = progress_seen c.labels.new.progress })
    (done_seen c.in_ok-done.done c.statements.new.scope c.statements.new.progress) (scope_seen c.leave_classes.new.self)
    (group_seen c.in_ok-next.next.group) c.in_ok-next.next.numbers.items
    (rw c.deref.ensures.value at c.in_ok-labels.ensures.ok) (rw c.deref-2.ensures.value at c.in_ok-done.ensures.ok)
    (c.leave_classes.ensures (scope_seen c.args.scope.now) c.in_ok-done.ensures.extends c.depth-depth.ensures)
    c.in_ok-next.ensures.group c.in_ok-next.ensures.numbers

pub switch_group-returns-clause-extends : goal.switch_group-returns-clause-extends
switch_group-returns-clause-extends t c =
    group_extends (scope_seen c.args.scope.now) (scope_seen c.statements.new.scope) (scope_seen c.leave_classes.new.self) c.in_ok-done.ensures.extends
    (c.leave_classes.ensures (scope_seen c.args.scope.now) c.in_ok-done.ensures.extends c.depth-depth.ensures)

pub catch_block-returns-clause-ok : goal.catch_block-returns-clause-ok
catch_block-returns-clause-ok t c =
    catch_is c.args.walk c.args.targets.now (scope_seen c.args.scope.now) (progress_seen c.args.progress.now) (catch_view c.args.catch.now)
    (shown c.in_ok-ty.ty) c.in_ok-number.number (local_seen c.in_ok-variable.variable) (scope_seen c.add_local.new.self)
    (progress_seen c.add_number.new.progress) c.in_ok-ty.ensures.ok c.in_ok-number.ensures c.in_ok-variable.ensures c.in_ok-add_local.ensures
    c.in_ok-add_number.ensures
    (done_seen c.in_ok-done.done c.statements.new.scope c.statements.new.progress) (stmt_view c.in_ok-body.body)
    (rw c.deref.ensures.value at c.in_ok-done.ensures.ok)
    (c.in_ok-body.ensures (scope_seen c.statements.new.scope) (progress_seen c.statements.new.progress))

pub catch_block-returns-clause-stays : goal.catch_block-returns-clause-stays
catch_block-returns-clause-stays t c =
    c.leave.ensures (scope_seen c.args.scope.now)
    (extends_further (scope_seen c.args.scope.now) (scope_seen c.add_local.new.self) (scope_seen c.statements.new.scope)
    (local_added (scope_seen c.args.scope.now) (scope_seen c.add_local.new.self) c.args.catch.now.is_final (local_seen c.in_ok-variable.variable) c.in_ok-add_local.ensures) c.in_ok-done.ensures.extends)
    c.depth-depth.ensures

-- the statements of a block
pub statements-loop-stmt-init : goal.statements-loop-stmt-init
statements-loop-stmt-init t c = (
  block_begin c.args.walk c.args.targets.now c.args.list.now (done_seen c.nothing-done.result c.args.scope.now c.args.progress.now)
      (λ i. record {
        code = map stmt_view (c.nothing-done.ensures.code i);
        numbers = c.nothing-done.ensures.numbers i;
        scope = scope_seen c.args.scope.now;
        progress = progress_seen c.args.progress.now;
      }),
  extends_itself (scope_seen c.args.scope.now),
)

pub statements-returns-in_err-more-clause-err : goal.statements-returns-in_err-more-clause-err
statements-returns-in_err-more-clause-err t c =
    let p = err_from_is_err_and c.from_residual.result c.from_residual.ensures.1 in
    rw (p.1, p.2) (block_fail c.args.walk c.args.targets.now c.args.list.now _ c.loop-stmt.stmt-index
    (done_seen c.loop-stmt.done c.loop-stmt.scope c.loop-stmt.progress) c.stmt-item.result _
    (omega arith) c.stmt-item.is c.loop-stmt.invariant.0 c.in_err-more.ensures.err)

pub statements-loop-stmt-preserved : goal.statements-loop-stmt-preserved
statements-loop-stmt-preserved t c = (
  block_on c.args.walk c.args.targets.now c.args.list.now _ c.loop-stmt.stmt-index
      (done_seen c.loop-stmt.done c.loop-stmt.scope c.loop-stmt.progress) c.stmt-item.result
      (done_seen c.in_ok-more.more c.statement.new.scope c.statement.new.progress) (done_seen c.follow.new.done c.statement.new.scope c.statement.new.progress)
      (omega arith) c.stmt-item.is c.loop-stmt.invariant.0 c.in_ok-more.ensures.ok
      (c.in_ok-follow.ensures (scope_seen c.statement.new.scope) (progress_seen c.statement.new.progress)),
  extends_further (scope_seen c.args.scope.now) (scope_seen c.loop-stmt.scope) (scope_seen c.statement.new.scope) c.loop-stmt.invariant.1 c.in_ok-more.ensures.extends,
)

pub statements-returns-clause-ok : goal.statements-returns-clause-ok
statements-returns-clause-ok t c =
    block_end c.args.walk c.args.targets.now c.args.list.now _ c.loop-stmt.stmt-index (done_seen c.loop-stmt.done c.loop-stmt.scope c.loop-stmt.progress)
    (omega arith) c.loop-stmt.invariant.0

pub statements-returns-in_err-follow-clause-err : goal.statements-returns-in_err-follow-clause-err
statements-returns-in_err-follow-clause-err t c =
    let p = err_from_is_err_and c.from_residual-in_err-follow.result c.from_residual-in_err-follow.ensures.1 in rw (p.1, p.2) wants_memory

pub statements-returns-clause-extends : goal.statements-returns-clause-extends
statements-returns-clause-extends t c = c.loop-stmt.invariant.1

-- the groups of a `switch`
pub switch_groups-loop-group-init : goal.switch_groups-loop-group-init
switch_groups-loop-group-init t c = (
  groups_begin c.args.walk c.args.targets.now (option_map (λ (n : ClassId). n.0) c.args.of_enum) c.args.list.now
      (groups_in c.no_groups-written.result (progress_seen c.args.progress.now)) (scope_seen c.args.scope.now)
      (ap (map group_seen) c.no_groups-written.ensures.groups) c.no_groups-written.ensures.numbers,
  extends_itself (scope_seen c.args.scope.now),
)

pub switch_groups-returns-in_err-next-clause-err : goal.switch_groups-returns-in_err-next-clause-err
switch_groups-returns-in_err-next-clause-err t c =
    let p = err_from_is_err_and c.from_residual.result c.from_residual.ensures.1 in
    rw (p.1, p.2) (groups_fail c.args.walk c.args.targets.now (option_map (λ (n : ClassId). n.0) c.args.of_enum) c.args.list.now _ c.loop-group.group-index
    (groups_in c.loop-group.written (progress_seen c.loop-group.progress)) (scope_seen c.loop-group.scope) c.group-item.result _
    (omega arith) c.group-item.is c.loop-group.invariant.0 c.in_err-next.ensures.err)

pub switch_groups-loop-group-preserved : goal.switch_groups-loop-group-preserved
switch_groups-loop-group-preserved t c = (
  groups_on c.args.walk c.args.targets.now (option_map (λ (n : ClassId). n.0) c.args.of_enum) c.args.list.now _ c.loop-group.group-index
      (groups_in c.loop-group.written (progress_seen c.loop-group.progress)) (scope_seen c.loop-group.scope) c.group-item.result
      (groups_in c.add_group.new.written (progress_seen c.switch_group.new.progress))
      (group_done c.in_ok-next.next (scope_seen c.switch_group.new.scope) (progress_seen c.switch_group.new.progress)) (scope_seen c.switch_group.new.scope)
      (omega arith) c.group-item.is c.loop-group.invariant.0 c.in_ok-next.ensures.ok
      (λ i. record {
        groups = (ap (map group_seen) c.in_ok-add_group.ensures.groups ∙ map-append group_seen c.loop-group.written.groups.items (c.in_ok-next.next.group ∷ [])) i;
        numbers = c.in_ok-add_group.ensures.numbers i;
        progress = progress_seen c.switch_group.new.progress;
      }) refl,
  extends_further (scope_seen c.args.scope.now) (scope_seen c.loop-group.scope) (scope_seen c.switch_group.new.scope) c.loop-group.invariant.1 c.in_ok-next.ensures.extends,
)

pub switch_groups-returns-clause-ok : goal.switch_groups-returns-clause-ok
switch_groups-returns-clause-ok t c =
    groups_end c.args.walk c.args.targets.now (option_map (λ (n : ClassId). n.0) c.args.of_enum) c.args.list.now _ c.loop-group.group-index
    (groups_in c.loop-group.written (progress_seen c.loop-group.progress)) (scope_seen c.loop-group.scope) (omega arith) c.loop-group.invariant.0

pub switch_groups-returns-in_err-add_group-clause-err : goal.switch_groups-returns-in_err-add_group-clause-err
switch_groups-returns-in_err-add_group-clause-err t c =
    let p = err_from_is_err_and c.from_residual-in_err-add_group.result c.from_residual-in_err-add_group.ensures.1 in rw (p.1, p.2) wants_memory

pub switch_groups-returns-clause-extends : goal.switch_groups-returns-clause-extends
switch_groups-returns-clause-extends t c = c.loop-group.invariant.1

-- the catches of a `try`
pub catch_blocks-loop-catch-init : goal.catch_blocks-loop-catch-init
catch_blocks-loop-catch-init t c = (
  catches_begin c.args.walk c.args.targets.now (scope_seen c.args.scope.now) c.args.list.now c.new-written.result.items (progress_seen c.args.progress.now)
      c.new-written.ensures.items,
  refl,
)

pub catch_blocks-returns-in_err-clause-clause-err : goal.catch_blocks-returns-in_err-clause-clause-err
catch_blocks-returns-in_err-clause-clause-err t c =
    let p = err_from_is_err_and c.from_residual.result c.from_residual.ensures.1 in
    rw (p.1, p.2) (catches_fail c.args.walk c.args.targets.now (scope_seen c.args.scope.now) c.args.list.now _ c.loop-catch.catch-index
    c.loop-catch.written.items (progress_seen c.loop-catch.progress) c.catch-item.result _ (scope_seen c.loop-catch.scope) c.loop-catch.invariant.1
    (omega arith) c.catch-item.is c.loop-catch.invariant.0 c.in_err-clause.ensures.err)

pub catch_blocks-returns-in_err-push-clause-err : goal.catch_blocks-returns-in_err-push-clause-err
catch_blocks-returns-in_err-push-clause-err t c =
    let p = err_from_is_err_and c.from_residual-in_err-push.result c.from_residual-in_err-push.ensures.1 in rw (p.1, p.2) wants_memory

pub catch_blocks-loop-catch-preserved : goal.catch_blocks-loop-catch-preserved
catch_blocks-loop-catch-preserved t c = (
  catches_on c.args.walk c.args.targets.now (scope_seen c.args.scope.now) c.args.list.now _ c.loop-catch.catch-index
      c.loop-catch.written.items (progress_seen c.loop-catch.progress) c.catch-item.result c.push.new.self.items c.in_ok-clause.clause
      (progress_seen c.catch_block.new.progress) (scope_seen c.loop-catch.scope) c.loop-catch.invariant.1 (omega arith) c.catch-item.is c.loop-catch.invariant.0
      c.in_ok-clause.ensures.ok c.in_ok-push.ensures.items,
  c.in_ok-clause.ensures.stays ∙ c.loop-catch.invariant.1,
)

pub catch_blocks-returns-clause-stays : goal.catch_blocks-returns-clause-stays
catch_blocks-returns-clause-stays t c = c.loop-catch.invariant.1

pub catch_blocks-returns-clause-ok : goal.catch_blocks-returns-clause-ok
catch_blocks-returns-clause-ok t c =
    catches_end c.args.walk c.args.targets.now (scope_seen c.args.scope.now) c.args.list.now _ c.loop-catch.catch-index
    c.loop-catch.written.items (progress_seen c.loop-catch.progress) (omega arith) c.loop-catch.invariant.0

-- a statement, by its form
pub statement_here-returns-in-Empty-clause-ok : goal.statement_here-returns-in-Empty-clause-ok
statement_here-returns-in-Empty-clause-ok t c =
    rw c.in-Empty.is (rw (node.outs-Empty c.in-Empty.span)
    (empty_stands c.args.walk c.args.targets.now c.args.label (scope_seen c.args.scope.now) (progress_seen c.args.progress.now) c.in-Empty.span
    c.empty_statement.result c.empty_statement.ensures.ok))

pub statement_here-returns-in-Block-clause-ok : goal.statement_here-returns-in-Block-clause-ok
statement_here-returns-in-Block-clause-ok t c =
    rw c.in-Block.is (rw (node.outs-Block c.in-Block.block) c.inner_block.ensures.ok)

pub statement_here-returns-in-Block-clause-err : goal.statement_here-returns-in-Block-clause-err
statement_here-returns-in-Block-clause-err t c =
    rw c.in-Block.is (rw (node.outs-Block c.in-Block.block) c.inner_block.ensures.err)

pub statement_here-returns-in-Block-clause-extends : goal.statement_here-returns-in-Block-clause-extends
statement_here-returns-in-Block-clause-extends t c = on_ok_weaker c.inner_block.result (stays_extends (scope_seen c.args.scope.now) (scope_seen c.inner_block.new.scope)) c.inner_block.ensures.stays

pub statement_here-returns-in-Labelled-clause-ok : goal.statement_here-returns-in-Labelled-clause-ok
statement_here-returns-in-Labelled-clause-ok t c =
    rw c.in-Labelled.is (rw (node.outs-Labelled c.in-Labelled.label c.in-Labelled.body c.in-Labelled.span) (rw c.deref-in-Labelled.ensures at c.labelled.ensures.ok))

pub statement_here-returns-in-Labelled-clause-err : goal.statement_here-returns-in-Labelled-clause-err
statement_here-returns-in-Labelled-clause-err t c =
    rw c.in-Labelled.is (rw (node.outs-Labelled c.in-Labelled.label c.in-Labelled.body c.in-Labelled.span) (rw c.deref-in-Labelled.ensures at c.labelled.ensures.err))

pub statement_here-returns-in-Labelled-clause-extends : goal.statement_here-returns-in-Labelled-clause-extends
statement_here-returns-in-Labelled-clause-extends t c = on_ok_weaker c.labelled.result (stays_extends (scope_seen c.args.scope.now) (scope_seen c.labelled.new.scope)) c.labelled.ensures.stays

pub statement_here-returns-in-If-clause-ok : goal.statement_here-returns-in-If-clause-ok
statement_here-returns-in-If-clause-ok t c =
    rw c.in-If.is (rw (node.outs-If c.in-If.first c.in-If.condition c.in-If.yes c.in-If.span) (rw c.deref-in-If.ensures at c.if_only.ensures.ok))

pub statement_here-returns-in-If-clause-err : goal.statement_here-returns-in-If-clause-err
statement_here-returns-in-If-clause-err t c =
    rw c.in-If.is (rw (node.outs-If c.in-If.first c.in-If.condition c.in-If.yes c.in-If.span) (rw c.deref-in-If.ensures at c.if_only.ensures.err))

pub statement_here-returns-in-If-clause-extends : goal.statement_here-returns-in-If-clause-extends
statement_here-returns-in-If-clause-extends t c = on_ok_weaker c.if_only.result (stays_extends (scope_seen c.args.scope.now) (scope_seen c.if_only.new.scope)) c.if_only.ensures.stays

pub statement_here-returns-in-IfElse-clause-ok : goal.statement_here-returns-in-IfElse-clause-ok
statement_here-returns-in-IfElse-clause-ok t c =
    rw c.in-IfElse.is (rw (node.outs-IfElse c.in-IfElse.first c.in-IfElse.condition c.in-IfElse.yes c.in-IfElse.no c.in-IfElse.span) (rw (c.deref-in-IfElse.ensures, c.deref-in-IfElse-2.ensures) at c.if_else.ensures.ok))

pub statement_here-returns-in-IfElse-clause-err : goal.statement_here-returns-in-IfElse-clause-err
statement_here-returns-in-IfElse-clause-err t c =
    rw c.in-IfElse.is (rw (node.outs-IfElse c.in-IfElse.first c.in-IfElse.condition c.in-IfElse.yes c.in-IfElse.no c.in-IfElse.span) (rw (c.deref-in-IfElse.ensures, c.deref-in-IfElse-2.ensures) at c.if_else.ensures.err))

pub statement_here-returns-in-IfElse-clause-extends : goal.statement_here-returns-in-IfElse-clause-extends
statement_here-returns-in-IfElse-clause-extends t c = on_ok_weaker c.if_else.result (stays_extends (scope_seen c.args.scope.now) (scope_seen c.if_else.new.scope)) c.if_else.ensures.stays

pub statement_here-returns-in-While-clause-ok : goal.statement_here-returns-in-While-clause-ok
statement_here-returns-in-While-clause-ok t c =
    rw c.in-While.is (rw (node.outs-While c.in-While.first c.in-While.condition c.in-While.body c.in-While.span) (rw c.deref-in-While.ensures at c.while_loop.ensures.ok))

pub statement_here-returns-in-While-clause-err : goal.statement_here-returns-in-While-clause-err
statement_here-returns-in-While-clause-err t c =
    rw c.in-While.is (rw (node.outs-While c.in-While.first c.in-While.condition c.in-While.body c.in-While.span) (rw c.deref-in-While.ensures at c.while_loop.ensures.err))

pub statement_here-returns-in-While-clause-extends : goal.statement_here-returns-in-While-clause-extends
statement_here-returns-in-While-clause-extends t c = on_ok_weaker c.while_loop.result (stays_extends (scope_seen c.args.scope.now) (scope_seen c.while_loop.new.scope)) c.while_loop.ensures.stays

pub statement_here-returns-in-Do-clause-ok : goal.statement_here-returns-in-Do-clause-ok
statement_here-returns-in-Do-clause-ok t c =
    rw c.in-Do.is (rw (node.outs-Do c.in-Do.first c.in-Do.body c.in-Do.condition c.in-Do.span) (rw c.deref-in-Do.ensures at c.do_while.ensures.ok))

pub statement_here-returns-in-Do-clause-err : goal.statement_here-returns-in-Do-clause-err
statement_here-returns-in-Do-clause-err t c =
    rw c.in-Do.is (rw (node.outs-Do c.in-Do.first c.in-Do.body c.in-Do.condition c.in-Do.span) (rw c.deref-in-Do.ensures at c.do_while.ensures.err))

pub statement_here-returns-in-Do-clause-extends : goal.statement_here-returns-in-Do-clause-extends
statement_here-returns-in-Do-clause-extends t c = on_ok_weaker c.do_while.result (stays_extends (scope_seen c.args.scope.now) (scope_seen c.do_while.new.scope)) c.do_while.ensures.stays

pub statement_here-returns-in-For-clause-ok : goal.statement_here-returns-in-For-clause-ok
statement_here-returns-in-For-clause-ok t c =
    rw c.in-For.is (rw (node.outs-For c.in-For.first c.in-For.init c.in-For.condition c.in-For.steps c.in-For.body c.in-For.span) (rw (c.deref-in-For.ensures.value, c.deref-in-For-2.ensures) at c.for_loop.ensures.ok))

pub statement_here-returns-in-For-clause-err : goal.statement_here-returns-in-For-clause-err
statement_here-returns-in-For-clause-err t c =
    rw c.in-For.is (rw (node.outs-For c.in-For.first c.in-For.init c.in-For.condition c.in-For.steps c.in-For.body c.in-For.span) (rw (c.deref-in-For.ensures.value, c.deref-in-For-2.ensures) at c.for_loop.ensures.err))

pub statement_here-returns-in-For-clause-extends : goal.statement_here-returns-in-For-clause-extends
statement_here-returns-in-For-clause-extends t c = on_ok_weaker c.for_loop.result (stays_extends (scope_seen c.args.scope.now) (scope_seen c.for_loop.new.scope)) c.for_loop.ensures.stays

pub statement_here-returns-in-ForEach-clause-ok : goal.statement_here-returns-in-ForEach-clause-ok
statement_here-returns-in-ForEach-clause-ok t c =
    rw c.in-ForEach.is (rw (node.outs-ForEach c.in-ForEach.first c.in-ForEach.is_final c.in-ForEach.ty c.in-ForEach.name c.in-ForEach.array c.in-ForEach.body c.in-ForEach.span) (rw c.deref-in-ForEach.ensures at c.for_each.ensures.ok))

pub statement_here-returns-in-ForEach-clause-err : goal.statement_here-returns-in-ForEach-clause-err
statement_here-returns-in-ForEach-clause-err t c =
    rw c.in-ForEach.is (rw (node.outs-ForEach c.in-ForEach.first c.in-ForEach.is_final c.in-ForEach.ty c.in-ForEach.name c.in-ForEach.array c.in-ForEach.body c.in-ForEach.span) (rw c.deref-in-ForEach.ensures at c.for_each.ensures.err))

pub statement_here-returns-in-ForEach-clause-extends : goal.statement_here-returns-in-ForEach-clause-extends
statement_here-returns-in-ForEach-clause-extends t c = on_ok_weaker c.for_each.result (stays_extends (scope_seen c.args.scope.now) (scope_seen c.for_each.new.scope)) c.for_each.ensures.stays

pub statement_here-returns-in-Switch-clause-ok : goal.statement_here-returns-in-Switch-clause-ok
statement_here-returns-in-Switch-clause-ok t c =
    rw c.in-Switch.is (rw (node.outs-Switch c.in-Switch.first c.in-Switch.selector c.in-Switch.groups c.in-Switch.span) (rw c.deref-in-Switch.ensures.value at c.switch.ensures.ok))

pub statement_here-returns-in-Switch-clause-err : goal.statement_here-returns-in-Switch-clause-err
statement_here-returns-in-Switch-clause-err t c =
    rw c.in-Switch.is (rw (node.outs-Switch c.in-Switch.first c.in-Switch.selector c.in-Switch.groups c.in-Switch.span) (rw c.deref-in-Switch.ensures.value at c.switch.ensures.err))

pub statement_here-returns-in-Switch-clause-extends : goal.statement_here-returns-in-Switch-clause-extends
statement_here-returns-in-Switch-clause-extends t c = on_ok_weaker c.switch.result (stays_extends (scope_seen c.args.scope.now) (scope_seen c.switch.new.scope)) c.switch.ensures.stays

pub statement_here-returns-in-Try-clause-ok : goal.statement_here-returns-in-Try-clause-ok
statement_here-returns-in-Try-clause-ok t c =
    rw c.in-Try.is (rw (node.outs-Try c.in-Try.first c.in-Try.block c.in-Try.catches c.in-Try.span) (rw c.deref-in-Try.ensures.value at c.try_only.ensures.ok))

pub statement_here-returns-in-Try-clause-err : goal.statement_here-returns-in-Try-clause-err
statement_here-returns-in-Try-clause-err t c =
    rw c.in-Try.is (rw (node.outs-Try c.in-Try.first c.in-Try.block c.in-Try.catches c.in-Try.span) (rw c.deref-in-Try.ensures.value at c.try_only.ensures.err))

pub statement_here-returns-in-Try-clause-extends : goal.statement_here-returns-in-Try-clause-extends
statement_here-returns-in-Try-clause-extends t c = on_ok_weaker c.try_only.result (stays_extends (scope_seen c.args.scope.now) (scope_seen c.try_only.new.scope)) c.try_only.ensures.stays

pub statement_here-returns-in-TryFinally-clause-ok : goal.statement_here-returns-in-TryFinally-clause-ok
statement_here-returns-in-TryFinally-clause-ok t c =
    rw c.in-TryFinally.is (rw (node.outs-TryFinally c.in-TryFinally.first c.in-TryFinally.block c.in-TryFinally.catches c.in-TryFinally.word c.in-TryFinally.last c.in-TryFinally.span) (rw c.deref-in-TryFinally.ensures.value at c.try_finally.ensures.ok))

pub statement_here-returns-in-TryFinally-clause-err : goal.statement_here-returns-in-TryFinally-clause-err
statement_here-returns-in-TryFinally-clause-err t c =
    rw c.in-TryFinally.is (rw (node.outs-TryFinally c.in-TryFinally.first c.in-TryFinally.block c.in-TryFinally.catches c.in-TryFinally.word c.in-TryFinally.last c.in-TryFinally.span) (rw c.deref-in-TryFinally.ensures.value at c.try_finally.ensures.err))

pub statement_here-returns-in-TryFinally-clause-extends : goal.statement_here-returns-in-TryFinally-clause-extends
statement_here-returns-in-TryFinally-clause-extends t c = on_ok_weaker c.try_finally.result (stays_extends (scope_seen c.args.scope.now) (scope_seen c.try_finally.new.scope)) c.try_finally.ensures.stays

pub statement_here-switch-requires : goal.statement_here-switch-requires
statement_here-switch-requires t c =
    let size = ap size-Stmt c.in-Switch.is ∙ sized-Switch c.in-Switch.first c.in-Switch.selector c.in-Switch.groups c.in-Switch.span in (rw c.deref-in-Switch.ensures.value (omega (arith, size, c.decreases)), c.requires)

pub statement_here-try_only-requires : goal.statement_here-try_only-requires
statement_here-try_only-requires t c =
    let size = ap size-Stmt c.in-Try.is ∙ sized-Try c.in-Try.first c.in-Try.block c.in-Try.catches c.in-Try.span in (rw c.deref-in-Try.ensures.value (omega (arith, size, c.decreases)), c.requires)

pub statement_here-try_finally-requires : goal.statement_here-try_finally-requires
statement_here-try_finally-requires t c =
    let size = ap size-Stmt c.in-TryFinally.is ∙ sized-TryFinally c.in-TryFinally.first c.in-TryFinally.block c.in-TryFinally.catches c.in-TryFinally.word c.in-TryFinally.last c.in-TryFinally.span in (rw c.deref-in-TryFinally.ensures.value (omega (arith, size, c.decreases)), c.requires)

pub try_finally-statements-requires-2 : goal.try_finally-statements-requires-2
try_finally-statements-requires-2 t c =
    (rw c.deref-2.ensures.value (omega (arith, size_is-Block c.args.last.now, c.decreases)), c.requires)

-- where a part is at fault
pub labelled-returns-in_err-done-clause-err : goal.labelled-returns-in_err-done-clause-err
labelled-returns-in_err-done-clause-err t c =
    let p = err_from_is_err_and c.from_residual-in_err-done.result c.from_residual-in_err-done.ensures.1 in
    rw (p.1, p.2) (labelled_fails c.args.walk c.args.targets.now None (scope_seen c.args.scope.now) (progress_seen c.args.progress.now) _ c.args.label (statement_view c.args.body.now)
    (with_labels (map label_shown c.deref.result.now) c.targets.inside.has_break c.targets.inside.has_continue)
    (inside_label c.args.label (statement_view c.args.body.now) c.args.targets.now (map label_shown c.deref.result.now) (map label_shown c.targets.inside.labels.now)
    c.targets.inside.has_break c.targets.inside.has_continue c.is_loop.result c.targets.view_is
    (ap (map label_shown) c.deref.ensures.value ∙ c.in_ok-labels.ensures) c.is_loop.ensures)
    c.in_err-done.ensures.err)

pub labelled-returns-in_err-code-clause-err : goal.labelled-returns-in_err-code-clause-err
labelled-returns-in_err-code-clause-err t c =
    let p = err_from_is_err_and c.from_residual-in_err-code.result c.from_residual-in_err-code.ensures.1 in
    rw (p.1, p.2) (label_fails c.args.walk c.args.targets.now None (scope_seen c.args.scope.now) (progress_seen c.args.progress.now) _ c.args.label (statement_view c.args.body.now)
    (with_labels (map label_shown c.deref.result.now) c.targets.inside.has_break c.targets.inside.has_continue)
    (inside_label c.args.label (statement_view c.args.body.now) c.args.targets.now (map label_shown c.deref.result.now) (map label_shown c.targets.inside.labels.now)
    c.targets.inside.has_break c.targets.inside.has_continue c.is_loop.result c.targets.view_is
    (ap (map label_shown) c.deref.ensures.value ∙ c.in_ok-labels.ensures) c.is_loop.ensures)
    (done_seen c.in_ok-done.done c.statement.new.scope c.statement.new.progress) (stmt_view c.alone.result) c.in_ok-done.ensures.ok
    (c.alone.ensures (scope_seen c.statement.new.scope) (progress_seen c.statement.new.progress)) c.in_err-code.ensures.err)

pub if_only-returns-in_err-chosen-clause-err : goal.if_only-returns-in_err-chosen-clause-err
if_only-returns-in_err-chosen-clause-err t c =
    let p = err_from_is_err_and c.from_residual-in_err-chosen.result c.from_residual-in_err-chosen.ensures.1 in
    rw (p.1, p.2) (if_fails c.args.walk c.args.targets.now None (scope_seen c.args.scope.now) (progress_seen c.args.progress.now) _ c.args.word (view c.args.condition.now) (seen c.in_ok-asked.asked) (progress_seen c.valued.new.progress)
    c.in_ok-asked.ensures.ok c.in_ok-asked.ensures.met (statement_view c.args.yes.now) c.in_err-chosen.ensures.err)

pub if_only-returns-in_err-code-clause-err : goal.if_only-returns-in_err-code-clause-err
if_only-returns-in_err-code-clause-err t c =
    let p = err_from_is_err_and c.from_residual-in_err-code.result c.from_residual-in_err-code.ensures.1 in
    rw (p.1, p.2) (if_code_fails c.args.walk c.args.targets.now None (scope_seen c.args.scope.now) (progress_seen c.args.progress.now) _ c.args.word (view c.args.condition.now) (seen c.in_ok-asked.asked) (progress_seen c.valued.new.progress)
    c.in_ok-asked.ensures.ok c.in_ok-asked.ensures.met (statement_view c.args.yes.now)
    c.span.result (done_seen c.in_ok-chosen.chosen c.statement.new.scope c.statement.new.progress) c.span.ensures (stmt_view c.alone-yes.result) c.in_ok-chosen.ensures.ok
    (c.alone-yes.ensures (scope_seen c.statement.new.scope) (progress_seen c.statement.new.progress)) c.in_err-code.ensures.err)

pub if_else-returns-in_err-chosen-clause-err : goal.if_else-returns-in_err-chosen-clause-err
if_else-returns-in_err-chosen-clause-err t c =
    let p = err_from_is_err_and c.from_residual-in_err-chosen.result c.from_residual-in_err-chosen.ensures.1 in
    rw (p.1, p.2) (first_branch_fails c.args.walk c.args.targets.now None (scope_seen c.args.scope.now) (progress_seen c.args.progress.now) _ c.args.word (view c.args.condition.now) (seen c.in_ok-asked.asked) (progress_seen c.valued.new.progress)
    c.in_ok-asked.ensures.ok c.in_ok-asked.ensures.met (statement_view c.args.yes.now) (statement_view c.args.no.now) c.in_err-chosen.ensures.err)

pub if_else-returns-in_err-other-clause-err : goal.if_else-returns-in_err-other-clause-err
if_else-returns-in_err-other-clause-err t c =
    let p = err_from_is_err_and c.from_residual-in_err-other.result c.from_residual-in_err-other.ensures.1 in
    rw (p.1, p.2) (second_branch_fails c.args.walk c.args.targets.now None (scope_seen c.args.scope.now) (progress_seen c.args.progress.now) _ c.args.word (view c.args.condition.now) (seen c.in_ok-asked.asked) (progress_seen c.valued.new.progress)
    c.in_ok-asked.ensures.ok c.in_ok-asked.ensures.met (statement_view c.args.yes.now) (statement_view c.args.no.now)
    (done_seen c.in_ok-chosen.chosen c.statement.new.scope c.statement.new.progress) (scope_seen c.leave.new.self) c.in_ok-chosen.ensures.ok (c.leave.ensures (scope_seen c.args.scope.now) c.in_ok-chosen.ensures.extends c.depth-depth.ensures)
    c.in_err-other.ensures.err)

pub if_else-returns-in_err-code-clause-err : goal.if_else-returns-in_err-code-clause-err
if_else-returns-in_err-code-clause-err t c =
    let p = err_from_is_err_and c.from_residual-in_err-code.result c.from_residual-in_err-code.ensures.1 in
    rw (p.1, p.2) (if_else_code_fails c.args.walk c.args.targets.now None (scope_seen c.args.scope.now) (progress_seen c.args.progress.now) _ c.args.word (view c.args.condition.now) (seen c.in_ok-asked.asked) (progress_seen c.valued.new.progress)
    c.in_ok-asked.ensures.ok c.in_ok-asked.ensures.met (statement_view c.args.yes.now) (statement_view c.args.no.now)
    (done_seen c.in_ok-chosen.chosen c.statement.new.scope c.statement.new.progress) (scope_seen c.leave.new.self) c.in_ok-chosen.ensures.ok (c.leave.ensures (scope_seen c.args.scope.now) c.in_ok-chosen.ensures.extends c.depth-depth.ensures)
    c.span.result (done_seen c.in_ok-other.other c.statement-2.new.scope c.statement-2.new.progress) (stmt_view c.alone-yes.result) (stmt_view c.alone-no.result) c.span.ensures c.in_ok-other.ensures.ok
    (c.alone-yes.ensures (scope_seen c.statement.new.scope) (progress_seen c.statement.new.progress))
    (c.alone-no.ensures (scope_seen c.statement-2.new.scope) (progress_seen c.statement-2.new.progress)) c.in_err-code.ensures.err)

pub while_loop-returns-in_err-done-clause-err : goal.while_loop-returns-in_err-done-clause-err
while_loop-returns-in_err-done-clause-err t c =
    let p = err_from_is_err_and c.from_residual-in_err-done.result c.from_residual-in_err-done.ensures.1 in
    rw (p.1, p.2) (while_fails c.args.walk c.args.targets.now None (scope_seen c.args.scope.now) (progress_seen c.args.progress.now) _ c.args.word (view c.args.condition.now) (seen c.in_ok-asked.asked) (progress_seen c.valued.new.progress)
    c.in_ok-asked.ensures.ok c.in_ok-asked.ensures.met (statement_view c.args.body.now) c.in_loop.result c.in_loop.ensures c.in_err-done.ensures.err)

pub while_loop-returns-in_err-code-clause-err : goal.while_loop-returns-in_err-code-clause-err
while_loop-returns-in_err-code-clause-err t c =
    let p = err_from_is_err_and c.from_residual-in_err-code.result c.from_residual-in_err-code.ensures.1 in
    rw (p.1, p.2) (while_code_fails c.args.walk c.args.targets.now None (scope_seen c.args.scope.now) (progress_seen c.args.progress.now) _ c.args.word (view c.args.condition.now) (seen c.in_ok-asked.asked) (progress_seen c.valued.new.progress)
    c.in_ok-asked.ensures.ok c.in_ok-asked.ensures.met (statement_view c.args.body.now)
    c.span.result (done_seen c.in_ok-done.done c.statement.new.scope c.statement.new.progress) c.span.ensures c.in_loop.result (views c.new-steps.result.items) (stmt_view c.alone.result) c.in_loop.ensures
    c.in_ok-done.ensures.ok (ap views c.new-steps.ensures.items) (c.alone.ensures (scope_seen c.statement.new.scope) (progress_seen c.statement.new.progress))
    c.in_err-code.ensures.err)

pub do_while-returns-in_err-done-clause-err : goal.do_while-returns-in_err-done-clause-err
do_while-returns-in_err-done-clause-err t c =
    let p = err_from_is_err_and c.from_residual.result c.from_residual.ensures.1 in
    rw (p.1, p.2) (bind_faults (statement_by c.args.walk (in_loop c.args.targets.now) None (scope_seen c.args.scope.now) (progress_seen c.args.progress.now) (statement_view c.args.body.now)) _ _
    (rw c.in_loop.ensures at c.in_err-done.ensures.err))

pub do_while-returns-in_err-asked-clause-err : goal.do_while-returns-in_err-asked-clause-err
do_while-returns-in_err-asked-clause-err t c =
    let p = err_from_is_err_and c.from_residual-in_err-asked.result c.from_residual-in_err-asked.ensures.1 in
    rw (p.1, p.2) (do_while_fails c.args.walk c.args.targets.now None (scope_seen c.args.scope.now) (progress_seen c.args.progress.now) _ c.args.word (statement_view c.args.body.now) (view c.args.condition.now) c.in_loop.result (done_seen c.in_ok-done.done c.statement.new.scope c.statement.new.progress)
    (scope_seen c.leave.new.self) c.in_loop.ensures c.in_ok-done.ensures.ok (c.leave.ensures (scope_seen c.args.scope.now) c.in_ok-done.ensures.extends c.depth-depth.ensures)
    c.in_err-asked.ensures.err)

pub do_while-returns-in_err-code-clause-err : goal.do_while-returns-in_err-code-clause-err
do_while-returns-in_err-code-clause-err t c =
    let p = err_from_is_err_and c.from_residual-in_err-code.result c.from_residual-in_err-code.ensures.1 in
    rw (p.1, p.2) (do_while_code_fails c.args.walk c.args.targets.now None (scope_seen c.args.scope.now) (progress_seen c.args.progress.now) _ c.args.word (statement_view c.args.body.now) (view c.args.condition.now) c.in_loop.result (done_seen c.in_ok-done.done c.statement.new.scope c.statement.new.progress)
    (scope_seen c.leave.new.self) c.in_loop.ensures c.in_ok-done.ensures.ok (c.leave.ensures (scope_seen c.args.scope.now) c.in_ok-done.ensures.extends c.depth-depth.ensures)
    c.span.result (seen c.in_ok-asked.asked) (stmt_view c.alone.result) c.in_ok-asked.ensures.ok c.span.ensures
    (c.alone.ensures (scope_seen c.statement.new.scope) (progress_seen c.statement.new.progress)) c.in_err-code.ensures.err)

pub for_loop-returns-in_err-asked-clause-err : goal.for_loop-returns-in_err-asked-clause-err
for_loop-returns-in_err-asked-clause-err t c =
    let p = err_from_is_err_and c.from_residual-in_err-asked.result c.from_residual-in_err-asked.ensures.1 in
    rw (p.1, p.2) (for_condition_fails c.args.walk c.args.targets.now c.args.label (scope_seen c.args.scope.now) (progress_seen c.args.progress.now) _ c.args.head.word (for_initializer_view c.args.head.init.now) (view_of_option c.args.head.condition.now)
    (views_of c.args.head.steps.now) (statement_view c.args.body.now) (done_seen c.in_ok-first.first c.for_start.new.scope c.for_start.new.progress) c.in_ok-first.ensures.ok
    c.in_err-asked.ensures.err)

pub for_loop-returns-in_err-further-clause-err : goal.for_loop-returns-in_err-further-clause-err
for_loop-returns-in_err-further-clause-err t c =
    let p = err_from_is_err_and c.from_residual-in_err-further.result c.from_residual-in_err-further.ensures.1 in
    rw (p.1, p.2) (for_steps_fail c.args.walk c.args.targets.now c.args.label (scope_seen c.args.scope.now) (progress_seen c.args.progress.now) _ c.args.head.word (for_initializer_view c.args.head.init.now) (view_of_option c.args.head.condition.now)
    (views_of c.args.head.steps.now) (statement_view c.args.body.now) (done_seen c.in_ok-first.first c.for_start.new.scope c.for_start.new.progress) c.in_ok-first.ensures.ok
    (seen c.in_ok-asked.asked) (progress_seen c.condition_or.new.progress) c.in_ok-asked.ensures.ok c.in_ok-asked.ensures.met c.in_err-further.ensures.err)

pub for_loop-returns-in_err-done-clause-err : goal.for_loop-returns-in_err-done-clause-err
for_loop-returns-in_err-done-clause-err t c =
    let p = err_from_is_err_and c.from_residual-in_err-done.result c.from_residual-in_err-done.ensures.1 in
    rw (p.1, p.2) (for_fails c.args.walk c.args.targets.now c.args.label (scope_seen c.args.scope.now) (progress_seen c.args.progress.now) _ c.args.head.word (for_initializer_view c.args.head.init.now) (view_of_option c.args.head.condition.now)
    (views_of c.args.head.steps.now) (statement_view c.args.body.now) (done_seen c.in_ok-first.first c.for_start.new.scope c.for_start.new.progress) c.in_ok-first.ensures.ok
    (seen c.in_ok-asked.asked) (progress_seen c.condition_or.new.progress) c.in_ok-asked.ensures.ok c.in_ok-asked.ensures.met
    (record { items = views c.in_ok-further.further.items; progress = progress_seen c.steps.new.progress }) c.in_loop.result c.in_ok-further.ensures.ok
    c.in_loop.ensures c.in_err-done.ensures.err)

pub for_loop-returns-in_err-turn-clause-err : goal.for_loop-returns-in_err-turn-clause-err
for_loop-returns-in_err-turn-clause-err t c =
    let p = err_from_is_err_and c.from_residual-in_err-turn.result c.from_residual-in_err-turn.ensures.1 in
    rw (p.1, p.2) (for_code_fails c.args.walk c.args.targets.now c.args.label (scope_seen c.args.scope.now) (progress_seen c.args.progress.now) _ c.args.head.word (for_initializer_view c.args.head.init.now) (view_of_option c.args.head.condition.now)
    (views_of c.args.head.steps.now) (statement_view c.args.body.now) (done_seen c.in_ok-first.first c.for_start.new.scope c.for_start.new.progress) c.in_ok-first.ensures.ok
    (seen c.in_ok-asked.asked) (progress_seen c.condition_or.new.progress) c.in_ok-asked.ensures.ok c.in_ok-asked.ensures.met
    (record { items = views c.in_ok-further.further.items; progress = progress_seen c.steps.new.progress }) c.in_loop.result c.in_ok-further.ensures.ok
    c.in_loop.ensures (done_seen c.in_ok-done.done c.statement.new.scope c.statement.new.progress) c.condition_span-at.result (stmt_view c.alone.result) c.in_ok-done.ensures.ok
    (c.condition_span-at.ensures (program_of c.args.walk) (known_of c.args.walk) (returning_of c.args.walk))
    (c.alone.ensures (scope_seen c.statement.new.scope) (progress_seen c.statement.new.progress)) c.in_err-turn.ensures.err)

pub for_each-returns-in_err-array-clause-err : goal.for_each-returns-in_err-array-clause-err
for_each-returns-in_err-array-clause-err t c =
    let p = err_from_is_err_and c.from_residual-in_err-array.result c.from_residual-in_err-array.ensures.1 in
    rw (p.1, p.2) (array_fails c.args.walk c.args.targets.now c.args.label (scope_seen c.args.scope.now) (progress_seen c.args.progress.now) _ c.args.head.word c.args.head.is_final (type_view c.args.head.ty.now) c.args.head.name (view c.args.head.array.now)
    (statement_view c.args.body.now) (shown c.in_ok-ty.ty) c.in_ok-ty.ensures.ok
    c.in_err-array.ensures.err)

pub for_each-returns-in_err-done-clause-err : goal.for_each-returns-in_err-done-clause-err
for_each-returns-in_err-done-clause-err t c =
    let p = err_from_is_err_and c.from_residual-in_err-done.result c.from_residual-in_err-done.ensures.1 in
    rw (p.1, p.2) (for_each_fails c.args.walk c.args.targets.now c.args.label (scope_seen c.args.scope.now) (progress_seen c.args.progress.now) _ c.args.head.word c.args.head.is_final (type_view c.args.head.ty.now) c.args.head.name (view c.args.head.array.now)
    (statement_view c.args.body.now) (shown c.in_ok-ty.ty) c.in_ok-ty.ensures.ok
    c.in_ok-local.local (seen c.in_ok-array.array) (progress_seen c.valued.new.progress) (progress_seen c.add_element.new.progress)
    (scope_seen c.add_element.new.scope) c.in_loop.result c.in_ok-local.ensures.number c.in_ok-array.ensures.ok c.in_ok-array.ensures.met
    c.in_ok-add_element.ensures.scope c.in_ok-add_element.ensures.progress c.in_loop.ensures
    c.in_err-done.ensures.err)

pub for_each-returns-in_err-code-clause-err : goal.for_each-returns-in_err-code-clause-err
for_each-returns-in_err-code-clause-err t c =
    let p = err_from_is_err_and c.from_residual-in_err-code.result c.from_residual-in_err-code.ensures.1 in
    rw (p.1, p.2) (for_each_code_fails c.args.walk c.args.targets.now c.args.label (scope_seen c.args.scope.now) (progress_seen c.args.progress.now) _ c.args.head.word c.args.head.is_final (type_view c.args.head.ty.now) c.args.head.name (view c.args.head.array.now)
    (statement_view c.args.body.now) (shown c.in_ok-ty.ty) c.in_ok-ty.ensures.ok
    c.in_ok-local.local (seen c.in_ok-array.array) (progress_seen c.valued.new.progress) (progress_seen c.add_element.new.progress)
    (scope_seen c.add_element.new.scope) c.in_loop.result c.in_ok-local.ensures.number c.in_ok-array.ensures.ok c.in_ok-array.ensures.met
    c.in_ok-add_element.ensures.scope c.in_ok-add_element.ensures.progress c.in_loop.ensures
    (done_seen c.in_ok-done.done c.statement.new.scope c.statement.new.progress) (scope_seen c.leave.new.self) (stmt_view c.alone.result) c.in_ok-done.ensures.ok
    (c.leave.ensures (scope_seen c.args.scope.now)
    (extends_further (scope_seen c.args.scope.now) (scope_seen c.add_element.new.scope) (scope_seen c.statement.new.scope)
    (local_added (scope_seen c.args.scope.now) (scope_seen c.add_element.new.scope) c.args.head.is_final
    (local_of c.args.head.name.name (shown c.in_ok-ty.ty) c.args.head.is_final (c.in_ok-local.local + 2) None) c.in_ok-add_element.ensures.scope) c.in_ok-done.ensures.extends)
    c.depth-depth.ensures)
    (c.alone.ensures (scope_seen c.statement.new.scope) (progress_seen c.statement.new.progress)) c.in_err-code.ensures.err)

pub switch-returns-in_err-done-clause-err : goal.switch-returns-in_err-done-clause-err
switch-returns-in_err-done-clause-err t c =
    let p = err_from_is_err_and c.from_residual-in_err-done.result c.from_residual-in_err-done.ensures.1 in
    rw (p.1, p.2) (switch_fails c.args.walk c.args.targets.now None (scope_seen c.args.scope.now) (progress_seen c.args.progress.now) _ c.args.word (view c.args.selector.now) (seen c.in_ok-asked.asked) (progress_seen c.valued.new.progress)
    c.in_ok-asked.ensures.ok c.in_ok-asked.ensures.met (group_views_of c.args.groups.now) c.args.whole c.in_switch-inside.result
    (option_map (λ (n : ClassId). n.0) c.enum_of-of_enum.result) c.in_switch-inside.ensures c.enum_of-of_enum.ensures
    c.in_err-done.ensures.err)

pub switch-returns-in_err-code-clause-err : goal.switch-returns-in_err-code-clause-err
switch-returns-in_err-code-clause-err t c =
    let p = err_from_is_err_and c.from_residual-in_err-code.result c.from_residual-in_err-code.ensures.1 in
    rw (p.1, p.2) (switch_code_fails c.args.walk c.args.targets.now None (scope_seen c.args.scope.now) (progress_seen c.args.progress.now) _ c.args.word (view c.args.selector.now) (seen c.in_ok-asked.asked) (progress_seen c.valued.new.progress)
    c.in_ok-asked.ensures.ok c.in_ok-asked.ensures.met (group_views_of c.args.groups.now) c.args.whole c.in_switch-inside.result
    (option_map (λ (n : ClassId). n.0) c.enum_of-of_enum.result) c.in_switch-inside.ensures c.enum_of-of_enum.ensures
    (groups_in c.in_ok-done.done (progress_seen c.switch_groups.new.progress)) (seen c.in_ok-by.by) c.in_ok-done.ensures.ok c.in_ok-by.ensures
    (c.in_err-code.ensures.err (progress_seen c.switch_groups.new.progress)))

pub try_only-returns-in_err-written-clause-err : goal.try_only-returns-in_err-written-clause-err
try_only-returns-in_err-written-clause-err t c =
    let p = err_from_is_err_and c.from_residual-in_err-written.result c.from_residual-in_err-written.ensures.1 in
    rw (p.1, p.2) (try_fails c.args.walk c.args.targets.now None (scope_seen c.args.scope.now) (progress_seen c.args.progress.now) _ c.args.word (block_view c.args.block.now) (catch_views_of c.args.catches.now)
    (done_seen c.in_ok-done.done c.statements.new.scope c.statements.new.progress) (scope_seen c.leave.new.self)
    (rw c.deref.ensures.value at c.in_ok-done.ensures.ok)
    (c.leave.ensures (scope_seen c.args.scope.now) c.in_ok-done.ensures.extends c.depth-depth.ensures)
    c.in_err-written.ensures.err)

pub try_only-returns-in_err-caught-clause-err : goal.try_only-returns-in_err-caught-clause-err
try_only-returns-in_err-caught-clause-err t c =
    let p = err_from_is_err_and c.from_residual-in_err-caught.result c.from_residual-in_err-caught.ensures.1 in
    rw (p.1, p.2) (clauses_fail c.args.walk c.args.targets.now None (scope_seen c.args.scope.now) (progress_seen c.args.progress.now) _ c.args.word (block_view c.args.block.now) (catch_views_of c.args.catches.now)
    (done_seen c.in_ok-done.done c.statements.new.scope c.statements.new.progress) (scope_seen c.leave.new.self)
    (rw c.deref.ensures.value at c.in_ok-done.ensures.ok)
    (c.leave.ensures (scope_seen c.args.scope.now) c.in_ok-done.ensures.extends c.depth-depth.ensures)
    (record { items = map clause_seen c.in_ok-written.written.items; progress = progress_seen c.catch_blocks.new.progress })
    (scope_seen c.catch_blocks.new.scope) c.in_ok-written.ensures.ok
    (c.in_ok-written.ensures.stays ∙ c.leave.ensures (scope_seen c.args.scope.now) c.in_ok-done.ensures.extends c.depth-depth.ensures)
    c.in_err-caught.ensures.err)

pub try_finally-returns-in_err-written-clause-err : goal.try_finally-returns-in_err-written-clause-err
try_finally-returns-in_err-written-clause-err t c =
    let p = err_from_is_err_and c.from_residual-in_err-written.result c.from_residual-in_err-written.ensures.1 in
    rw (p.1, p.2) (finally_catches_fail c.args.walk c.args.targets.now None (scope_seen c.args.scope.now) (progress_seen c.args.progress.now) _ c.args.word (block_view c.args.block.now) (catch_views_of c.args.catches.now)
    (done_seen c.in_ok-done.done c.statements.new.scope c.statements.new.progress) (scope_seen c.leave.new.self)
    (rw c.deref.ensures.value at c.in_ok-done.ensures.ok)
    (c.leave.ensures (scope_seen c.args.scope.now) c.in_ok-done.ensures.extends c.depth-depth.ensures)
    c.in_err-written.ensures.err c.args.at (block_view c.args.last.now))

pub try_finally-returns-in_err-finished-clause-err : goal.try_finally-returns-in_err-finished-clause-err
try_finally-returns-in_err-finished-clause-err t c =
    let p = err_from_is_err_and c.from_residual-in_err-finished.result c.from_residual-in_err-finished.ensures.1 in
    rw (p.1, p.2) (finally_fails c.args.walk c.args.targets.now None (scope_seen c.args.scope.now) (progress_seen c.args.progress.now) _ c.args.word (block_view c.args.block.now) (catch_views_of c.args.catches.now)
    (done_seen c.in_ok-done.done c.statements.new.scope c.statements.new.progress) (scope_seen c.leave.new.self)
    (rw c.deref.ensures.value at c.in_ok-done.ensures.ok)
    (c.leave.ensures (scope_seen c.args.scope.now) c.in_ok-done.ensures.extends c.depth-depth.ensures)
    (record { items = map clause_seen c.in_ok-written.written.items; progress = progress_seen c.catch_blocks.new.progress })
    (scope_seen c.catch_blocks.new.scope) c.in_ok-written.ensures.ok
    (c.in_ok-written.ensures.stays ∙ c.leave.ensures (scope_seen c.args.scope.now) c.in_ok-done.ensures.extends c.depth-depth.ensures)
    c.args.at (block_view c.args.last.now) (rw c.deref-2.ensures.value at c.in_err-finished.ensures.err))

pub try_finally-returns-in_err-caught-clause-err : goal.try_finally-returns-in_err-caught-clause-err
try_finally-returns-in_err-caught-clause-err t c =
    let p = err_from_is_err_and c.from_residual-in_err-caught.result c.from_residual-in_err-caught.ensures.1 in
    rw (p.1, p.2) (finally_clauses_fail c.args.walk c.args.targets.now None (scope_seen c.args.scope.now) (progress_seen c.args.progress.now) _ c.args.word (block_view c.args.block.now) (catch_views_of c.args.catches.now)
    (done_seen c.in_ok-done.done c.statements.new.scope c.statements.new.progress) (scope_seen c.leave.new.self)
    (rw c.deref.ensures.value at c.in_ok-done.ensures.ok)
    (c.leave.ensures (scope_seen c.args.scope.now) c.in_ok-done.ensures.extends c.depth-depth.ensures)
    (record { items = map clause_seen c.in_ok-written.written.items; progress = progress_seen c.catch_blocks.new.progress })
    (scope_seen c.catch_blocks.new.scope) c.in_ok-written.ensures.ok
    (c.in_ok-written.ensures.stays ∙ c.leave.ensures (scope_seen c.args.scope.now) c.in_ok-done.ensures.extends c.depth-depth.ensures)
    c.args.at (block_view c.args.last.now) (done_seen c.in_ok-finished.finished c.statements-2.new.scope c.statements-2.new.progress) (scope_seen c.leave-2.new.self)
    (rw c.deref-2.ensures.value at c.in_ok-finished.ensures.ok)
    (c.leave-2.ensures (scope_seen c.catch_blocks.new.scope) c.in_ok-finished.ensures.extends c.depth-depth-2.ensures
    ∙ c.in_ok-written.ensures.stays ∙ c.leave.ensures (scope_seen c.args.scope.now) c.in_ok-done.ensures.extends c.depth-depth.ensures)
    c.in_err-caught.ensures.err)

pub switch_group-returns-in_err-done-clause-err : goal.switch_group-returns-in_err-done-clause-err
switch_group-returns-in_err-done-clause-err t c =
    let p = err_from_is_err_and c.from_residual-in_err-done.result c.from_residual-in_err-done.ensures.1 in
    rw (p.1, p.2) (group_fails c.args.walk c.args.targets.now (option_map (λ (n : ClassId). n.0) c.args.of_enum) (scope_seen c.args.scope.now) (progress_seen c.args.progress.now) (group_view c.args.group.now)
    (record { labels = map label_seen c.in_ok-labels.labels.items; progress = progress_seen c.labels.new.progress }) _
    (rw c.deref.ensures.value at c.in_ok-labels.ensures.ok) (rw c.deref-2.ensures.value at c.in_err-done.ensures.err))

pub catch_block-returns-in_err-done-clause-err : goal.catch_block-returns-in_err-done-clause-err
catch_block-returns-in_err-done-clause-err t c =
    let p = err_from_is_err_and c.from_residual-in_err-done.result c.from_residual-in_err-done.ensures.1 in
    rw (p.1, p.2) (catch_fails c.args.walk c.args.targets.now (scope_seen c.args.scope.now) (progress_seen c.args.progress.now) (catch_view c.args.catch.now)
    (shown c.in_ok-ty.ty) c.in_ok-number.number (local_seen c.in_ok-variable.variable) (scope_seen c.add_local.new.self)
    (progress_seen c.add_number.new.progress) c.in_ok-ty.ensures.ok c.in_ok-number.ensures c.in_ok-variable.ensures c.in_ok-add_local.ensures
    c.in_ok-add_number.ensures _ (rw c.deref.ensures.value at c.in_err-done.ensures.err))
