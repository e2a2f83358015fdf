use Rattle.std.proofs.Common.{rules}
use Rattle.body_places.specs.Places.{local_seen}
use Rattle.body_scopes.specs.View.{scope_seen}
use Rattle.type_statements.proofs.LocalsAdded.{local_added}
use Rattle.type_statements.proofs.declaring.initial_value.Goals as goal

pub returns-clause-ok : goal.returns-clause-ok
returns-clause-ok c = rw c.in_ok-add_local.ensures at c.value-from.ensures.ok

pub returns-clause-stays : goal.returns-clause-stays
returns-clause-stays c =
    let added = local_added (scope_seen c.args.scope.now) (scope_seen c.add_local.new.self) c.args.variable.is_final (local_seen c.args.variable) c.in_ok-add_local.ensures in
    let stays = c.leave.ensures (scope_seen c.args.scope.now) added c.depth-depth.ensures in
    search (rules, stays)

pub returns-clause-err : goal.returns-clause-err
returns-clause-err c = rw c.in_ok-add_local.ensures at c.value-from.ensures.err
