use Rattle.type_statements.proofs.Adding.{class_added}
use Rattle.type_statements.proofs.local_classes.added_class.Goals as goal

pub returns-clause-extends : goal.returns-clause-extends
returns-clause-extends c = class_added _ _ _ c.in_ok-add_class.ensures.scope
