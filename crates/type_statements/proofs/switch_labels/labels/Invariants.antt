use Rattle.std.specs.Prelude.{option_map}
use Rattle.je_ast.specs.View.{label_views_of}
use Rattle.je_core.specs.declared.types.ClassId.{ClassId}
use Rattle.body_typing.specs.Switches.{labels}
use Rattle.body_scopes.specs.View.{scope_seen}
use Rattle.statement_forms.specs.Seen.{known_of, program_of, progress_seen}
use Rattle.type_statements.proofs.LabelLists.{labels_left}
use Rattle.type_statements.proofs.switch_labels.labels.Given as goal

abbrev pub invariant-loop-written : goal.invariant-loop-written
invariant-loop-written l =
    labels_left l.walk (option_map (λ (c : ClassId). c.0) l.of_enum) (scope_seen l.scope) l.list
    (labels (program_of l.walk) (known_of l.walk) (option_map (λ (c : ClassId). c.0) l.of_enum) (scope_seen l.scope) (progress_seen l.initial.progress) (label_views_of l.list))
    l.made.items (progress_seen l.progress) l.written-index
