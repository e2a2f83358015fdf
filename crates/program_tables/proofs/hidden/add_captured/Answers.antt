use Rattle.std.proofs.Common.{◌++◌, map, sym, ap, ◌∙◌}
use Rattle.std.proofs.lemmas.List.{append-nil}
use Rattle.std.proofs.lemmas.Option.{slice_get_past}
use Rattle.class_typing.specs.Programs.{captured_type, hidden_field}
use Rattle.declarations.specs.View.{field_shown}
use Rattle.core_making.specs.Known.{locals_in}
use Rattle.type_faults.specs.Program.{source_in}
use Rattle.program_tables.proofs.hidden.add_captured.Goals as goal

pub returns-in-None : goal.returns-in-None
returns-in-None c =
    sym (append-nil (map field_shown c.args.fields.now.items))
    ∙ ap (λ o. map field_shown c.args.fields.now.items
    ++ map (hidden_field (source_in c.args.layout.source))
    (map (captured_type (source_in c.args.layout.source)) (locals_in o)))
    (sym (slice_get_past c.args.layout.captured.now c.args.class.0 c.in-None.ensures.lookup.3))
