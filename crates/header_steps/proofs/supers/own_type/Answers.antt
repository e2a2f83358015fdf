use Rattle.std.proofs.Common.{List, ap, ◌∙◌}
use Rattle.je_scopes.specs.SourceTypes.{SourceType, of_class, source_types}
use Rattle.name_types.proofs.Bases.{made_base}
use Rattle.name_types.proofs.Views.{rolled_is}
use Rattle.header_typing.specs.Supers.{variables_of}
use Rattle.header_steps.proofs.supers.own_type.Goals as goal

pub returns : goal.returns
returns c = rolled_is _ ∙ made_base c.args.class c.in_ok-arguments.arguments 0
    ∙ ap (λ (ts : List SourceType). of_class c.args.class.0 (source_types ts) 0) (c.in_ok-arguments.ensures ∙ ap (variables_of c.args.class.0) c.bound_count.ensures)
