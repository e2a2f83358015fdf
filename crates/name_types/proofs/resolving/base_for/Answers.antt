use Rattle.std.proofs.Common.{min, length, sym, ap, ◌∙◌}
use Rattle.je_core.specs.declared.types.Base.TheVariants as base
use Rattle.je_scopes.specs.SourceTypes.{type_for}
use Rattle.name_sites.specs.View.{source_of}
use Rattle.name_lookup.specs.declared.look.Look.{Look}
use Rattle.name_lookup.specs.View.{look_view}
use Rattle.name_types.specs.View.{in_limit}
use Rattle.name_types.proofs.Bases.{plain_base, variable_base}
use Rattle.name_types.proofs.resolving.base_for.Goals as goal

pub returns-in-Variable : goal.returns-in-Variable
returns-in-Variable c = λ ts n e. variable_base c.in-Variable.class c.in-Variable.at (min 255 n)
    ∙ ap (λ (k : Look). in_limit (type_for (source_of c.args.sites.now) (look_view k) (length c.args.types.items) ts n)) (sym c.in-Variable.is)

pub returns-in-Waits : goal.returns-in-Waits
returns-in-Waits c = λ ts n e. plain_base base.Null (min 255 n)
    ∙ ap (λ (k : Look). in_limit (type_for (source_of c.args.sites.now) (look_view k) (length c.args.types.items) ts n)) (sym c.in-Waits.is)

pub returns-in-Nothing : goal.returns-in-Nothing
returns-in-Nothing c = λ ts n e. plain_base base.Null (min 255 n)
    ∙ ap (λ (k : Look). in_limit (type_for (source_of c.args.sites.now) (look_view k) (length c.args.types.items) ts n)) (sym c.in-Nothing.is)

pub returns-in-Unclear : goal.returns-in-Unclear
returns-in-Unclear c = λ ts n e. plain_base base.Null (min 255 n)
    ∙ ap (λ (k : Look). in_limit (type_for (source_of c.args.sites.now) (look_view k) (length c.args.types.items) ts n)) (sym c.in-Unclear.is)
