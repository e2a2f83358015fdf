use Rattle.std.proofs.Common.{sym, ap, ◌∙◌}
use Rattle.je_core.specs.declared.types.Base.TheVariants as base
use Rattle.je_scopes.specs.SourceTypes.{no_source_types, type_for}
use Rattle.name_lookup.specs.declared.look.Look.{Look}
use Rattle.name_lookup.specs.View.{look_view}
use Rattle.name_types.proofs.Bases.{plain_base, variable_base}
use Rattle.type_faults.specs.Program.{source_in}
use Rattle.declarations.proofs.methods.named.Goals as goal

pub returns-in-Class : goal.returns-in-Class
returns-in-Class c = c.class_named.ensures ∙ ap (λ (k : Look). type_for (source_in c.args.program.now) (look_view k) 0 no_source_types 0) (sym c.in-Class.is)

pub returns-in-Variable : goal.returns-in-Variable
returns-in-Variable c = variable_base c.in-Variable.class c.in-Variable.at 0
    ∙ ap (λ (k : Look). type_for (source_in c.args.program.now) (look_view k) 0 no_source_types 0) (sym c.in-Variable.is)

pub returns-in-Waits : goal.returns-in-Waits
returns-in-Waits c = plain_base base.Null 0 ∙ ap (λ (k : Look). type_for (source_in c.args.program.now) (look_view k) 0 no_source_types 0) (sym c.in-Waits.is)

pub returns-in-Nothing : goal.returns-in-Nothing
returns-in-Nothing c = plain_base base.Null 0 ∙ ap (λ (k : Look). type_for (source_in c.args.program.now) (look_view k) 0 no_source_types 0) (sym c.in-Nothing.is)

pub returns-in-Unclear : goal.returns-in-Unclear
returns-in-Unclear c = plain_base base.Null 0 ∙ ap (λ (k : Look). type_for (source_in c.args.program.now) (look_view k) 0 no_source_types 0) (sym c.in-Unclear.is)
