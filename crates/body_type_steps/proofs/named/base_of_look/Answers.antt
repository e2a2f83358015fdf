use Rattle.std.proofs.Common.{sym, ap, ◌∙◌}
use Rattle.je_core.specs.declared.types.Base.TheVariants as base
use Rattle.body_types.specs.BodyTypes.{type_of_look}
use Rattle.name_lookup.specs.declared.look.Look.{Look}
use Rattle.name_lookup.specs.View.{look_view}
use Rattle.name_types.specs.View.{all_shown}
use Rattle.name_types.proofs.Bases.{plain_base, variable_base}
use Rattle.body_type_steps.proofs.named.base_of_look.Goals as goal

pub returns-in-Variable : goal.returns-in-Variable
returns-in-Variable c = λ p f n. variable_base c.in-Variable.class c.in-Variable.at n
    ∙ ap (λ (k : Look). type_of_look p f (look_view k) (all_shown c.args.types.items) n) (sym c.in-Variable.is)

pub returns-in-Waits : goal.returns-in-Waits
returns-in-Waits c = λ p f n. plain_base base.Null n
    ∙ ap (λ (k : Look). type_of_look p f (look_view k) (all_shown c.args.types.items) n) (sym c.in-Waits.is)

pub returns-in-Nothing : goal.returns-in-Nothing
returns-in-Nothing c = λ p f n. plain_base base.Null n
    ∙ ap (λ (k : Look). type_of_look p f (look_view k) (all_shown c.args.types.items) n) (sym c.in-Nothing.is)

pub returns-in-Unclear : goal.returns-in-Unclear
returns-in-Unclear c = λ p f n. plain_base base.Null n
    ∙ ap (λ (k : Look). type_of_look p f (look_view k) (all_shown c.args.types.items) n) (sym c.in-Unclear.is)
