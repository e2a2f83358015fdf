-- A simple name that is read or updated, by what it means as a variable.
use Rattle.std.proofs.Common.{◌≡◌, subst}
use Rattle.je_ast.specs.declared.name.Identifier.{Identifier}
use Rattle.je_typing.specs.declared.fault.Refusal.{Refusal}
use Rattle.je_typing.specs.Answers.{IsFault}
use Rattle.je_typing.specs.Judged.{Judged}
use Rattle.je_typing.specs.Typed.{TypedNode}
use Rattle.name_typing.specs.Program.{Place, Program}
use Rattle.name_typing.specs.Variables.{Variable, simple_name, updated_name, variable_named}
use Rattle.name_steps.specs.way.Named.{updated, valued}

pub name_gives : (p : Program) (place : Place) (id : Identifier) (v : Variable) (j : Judged TypedNode) → v ≡ variable_named p place id.name →
    valued p place id.span v ≡ j → simple_name p place id ≡ j
unfolding simple_name updated_name valued updated
name_gives p place id v j e h = subst (λ (u : Variable). valued p place id.span u ≡ j) e h

pub name_faults : (p : Program) (place : Place) (id : Identifier) (v : Variable) (r : Refusal) → v ≡ variable_named p place id.name →
    IsFault (valued p place id.span v) r → IsFault (simple_name p place id) r
unfolding simple_name updated_name valued updated
name_faults p place id v r e h = subst (λ (u : Variable). IsFault (valued p place id.span u) r) e h

pub update_gives : (p : Program) (place : Place) (id : Identifier) (v : Variable) (j : Judged TypedNode) → v ≡ variable_named p place id.name →
    updated p place id.span v ≡ j → updated_name p place id ≡ j
unfolding updated_name updated
update_gives p place id v j e h = subst (λ (u : Variable). updated p place id.span u ≡ j) e h

pub update_faults : (p : Program) (place : Place) (id : Identifier) (v : Variable) (r : Refusal) → v ≡ variable_named p place id.name →
    IsFault (updated p place id.span v) r → IsFault (updated_name p place id) r
unfolding updated_name updated
update_faults p place id v r e h = subst (λ (u : Variable). IsFault (updated p place id.span u) r) e h

pub ruleset updates = (update_gives, update_faults)

pub ruleset readings = (name_gives, name_faults)
