-- A simple name before a point, by what it means as a variable.
use Rattle.std.proofs.Common.{◌≡◌, refl, sym, subst, ◌∙◌}
use Rattle.std.specs.Prelude.{true, false}
use Rattle.je_ast.specs.declared.name.Identifier.{Identifier}
use Rattle.je_typing.specs.declared.fault.Refusal.{Refusal}
use Rattle.je_typing.specs.Answers.{IsFault}
use Rattle.je_typing.specs.Judged.{Judged}
use Rattle.name_typing.specs.Program.{Place, Program}
use Rattle.name_typing.specs.Qualified.{Qualifier, class_before, class_named, name_before, value_before, variable_or_class}
use Rattle.name_typing.specs.Variables.{Variable, no_variable, a_local, a_field, unclear, simple_name, variable_named}
use Rattle.name_steps.specs.Variables.{is_no_variable}

module _ (p : Program) (place : Place) (id : Identifier) where
  no-variable : (v : Variable) → is_no_variable v ≡ true → variable_or_class p place id v ≡ class_before id (class_named p place.here id.name)
  no-variable no_variable e = refl
  no-variable (a_local n v) e = absurd cc
  no-variable (a_field n m) e = absurd cc
  no-variable unclear e = absurd cc

  a-variable : (v : Variable) → is_no_variable v ≡ false → variable_or_class p place id v ≡ value_before (simple_name p place id)
  a-variable no_variable e = absurd cc
  a-variable (a_local n v) e = refl
  a-variable (a_field n m) e = refl
  a-variable unclear e = refl

  named : (v : Variable) (j : Judged Qualifier) → v ≡ variable_named p place id.name → variable_or_class p place id v ≡ j → name_before p place id ≡ j
  unfolding name_before
  named v j e h = subst (λ (u : Variable). variable_or_class p place id u ≡ j) e h

  pub class_gives : (v : Variable) (j : Judged Qualifier) → v ≡ variable_named p place id.name → true ≡ is_no_variable v →
      class_before id (class_named p place.here id.name) ≡ j → name_before p place id ≡ j
  class_gives v j e f h = named v j e (no-variable v (sym f) ∙ h)

  pub class_faults : (v : Variable) (r : Refusal) → v ≡ variable_named p place id.name → true ≡ is_no_variable v →
      IsFault (class_before id (class_named p place.here id.name)) r → IsFault (name_before p place id) r
  class_faults v r e f h = subst (λ (j : Judged Qualifier). IsFault j r) (sym (class_gives v _ e f refl)) h

  pub value_gives : (v : Variable) (j : Judged Qualifier) → v ≡ variable_named p place id.name → false ≡ is_no_variable v →
      value_before (simple_name p place id) ≡ j → name_before p place id ≡ j
  value_gives v j e f h = named v j e (a-variable v (sym f) ∙ h)

  pub value_faults : (v : Variable) (r : Refusal) → v ≡ variable_named p place id.name → false ≡ is_no_variable v →
      IsFault (value_before (simple_name p place id)) r → IsFault (name_before p place id) r
  value_faults v r e f h = subst (λ (j : Judged Qualifier). IsFault j r) (sym (value_gives v _ e f refl)) h

pub ruleset names_before = (class_gives, class_faults, value_gives, value_faults)
