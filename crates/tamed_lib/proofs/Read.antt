-- What is made of an array's elements is made of those that were read.
use Rattle.std.proofs.Common.{◌≡◌, ℕ, List, Option, Some, None, refl, ◌∙◌}
use Rattle.je_core.specs.declared.object.Obj.TheVariants.{Row}
use Rattle.je_core.specs.declared.types.ClassId.{ClassId}
use Rattle.je_core.specs.declared.value.ObjId.{ObjId}
use Rattle.je_core.specs.declared.value.Value.{Value}
use Rattle.je_java.specs.Steps.{Exits, Run, State, bind, need, on_some, wrong}
use Rattle.je_java.specs.library.Strings.{new_text, units_in_values}
use Rattle.tamed_lib.specs.Outcomes.{make_of}
use Rattle.tamed_lib.specs.way.Elements.{row_of_read, row_of_slots, slots_read, text_of_read, text_of_slots, units_among}
use Rattle.tamed_lib.proofs.Elements.{slots_from_reads}

module _ (go : Value → Run) (exits : Exits) (s : State) where
  text_of_units : (units : Option (List ℕ)) → on_some units (λ us. new_text us go exits s) ≡ text_of_read units go exits s
  unfolding text_of_read wrong
  text_of_units None = refl
  text_of_units (Some units) = refl

  text_of_values : (values : Option (List Value)) →
      on_some values (λ vs. on_some (units_in_values vs) (λ us. new_text us go exits s)) ≡ text_of_read (units_among values) go exits s
  unfolding text_of_read wrong
  text_of_values None = refl
  text_of_values (Some values) = text_of_units (units_in_values values)

  pub text_reads : (object : ObjId) (count : ℕ) → text_of_slots object count go exits s ≡ text_of_read (units_among (slots_read s.world.objects object count 0)) go exits s
  unfolding text_of_slots bind need
  text_reads object count =
      slots_from_reads object count 0 (λ values. need (units_in_values values) (λ units. new_text units go exits) exits) exits s
      ∙ text_of_values (slots_read s.world.objects object count 0)

  row_of_values : (class : ClassId) (values : Option (List Value)) →
      on_some values (λ vs. make_of (Row class vs) vs go exits s) ≡ row_of_read class values go exits s
  unfolding row_of_read wrong
  row_of_values class None = refl
  row_of_values class (Some values) = refl

  pub row_reads : (class : ClassId) (object : ObjId) (count : ℕ) → row_of_slots class object count go exits s ≡ row_of_read class (slots_read s.world.objects object count 0) go exits s
  unfolding row_of_slots bind
  row_reads class object count =
      slots_from_reads object count 0 (λ values. make_of (Row class values) values go exits) exits s
      ∙ row_of_values class (slots_read s.world.objects object count 0)
