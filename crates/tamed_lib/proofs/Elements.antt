-- Slots that are read one after another are those that the steps of evaluation read.
use Rattle.std.proofs.Common.{◌≡◌, ◌<◌, ◌+◌, ◌-◌, ℕ, zero, suc, List, [], ◌∷◌, ◌++◌, Option, Some, None, refl, sym, ap, ◌∙◌, append_assoc, arith, true≢false}
use Rattle.std.specs.Prelude.{is_none}
use Rattle.je_core.specs.declared.object.Obj.{Obj}
use Rattle.je_core.specs.declared.value.ObjId.{ObjId}
use Rattle.je_core.specs.declared.value.Value.{Value}
use Rattle.je_java.specs.Steps.{Answer, Exits, Run, State, bind, get_slot, on_some, ret}
use Rattle.je_java.specs.World.{slot_of}
use Rattle.je_java.specs.library.Arguments.{char_in, slots_from}
use Rattle.je_java.specs.library.Strings.{units_in_values, with_unit_before}
use Rattle.tamed_lib.specs.way.Elements.{in_front, slots_read, units_among, with_first}

in_front_goes : (value : Value) (values : Option (List Value)) (go : List Value → Answer) →
    on_some values (λ vs. go (value ∷ vs)) ≡ on_some (in_front (value ∷ []) values) go
in_front_goes value None go = refl
in_front_goes value (Some values) go = refl

step : (first : Option Value) (others : Option (List Value)) (f : Value → Answer) (go : List Value → Answer) →
    ((value : Value) → f value ≡ on_some others (λ vs. go (value ∷ vs))) → on_some first f ≡ on_some (with_first first others) go
step None others f go goes = refl
step (Some value) others f go goes = goes value ∙ in_front_goes value others go

pub slots_from_reads : (object : ObjId) (count at : ℕ) (go : List Value → Run) (exits : Exits) (s : State) →
    slots_from object count at go exits s ≡ on_some (slots_read s.world.objects object count at) (λ vs. go vs s)
unfolding bind get_slot ret
slots_from_reads object zero at go exits s = refl
slots_from_reads object (suc count) at go exits s =
    step (slot_of s.world.objects object.0 at) (slots_read s.world.objects object count (suc at))
    (λ value. slots_from object count (suc at) (λ values. go (value ∷ values)) exits s)
    (λ vs. go vs s)
    (λ value. slots_from_reads object count (suc at) (λ values. go (value ∷ values)) exits s)

-- ---- one slot more

append_nil : {A : Type 0} (xs : List A) → xs ++ [] ≡ xs
append_nil [] = refl
append_nil (x ∷ xs) = ap (λ ys. x ∷ ys) (append_nil xs)

none_in_front : {A : Type 0} (items : Option (List A)) → in_front [] items ≡ items
none_in_front None = refl
none_in_front (Some items) = refl

one_more : {A : Type 0} (front : List A) (a : A) (items : Option (List A)) → in_front front (in_front (a ∷ []) items) ≡ in_front (front ++ a ∷ []) items
one_more front a None = refl
one_more front a (Some items) = ap Some (sym (append_assoc front (a ∷ []) items))

module _ (objects : List Obj) (object : ObjId) where
  -- nothing is read yet
  pub first_read : (count : ℕ) → in_front [] (slots_read objects object (count - 0) 0) ≡ slots_read objects object count 0
  first_read count = let e : count - 0 ≡ count = omega arith in ap (λ n. in_front [] (slots_read objects object n 0)) e ∙ none_in_front (slots_read objects object count 0)

  -- all is read
  pub all_read : (values : List Value) (count at : ℕ) → count - at ≡ 0 → in_front values (slots_read objects object (count - at) at) ≡ Some values
  all_read values count at e = ap (λ n. in_front values (slots_read objects object n at)) e ∙ ap Some (append_nil values)

  rest_step : (count at : ℕ) → at < count → slots_read objects object (count - at) at ≡ with_first (slot_of objects object.0 at) (slots_read objects object (count - (at + 1)) (at + 1))
  rest_step count at l = let e : count - at ≡ suc (count - (at + 1)) = omega (arith, l) in let f : suc at ≡ at + 1 = omega arith in
      ap (λ n. slots_read objects object n at) e ∙ ap (λ n. with_first (slot_of objects object.0 at) (slots_read objects object (count - (at + 1)) n)) f

  pub slot_read : (values : List Value) (value : Value) (count at : ℕ) → at < count → slot_of objects object.0 at ≡ Some value →
      in_front values (slots_read objects object (count - at) at) ≡ in_front (values ++ value ∷ []) (slots_read objects object (count - (at + 1)) (at + 1))
  slot_read values value count at l e =
      let rest = slots_read objects object (count - (at + 1)) (at + 1) in
      ap (in_front values) (rest_step count at l ∙ ap (λ o. with_first o rest) e) ∙ one_more values value rest

  pub slot_lacks : (values : List Value) (count at : ℕ) → at < count → slot_of objects object.0 at ≡ None →
      in_front values (slots_read objects object (count - at) at) ≡ None
  slot_lacks values count at l e =
      ap (in_front values) (rest_step count at l ∙ ap (λ o. with_first o (slots_read objects object (count - (at + 1)) (at + 1))) e)

  -- ---- the same of chars

  unit_first : (value : Value) (unit : ℕ) (values : Option (List Value)) → char_in (Some value) ≡ Some unit → units_among (in_front (value ∷ []) values) ≡ in_front (unit ∷ []) (units_among values)
  unit_first value unit None e = refl
  unit_first value unit (Some values) e = ap (λ o. with_unit_before o (units_in_values values)) e ∙ joins (units_in_values values)
    where
      joins : (units : Option (List ℕ)) → with_unit_before (Some unit) units ≡ in_front (unit ∷ []) units
      joins None = refl
      joins (Some units) = refl

  no_unit_first : (value : Value) (values : Option (List Value)) → char_in (Some value) ≡ None → units_among (in_front (value ∷ []) values) ≡ None
  no_unit_first value None e = refl
  no_unit_first value (Some values) e = ap (λ o. with_unit_before o (units_in_values values)) e

  unit_of_first : (first : Option Value) (unit : ℕ) (values : Option (List Value)) → char_in first ≡ Some unit → units_among (with_first first values) ≡ in_front (unit ∷ []) (units_among values)
  unit_of_first None unit values e = absurd (true≢false (ap is_none e))
  unit_of_first (Some value) unit values e = unit_first value unit values e

  no_unit_of_first : (first : Option Value) (values : Option (List Value)) → char_in first ≡ None → units_among (with_first first values) ≡ None
  no_unit_of_first None values e = refl
  no_unit_of_first (Some value) values e = no_unit_first value values e

  pub first_unit_read : (count : ℕ) → in_front [] (units_among (slots_read objects object (count - 0) 0)) ≡ units_among (slots_read objects object count 0)
  first_unit_read count =
      let e : count - 0 ≡ count = omega arith in
      ap (λ n. in_front [] (units_among (slots_read objects object n 0))) e ∙ none_in_front (units_among (slots_read objects object count 0))

  pub all_units_read : (units : List ℕ) (count at : ℕ) → count - at ≡ 0 → in_front units (units_among (slots_read objects object (count - at) at)) ≡ Some units
  all_units_read units count at e = ap (λ n. in_front units (units_among (slots_read objects object n at))) e ∙ ap Some (append_nil units)

  pub unit_read : (units : List ℕ) (unit : ℕ) (count at : ℕ) → at < count → char_in (slot_of objects object.0 at) ≡ Some unit →
      in_front units (units_among (slots_read objects object (count - at) at)) ≡ in_front (units ++ unit ∷ []) (units_among (slots_read objects object (count - (at + 1)) (at + 1)))
  unit_read units unit count at l e =
      let rest = slots_read objects object (count - (at + 1)) (at + 1) in
      ap (λ o. in_front units (units_among o)) (rest_step count at l) ∙ ap (in_front units) (unit_of_first (slot_of objects object.0 at) unit rest e)
      ∙ one_more units unit (units_among rest)

  pub unit_lacks : (units : List ℕ) (count at : ℕ) → at < count → char_in (slot_of objects object.0 at) ≡ None →
      in_front units (units_among (slots_read objects object (count - at) at)) ≡ None
  unit_lacks units count at l e =
      ap (λ o. in_front units (units_among o)) (rest_step count at l)
      ∙ ap (in_front units) (no_unit_of_first (slot_of objects object.0 at) (slots_read objects object (count - (at + 1)) (at + 1)) e)
