-- A builder holds its units, and nothing else takes others.
use Rattle.std.proofs.Common.{◌≡◌, ◌≤◌, ◌-◌, ◌++◌, ◌∙◌, ℕ, List, length, true, false, Option, Some, None, refl, true≢false, sym, ap}
use Rattle.std.specs.Prelude.{nat_le, slice_get, if◌then◌else◌}
use Rattle.std.proofs.lemmas.Bool.{le-leb}
use Rattle.je_core.specs.declared.object.Obj.{Obj}
use Rattle.je_core.specs.declared.object.Obj.TheVariants.{Instance, Array, Text, Builder, Row, Cap}
use Rattle.je_core.specs.declared.value.ObjId.{ObjId}
use Rattle.je_core.specs.declared.value.Value.{Value}
use Rattle.je_core.specs.declared.value.Value.TheVariants.{Ref}
use Rattle.je_heap.specs.Growing.{lengthened}
use Rattle.je_heap.specs.Shape.{is_builder}
use Rattle.je_heap.proofs.Journals.{lengthened_is}
use Rattle.je_java.specs.Steps.{Answer, Exits, Outside, Own, Run, Spent, Wrong, bind, charge, get_units, on_some, put_units, ret, seq}
use Rattle.je_java.specs.World.{World, held_by, held_in, units_of, with_units_at}
use Rattle.tamed_lib.specs.Outcomes.{append_to, rewrite_in, state_in}

-- what goes on after units were put into a builder doesn't look at the old ones
pub held_off : (o : Option Obj) (a : Answer) → false ≡ is_builder o → Wrong ≡ on_some (held_in o) (λ (old : List ℕ). a)
held_off None a is = refl
held_off (Some (Instance class slots)) a is = refl
held_off (Some (Array element slots)) a is = refl
held_off (Some (Text units)) a is = refl
held_off (Some (Builder units)) a is = absurd (true≢false (sym is))
held_off (Some (Row class slots)) a is = refl
held_off (Some (Cap device class)) a is = refl

pub held_on : (o : Option Obj) (a : Answer) → true ≡ is_builder o → a ≡ on_some (held_in o) (λ (old : List ℕ). a)
held_on None a is = absurd (true≢false is)
held_on (Some (Instance class slots)) a is = absurd (true≢false is)
held_on (Some (Array element slots)) a is = absurd (true≢false is)
held_on (Some (Text units)) a is = absurd (true≢false is)
held_on (Some (Builder units)) a is = refl
held_on (Some (Row class slots)) a is = absurd (true≢false is)
held_on (Some (Cap device class)) a is = absurd (true≢false is)

-- ---- what is done to a builder

-- a world in which a builder has these units
abbrev pub holding : World → ObjId → List ℕ → World
holding world builder units = record world { objects = with_units_at world.objects builder.0 units }

-- a world in which a builder has these units behind its own
abbrev pub grown : World → ObjId → List ℕ → World
grown world builder more = record world { objects = lengthened world.objects builder.0 more }

module _ (go : Value → Run) (exits : Exits) (begun : ℕ) (outside : Outside) (own : Own) (world : World) (builder : ObjId) where
  pub rewrites : (left : ℕ) (units : List ℕ) (value : Value) → true ≡ is_builder (slice_get world.objects builder.0) →
      go value (state_in left begun (holding world builder units) outside own) ≡ rewrite_in builder units value go exits (state_in left begun world outside own)
  unfolding seq put_units ret
  rewrites left units value is = held_on (slice_get world.objects builder.0) (go value (state_in left begun (holding world builder units) outside own)) is

  pub appends : (left : ℕ) (units text : List ℕ) → units_of world.objects builder.0 ≡ Some units → length text ≤ left → true ≡ is_builder (slice_get world.objects builder.0) →
      go (Ref builder) (state_in (left - length text) begun (grown world builder text) outside own) ≡ append_to builder text go exits (state_in left begun world outside own)
  unfolding bind seq get_units charge put_units ret
  appends left units text there enough is =
      let after = λ (us : List ℕ). go (Ref builder) (state_in (left - length text) begun (holding world builder (us ++ text)) outside own) in
      let paid = λ (us : List ℕ). on_some (held_by world.objects builder.0) (λ (old : List ℕ). after us) in
      ap (λ (os : List Obj). go (Ref builder) (state_in (left - length text) begun (record world { objects = os }) outside own)) (lengthened_is world.objects builder.0 units text there)
      ∙ held_on (slice_get world.objects builder.0) (after units) is
      ∙ sym (ap (λ b. if b then paid units else Spent (state_in left begun world outside own)) (le-leb (length text) left enough))
      ∙ sym (ap (λ o. on_some o (λ us. if nat_le (length text) left then paid us else Spent (state_in left begun world outside own))) there)
