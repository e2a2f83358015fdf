-- The steps on UTF-16 units: what strings and builders give, what a builder takes, and what a new string costs.
use Rattle.std.proofs.Common.{◌≡◌, ℕ, List, [], ◌∷◌, ◌++◌, None, refl}
use Rattle.je_core.specs.declared.object.Obj.{Obj}
use Rattle.je_core.specs.declared.object.Obj.TheVariants.{Text, Builder}
use Rattle.je_core.specs.declared.value.ObjId.{ObjId}
use Rattle.je_core.specs.declared.value.Value.TheVariants.{Null}
use Rattle.je_java.specs.Steps.{State, Spent, Wrong, Run, Exits, get_units, put_units, make_text}
use Rattle.je_java.specs.way.Opened.{opened}

abbrev with : List Obj → ℕ → State
with objects units = record {
  world = record { objects = objects; statics = [] };
  own = record { this = Null; locals = [] };
  public = record { units = units; begun = 0 };
  outside = record { started = []; starting = None };
}

-- "hi", and a builder that holds it
abbrev texts : List Obj
texts = Text (104 ∷ 105 ∷ []) ∷ Builder (104 ∷ 105 ∷ []) ∷ []

get_of_text : (go : List ℕ → Run) (exits : Exits) → get_units (record { 0 = 0 }) go exits (with texts 5) ≡ go (104 ∷ 105 ∷ []) (with texts 5)
unfolding opened
get_of_text go exits = refl

-- what is no object has none
get_of_nothing : (go : List ℕ → Run) (exits : Exits) → get_units (record { 0 = 2 }) go exits (with texts 5) ≡ Wrong
unfolding opened
get_of_nothing go exits = refl

put_to_builder : (go : Unit {0} → Run) (exits : Exits) → put_units (record { 0 = 1 }) (104 ∷ []) go exits (with texts 5) ≡ go tt (with (Text (104 ∷ 105 ∷ []) ∷ Builder (104 ∷ []) ∷ []) 5)
unfolding opened
put_to_builder go exits = refl

-- a string takes none
put_to_text : (go : Unit {0} → Run) (exits : Exits) → put_units (record { 0 = 0 }) (104 ∷ []) go exits (with texts 5) ≡ Wrong
unfolding opened
put_to_text go exits = refl

make_of_two : (go : ObjId → Run) (exits : Exits) → make_text (111 ∷ 107 ∷ []) go exits (with texts 5) ≡ go (record { 0 = 2 }) (with (texts ++ Text (111 ∷ 107 ∷ []) ∷ []) 3)
unfolding opened
make_of_two go exits = refl

-- fuel of one unit is too little
make_of_too_many : (go : ObjId → Run) (exits : Exits) → make_text (111 ∷ 107 ∷ []) go exits (with texts 1) ≡ Spent (with texts 1)
unfolding opened
make_of_too_many go exits = refl
