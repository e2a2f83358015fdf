-- What a member of a library class comes to, and when that is what its definition says.
use Rattle.std.specs.Prelude.{◌≡◌, ℕ, List, ◌++◌, length}
use Rattle.je_core.specs.declared.object.Obj.{Obj}
use Rattle.je_core.specs.declared.value.ObjId.{ObjId}
use Rattle.je_core.specs.Core.{CoreProgram}
use Rattle.je_core.specs.declared.object.Obj.TheVariants.{Array, Row}
use Rattle.je_core.specs.declared.value.Value.{Value as OneValue}
use Rattle.je_core.specs.declared.value.Value.TheVariants.{Ref}
use Rattle.je_java.specs.Steps.{Computation, Exits, Outside, Own, Run, State, ◌>>=◌, ◌>>◌, charge, get_units, new_object, put_slot, put_units, raise, ret, spent, wrong}
use Rattle.je_java.specs.World.{World}
use Rattle.je_java.specs.library.Builders.{new_builder}
use Rattle.je_java.specs.library.Strings.{new_text}
use Rattle.tamed_lib.specs.declared.outcome.LibraryOutcome.{LibraryOutcome}
use Rattle.tamed_lib.specs.declared.outcome.LibraryOutcome.TheVariants.{Value, Raises, Spent, Wrong}
use Rattle.tamed_lib.specs.declared.outcome.Rest.{Rest}
use Rattle.tamed_lib.specs.declared.outcome.Rest.TheVariants as rest

-- how a run goes on after an outcome
abbrev pub outcome_ways : CoreProgram → LibraryOutcome → Computation OneValue
outcome_ways program (Value value) = ret value
outcome_ways program (Raises class) = raise program class
outcome_ways program Spent = spent
outcome_ways program Wrong = wrong

-- a new array, or a new row, of these values, which are paid for before it is made
abbrev pub make_of : Obj → List OneValue → Computation OneValue
make_of object slots = do
  charge (length slots)
  made ← new_object object
  ret (Ref made)

-- units behind those of a builder, which are paid for before they are added
abbrev pub append_to : ObjId → List ℕ → Computation OneValue
append_to builder text = do
  units ← get_units builder
  charge (length text)
  put_units builder (units ++ text)
  ret (Ref builder)

-- units in a builder in place of its own, and then a value
abbrev pub rewrite_in : ObjId → List ℕ → OneValue → Computation OneValue
rewrite_in builder units value = do
  put_units builder units
  ret value

-- how it goes on with what is left to do
abbrev pub rest_ways : CoreProgram → Rest → Computation OneValue
rest_ways program (rest.Gives value) = ret value
rest_ways program (rest.Raises class) = raise program class
rest_ways program rest.Spent = spent
rest_ways program rest.Wrong = wrong
rest_ways program (rest.NewText units) = new_text units
rest_ways program (rest.NewBuilder units) = new_builder units
rest_ways program (rest.NewArray element slots) = make_of (Array element slots) slots
rest_ways program (rest.NewRow class slots) = make_of (Row class slots) slots
rest_ways program (rest.Append builder text) = append_to builder text
rest_ways program (rest.Rewrite builder units value) = rewrite_in builder units value
rest_ways program (rest.Store object at value) = put_slot object at value

-- the state of a run with these units left in a world
abbrev pub state_in : ℕ → ℕ → World → Outside → Own → State
state_in left begun world outside own = record {
  world = world;
  own = own;
  public = record { units = left; begun = begun };
  outside = outside;
}

-- from any state the computation comes to that, and changes nothing before
abbrev pub Answers : (CoreProgram → Computation OneValue) → Rest → Type 0
Answers m r = (p : CoreProgram) (go : OneValue → Run) (exits : Exits) (s : State) → rest_ways p r go exits s ≡ m p go exits s

-- so it does in a program, from a world with so many units left
abbrev pub PlansIn : CoreProgram → ℕ → World → Computation OneValue → Rest → Type 0
PlansIn program left world m r = (go : OneValue → Run) (exits : Exits) (begun : ℕ) (outside : Outside) (own : Own) →
    rest_ways program r go exits (state_in left begun world outside own) ≡ m go exits (state_in left begun world outside own)

-- and in any
abbrev pub Plans : ℕ → World → (CoreProgram → Computation OneValue) → Rest → Type 0
Plans left world m r = (p : CoreProgram) → PlansIn p left world (m p) r

-- in a program an outcome is what a computation comes to, from a world and units to those then
abbrev pub ComesToIn : CoreProgram → ℕ → World → ℕ → World → Computation OneValue → LibraryOutcome → Type 0
ComesToIn program left before left' after m outcome = (go : OneValue → Run) (exits : Exits) (begun : ℕ) (outside : Outside) (own : Own) →
    outcome_ways program outcome go exits (state_in left' begun after outside own) ≡ m go exits (state_in left begun before outside own)

-- and in any
abbrev pub ComesTo : ℕ → World → ℕ → World → (CoreProgram → Computation OneValue) → LibraryOutcome → Type 0
ComesTo left before left' after m outcome = (p : CoreProgram) → ComesToIn p left before left' after (m p) outcome
