-- What the payment for a member comes to, and when that is what its row says.
use Rattle.std.specs.Prelude.{◌≡◌, ℕ, ◌*◌, List, [], length, unwrap_or}
use Rattle.je_core.specs.Core.{CoreProgram}
use Rattle.je_core.specs.declared.value.Value.{Value}
use Rattle.je_java.specs.Steps.{Computation, Exits, Nothing, Outside, Own, Run, ◌>>=◌, ◌>>◌, charge, raise, ret, spent, wrong}
use Rattle.je_core.specs.declared.types.ClassId.{ClassId}
use Rattle.je_table.specs.declared.classes.LibraryClass.{LibraryClass}
use Rattle.je_table.specs.declared.members.CostKind.{CostKind}
use Rattle.je_java.specs.LibraryMembers.{member_of_class, pay}
use Rattle.je_java.specs.World.{World}
use Rattle.je_java.specs.library.Arguments.{text_or_null}
use Rattle.tamed_lib.specs.Outcomes.{state_in}
use Rattle.tamed_lib.specs.declared.paying.Paid.{Paid}
use Rattle.tamed_lib.specs.declared.paying.Paid.TheVariants.{Done, Raises, Spent, Wrong}

-- how a run goes on once a member was to be paid for
abbrev pub paid_ways : CoreProgram → Paid → Computation Nothing
paid_ways program Done = ret tt
paid_ways program (Raises class) = raise program class
paid_ways program Spent = spent
paid_ways program Wrong = wrong

-- the payment is what a computation comes to in a world, from units left to those then
abbrev pub Pays : World → ℕ → ℕ → (CoreProgram → Computation Nothing) → Paid → Type 0
Pays world left left' m payment = (p : CoreProgram) (go : Nothing → Run) (exits : Exits) (begun : ℕ) (outside : Outside) (own : Own) →
    paid_ways p payment go exits (state_in left' begun world outside own) ≡ m p go exits (state_in left begun world outside own)

-- so many units for each unit of the String argument, none where it is null
abbrev pub times_part : ℕ → List Value → Computation Nothing
times_part count given = do
  part ← text_or_null given 0
  charge (count * length (unwrap_or part []))

-- a member of a class by its signature and cost, as a row of the library's table has them: what it costs is paid for, and then it
-- does what its class says
abbrev pub run_row : LibraryClass → CostKind → CoreProgram → ClassId → List ℕ → Value → List Value → Computation Value
run_row class cost program own signature this given = do
  pay cost program this given
  member_of_class class program own signature this given
