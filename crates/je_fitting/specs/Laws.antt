-- What the tests decide.
use Rattle.std.specs.Prelude.{◌≡◌, ◌<◌, ◌↔◌, true, length, Some, None}
use Rattle.je_core.specs.declared.types.ClassId.{ClassId}
use Rattle.je_core.specs.Core.{Core, CoreStmt, CoreProgram}
use Rattle.je_classes.specs.Hierarchy.{IsAcyclic}
use Rattle.je_fitting.specs.Expressions.{Body, Fits}
use Rattle.je_fitting.specs.Statements.{Targets, StatementFits}
use Rattle.je_fitting.specs.Program.{Part, FitsProgram, IsFirstMisfit}
use Rattle.je_fitting.specs.way.Deciding.{is_fit}
use Rattle.je_fitting.specs.way.DecidingClasses.{is_program_fit}
use Rattle.je_fitting.specs.way.Misfits.{first_misfit}
use Rattle.je_fitting.specs.way.DecidingStatements.{is_statement_fit}

abbrev pub ExpressionsAreDecided : Type 0
ExpressionsAreDecided = (program : CoreProgram) (body : Body) (e : Core) → (is_fit program body e ≡ true) ↔ Fits program body e

abbrev pub StatementsAreDecided : Type 0
StatementsAreDecided = (program : CoreProgram) (body : Body) (j : Targets) (s : CoreStmt) →
    (is_statement_fit program body j s ≡ true) ↔ StatementFits program body j s

abbrev pub ProgramsAreDecided : Type 0
ProgramsAreDecided = (program : CoreProgram) → (is_program_fit program ≡ true) ↔ FitsProgram program

-- A program that doesn't fit has a first misfit, and it is what a search in order comes to.
abbrev pub MisfitsAreFound : Type 0
MisfitsAreFound = (program : CoreProgram) (class : ClassId) (part : Part) →
    (first_misfit program ≡ Some (class, part)) ↔ IsFirstMisfit program class part

abbrev pub NoMisfitFits : Type 0
NoMisfitFits = (program : CoreProgram) → first_misfit program ≡ None → FitsProgram program

-- There is one first misfit.
abbrev pub MisfitIsOne : Type 0
MisfitIsOne = (program : CoreProgram) (c d : ClassId) (a b : Part) →
    IsFirstMisfit program c a → IsFirstMisfit program d b → (c ≡ d) × (a ≡ b)

-- In a program that fits and has a class, no class is above itself.
abbrev pub FittingIsAcyclic : Type 0
FittingIsAcyclic = (program : CoreProgram) → FitsProgram program → 0 < length program.classes → IsAcyclic program
