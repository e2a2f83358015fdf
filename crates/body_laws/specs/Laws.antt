-- The laws on bodies (JLS 14): what the walk over one gives fits, where its locals, and all that was met, are there.
use Rattle.std.specs.Prelude.{List}
use Rattle.je_core.specs.Core.{CoreProgram}
use Rattle.je_ast.specs.Trees.{Statements}
use Rattle.je_fitting.specs.Expressions.{Body}
use Rattle.je_fitting.specs.Statements.{Targets}
use Rattle.name_typing.specs.Program.{Program}
use Rattle.statement_steps.specs.Returns.{Returning}
use Rattle.body_typing.specs.Bodies.{Met, Progress, next_number}
use Rattle.body_typing.specs.Expressions.{Known}
use Rattle.body_typing.specs.FinalVariables.{Scope}
use Rattle.body_typing.specs.Statements.{statements}
use Rattle.typing_laws.specs.Fitting.{Gives}
use Rattle.fitting_laws.specs.Methods.{HasMethods}
use Rattle.fitting_laws.specs.Represented.{Represents}
use Rattle.body_laws.specs.Bodies.{BodyStands, HasLocals, IsAmong, IsInBody, Returns}
use Rattle.body_laws.specs.Fitting.{AreTyped, DoneFits}
use Rattle.body_laws.specs.Written.{BodyIsWritten}

-- the statements of a block
abbrev pub BodiesFit : Type 0
BodiesFit = (p : Program) (k : Known) (program : CoreProgram) (body : Body) (first : Scope) (met : List Met)
    (returning : Returning) → Represents p program → HasMethods p program → BodyStands p k program body first met →
    Returns body p.heads returning → (j : Targets) (s : Scope) (pr : Progress) (b : Statements) →
    IsInBody p k program body first s → BodyIsWritten b →
    Gives (λ d. HasLocals body d.progress → IsAmong d.progress.met met → DoneFits p k program body first j d)
    (statements p k returning j s pr b)

-- the locals that they declare have types of variables
abbrev pub LocalsAreTyped : Type 0
LocalsAreTyped = (p : Program) (k : Known) (program : CoreProgram) (body : Body) (first : Scope) (met : List Met)
    (returning : Returning) → Represents p program → HasMethods p program → BodyStands p k program body first met →
    Returns body p.heads returning → (j : Targets) (s : Scope) (pr : Progress) (b : Statements) →
    IsInBody p k program body first s → BodyIsWritten b →
    Gives (λ d. HasLocals body d.progress → IsAmong d.progress.met met →
    AreTyped program body (next_number pr) (next_number d.progress))
    (statements p k returning j s pr b)
