-- The code of a class of a core program, when it fits.
use Rattle.std.specs.Prelude.{◌≡◌, true, length, take, Option, Some, is_some}
use Rattle.je_core.specs.declared.types.ClassId.{ClassId}
use Rattle.je_core.specs.Core.{CoreClass, CoreInitializer, CoreMethod, CoreProgram, CoreStmt}
use Rattle.je_classes.specs.Members.{In}
use Rattle.je_fitting.specs.Members.{AreVariables, BodyFits, body_of, initializer_body, local_types}
use Rattle.je_fitting.specs.Statements.{StatementFits, no_targets}

-- Initializers fit, and so do bodies, where parameters are the first locals. Locals and parameters have types of
-- variables (JLS 8.4, 8.6, 8.7, 8.8, 14.4).
pub record ClassCodeFits (program : CoreProgram) (class : ClassId) (c : CoreClass) (superclass : Option ClassId)
    : Type 0 where
  pub initializers : (i : CoreInitializer) → In c.initializers i →
      StatementFits program (initializer_body class i) no_targets i.body
  pub initializer_locals : (i : CoreInitializer) → In c.initializers i → AreVariables program (local_types i.locals)
  pub params : (m : CoreMethod) → In c.methods m → AreVariables program m.params
  pub locals : (m : CoreMethod) → In c.methods m → AreVariables program (local_types m.locals)
  pub first_locals : (m : CoreMethod) → In c.methods m → is_some m.body ≡ true →
      take (length m.params) (local_types m.locals) ≡ m.params
  pub bodies : (m : CoreMethod) (s : CoreStmt) → In c.methods m → m.body ≡ Some s →
      BodyFits program (body_of program class m) superclass s
