-- When the code of members fits, whatever constant strings the program will have, among which its own stand once.
use Rattle.std.specs.Prelude.{◌≡◌, ℕ, true, List, length, take, Option, Some, is_some}
use Rattle.je_core.specs.declared.types.ClassId.{ClassId}
use Rattle.je_core.specs.Core.{CoreInitializer, CoreMethod, CoreProgram, CoreStmt}
use Rattle.je_classes.specs.Members.{In}
use Rattle.je_fitting.specs.Members.{AreVariables, BodyFits, body_of, initializer_body, local_types}
use Rattle.je_fitting.specs.Statements.{StatementFits, no_targets}
use Rattle.plain_programs.specs.Nodes.{every_expression}
use Rattle.class_typing.specs.Members.{MembersDone}
use Rattle.typing_laws.specs.Fitting.{stands_once, with_texts}

module _ (program : CoreProgram) (class : ClassId) where
  -- JLS 8.3.2, 8.6, 8.7
  pub record InitializerCodeFits (i : CoreInitializer) : Type 0 where
    pub locals : AreVariables program (local_types i.locals)
    pub body : (texts : List (List ℕ)) → every_expression (stands_once texts) i.body ≡ true →
        StatementFits (with_texts program texts) (initializer_body class i) no_targets i.body

  -- JLS 8.4, 8.8: the parameters are the first locals, and the body fits
  pub record MethodCodeFits (superclass : Option ClassId) (m : CoreMethod) : Type 0 where
    pub params : AreVariables program m.params
    pub locals : AreVariables program (local_types m.locals)
    pub first_locals : is_some m.body ≡ true → take (length m.params) (local_types m.locals) ≡ m.params
    pub body : (s : CoreStmt) → m.body ≡ Some s → (texts : List (List ℕ)) →
        every_expression (stands_once texts) s ≡ true →
        BodyFits (with_texts program texts) (body_of program class m) superclass s

  pub record CodeFits (superclass : Option ClassId) (d : MembersDone) : Type 0 where
    pub initializers : (i : CoreInitializer) → In d.initializers i → InitializerCodeFits i
    pub methods : (m : CoreMethod) → In d.methods m → MethodCodeFits superclass m
