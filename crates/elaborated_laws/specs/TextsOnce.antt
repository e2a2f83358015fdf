-- When the constant strings of a class's code stand among texts, each once.
use Rattle.std.specs.Prelude.{◌≡◌, ℕ, true, List, Some}
use Rattle.je_core.specs.Core.{CoreClass, CoreField, CoreInitializer, CoreMethod, CoreStmt}
use Rattle.je_classes.specs.Members.{In}
use Rattle.plain_programs.specs.Nodes.{every_expression, every_value}
use Rattle.typing_laws.specs.Fitting.{stands_once}

pub record TextsStandOnce (texts : List (List ℕ)) (class : CoreClass) : Type 0 where
  pub fields : (f : CoreField) → In class.fields f → every_value (stands_once texts) f.constant ≡ true
  pub initializers : (i : CoreInitializer) → In class.initializers i →
      every_expression (stands_once texts) i.body ≡ true
  pub methods : (m : CoreMethod) (s : CoreStmt) → In class.methods m → m.body ≡ Some s →
      every_expression (stands_once texts) s ≡ true
