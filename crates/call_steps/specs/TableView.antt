-- What contracts see of the methods of all classes.
use Rattle.std.specs.Prelude.{◌≡◌, ℕ, List}
use Rattle.source_types.specs.Heads.{ClassHead}
use Rattle.declarations.specs.Declarations.{DeclaredClass}
use Rattle.overriding.specs.Methods.{Method}
use Rattle.overriding.specs.Overrides.{has_methods}
use Rattle.class_methods.specs.View.{table_seen}
use Rattle.class_methods.specs.way.Parts.{in_table}
use Rattle.call_steps.specs.declared.table.MethodTable.{MethodTable}

unfoldable pub methods_at : MethodTable → ℕ → List Method
methods_at t c = in_table (table_seen t.rows.items) c

-- it has of each class those that the class has
pub record HasMethods (heads : List ClassHead) (classes : List DeclaredClass) (t : MethodTable) : Type 0 where
  pub each : (c : ℕ) → methods_at t c ≡ has_methods heads classes c
