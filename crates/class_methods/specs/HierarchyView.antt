-- What contracts see of what all classes have.
use Rattle.std.specs.Prelude.{◌≡◌, ℕ, List, length}
use Rattle.source_types.specs.Heads.{ClassHead}
use Rattle.declarations.specs.Declarations.{DeclaredClass}
use Rattle.overriding.specs.Methods.{Method, has_within}
use Rattle.class_methods.specs.declared.hierarchy.Hierarchy.{Hierarchy}
use Rattle.class_methods.specs.View.{table_seen}
use Rattle.class_methods.specs.way.Parts.{in_table}

unfoldable pub methods_in : Hierarchy → ℕ → List Method
methods_in h c = in_table (table_seen h.table.items) c

-- each class has in it what it has
pub record HasAll (heads : List ClassHead) (classes : List DeclaredClass) (h : Hierarchy) : Type 0 where
  pub each : (c : ℕ) → methods_in h c ≡ has_within heads classes (length classes) c
