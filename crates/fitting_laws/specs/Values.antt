-- What a typed node is: a value, or a variable whose declared type may lie above the type that it has where it is
-- named.
use Rattle.std.specs.Prelude.{◌≡◌, true, ℕ, List}
use Rattle.je_core.specs.Core.{CoreProgram, ty_of}
use Rattle.je_fitting.specs.Expressions.{Body, Fits, are_there}
use Rattle.plain_programs.specs.Nodes.{every}
use Rattle.source_types.specs.Erasure.{erased}
use Rattle.source_types.specs.Heads.{ClassHead}
use Rattle.je_typing.specs.Constants.{uses_of}
use Rattle.je_typing.specs.Typed.{TypedNode}
use Rattle.typing_laws.specs.Fitting.{FitsAs, stands_once, with_texts}
use Rattle.fitting_laws.specs.Sound.{IsSound, IsType, SameOrBelow}

-- The node fits, and has the erasure of its type, which is sound.
pub record IsValue (program : CoreProgram) (body : Body) (heads : List ClassHead) (t : TypedNode) : Type 0 where
  pub fits : FitsAs program body heads t
  pub type : IsType program heads t.type

-- The node fits, and its type is the erasure of its type in the source, or above that (JLS 4.6).
pub record FitsBelow (program : CoreProgram) (body : Body) (heads : List ClassHead) (t : TypedNode) : Type 0 where
  pub node : (texts : List (List ℕ)) → every (stands_once texts) t.node ≡ true →
      Fits (with_texts program texts) body t.node
  pub uses : are_there program (uses_of t.node)
  pub below : SameOrBelow program (erased heads t.type) (ty_of t.node)
  pub type : IsSound program heads 255 t.type
