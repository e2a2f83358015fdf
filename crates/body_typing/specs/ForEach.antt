-- The enhanced `for` over an array (JLS 14.14.2): the array and an index stand in locals that no source names.
use Rattle.std.specs.Prelude.{ℕ, pos, ◌+◌, false, List, [], ◌∷◌}
use Rattle.je_base.specs.declared.span.Span.{Span}
use Rattle.je_core.specs.declared.expr.BinOp.TheVariants.{Add, Lt}
use Rattle.je_core.specs.declared.types.Base.TheVariants as base
use Rattle.je_core.specs.declared.value.Value.TheVariants as value
use Rattle.je_core.specs.Core.{Core, CoreForm, CoreStmt, Assign, Binary, Block, Const, Length, Local, Loop, Update, core_stmts, no_core, node, stmt}
use Rattle.je_core.specs.declared.types.Ty.{Ty}
use Rattle.je_fitting.specs.Types.{of}
use Rattle.je_scopes.specs.SourceTypes.{SourceType}
use Rattle.source_types.specs.Erasure.{erased}
use Rattle.source_types.specs.Heads.{ClassHead}
use Rattle.je_typing.specs.Arrays.{element_node}
use Rattle.je_typing.specs.Typed.{TypedNode}
use Rattle.body_typing.specs.Bodies.{performed}

-- the node of the array, whose span all that isn't written has, and the number of its local; those of the index and
-- of the variable come next
module _ (heads : List ClassHead) (span : Span) (array : TypedNode) (n : ℕ) where
  abbrev pub hidden_node : CoreForm → Ty → Core
  hidden_node form ty = node form ty span span

  abbrev pub array_local : Core
  array_local = hidden_node (Local n) (erased heads array.type)

  abbrev pub index_local : Core
  index_local = hidden_node (Local (n + 1)) (of base.Int)

  abbrev pub is_within : Core
  is_within = hidden_node (Binary Lt index_local (hidden_node (Length array_local) (of base.Int))) (of base.Bool)

  abbrev pub element : SourceType → TypedNode
  element t = element_node heads t span array_local index_local

  abbrev pub next_index : Core
  next_index = hidden_node (Update index_local Add no_core false) (of base.Int)

  -- the array and the index get their values
  abbrev pub begins : Span → List CoreStmt
  begins word =
      performed word (hidden_node (Assign array_local array.node) (erased heads array.type))
      ∷ performed word (hidden_node (Assign index_local (hidden_node (Const (value.Int (pos 0)) []) (of base.Int)))
      (of base.Int))
      ∷ []

  -- the loop, in whose body the variable, a local of a type at its name, first gets an element that is converted to
  -- that type
  abbrev pub variable_assigned : SourceType → Span → Core → Core
  variable_assigned t at from = node (Assign (node (Local (n + 2)) (erased heads t) at at) from) (erased heads t) at at

  abbrev pub turns : Span → SourceType → Span → Core → CoreStmt → CoreStmt
  turns word t at from body =
      stmt (Loop is_within (next_index ∷ [])
      (stmt (Block ((n + 2) ∷ []) (core_stmts (performed word (variable_assigned t at from) ∷ body ∷ []))) word
      word)) word word
