-- What goes to a variable of a type fits where it stands, and is of the same primitive type or of a subtype.
use Rattle.std.specs.Prelude.{◌≡◌, ℕ, ◌≤◌, true, List}
use Rattle.je_base.specs.declared.span.Span.{Span}
use Rattle.je_core.specs.Core.{Core, CoreProgram, ty_of}
use Rattle.je_fitting.specs.Expressions.{Body, Fits}
use Rattle.je_fitting.specs.Types.{agrees}
use Rattle.je_scopes.specs.SourceTypes.{SourceType}
use Rattle.plain_programs.specs.Nodes.{every}
use Rattle.source_types.specs.Erasure.{erased}
use Rattle.source_types.specs.Heads.{ClassHead}
use Rattle.source_types.specs.Subtypes.{dims_of}
use Rattle.je_typing.specs.Conversions.{assigned}
use Rattle.je_typing.specs.Typed.{TypedNode}
use Rattle.typing_laws.specs.Correspondence.{HasHeads}
use Rattle.typing_laws.specs.Fitting.{FitsAs, Gives, stands_once, with_texts}

pub record PassesAs (program : CoreProgram) (body : Body) (heads : List ClassHead) (to : SourceType) (n : Core)
    : Type 0 where
  pub node : (texts : List (List ℕ)) → every (stands_once texts) n ≡ true → Fits (with_texts program texts) body n
  pub agree : (texts : List (List ℕ)) → agrees (with_texts program texts) (ty_of n) (erased heads to) ≡ true

-- JLS 5.2
abbrev pub AssignedValuesPass : Type 0
AssignedValuesPass = (p : CoreProgram) (body : Body) (heads : List ClassHead) (to : SourceType) (span : Span)
    (from : TypedNode) → HasHeads p heads → dims_of from.type ≤ 255 → dims_of to ≤ 255 → FitsAs p body heads from →
    Gives (PassesAs p body heads to) (assigned heads to span from)
