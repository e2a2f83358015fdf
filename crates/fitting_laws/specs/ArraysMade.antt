-- The laws on the making of arrays (JLS 10.6, 15.10).
use Rattle.std.specs.Prelude.{◌≡◌, ℕ, ◌<◌, List, length}
use Rattle.je_base.specs.declared.span.Span.{Span}
use Rattle.je_core.specs.Core.{CoreProgram}
use Rattle.je_classes.specs.Members.{In}
use Rattle.je_fitting.specs.Expressions.{Body}
use Rattle.je_scopes.specs.SourceTypes.{SourceType}
use Rattle.source_types.specs.Subtypes.{dims_of}
use Rattle.source_types.specs.Heads.{ClassHead}
use Rattle.je_typing.specs.Arrays.{Part, array_of, new_array}
use Rattle.typing_laws.specs.Correspondence.{HasHeads}
use Rattle.typing_laws.specs.Fitting.{Gives}
use Rattle.fitting_laws.specs.Sound.{IsSound}
use Rattle.fitting_laws.specs.Values.{IsValue}

module _ (program : CoreProgram) (body : Body) (heads : List ClassHead) where
  abbrev pub PartsFit : List Part → Type 0
  PartsFit parts = (part : Part) → In parts part → IsValue program body heads part.value

  -- with lengths: one at least, and the type of the innermost elements has no dimensions
  abbrev pub NewArraysFit : Type 0
  NewArraysFit = (element : SourceType) (dims : ℕ) (element_span span : Span) (parts : List Part) →
      HasHeads program heads →
      IsSound program heads 255 element → dims_of element ≡ 0 → 0 < length parts → PartsFit parts →
      Gives (IsValue program body heads) (new_array heads element dims element_span span parts)

  -- with elements
  abbrev pub ArraysWithFit : Type 0
  ArraysWithFit = (t : SourceType) (span : Span) (parts : List Part) → HasHeads program heads →
      IsSound program heads 255 t → PartsFit parts →
      Gives (IsValue program body heads) (array_of heads t span parts)
