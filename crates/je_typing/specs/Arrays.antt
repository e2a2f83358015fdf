-- Arrays (JLS 10, 15.10, 15.13): an element, a length, and the making of arrays.
use Rattle.std.specs.Prelude.{ℕ, ◌+◌, Bool, false, ◌&&◌, List, [], ◌∷◌, ◌++◌, length, Option, Some, None, nat_le, if◌then◌else◌}
use Rattle.je_base.specs.declared.span.Span.{Span}
use Rattle.je_core.specs.declared.types.Base.{Base}
use Rattle.je_core.specs.declared.types.Base.TheVariants as base
use Rattle.je_core.specs.Core.{Core, Index, Length, NewArray, ArrayOf, node, cores}
use Rattle.je_scopes.specs.SourceTypes.{SourceType, with_dims}
use Rattle.source_types.specs.Erasure.{erased}
use Rattle.source_types.specs.Heads.{ClassHead}
use Rattle.je_typing.specs.declared.fault.TypeRule.TheVariants.{BadIndex, BadArray}
use Rattle.je_typing.specs.Casts.{is_reifiable}
use Rattle.je_typing.specs.Conditionals.{is_int_base}
use Rattle.je_typing.specs.Conversions.{assigned, converted}
use Rattle.je_typing.specs.Judged.{Judged, gives, ◌>>=◌, ◌>>◌, check, need}
use Rattle.je_typing.specs.Promotion.{promoted}
use Rattle.je_typing.specs.Typed.{TypedNode, typed_as, element_type}

-- ---- an index or a length, which is promoted to int

abbrev pub is_int_if : Option Base → Bool
is_int_if None = false
is_int_if (Some b) = is_int_base b

unfoldable pub int_index : Span → TypedNode → Judged Core
int_index span index = do
  check BadIndex span (is_int_if (promoted index.type))
  gives (converted base.Int index.node)

-- ---- `a[i]` (JLS 15.13); the indexed part stands first

abbrev pub element_node : List ClassHead → SourceType → Span → Core → Core → TypedNode
element_node heads t span array index = record { node = node (Index array index) (erased heads t) span span; type = t }

unfoldable pub element : List ClassHead → Span → Span → Span → TypedNode → TypedNode → Judged TypedNode
element heads array_span index_span span array index = do
  t ← need BadIndex array_span (element_type array.type)
  i ← int_index index_span index
  gives (element_node heads t span array.node i)

-- ---- `a.length` (JLS 10.7), where the type has elements; the name has the span `at`
abbrev pub length_of : Span → Span → Core → TypedNode
length_of at span array = typed_as base.Int (Length array) span at

-- ---- what is written: a part, and its span with brackets
pub record Part : Type 0 where
  pub value : TypedNode
  pub span : Span

-- ---- `new A[e]..[]..` (JLS 15.10)

-- the lengths, after those so far
unfoldable pub lengths_from : List Core → List Part → Judged (List Core)
lengths_from done [] = gives done
lengths_from done (p ∷ ps) = do
  n ← int_index p.span p.value
  lengths_from (done ++ n ∷ []) ps

-- an array type that may be made: no type variable and no generic class is its element's type, and it has at most 255
-- dimensions (JVMS 4.3.2)
abbrev pub may_be_made : List ClassHead → SourceType → ℕ → Bool
may_be_made heads t dims = is_reifiable heads t && nat_le dims 255

-- the type of the array, by that of its innermost elements, at whose span the fault stands
unfoldable pub array_type : List ClassHead → SourceType → ℕ → Span → Judged SourceType
array_type heads t dims span = do
  check BadArray span (may_be_made heads t dims)
  gives (with_dims t dims)

abbrev pub array_node : List ClassHead → SourceType → Span → List Core → TypedNode
array_node heads t span lengths = record { node = node (NewArray (cores lengths)) (erased heads t) span span; type = t }

-- `dims` bracket pairs stand behind the lengths
unfoldable pub new_array : List ClassHead → SourceType → ℕ → Span → Span → List Part → Judged TypedNode
new_array heads element dims element_span span parts = do
  lengths ← lengths_from [] parts
  t ← array_type heads element (length parts + dims) element_span
  gives (array_node heads t span lengths)

-- ---- an array initializer for a type (JLS 10.6)

-- the elements, after those so far
unfoldable pub elements_from : List ClassHead → SourceType → List Core → List Part → Judged (List Core)
elements_from heads t done [] = gives done
elements_from heads t done (p ∷ ps) = do
  n ← assigned heads t p.span p.value
  elements_from heads t (done ++ n ∷ []) ps

-- the type of the elements, where an array of them may be made
abbrev pub initialized : List ClassHead → SourceType → Option SourceType → Option SourceType
initialized heads t None = None
initialized heads t (Some element) = if is_reifiable heads t then Some element else None

abbrev pub elements_node : List ClassHead → SourceType → Span → List Core → TypedNode
elements_node heads t span values = record { node = node (ArrayOf (cores values)) (erased heads t) span span; type = t }

-- its elements are judged by the type of the elements first, where there is one
abbrev pub elements_if : List ClassHead → Option SourceType → List Part → Judged (List Core)
elements_if heads None parts = gives []
elements_if heads (Some t) parts = elements_from heads t [] parts

unfoldable pub array_of : List ClassHead → SourceType → Span → List Part → Judged TypedNode
array_of heads t span parts = do
  values ← elements_if heads (element_type t) parts
  element ← need BadArray span (initialized heads t (element_type t))
  gives (elements_node heads t span values)
