-- Parts of worked rows: places, values, locals, and a few classes.
use Rattle.std.specs.Prelude.{ℕ, ℤ, Bool, true, false, List, [], ◌∷◌, replicate, ◌++◌}
use Rattle.je_base.specs.declared.span.Span.{Span}
use Rattle.je_core.specs.declared.types.Base.{Base}
use Rattle.je_core.specs.declared.types.Base.TheVariants as base
use Rattle.je_core.specs.declared.types.Ty.{Ty}
use Rattle.je_core.specs.declared.value.Value.{Value}
use Rattle.je_core.specs.declared.value.Value.TheVariants as value
use Rattle.je_core.specs.Core.{Core, Const, Text, Local, node}
use Rattle.je_fitting.specs.Types.{of}
use Rattle.source_types.specs.Erasure.{erased}
use Rattle.source_types.specs.Heads.{ClassHead, object_type}
use Rattle.je_core.specs.declared.program.Sort.{Sort}
use Rattle.je_core.specs.declared.program.Sort.TheVariants.{Class, Interface}
use Rattle.je_scopes.specs.SourceTypes.{SourceType, of_class, no_source_types, more_source_types}
use Rattle.je_typing.specs.Typed.{TypedNode, typed_as, typed_text}

abbrev pub at : ℕ → ℕ → Span
at start end = record { file = 0; start = start; end = end }

abbrev pub left : Span
left = at 0 1

abbrev pub token : Span
token = at 2 3

abbrev pub right : Span
right = at 4 5

abbrev pub whole : Span
whole = at 0 5

-- ---- nodes

abbrev pub const : Base → Value → Span → Core
const b v span = node (Const v []) (of b) span span

abbrev pub int : ℤ → Span → TypedNode
int z span = typed_as base.Int (Const (value.Int z) []) span span

abbrev pub long : ℤ → Span → TypedNode
long z span = typed_as base.Long (Const (value.Long z) []) span span

abbrev pub char : ℕ → Span → TypedNode
char n span = typed_as base.Char (Const (value.Char n) []) span span

abbrev pub truth : Bool → Span → TypedNode
truth b span = typed_as base.Bool (Const (value.Bool b) []) span span

abbrev pub null : Span → TypedNode
null span = typed_as base.Null (Const value.Null []) span span

abbrev pub text : List ℕ → Span → TypedNode
text units span = typed_text (Text units []) span span

abbrev pub local_node : ℕ → Ty → Span → Core
local_node n ty span = node (Local n) ty span span

-- a local of a primitive type
abbrev pub variable : Base → ℕ → Span → TypedNode
variable b n span = typed_as b (Local n) span span

abbrev pub string_variable : ℕ → Span → TypedNode
string_variable n span = typed_text (Local n) span span

-- ---- behind classes of the library: class A {}; class B extends A {}; interface R {}; final class F {}; class G<T> {}; class H extends G<B> {}

abbrev pub class_of : ℕ → SourceType
class_of c = of_class c no_source_types 0

abbrev pub a : SourceType
a = class_of 50

abbrev pub b : SourceType
b = class_of 51

abbrev pub r : SourceType
r = class_of 52

abbrev pub f : SourceType
f = class_of 53

abbrev pub g : SourceType → SourceType
g t = of_class 54 (more_source_types t no_source_types) 0

abbrev pub h : SourceType
h = class_of 55

abbrev pub head : Sort → Bool → List SourceType → List SourceType → ClassHead
head sort is_final bounds supers = record { kind = record { sort = sort; is_abstract = false; is_final = is_final; is_static = false }; bounds = bounds; supers = supers }

abbrev pub heads : List ClassHead
heads =
    replicate 50 (head Class false [] [])
    ++ head Class false [] (object_type ∷ [])
    ∷ head Class false [] (a ∷ [])
    ∷ head Interface false [] []
    ∷ head Class true [] (object_type ∷ [])
    ∷ head Class false (object_type ∷ []) (object_type ∷ [])
    ∷ head Class false [] (g b ∷ [])
    ∷ []

-- a local of a class
abbrev pub of_type : SourceType → ℕ → Span → TypedNode
of_type t n span = record { node = node (Local n) (erased heads t) span span; type = t }
