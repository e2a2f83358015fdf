-- `this`, and the instances round it (JLS 8.1.3, 15.8.3, 15.8.4).
use Rattle.std.specs.Prelude.{ℕ, zero, suc, Bool, true, false, ◌&&◌, List, [], ◌∷◌, Option, Some, None, nat_eq, if◌then◌else◌}
use Rattle.je_base.specs.declared.span.Span.{Span}
use Rattle.je_core.specs.declared.types.Base.TheVariants as base
use Rattle.je_core.specs.declared.types.Ty.{Ty}
use Rattle.je_core.specs.Core.{Core, Field, This, node}
use Rattle.je_fitting.specs.Types.{of}
use Rattle.je_scopes.specs.Sites.{Context, instance}
use Rattle.source_types.specs.Erasure.{class_numbered}
use Rattle.header_typing.specs.Supers.{own_type}
use Rattle.je_typing.specs.declared.fault.TypeRule.TheVariants.{UnknownName, StaticContext}
use Rattle.je_typing.specs.Judged.{Judged, gives, ◌>>=◌, ◌>>◌, check, need}
use Rattle.je_typing.specs.Typed.{TypedNode}
use Rattle.name_typing.specs.Program.{Program, Frame, Place, frames}

-- neither in a static context nor in the arguments of an explicit constructor call (JLS 8.8.7.1)
abbrev pub is_instance : Context → Bool
is_instance instance = true
is_instance _ = false

-- whether there is a current object of the class so many classes outwards: there is one in each body on the way
abbrev pub has_instance : ℕ → List Frame → Bool
has_instance n [] = false
has_instance zero (f ∷ fs) = is_instance f.context
has_instance (suc n) (f ∷ fs) = is_instance f.context && has_instance n fs

abbrev pub ty_of_class : ℕ → Ty
ty_of_class c = of (base.Class (class_numbered c))

abbrev pub this_node : Place → Span → Core
this_node place at = node This (ty_of_class place.here.class) at at

-- from an instance of a class so many classes outwards, field by field
abbrev pub outwards_from : Program → Span → Core → ℕ → ℕ → List Frame → Core
outwards_from p at object c (suc n) (f ∷ fs) =
    outwards_from p at (node (Field object (class_numbered c) (p.outer c)) (ty_of_class f.class) at at) f.class n fs
outwards_from p at object c n fs = object

-- the instance of the class so many classes outwards
abbrev pub instance_node : Program → Place → ℕ → Span → Core
instance_node p place n at = outwards_from p at (this_node place at) place.here.class n place.round

-- ---- JLS 15.8.3

abbrev pub typed_this : Program → Place → Span → TypedNode
typed_this p place at = record { node = this_node place at; type = own_type p.heads place.here.class }

unfoldable pub this : Program → Place → Span → Judged TypedNode
this p place word = do
  check StaticContext word (is_instance place.here.context)
  gives (typed_this p place word)

-- ---- JLS 15.8.4: `C.this`, by the class that is named

abbrev pub steps_from : ℕ → ℕ → List Frame → Option ℕ
steps_from n c [] = None
steps_from n c (f ∷ fs) = if nat_eq f.class c then Some n else steps_from (suc n) c fs

-- how many classes outwards a class stands
abbrev pub steps_to : ℕ → Place → Option ℕ
steps_to c place = steps_from 0 c (frames place)

abbrev pub typed_outer : Program → Place → ℕ → ℕ → Span → TypedNode
typed_outer p place c n at = record { node = instance_node p place n at; type = own_type p.heads c }

unfoldable pub outer_this : Program → Place → ℕ → Span → Span → Judged TypedNode
outer_this p place c name_span word = do
  n ← need UnknownName name_span (steps_to c place)
  check StaticContext word (has_instance n (frames place))
  gives (typed_outer p place c n word)
