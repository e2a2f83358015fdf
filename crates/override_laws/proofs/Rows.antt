-- Premises that are met: in `class A<T> { T f(T t) } class B extends A<Object> { Object f(Object o) }` the method of B is without
-- fault, and the law says that it overrides that of A.
use Rattle.std.proofs.Common.{◌≡◌, refl}
use Rattle.std.specs.Prelude.{true, false, List, [], ◌∷◌}
use Rattle.je_base.specs.declared.span.Span.{Span}
use Rattle.je_core.specs.declared.program.Access.TheVariants as access
use Rattle.je_core.specs.declared.program.Kind.{Kind}
use Rattle.je_core.specs.declared.program.Sort.TheVariants as sort
use Rattle.je_classes.specs.Hierarchy.{library_class, object_class}
use Rattle.je_classes.specs.Members.{In, first}
use Rattle.je_scopes.specs.SourceTypes.{SourceType, of_class, of_variable, source_types}
use Rattle.source_types.specs.Erasure.{erased}
use Rattle.source_types.specs.Heads.{ClassHead, object_type}
use Rattle.source_types.specs.Subtypes.{is_subtype}
use Rattle.source_types.specs.Supertypes.{supertypes}
use Rattle.declarations.specs.Declarations.{DeclaredClass, DeclaredMethod}
use Rattle.je_typing.specs.Judged.{check}
use Rattle.overriding.specs.Methods.{Method, is_subsignature, methods_above, own_method, put_in}
use Rattle.overriding.specs.Overrides.{good_override, may_override, no_clash, have_one_erasure}
use Rattle.override_laws.specs.Laws.{IsGood}
use Rattle.override_laws.proofs.Erasures.{one_erasure_overrides}

abbrev kind : Kind
kind = record { sort = sort.Class; is_abstract = false; is_final = false; is_static = false }

-- Object is 0, A is 1, B is 2
abbrev heads : List ClassHead
heads =
    record { kind = kind; bounds = []; supers = [] } ∷
    record { kind = kind; bounds = object_type ∷ []; supers = object_type ∷ [] } ∷
    record { kind = kind; bounds = []; supers = of_class 1 (source_types (object_type ∷ [])) 0 ∷ [] } ∷
    []

abbrev at : Span
at = record { file = 0; start = 0; end = 1 }

-- `t f(t x)`
abbrev f : SourceType → DeclaredMethod
f t = record {
  name = record { name = record { 0 = 0 }; span = at };
  is_constructor = false;
  parameters = t ∷ [];
  result = t;
  throws = [];
  flags = record { is_static = false; is_final = false; is_abstract = false; is_native = false; is_finalizer = false; access = access.Public };
}

abbrev class_of : List DeclaredMethod → DeclaredClass
class_of ms = record { kind = kind; access = access.Public; parameters = []; heads = []; fields = []; methods = ms }

abbrev classes : List DeclaredClass
classes = class_of [] ∷ class_of (f (of_variable 1 0 0) ∷ []) ∷ class_of (f object_type ∷ []) ∷ []

-- the method of B, and that of A as B sees it
abbrev mine : Method
mine = own_method 2 0 (f object_type)

abbrev theirs : Method
theirs = put_in (of_class 1 (source_types (object_type ∷ [])) 0) (own_method 1 0 (f (of_variable 1 0 0)))

good : IsGood heads classes mine
unfolding good_override no_clash may_override methods_above check erased is_subtype supertypes object_class library_class
good = record { overrides = refl; clashes = refl }

is-above : In (methods_above heads classes 2) theirs
unfolding methods_above supertypes object_class library_class
is-above = first

one-erasure : have_one_erasure heads mine.declared theirs.declared ≡ true
unfolding erased object_class library_class
one-erasure = refl

overrides-it : (is_subsignature heads mine theirs ≡ true) × (may_override heads mine theirs ≡ true)
overrides-it = one_erasure_overrides heads classes mine theirs good is-above one-erasure
