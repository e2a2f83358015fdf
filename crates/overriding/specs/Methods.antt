-- The methods that a class has: those that it declares, and those that it inherits (JLS 8.4.2, 8.4.8, 9.2, 9.4.1).
use Rattle.std.specs.Prelude.{ℕ, zero, suc, Bool, true, false, not, ◌&&◌, ◌||◌, List, [], ◌∷◌, ◌++◌, map, filter, length, Option, Some, None, slice_get, nat_eq, if◌then◌else◌}
use Rattle.std.specs.List.{list_any, flat_map}
use Rattle.je_base.specs.declared.span.NameId.{NameId}
use Rattle.je_core.specs.declared.program.Access.{Access}
use Rattle.je_core.specs.declared.program.Access.TheVariants as access
use Rattle.je_core.specs.declared.types.Base.{Base}
use Rattle.je_core.specs.declared.types.Base.TheVariants as base
use Rattle.je_scopes.specs.Headers.{same_name}
use Rattle.je_scopes.specs.SourceTypes.{SourceType, plain, of_class, no_source_types, same_source_type}
use Rattle.source_types.specs.Erasure.{erased}
use Rattle.source_types.specs.Heads.{ClassHead, supers_of, object_type}
use Rattle.source_types.specs.Substitution.{substituted}
use Rattle.source_types.specs.Supertypes.{supertypes}
use Rattle.je_typing.specs.Castable.{is_interface}
use Rattle.declarations.specs.Declarations.{DeclaredClass, DeclaredMethod}
use Rattle.header_typing.specs.Supers.{own_type}

-- A method as a class sees it: which one it is, by the class that declares it and its place there, and its types with the
-- class's type arguments put in.
pub record Method : Type 0 where
  pub holder : ℕ
  pub place : ℕ
  pub declared : DeclaredMethod
  pub parameters : List SourceType
  pub result : SourceType
  pub throws : List SourceType
  pub is_abstract : Bool

-- ---- what a class declares, constructors aside

abbrev pub methods_in : Option DeclaredClass → List DeclaredMethod
methods_in None = []
methods_in (Some d) = d.methods

abbrev pub own_method : ℕ → ℕ → DeclaredMethod → Method
own_method c at m = record {
  holder = c;
  place = at;
  declared = m;
  parameters = m.parameters;
  result = m.result;
  throws = m.throws;
  is_abstract = m.flags.is_abstract;
}

abbrev pub own_from : ℕ → ℕ → List DeclaredMethod → List Method
own_from c at [] = []
own_from c at (m ∷ ms) = if m.is_constructor then own_from c (suc at) ms else own_method c at m ∷ own_from c (suc at) ms

abbrev pub own : List DeclaredClass → ℕ → List Method
own classes c = own_from c 0 (methods_in (slice_get classes c))

-- ---- the same method

abbrev pub name_of : Method → NameId
name_of m = m.declared.name.name

abbrev pub is_same : Method → Method → Bool
is_same m n = nat_eq m.holder n.holder && nat_eq m.place n.place

abbrev pub has_method : List Method → Method → Bool
has_method ms m = list_any (is_same m) ms

-- ---- signatures (JLS 8.4.2)

abbrev pub are_same_types : List SourceType → List SourceType → Bool
are_same_types [] [] = true
are_same_types (t ∷ ts) (u ∷ us) = same_source_type t u && are_same_types ts us
are_same_types _ _ = false

-- a type without type arguments as a type of a source
abbrev pub unbounded : Base → ℕ → SourceType
unbounded (base.Class c) n = of_class c.0 no_source_types n
unbounded b n = plain b n

abbrev pub erasure : List ClassHead → SourceType → SourceType
erasure heads t = unbounded (erased heads t).base (erased heads t).dims

abbrev pub have_one_name : Method → Method → Bool
have_one_name m n = same_name (name_of m) (name_of n)

abbrev pub have_one_signature : Method → Method → Bool
have_one_signature m n = have_one_name m n && are_same_types m.parameters n.parameters

-- its signature is the same, or the erasure of the other one's
abbrev pub is_subsignature : List ClassHead → Method → Method → Bool
is_subsignature heads m n = have_one_signature m n || (have_one_name m n && are_same_types m.parameters (map (erasure heads) n.parameters))

-- ---- seen from a class below

abbrev pub is_private : Access → Bool
is_private access.Private = true
is_private _ = false

-- all but private ones; those of packages other than the program's are public
abbrev pub is_inheritable : Method → Bool
is_inheritable m = not (is_private m.declared.flags.access)

abbrev pub put_in : SourceType → Method → Method
put_in (of_class c args n) m = record m {
  parameters = map (substituted c args) m.parameters;
  result = substituted c args m.result;
  throws = map (substituted c args) m.throws;
}
put_in t m = m

abbrev pub in_class_of : (ℕ → List Method) → SourceType → List Method
in_class_of f (of_class c args n) = f c
in_class_of f t = []

-- what a type's class has by this, with the type's arguments put in
abbrev pub seen_in : (ℕ → List Method) → SourceType → List Method
seen_in f t = map (put_in t) (filter is_inheritable (in_class_of f t))

-- ---- what a class overrides

-- An interface has the methods of Object, too, and without a body (JLS 9.2).
abbrev pub object_for : Bool → List SourceType
object_for is_interface = if is_interface then object_type ∷ [] else []

abbrev pub is_another_class : ℕ → SourceType → Bool
is_another_class c (of_class d args n) = not (nat_eq c d)
is_another_class c t = true

-- the types above a class
abbrev pub types_above : List ClassHead → ℕ → List SourceType
types_above heads c = filter (is_another_class c) (supertypes heads (own_type heads c)) ++ object_for (is_interface heads c)

-- the methods that classes above it declare
unfoldable pub methods_above : List ClassHead → List DeclaredClass → ℕ → List Method
methods_above heads classes c = flat_map (seen_in (own classes)) (types_above heads c)

-- A method that a class declares overrides, or where it is static hides, another one.
abbrev pub overrides : List ClassHead → List DeclaredClass → Method → Method → Bool
overrides heads classes m n =
    list_any (λ k. is_same k n && is_subsignature heads (own_method m.holder m.place m.declared) k) (methods_above heads classes m.holder)

-- ---- what a class inherits

abbrev pub joined : List Method → List Method → List Method
joined ms [] = ms
joined ms (n ∷ ns) = joined (if has_method ms n then ms else ms ++ n ∷ []) ns

-- those of all these, each once: as the first of them has it
abbrev pub joined_over : (SourceType → List Method) → List Method → List SourceType → List Method
joined_over f ms [] = ms
joined_over f ms (t ∷ ts) = joined_over f (joined ms (f t)) ts

abbrev pub is_empty : List SourceType → Bool
is_empty [] = true
is_empty (t ∷ ts) = false

-- the types directly above; of an interface that names none Object
abbrev pub inherited_from : List ClassHead → ℕ → List SourceType
inherited_from heads c = supers_of heads c ++ object_for (is_interface heads c && is_empty (supers_of heads c))

abbrev pub abstract_in : Bool → Method → Method
abstract_in is_interface m = record m { is_abstract = m.is_abstract || is_interface }

abbrev pub is_overridden : List ClassHead → List Method → Method → Bool
is_overridden heads ms n = list_any (λ m. is_subsignature heads m n) ms

-- of all methods that the classes directly above have, as this says of each
abbrev pub inherited_by : List ClassHead → List DeclaredClass → (ℕ → List Method) → ℕ → List Method
inherited_by heads classes f c =
    map (abstract_in (is_interface heads c))
    (filter (λ m. not (is_overridden heads (own classes c) m)) (joined_over (seen_in f) [] (inherited_from heads c)))

-- What a class has: its own methods, and of those that the classes directly above have all that it doesn't override itself (JLS
-- 8.4.8). No way upwards has more steps than there are classes.
abbrev pub has_within : List ClassHead → List DeclaredClass → ℕ → ℕ → List Method
has_within heads classes zero c = []
has_within heads classes (suc n) c = own classes c ++ inherited_by heads classes (has_within heads classes n) c

unfoldable pub inherited : List ClassHead → List DeclaredClass → ℕ → List Method
inherited heads classes c = inherited_by heads classes (has_within heads classes (length classes)) c
