-- Which class or type variable a name means at a place, over what is known of headers (JLS 6.3, 6.5.4, 6.5.5, 8.1.2, 8.5).
use Rattle.std.specs.Prelude.{ℕ, zero, suc, Bool, true, false, ◌&&◌, ◌||◌, not, List, [], ◌∷◌, ◌++◌, length, Option, Some, None, slice_get, nat_eq, if◌then◌else◌}
use Rattle.je_base.specs.declared.span.NameId.{NameId}
use Rattle.je_ast.specs.declared.name.Identifier.{Identifier}
use Rattle.je_ast.specs.Types.{QualifiedName, TypeParameter}
use Rattle.je_scopes.specs.Sites.{Context, static, Site}
use Rattle.je_scopes.specs.Headers.{site_at, name_in, parameters_in, is_local_sort, is_private, within, top_of, same_name, has_name}
use Rattle.je_scopes.specs.Looks.{Look, waits, nothing, a_class, a_variable, unclear, found, joined_over, or_further, class_found}
use Rattle.je_scopes.specs.Source.{Source, library_class, implicit_class}

-- Of each class the classes that its header names as above it; None while that isn't known.
abbrev pub Known : Type 0
Known = ℕ → Option (List ℕ)

-- the part of a class that a name stands in: its header, in which its members aren't in scope, a member, or a static member
pub data Part : Type 0 where
  header : Part
  member : Part
  static_member : Part

-- ---- member classes

abbrev pub same_place : Option ℕ → Option ℕ → Bool
same_place None None = true
same_place (Some c) (Some d) = nat_eq c d
same_place _ _ = false

-- whether a class is a member class of a class, or one at the top, under a name
abbrev pub is_declared : Option ℕ → NameId → Site → Bool
is_declared place x s = has_name (name_in s.written) x && same_place (within s) place && not (is_local_sort s.sort)

abbrev pub first_declared : ℕ → List Site → Option ℕ → NameId → Option ℕ
first_declared n [] place x = None
first_declared n (s ∷ ss) place x = if is_declared place x s then Some n else first_declared (suc n) ss place x

-- the class that a class declares as a member, or that stands at the top, under a name; the first, where there are several
abbrev pub declared : Source → Option ℕ → NameId → Look
declared p place x = found (first_declared 0 p.sites place x)

-- private members aren't inherited (JLS 8.5)
abbrev pub inheritable : Source → Look → Look
inheritable p (a_class c) = if is_private (site_at p.sites c) then nothing else a_class c
inheritable p a = a

abbrev pub from_supers : (ℕ → Look) → Option (List ℕ) → Look
from_supers f None = waits
from_supers f (Some supers) = joined_over f supers

-- The member class of a class under a name is the one that it declares, or else what it inherits. No chain of supers has
-- more classes than there are.
abbrev pub member_within : Source → Known → ℕ → NameId → ℕ → Look
member_within p known zero x c = nothing
member_within p known (suc n) x c = or_further (declared p (Some c) x) (from_supers (λ d. inheritable p (member_within p known n x d)) (known c))

abbrev pub member_class : Source → Known → NameId → ℕ → Look
member_class p known x c = member_within p known (length p.sites) x c

-- what a class inherits under a name, where it declares none
abbrev pub inherited : Source → Known → NameId → ℕ → Look
inherited p known x c = from_supers (λ d. inheritable p (member_class p known x d)) (known c)

-- ---- type variables

abbrev pub place_of_parameter : ℕ → List TypeParameter → NameId → Option ℕ
place_of_parameter n [] x = None
place_of_parameter n (q ∷ qs) x = if same_name q.name.name x then Some n else place_of_parameter (suc n) qs x

-- a type variable of a class means nothing in its static members (JLS 8.1.2)
abbrev pub variable_for : ℕ → Part → Option ℕ → Look
variable_for c part None = nothing
variable_for c static_member (Some at) = unclear
variable_for c part (Some at) = a_variable c at

abbrev pub variable_named : Source → ℕ → Part → NameId → Look
variable_named p c part x = variable_for c part (place_of_parameter 0 (parameters_in (site_at p.sites c).written) x)

-- ---- scopes

-- What a class has under a name: the member class that it declares, or else a type variable, or else what it inherits.
-- In its header its members aren't in scope.
abbrev pub in_class : Source → Known → NameId → Part → ℕ → Look
in_class p known x header c = variable_named p c header x
in_class p known x part c = or_further (declared p (Some c) x) (or_further (variable_named p c part x) (inherited p known x c))

abbrev pub first_named : Source → NameId → List ℕ → Look
first_named p x [] = nothing
first_named p x (c ∷ cs) = if has_name (name_in (site_at p.sites c).written) x then a_class c else first_named p x cs

-- what a class has, or else the nearest local class that is in scope where it stands (JLS 14.3)
abbrev pub nearest : Source → Known → NameId → Part → ℕ → Look
nearest p known x part c = or_further (in_class p known x part c) (first_named p x (site_at p.sites c).spot.locals)

abbrev pub last_part : List Identifier → Option Identifier
last_part [] = None
last_part (i ∷ []) = Some i
last_part (i ∷ is) = last_part is

abbrev pub is_last_part : NameId → Option Identifier → Bool
is_last_part x None = false
is_last_part x (Some i) = same_name i.name x

-- the first import of a simple name that names a class of the library in full (JLS 7.5.1)
abbrev pub first_import : List (List ℕ) → NameId → List QualifiedName → Look
first_import texts x [] = nothing
first_import texts x (q ∷ qs) = if is_last_part x (last_part q.parts) then or_further (found (library_class texts q.parts)) (first_import texts x qs) else first_import texts x qs

abbrev pub or_no_imports : Option (List QualifiedName) → List QualifiedName
or_no_imports None = []
or_no_imports (Some qs) = qs

-- an import of the unit, or else a class at the top of any unit, or else one of `java.lang`
abbrev pub at_top : Source → ℕ → NameId → Look
at_top p unit x = or_further (first_import p.texts x (or_no_imports (slice_get p.imports unit))) (or_further (declared p None x) (found (implicit_class p.texts x)))

abbrev pub is_static_part : Part → Bool
is_static_part static_member = true
is_static_part _ = false

abbrev pub is_static_context : Context → Bool
is_static_context static = true
is_static_context _ = false

-- where a class stands in the class round it: what is in a static member stays so further out
abbrev pub part_outside : Part → Context → Part
part_outside part context = if is_static_part part || is_static_context context then static_member else member

-- what the nearest class or block has, of the class itself and of those round it, or else the top
abbrev pub outwards : Source → Known → NameId → Part → ℕ → List ℕ → Look
outwards p known x part c [] = or_further (nearest p known x part c) (at_top p (site_at p.sites c).spot.unit x)
outwards p known x part c (d ∷ ds) = or_further (nearest p known x part c) (outwards p known x (part_outside part (site_at p.sites c).spot.context) d ds)

-- what a simple name means in a part of a class
abbrev pub in_scope : Source → Known → ℕ → Part → NameId → Look
in_scope p known c part x = outwards p known x part c (site_at p.sites c).spot.round

-- ---- qualified names

-- a type variable has no members
abbrev pub member_of : Source → Known → NameId → Look → Look
member_of p known x (a_class c) = member_class p known x c
member_of p known x (a_variable c at) = unclear
member_of p known x a = a

abbrev pub qualified : Source → Known → Look → List Identifier → Look
qualified p known look [] = look
qualified p known look (i ∷ is) = qualified p known (member_of p known i.name look) is

-- a name whose first part means nothing may be the full name of a class of the library
abbrev pub or_full_name : Source → List Identifier → Look → Look → Look
or_full_name p parts nothing otherwise = found (library_class p.texts parts)
or_full_name p parts first otherwise = otherwise

-- what a name means in a part of a class
abbrev pub meaning : Source → Known → ℕ → Part → List Identifier → Look
meaning p known c part [] = nothing
meaning p known c part (i ∷ is) = or_full_name p (i ∷ is) (in_scope p known c part i.name) (qualified p known (in_scope p known c part i.name) is)

abbrev pub named_on : Source → Known → Look → List Identifier → List ℕ
named_on p known look [] = class_found look
named_on p known look (i ∷ is) = class_found look ++ named_on p known (member_of p known i.name look) is

abbrev pub or_whole : Source → List Identifier → Look → List ℕ → List ℕ
or_whole p parts nothing otherwise = class_found (found (library_class p.texts parts))
or_whole p parts first otherwise = otherwise

-- the classes that it names: each part that is one, a qualifier too
abbrev pub named : Source → Known → ℕ → Part → List Identifier → List ℕ
named p known c part [] = []
named p known c part (i ∷ is) = or_whole p (i ∷ is) (in_scope p known c part i.name) (named_on p known (in_scope p known c part i.name) is)

-- ---- access

-- a private member class may be named in its top-level class alone (JLS 6.6.1)
abbrev pub is_accessible : Source → ℕ → ℕ → Bool
is_accessible p c d = not (is_private (site_at p.sites d)) || nat_eq (top_of p.sites c) (top_of p.sites d)
