-- The faults of the names of a program, as the set of all of them: a number and a name's span each. The first fault is the
-- least of the set.
use Rattle.std.specs.Prelude.{ℕ, zero, suc, Bool, true, false, not, ◌&&◌, ◌||◌, List, [], ◌∷◌, ◌++◌, take, filter, length, Option, Some, None, is_some, slice_get, nat_eq, nat_lt, if◌then◌else◌}
use Rattle.std.specs.List.{list_any, list_all, flat_map}
use Rattle.std.specs.Str.{bytes_eq}
use Rattle.je_base.specs.declared.span.NameId.{NameId}
use Rattle.je_base.specs.declared.span.Span.{Span}
use Rattle.je_ast.specs.declared.name.Identifier.{Identifier}
use Rattle.je_ast.specs.Types.{QualifiedName, TypeName, TypeNames, primitive, class_type, no_types, more_types, TypeParameter, FormalParameter}
use Rattle.je_scopes.specs.Sites.{Site}
use Rattle.je_scopes.specs.Headers.{site_at, name_in, span_in, parameters_in, is_local_sort, within, same_name, has_name, is_guest}
use Rattle.je_scopes.specs.Looks.{Look, nothing, a_class, a_variable}
use Rattle.je_scopes.specs.Source.{Source, library_class}
use Rattle.je_scopes.specs.Scope.{Part, header, meaning, named, is_accessible, last_part, is_last_part, first_import, is_static_context}
use Rattle.je_scopes.specs.Settled.{settled, heads_of, parts_of, depends}
use Rattle.je_scopes.specs.BinaryNames.{binary_name}
use Rattle.je_scopes.specs.SourceTypes.{SourceType, of_variable, same_source_types, arity_of, count, source_type}
use Rattle.je_scopes.specs.Members.{FieldSite, MethodSite, fields_of, methods_of, field_part, method_part, parameter_types}

pub record Fault : Type 0 where
  pub number : ℕ
  pub span : Span

abbrev pub twice : Span → Fault
twice span = record { number = 1; span = span }

abbrev pub unknown : Span → Fault
unknown span = record { number = 2; span = span }

abbrev pub cycle : Span → Fault
cycle span = record { number = 3; span = span }

abbrev pub not_accessible : Span → Fault
not_accessible span = record { number = 4; span = span }

abbrev pub out_of_profile : Span → Fault
out_of_profile span = record { number = 5; span = span }

-- one fault, where the test holds
abbrev pub where_so : Bool → Fault → List Fault
where_so test fault = if test then fault ∷ [] else []

-- the numbers below one
abbrev pub below : ℕ → List ℕ
below zero = []
below (suc n) = below n ++ n ∷ []

-- ---- a name that is written in a part of a class, with so many type arguments

abbrev pub by_meaning : Source → Look → ℕ → Span → List Fault
by_meaning p (a_class c) arguments span = where_so (not (nat_eq arguments (arity_of p c))) (out_of_profile span)
by_meaning p (a_variable c at) arguments span = where_so (not (nat_eq arguments 0)) (out_of_profile span)
by_meaning p look arguments span = unknown span ∷ []

-- It means nothing, or no one thing; it names a class that isn't accessible there; or it has another number of type arguments
-- than the class takes (JLS 4.5, 4.8, 6.5.5, 6.6.1).
abbrev pub of_name : Source → ℕ → Part → QualifiedName → ℕ → List Fault
of_name p c part q arguments =
    where_so (not (list_all (is_accessible p c) (named p (settled p) c part q.parts))) (not_accessible q.span)
    ++ by_meaning p (meaning p (settled p) c part q.parts) arguments q.span

abbrev mutual
  pub of_type : Source → ℕ → Part → TypeName → List Fault
  of_type p c part (primitive word dims span) = []
  of_type p c part (class_type q args dims span) = of_name p c part q (count args) ++ of_types p c part args

  pub of_types : Source → ℕ → Part → TypeNames → List Fault
  of_types p c part no_types = []
  of_types p c part (more_types t ts) = of_type p c part t ++ of_types p c part ts

abbrev pub of_optional_type : Source → ℕ → Part → Option TypeName → List Fault
of_optional_type p c part None = []
of_optional_type p c part (Some t) = of_type p c part t

-- ---- imports

abbrev pub is_other : Option ℕ → Look → Bool
is_other (Some c) (a_class d) = not (nat_eq c d)
is_other _ _ = false

abbrev pub name_of_last : Option Identifier → List QualifiedName → List (List ℕ) → Look
name_of_last None earlier texts = nothing
name_of_last (Some i) earlier texts = first_import texts i.name earlier

-- It names no class of the library in full, or another class than an earlier import of its simple name (JLS 7.5.1).
abbrev pub of_import : List (List ℕ) → List QualifiedName → QualifiedName → List Fault
of_import texts earlier q = where_so (not (is_some (library_class texts q.parts))) (unknown q.span)
    ++ where_so (is_other (library_class texts q.parts) (name_of_last (last_part q.parts) earlier texts)) (twice q.span)

abbrev pub of_imports : List (List ℕ) → List QualifiedName → List QualifiedName → List Fault
of_imports texts earlier [] = []
of_imports texts earlier (q ∷ qs) = of_import texts earlier q ++ of_imports texts (earlier ++ q ∷ []) qs

-- ---- a class's own name

abbrev pub imports_name : List (List ℕ) → Option NameId → QualifiedName → Bool
imports_name texts None q = false
imports_name texts (Some x) q = is_last_part x (last_part q.parts) && is_some (library_class texts q.parts)

-- whether some unit imports a class of that simple name
abbrev pub is_imported : Source → Option NameId → Bool
is_imported p name = list_any (λ qs. list_any (imports_name p.texts name) qs) p.imports

abbrev pub is_name_round : Source → Option NameId → List ℕ → Bool
is_name_round p None round = false
is_name_round p (Some x) round = list_any (λ d. has_name (name_in (site_at p.sites d).written) x) round

abbrev pub is_generic : Source → Option ℕ → Bool
is_generic p None = false
is_generic p (Some c) = not (nat_eq (arity_of p c) 0)

abbrev pub is_top : Option ℕ → Bool
is_top None = true
is_top (Some c) = false

-- An earlier class has its binary name, as two member classes of one name in a class have, and two at the top (JLS 7.6, 8.5, 13.1); it
-- stands at the top and some unit imports its name (JLS 7.6); a class round it has its name (JLS 8.1); or it is a member class of a
-- generic class and not static.
abbrev pub of_class_name : Source → ℕ → List Fault
of_class_name p c = of_site (site_at p.sites c) where
  of_site : Site → List Fault
  of_site s = where_so (list_any (λ d. bytes_eq (binary_name p d) (binary_name p c)) (below c)) (twice (span_in s.written))
      ++ where_so (is_top (within s) && is_imported p (name_in s.written)) (twice (span_in s.written))
      ++ where_so (is_name_round p (name_in s.written) s.spot.round) (twice (span_in s.written))
      ++ where_so (not (is_local_sort s.sort) && is_generic p (within s) && not (is_static_context s.spot.context)) (out_of_profile (span_in s.written))

-- ---- type parameters

abbrev pub name_of_parameter : TypeParameter → NameId
name_of_parameter q = q.name.name

-- the variable of the class that a bound is, by its place
abbrev pub variable_in : ℕ → SourceType → Option ℕ
variable_in c (of_variable d at n) = if nat_eq c d then Some at else None
variable_in c t = None

abbrev pub variable_of_bound : Source → ℕ → Option TypeName → Option ℕ
variable_of_bound p c None = None
variable_of_bound p c (Some t) = variable_in c (source_type p (settled p) c header t)

abbrev pub bound_of : Option TypeParameter → Option TypeName
bound_of None = None
bound_of (Some q) = q.bound

-- the variable to which the bound of one leads
abbrev pub next_variable : Source → ℕ → ℕ → Option ℕ
next_variable p c at = variable_of_bound p c (bound_of (slice_get (parameters_in (site_at p.sites c).written) at))

-- whether bounds lead from one variable to another in so many steps at most
abbrev pub comes_by : Source → ℕ → ℕ → Option ℕ → ℕ → Bool
comes_by p c n None at = false
comes_by p c zero (Some k) at = nat_eq k at
comes_by p c (suc n) (Some k) at = nat_eq k at || comes_by p c n (next_variable p c k) at

abbrev pub name_span : TypeName → Span
name_span (primitive word dims span) = span
name_span (class_type q args dims span) = q.span

abbrev pub cycle_in_bound : Bool → Option TypeName → List Fault
cycle_in_bound leads_back None = []
cycle_in_bound leads_back (Some t) = where_so leads_back (cycle (name_span t))

-- Its name is that of an earlier one; its bound has a fault, or leads back to it, from variable to variable (JLS 4.4, 8.1.2).
abbrev pub of_parameter : Source → ℕ → List TypeParameter → ℕ → TypeParameter → List Fault
of_parameter p c all at q =
    where_so (list_any (λ r. same_name (name_of_parameter r) q.name.name) (take at all)) (twice q.name.span)
    ++ of_optional_type p c header q.bound
    ++ cycle_in_bound (comes_by p c (length all) (next_variable p c at) at) q.bound

abbrev pub of_parameters_from : Source → ℕ → List TypeParameter → ℕ → List TypeParameter → List Fault
of_parameters_from p c all at [] = []
of_parameters_from p c all at (q ∷ qs) = of_parameter p c all at q ++ of_parameters_from p c all (suc at) qs

abbrev pub of_parameters : Source → ℕ → List Fault
of_parameters p c = of_parameters_from p c (parameters_in (site_at p.sites c).written) 0 (parameters_in (site_at p.sites c).written)

-- ---- what a class names as above it

-- It names the class itself, or one that depends on it, as a qualifier too (JLS 8.1.4).
abbrev pub of_head : Source → ℕ → TypeName → List Fault
of_head p c t = where_so (list_any (λ d. nat_eq d c || depends p d c) (named p (settled p) c header (parts_of t))) (cycle (name_span t))
    ++ of_type p c header t

abbrev pub of_heads : Source → ℕ → List Fault
of_heads p c = flat_map (of_head p c) (heads_of p c)

-- ---- members

abbrev pub name_of_field : FieldSite → NameId
name_of_field f = f.name.name

-- An earlier field has its name (JLS 8.3).
abbrev pub of_field : Source → ℕ → List FieldSite → FieldSite → List Fault
of_field p c earlier f = where_so (list_any (λ e. same_name (name_of_field e) f.name.name) earlier) (twice f.name.span)
    ++ of_optional_type p c (field_part p c f) f.written

abbrev pub of_fields : Source → ℕ → List FieldSite → List FieldSite → List Fault
of_fields p c earlier [] = []
of_fields p c earlier (f ∷ fs) = of_field p c earlier f ++ of_fields p c (earlier ++ f ∷ []) fs

abbrev pub same_sort : Bool → Bool → Bool
same_sort true b = b
same_sort false b = not b

-- of one name and parameter types, both methods or both constructors (JLS 8.4.2, 8.8.2)
abbrev pub same_signature : Source → ℕ → MethodSite → MethodSite → Bool
same_signature p c m n = same_sort m.is_constructor n.is_constructor && same_name m.name.name n.name.name
    && same_source_types (parameter_types p (settled p) c m) (parameter_types p (settled p) c n)

abbrev pub of_formal : Source → ℕ → Part → FormalParameter → List Fault
of_formal p c part f = of_type p c part f.declared

abbrev pub of_thrown : Source → ℕ → Part → QualifiedName → List Fault
of_thrown p c part q = of_name p c part q 0

-- An earlier one has its name and the types of its parameters (JLS 8.4.2, 8.8.2).
abbrev pub of_method : Source → ℕ → List MethodSite → MethodSite → List Fault
of_method p c earlier m = where_so (list_any (same_signature p c m) earlier) (twice m.name.span)
    ++ of_optional_type p c (method_part m) m.result
    ++ flat_map (of_formal p c (method_part m)) m.formals
    ++ flat_map (of_thrown p c (method_part m)) m.throws

abbrev pub of_methods : Source → ℕ → List MethodSite → List MethodSite → List Fault
of_methods p c earlier [] = []
of_methods p c earlier (m ∷ ms) = of_method p c earlier m ++ of_methods p c (earlier ++ m ∷ []) ms

-- ---- all of them

abbrev pub of_class : Source → ℕ → List Fault
of_class p c = of_class_name p c ++ of_parameters p c ++ of_heads p c ++ of_fields p c [] (fields_of p c) ++ of_methods p c [] (methods_of p c)

-- the classes that the units declare
abbrev pub guests : Source → List ℕ
guests p = filter (λ c. is_guest (site_at p.sites c).written) (below (length p.sites))

unfoldable pub faults : Source → List Fault
faults p = flat_map (of_imports p.texts []) p.imports ++ flat_map (of_class p) (guests p)

-- by file, first byte, number, last byte
abbrev pub stands_before : Fault → Fault → Bool
stands_before f g = before_then f.span.file g.span.file (before_then f.span.start g.span.start (before_then f.number g.number (nat_lt f.span.end g.span.end))) where
  before_then : ℕ → ℕ → Bool → Bool
  before_then m n further = nat_lt m n || (nat_eq m n && further)

abbrev pub earlier_of : Fault → Option Fault → Fault
earlier_of f None = f
earlier_of f (Some g) = if stands_before g f then g else f

abbrev pub least : List Fault → Option Fault
least [] = None
least (f ∷ fs) = Some (earlier_of f (least fs))

-- the first in reading order, where there is one
unfoldable pub first_fault : Source → Option Fault
first_fault p = least (faults p)
