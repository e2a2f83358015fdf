-- Parts of worked rows: places, names, types, and a few classes.
use Rattle.std.specs.Prelude.{ℕ, ◌+◌, Bool, true, false, List, [], ◌∷◌, ◌++◌, replicate}
use Rattle.je_base.specs.declared.span.Span.{Span}
use Rattle.je_core.specs.declared.program.Sort.{Sort}
use Rattle.je_core.specs.declared.program.Sort.TheVariants as sort
use Rattle.je_ast.specs.declared.name.Identifier.{Identifier}
use Rattle.je_ast.specs.Types.{QualifiedName, TypeName, class_type, type_names}
use Rattle.je_scopes.specs.SourceTypes.{SourceType, of_class, of_variable, source_types}
use Rattle.source_types.specs.Heads.{ClassHead, object_type}

abbrev pub at : ℕ → Span
at n = record { file = 0; start = n; end = n + 1 }

abbrev pub id : ℕ → ℕ → Identifier
id x n = record { name = record { 0 = x }; span = at n }

abbrev pub name : ℕ → QualifiedName
name n = record { parts = []; span = at n }

-- `G<A, B>` with its name at one place, and all of it at another
abbrev pub written : ℕ → List TypeName → ℕ → TypeName
written n args whole = class_type (name n) (type_names args) 0 (at whole)

abbrev pub of : ℕ → List SourceType → SourceType
of c args = of_class c (source_types args) 0

abbrev pub variable : ℕ → ℕ → SourceType
variable c at = of_variable c at 0

abbrev pub head : Sort → Bool → Bool → List SourceType → List SourceType → ClassHead
head s is_final is_static bounds supers =
    record { kind = record { sort = s; is_abstract = false; is_final = is_final; is_static = is_static }; bounds = bounds; supers = supers }

abbrev pub plain_class : List SourceType → ClassHead
plain_class supers = head sort.Class false false [] supers

abbrev pub string : SourceType
string = of 1 []

-- the library's: Object, String, five that play no part, Comparable<T>, Runnable, Throwable
abbrev pub library : List ClassHead
library =
    plain_class [] ∷ head sort.Class true false [] (object_type ∷ of 7 (of 1 [] ∷ []) ∷ [])
    ∷ replicate 5 (plain_class (object_type ∷ []))
    ++ head sort.Interface false false (object_type ∷ []) [] ∷ head sort.Interface false false [] [] ∷ plain_class (object_type ∷ []) ∷ []

-- 10: class A { }
-- 11: class Box<T extends Comparable<T>> { }
-- 12: final class Last { }
-- 13: enum Light { }
-- 14: class Order implements Comparable<Order> { }
-- 15: class Worse extends Order implements Comparable<Worse> { }
-- 16: class Fault extends Throwable { }
-- 17: class Fault<T> extends Throwable { }
-- 18: class Named<T extends Fault> { }
unfoldable pub heads : List ClassHead
heads = library ++
    plain_class (object_type ∷ []) ∷
    head sort.Class false false (of 7 (variable 11 0 ∷ []) ∷ []) (object_type ∷ []) ∷
    head sort.Class true false [] (object_type ∷ []) ∷
    head sort.Enum true true [] (object_type ∷ []) ∷
    plain_class (object_type ∷ of 7 (of 14 [] ∷ []) ∷ []) ∷
    plain_class (of 14 [] ∷ of 7 (of 15 [] ∷ []) ∷ []) ∷
    plain_class (of 9 [] ∷ []) ∷
    head sort.Class false false (object_type ∷ []) (of 9 [] ∷ []) ∷
    head sort.Class false false (of 16 [] ∷ []) (object_type ∷ []) ∷
    []
