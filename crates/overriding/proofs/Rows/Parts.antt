-- Parts of worked rows: a few headers, and methods.
use Rattle.std.specs.Prelude.{ℕ, ◌+◌, Bool, true, false, List, [], ◌∷◌, ◌++◌, replicate}
use Rattle.je_base.specs.declared.span.Span.{Span}
use Rattle.je_core.specs.declared.program.Access.{Access}
use Rattle.je_core.specs.declared.program.Access.TheVariants as access
use Rattle.je_core.specs.declared.program.Flags.{Flags}
use Rattle.je_core.specs.declared.program.Kind.{Kind}
use Rattle.je_core.specs.declared.program.Sort.{Sort}
use Rattle.je_core.specs.declared.program.Sort.TheVariants as sort
use Rattle.je_core.specs.declared.types.Base.TheVariants as base
use Rattle.je_scopes.specs.SourceTypes.{SourceType, plain, of_class, of_variable, source_types}
use Rattle.source_types.specs.Heads.{ClassHead, object_type}
use Rattle.declarations.specs.Declarations.{DeclaredClass, DeclaredMethod}

abbrev pub at : ℕ → Span
at n = record { file = 0; start = n; end = n + 1 }

abbrev pub of : ℕ → List SourceType → SourceType
of c args = of_class c (source_types args) 0

abbrev pub string : SourceType
string = of 1 []

abbrev pub void : SourceType
void = plain base.Void 0

abbrev pub int : SourceType
int = plain base.Int 0

abbrev pub long : SourceType
long = plain base.Long 0

abbrev pub exception : SourceType
exception = of 24 []

-- ---- methods

-- as many flags as rows need: static, final, abstract
abbrev pub flags : Bool → Bool → Bool → Access → Flags
flags is_static is_final is_abstract a =
    record { is_static = is_static; is_final = is_final; is_abstract = is_abstract; is_native = false; is_finalizer = false; access = a }

-- a method of a name, which stands at the place of that number
abbrev pub method : ℕ → List SourceType → SourceType → Flags → DeclaredMethod
method x parameters result fs = record {
  name = record { name = record { 0 = x }; span = at x };
  is_constructor = false;
  parameters = parameters;
  result = result;
  throws = [];
  flags = fs;
}

-- with a body; without one, and public as those of an interface are
abbrev pub plainly : ℕ → List SourceType → SourceType → DeclaredMethod
plainly x parameters result = method x parameters result (flags false false false access.Package)

abbrev pub publicly : ℕ → List SourceType → SourceType → DeclaredMethod
publicly x parameters result = method x parameters result (flags false false false access.Public)

abbrev pub abstractly : ℕ → List SourceType → SourceType → DeclaredMethod
abstractly x parameters result = method x parameters result (flags false false true access.Public)

abbrev pub throwing : SourceType → DeclaredMethod → DeclaredMethod
throwing t m = record m { throws = t ∷ [] }

-- ---- classes

abbrev pub kind : Sort → Kind
kind s = record { sort = s; is_abstract = false; is_final = false; is_static = false }

abbrev pub head : Sort → List SourceType → List SourceType → ClassHead
head s bounds supers = record { kind = kind s; bounds = bounds; supers = supers }

-- a class with these methods
abbrev pub with : List DeclaredMethod → DeclaredClass
with ms = record { kind = kind sort.Class; access = access.Package; parameters = []; heads = []; fields = []; methods = ms }

abbrev pub below_object : ClassHead
below_object = head sort.Class [] (object_type ∷ [])

-- Object has `boolean equals(Object)` of the name 0; Throwable is 9, Exception 24, Error 25 and RuntimeException 26
abbrev pub library_heads : List ClassHead
library_heads = head sort.Class [] [] ∷ replicate 23 below_object
    ++ head sort.Class [] (of 9 [] ∷ []) ∷ head sort.Class [] (of 9 [] ∷ []) ∷ head sort.Class [] (of 24 [] ∷ []) ∷ []

abbrev pub library : List DeclaredClass
library = with (publicly 0 (object_type ∷ []) (plain base.Bool 0) ∷ []) ∷ replicate 26 (with [])

-- 27: class A
-- 28: class B extends A
-- 29: class G<T>
-- 30: class H extends G<String>
-- 31: class K<T> extends G<T>
-- 32: interface I
-- 33: interface J
-- 34: class C extends A implements I
-- 35: interface L extends I, J
-- 36: class M extends G<String> implements I
-- 37: class N extends H
-- 38: interface P<T>
-- 39: class Q extends A implements P<String>
-- 40: class R implements P<R>
-- 41: interface S extends P<String>
-- 42: interface U extends P<String>
-- 43: interface V extends S, U
-- 44: abstract class W extends Q implements I
unfoldable pub heads : List ClassHead
heads = library_heads ++
    below_object ∷
    head sort.Class [] (of 27 [] ∷ []) ∷
    head sort.Class (object_type ∷ []) (object_type ∷ []) ∷
    head sort.Class [] (of 29 (string ∷ []) ∷ []) ∷
    head sort.Class (object_type ∷ []) (of 29 (of_variable 31 0 0 ∷ []) ∷ []) ∷
    head sort.Interface [] [] ∷
    head sort.Interface [] [] ∷
    head sort.Class [] (of 27 [] ∷ of 32 [] ∷ []) ∷
    head sort.Interface [] (of 32 [] ∷ of 33 [] ∷ []) ∷
    head sort.Class [] (of 29 (string ∷ []) ∷ of 32 [] ∷ []) ∷
    head sort.Class [] (of 30 [] ∷ []) ∷
    head sort.Interface (object_type ∷ []) [] ∷
    head sort.Class [] (of 27 [] ∷ of 38 (string ∷ []) ∷ []) ∷
    head sort.Class [] (object_type ∷ of 38 (of 40 [] ∷ []) ∷ []) ∷
    head sort.Interface [] (of 38 (string ∷ []) ∷ []) ∷
    head sort.Interface [] (of 38 (string ∷ []) ∷ []) ∷
    head sort.Interface [] (of 41 [] ∷ of 42 [] ∷ []) ∷
    head sort.Class [] (of 39 [] ∷ of 32 [] ∷ []) ∷
    []

-- the type variable of G, and that of P
abbrev pub t : SourceType
t = of_variable 29 0 0

abbrev pub t_of_p : SourceType
t_of_p = of_variable 38 0 0
