-- Parts of worked rows: a few classes whose methods each row says, and places in them.
use Rattle.std.specs.Prelude.{ℕ, Bool, true, false, List, [], ◌∷◌, Some, None, codes}
use Rattle.je_core.specs.declared.program.Access.{Access}
use Rattle.je_core.specs.declared.program.Access.TheVariants as access
use Rattle.je_core.specs.declared.program.Flags.{Flags}
use Rattle.je_core.specs.declared.program.Sort.{Sort}
use Rattle.je_core.specs.declared.program.Sort.TheVariants as sort
use Rattle.je_core.specs.declared.types.Base.TheVariants as base
use Rattle.je_core.specs.declared.types.Ty.{Ty}
use Rattle.je_core.specs.Core.{Local, node}
use Rattle.je_ast.specs.Types.{class_type, no_types}
use Rattle.je_ast.specs.Trees as tree
use Rattle.je_scopes.specs.Sites.{Site, Context, declared, instance, static, at_top, inside}
use Rattle.je_scopes.specs.Source.{Source}
use Rattle.je_scopes.specs.SourceTypes.{SourceType, plain, of_variable}
use Rattle.source_types.specs.Heads.{ClassHead, object_type}
use Rattle.declarations.specs.Declarations.{DeclaredClass, DeclaredMethod}
use Rattle.je_typing.specs.Typed.{TypedNode}
use Rattle.name_typing.specs.Program.{Frame, Place, Program}
use Rattle.name_typing.proofs.Rows.Parts.{at, whole, id, of, ty, class_ty, int, string, library_site, class_site}

-- ---- classes, by their numbers behind Object and String
--  2: class A { class D { } static class E { } abstract class F { } class P extends D { } }
--  3: class B extends A { }
--  4: class G<T> { }
--  5: interface I { }
--  6: interface J { }
--  7: interface L extends I, J { }
--  8: abstract class C extends A implements I { }
--  9: class D of A
-- 10: static class E of A
-- 11: abstract class F of A
-- 12: class P of A, which extends D
-- 13: class K<T extends A> { }
-- 14: enum N { }
-- 15: an anonymous class in A

abbrev pub head : Sort → Bool → List SourceType → List SourceType → ClassHead
head s is_abstract bounds supers = record { kind = record { sort = s; is_abstract = is_abstract; is_final = false; is_static = false }; bounds = bounds; supers = supers }

abbrev pub a_class : List SourceType → ClassHead
a_class supers = head sort.Class false [] supers

abbrev pub an_interface : List SourceType → ClassHead
an_interface supers = head sort.Interface true [] supers

unfoldable pub heads : List ClassHead
heads =
    a_class [] ∷
    a_class (object_type ∷ []) ∷
    a_class (object_type ∷ []) ∷
    a_class (of 2 [] ∷ []) ∷
    head sort.Class false (object_type ∷ []) (object_type ∷ []) ∷
    an_interface [] ∷
    an_interface [] ∷
    an_interface (of 5 [] ∷ of 6 [] ∷ []) ∷
    head sort.Class true [] (of 2 [] ∷ of 5 [] ∷ []) ∷
    a_class (object_type ∷ []) ∷
    a_class (object_type ∷ []) ∷
    head sort.Class true [] (object_type ∷ []) ∷
    a_class (of 9 [] ∷ []) ∷
    head sort.Class false (of 2 [] ∷ []) (object_type ∷ []) ∷
    head sort.Enum false [] (object_type ∷ []) ∷
    head sort.Anonymous false [] (object_type ∷ of 5 [] ∷ []) ∷
    []

abbrev pub t : SourceType
t = of_variable 4 0 0

abbrev pub long : SourceType
long = plain base.Long 0

abbrev pub void : SourceType
void = plain base.Void 0

-- ---- methods

-- whether it is static, and abstract
abbrev pub flags : Bool → Bool → Access → Flags
flags is_static is_abstract a = record { is_static = is_static; is_final = false; is_abstract = is_abstract; is_native = false; is_finalizer = false; access = a }

-- a method of a name, which stands at the place of that number
abbrev pub method : ℕ → List SourceType → SourceType → Flags → DeclaredMethod
method x parameters result fs =
    record { name = id x; is_constructor = false; parameters = parameters; result = result; throws = []; flags = fs }

abbrev pub plainly : ℕ → List SourceType → SourceType → DeclaredMethod
plainly x parameters result = method x parameters result (flags false false access.Package)

abbrev pub publicly : ℕ → List SourceType → SourceType → DeclaredMethod
publicly x parameters result = method x parameters result (flags false false access.Public)

abbrev pub abstractly : ℕ → List SourceType → SourceType → DeclaredMethod
abstractly x parameters result = method x parameters result (flags false true access.Public)

abbrev pub privately : ℕ → List SourceType → SourceType → DeclaredMethod
privately x parameters result = method x parameters result (flags false false access.Private)

abbrev pub statically : ℕ → List SourceType → SourceType → DeclaredMethod
statically x parameters result = method x parameters result (flags true false access.Package)

abbrev pub constructor : List SourceType → Access → DeclaredMethod
constructor parameters a = record (method 8 parameters void (flags false false a)) { is_constructor = true }

abbrev pub with : List DeclaredMethod → DeclaredClass
with ms = record { kind = record { sort = sort.Class; is_abstract = false; is_final = false; is_static = false }; access = access.Package; parameters = []; heads = []; fields = []; methods = ms }

-- Object has `Object()` and `boolean equals(Object)`, of the name 7
abbrev pub object_class_there : DeclaredClass
object_class_there = with (constructor [] access.Public ∷ publicly 7 (object_type ∷ []) (plain base.Bool 0) ∷ [])

-- the classes from A on, each by its methods
abbrev pub classes_with : List (List DeclaredMethod) → List DeclaredClass
classes_with [] = []
classes_with (ms ∷ mss) = with ms ∷ classes_with mss

abbrev pub classes : List (List DeclaredMethod) → List DeclaredClass
classes mss = object_class_there ∷ with [] ∷ classes_with mss

-- ---- where they are written

abbrev pub in_a : ℕ → Sort → Context → Site
in_a x s context = record { written = declared (tree.class_declaration [] (id x) [] None no_types tree.no_members whole); sort = s; spot = inside 2 (at_top 0) context }

-- `extends A`
abbrev pub below_a : Site
below_a = record {
  written = declared (tree.class_declaration [] (id 9) [] (Some (class_type (record { parts = id 3 ∷ []; span = at 3 }) no_types 0 (at 3))) no_types tree.no_members whole);
  sort = sort.Class;
  spot = at_top 0;
}

-- the names: f, g, h, A, D, E, F, equals, and behind these those of other classes
unfoldable pub source : Source
source = record {
  texts = codes "f" ∷ codes "g" ∷ codes "h" ∷ codes "A" ∷ codes "D" ∷ codes "E" ∷ codes "F" ∷ codes "equals" ∷ [];
  imports = [];
  sites =
      library_site ∷ library_site ∷ class_site 3 ∷ below_a ∷ class_site 10 ∷ class_site 11 ∷ class_site 12 ∷ class_site 13 ∷ class_site 14
      ∷ in_a 4 sort.Class instance ∷ in_a 5 sort.Class static ∷ in_a 6 sort.Class instance ∷ in_a 15 sort.Class instance
      ∷ class_site 16 ∷ class_site 17 ∷ in_a 18 sort.Anonymous instance ∷ [];
}

unfoldable pub program : List (List DeclaredMethod) → Program
program mss = record { source = source; heads = heads; classes = classes mss; constants = λ m. None; outer = λ c. 0; captured = λ c steps local. 1 }

-- ---- places

abbrev pub body : ℕ → Context → Frame
body c context = record { class = c; locals = []; local_classes = []; context = context; initializer = None }

-- a body of a class at the top, and one of a class in A
abbrev pub in_body : ℕ → Context → Place
in_body c context = record { here = body c context; round = [] }

abbrev pub in_member : ℕ → Context → Context → Place
in_member c context round = record { here = body c context; round = body 2 round ∷ [] }

-- ---- nodes: a local of a type

abbrev pub value : SourceType → Ty → TypedNode
value s u = record { node = node (Local 0) u (at 0) (at 0); type = s }

abbrev pub object : ℕ → TypedNode
object c = value (of c []) (class_ty c)

abbrev pub number : TypedNode
number = value int (ty base.Int)

abbrev pub null : TypedNode
null = value (plain base.Null 0) (ty base.Null)

abbrev pub text : TypedNode
text = value string (class_ty 1)
