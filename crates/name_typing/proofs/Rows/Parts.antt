-- Parts of worked rows: a few classes, and places in them.
use Rattle.std.specs.Prelude.{ℕ, pos, ◌+◌, Bool, true, false, List, [], ◌∷◌, Option, Some, None, codes}
use Rattle.je_base.specs.declared.span.NameId.{NameId}
use Rattle.je_base.specs.declared.span.Span.{Span}
use Rattle.je_core.specs.declared.program.Access.{Access}
use Rattle.je_core.specs.declared.program.Access.TheVariants as access
use Rattle.je_core.specs.declared.program.Sort.{Sort}
use Rattle.je_core.specs.declared.program.Sort.TheVariants as sort
use Rattle.je_core.specs.declared.types.Base.{Base}
use Rattle.je_core.specs.declared.types.Base.TheVariants as base
use Rattle.je_core.specs.declared.types.Ty.{Ty}
use Rattle.je_core.specs.declared.value.Value.TheVariants as value
use Rattle.je_core.specs.Core.{Core, CoreForm, Local, This, node}
use Rattle.je_ast.specs.declared.name.Identifier.{Identifier}
use Rattle.je_ast.specs.Types.{no_types}
use Rattle.je_ast.specs.Trees as tree
use Rattle.je_classes.specs.Members.{same_member}
use Rattle.je_scopes.specs.Sites.{Site, Context, instance, declared, in_library, at_top, inside}
use Rattle.je_scopes.specs.Source.{Source}
use Rattle.je_scopes.specs.SourceTypes.{SourceType, plain, of_class, of_variable, source_types}
use Rattle.source_types.specs.Erasure.{class_numbered}
use Rattle.source_types.specs.Heads.{ClassHead, object_type}
use Rattle.declarations.specs.Declarations.{DeclaredClass, DeclaredField}
use Rattle.je_typing.specs.Typed.{TypedNode}
use Rattle.name_typing.specs.Fields.{member}
use Rattle.name_typing.specs.Program.{Constant, Program, LocalVariable, Frame, Place, value_constant}

abbrev pub at : ℕ → Span
at n = record { file = 0; start = n; end = n + 1 }

abbrev pub whole : Span
whole = record { file = 0; start = 0; end = 9 }

abbrev pub name : ℕ → NameId
name n = record { 0 = n }

-- a name, at the place of that number
abbrev pub id : ℕ → Identifier
id n = record { name = name n; span = at n }

abbrev pub of : ℕ → List SourceType → SourceType
of c args = of_class c (source_types args) 0

abbrev pub ty : Base → Ty
ty b = record { base = b; dims = 0 }

abbrev pub class_ty : ℕ → Ty
class_ty c = ty (base.Class (class_numbered c))

abbrev pub int : SourceType
int = plain base.Int 0

abbrev pub string : SourceType
string = of 1 []

-- ---- classes, by their numbers behind Object and String
--  2: class A { int x; static int s; private int y; static final int k = 7; class D { } }
--  3: class D of A
--  4: class B extends A { }
--  5: class G<T> { T f; }
--  6: class H extends G<String> { }
--  7: interface I { int x = 7; }
--  8: class C extends A implements I { }
--  9: class E<T extends A> { }

abbrev pub head : Sort → List SourceType → List SourceType → ClassHead
head s bounds supers = record { kind = record { sort = s; is_abstract = false; is_final = false; is_static = false }; bounds = bounds; supers = supers }

unfoldable pub heads : List ClassHead
heads =
    head sort.Class [] [] ∷
    head sort.Class [] (object_type ∷ []) ∷
    head sort.Class [] (object_type ∷ []) ∷
    head sort.Class [] (object_type ∷ []) ∷
    head sort.Class [] (of 2 [] ∷ []) ∷
    head sort.Class (object_type ∷ []) (object_type ∷ []) ∷
    head sort.Class [] (of 5 (string ∷ []) ∷ []) ∷
    head sort.Interface [] [] ∷
    head sort.Class [] (of 2 [] ∷ of 7 [] ∷ []) ∷
    head sort.Class (of 2 [] ∷ []) (object_type ∷ []) ∷
    []

abbrev pub field : ℕ → SourceType → Bool → Bool → Access → DeclaredField
field x t is_static is_final a = record { name = id x; ty = t; is_static = is_static; is_final = is_final; access = a }

abbrev pub with : List DeclaredField → DeclaredClass
with fs = record { kind = record { sort = sort.Class; is_abstract = false; is_final = false; is_static = false }; access = access.Package; parameters = []; heads = []; fields = fs; methods = [] }

abbrev pub fields_of_a : List DeclaredField
fields_of_a =
    field 0 int false false access.Package ∷
    field 1 int true false access.Package ∷
    field 2 int false false access.Private ∷
    field 3 int true true access.Package ∷
    []

unfoldable pub classes : List DeclaredClass
classes =
    with [] ∷ with [] ∷ with fields_of_a ∷ with [] ∷ with [] ∷ with (field 4 (of_variable 5 0 0) false false access.Package ∷ []) ∷ with []
    ∷ with (field 0 int true true access.Public ∷ []) ∷ with [] ∷ with [] ∷ []

-- ---- where they are written: D in A, all others at the top

abbrev pub library_site : Site
library_site = record { written = in_library; sort = sort.Class; spot = at_top 0 }

abbrev pub class_site : ℕ → Site
class_site x = record { written = declared (tree.class_declaration [] (id x) [] None no_types tree.no_members whole); sort = sort.Class; spot = at_top 0 }

abbrev pub member_site : ℕ → Site
member_site x = record { written = declared (tree.class_declaration [] (id x) [] None no_types tree.no_members whole); sort = sort.Class; spot = inside 2 (at_top 0) instance }

-- the names: x, s, y, k, f, length, v, w, and behind these A, D, B and the rest
unfoldable pub source : Source
source = record {
  texts = codes "x" ∷ codes "s" ∷ codes "y" ∷ codes "k" ∷ codes "f" ∷ codes "length" ∷ codes "v" ∷ codes "w" ∷ codes "A" ∷ codes "D" ∷ codes "B" ∷ [];
  imports = [];
  sites = library_site ∷ library_site ∷ class_site 8 ∷ member_site 9 ∷ class_site 10 ∷ class_site 11 ∷ class_site 12 ∷ class_site 13 ∷ class_site 14 ∷ class_site 15 ∷ [];
}

abbrev pub seven : Constant
seven = value_constant (value.Int (pos 7))

-- k is a constant
abbrev pub constant_of : Bool → Option Constant
constant_of true = Some seven
constant_of false = None

-- the instance round one of D stands in its first field, what is captured in the second
unfoldable pub program : Program
program = record {
  source = source;
  heads = heads;
  classes = classes;
  constants = λ m. constant_of (same_member m (member 2 3));
  outer = λ c. 0;
  captured = λ c steps local. 1;
}

-- ---- places

-- v, final or not
abbrev pub local_v : Bool → LocalVariable
local_v is_final = record { name = name 6; type = int; is_final = is_final; number = 3; constant = None }

abbrev pub body : ℕ → Context → List LocalVariable → Frame
body c context locals = record { class = c; locals = locals; local_classes = []; context = context; initializer = None }

-- a body of a class at the top
abbrev pub in_body : ℕ → Context → Place
in_body c context = record { here = body c context []; round = [] }

-- an instance method of D, in A
abbrev pub in_member : Context → Place
in_member context = record { here = body 3 context []; round = body 2 instance [] ∷ [] }

-- a class inside a method of A in which v stands; D may stand for it
abbrev pub in_local_class : Bool → Place
in_local_class is_final = record { here = body 3 instance []; round = body 2 instance (local_v is_final ∷ []) ∷ [] }

-- an initializer of A behind so many of its fields
abbrev pub in_initializer : Bool → Context → ℕ → Place
in_initializer is_static context n = record {
  here = record { class = 2; locals = []; local_classes = []; context = context; initializer = Some (record { is_static = is_static; declared = n }) };
  round = [];
}

-- ---- nodes

abbrev pub this_of : ℕ → ℕ → Core
this_of c n = node This (class_ty c) (at n) (at n)

abbrev pub int_node : CoreForm → ℕ → TypedNode
int_node form n = record { node = node form (ty base.Int) (at n) (at n); type = int }

-- a local that holds an object of a class
abbrev pub object : ℕ → List SourceType → TypedNode
object c args = record { node = node (Local 0) (class_ty c) (at 0) (at 0); type = of c args }
