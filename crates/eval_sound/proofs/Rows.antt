-- Worked rows: programs that fit and break a premise, whose runs come to a value of a wrong kind.
use Rattle.std.proofs.Common.{◌≡◌, ℕ, List, [], ◌∷◌, ◌++◌, replicate, Option, Some, None, refl}
use Rattle.std.specs.Prelude.{true, false, pos}
use Rattle.je_base.specs.declared.span.Span.{Span}
use Rattle.je_core.specs.declared.expr.BinOp.TheVariants.{Add}
use Rattle.je_core.specs.declared.program.Access.TheVariants.{Public}
use Rattle.je_core.specs.declared.program.Local.{Local as LocalOf}
use Rattle.je_core.specs.declared.program.Sort.TheVariants as sort
use Rattle.je_core.specs.declared.types.Base.TheVariants as base
use Rattle.je_core.specs.declared.types.ClassId.{ClassId}
use Rattle.je_core.specs.declared.types.Ty.{Ty}
use Rattle.je_core.specs.declared.value.Value.TheVariants as value
use Rattle.je_core.specs.Core.{Core, CoreForm, CoreStmt, CoreMethod, CoreClass, CoreProgram, node, stmt, a_core, cores, core_stmts}
use Rattle.je_core.specs.Core as core
use Rattle.je_classes.specs.Dispatch.{implemented, dispatched}
use Rattle.je_classes.specs.Hierarchy.{is_below, object_class, library_class}
use Rattle.je_classes.specs.Members.{constructor_place}
use Rattle.je_classes.specs.Subtypes.{class_type, is_subtype}
use Rattle.je_fitting.specs.Types.{bool, int, void}
use Rattle.je_fitting.specs.way.DecidingClasses.{is_program_fit}
use Rattle.je_java.specs.declared.call.Receiver.TheVariants as receiver
use Rattle.je_java.specs.Meaning.{java, meanings, call}
use Rattle.je_java.specs.Steps.{Outside, Wrong}
use Rattle.je_java.specs.way.Opened.{library_opened}
use Rattle.je_java.specs.World.{World}

abbrev nowhere : Span
nowhere = record { file = 0; start = 0; end = 0 }

abbrev number : ℕ → ClassId
number n = record { 0 = n }

abbrev object : Ty
object = class_type (number 0)

abbrev text : Ty
text = class_type (number 1)

abbrev local : Ty → LocalOf
local ty = record { name = record { 0 = 9 }; ty = ty; is_final = false; span = nowhere }

abbrev method : ℕ → List Ty → Ty → List LocalOf → Option CoreStmt → CoreMethod
method n params returns locals body = record {
  name = record { 0 = n };
  span = nowhere;
  params = params;
  returns = returns;
  flags = record { is_static = false; is_final = false; is_abstract = false; is_native = false; is_finalizer = false; access = Public };
  throws = [];
  locals = locals;
  body = body;
}

abbrev static : CoreMethod → CoreMethod
static m = record m { flags = record m.flags { is_static = true } }

abbrev class : Option ClassId → List CoreMethod → CoreClass
class super methods = record {
  name = record { 0 = 0 };
  span = nowhere;
  kind = record { sort = sort.Class; is_abstract = false; is_final = false; is_static = false };
  superclass = super;
  interfaces = [];
  heads = [];
  fields = [];
  initializers = [];
  methods = methods;
  enclosing = None;
  captured = 0;
  within = None;
  nth = 0;
  top = number 0;
  bridges = [];
}

abbrev block : List CoreStmt → Option CoreStmt
block parts = Some (stmt (core.Block [] (core_stmts parts)) nowhere nowhere)

abbrev does : CoreForm → Ty → CoreStmt
does form t = stmt (core.Do (node form t nowhere nowhere)) nowhere nowhere

-- Names: 1 new, 2 toString. The library's 39 classes, of which 0 is Object, and then those of a program's own.
abbrev program : List (List ℕ) → List CoreClass → CoreProgram
program texts own = record {
  classes =
      class None (method 7 (object ∷ []) bool [] None ∷ method 8 [] int [] None ∷ method 1 [] void [] None ∷ method 2 [] text [] None ∷ []) ∷
      replicate 38 (class (Some (number 0)) []) ++ own;
  texts = texts;
}

abbrev empty : World
empty = record { objects = []; statics = [] }

abbrev all_started : Outside
all_started = record { started = []; starting = None }

-- class A { A(int x) { } } class B extends A { B() { } }: A has no constructor without parameters
abbrev without_constructor : CoreProgram
without_constructor = program [] (class (Some (number 0)) (method 1 (int ∷ []) void (local int ∷ []) (block []) ∷ []) ∷ class (Some (number 39)) (method 1 [] void [] (block []) ∷ []) ∷ [])

fits_without_constructor : is_program_fit without_constructor ≡ true
unfolding is_subtype is_below object_class library_class constructor_place implemented dispatched
fits_without_constructor = refl

-- new B()
wrong_without_constructor : call without_constructor 100 receiver.Fresh (number 40) 0 [] empty all_started ≡ Wrong
unfolding java meanings library_opened constructor_place
wrong_without_constructor = refl

-- static void f() { Object o = new Object(); o += 1; }, where `+=` is of the type String: Object's `toString()` has no meaning
abbrev joined_target : CoreProgram
joined_target = program [] (class (Some (number 0)) (static (method 3 [] void (local object ∷ []) (block (
    does (core.Assign (node (core.Local 0) object nowhere nowhere) (node (core.New (number 0) 2 (cores []) [] nowhere) object nowhere nowhere)) object ∷
    does (core.Update (node (core.Local 0) object nowhere nowhere) Add (a_core (node (core.Const (value.Int (pos 1)) []) int nowhere nowhere)) false) text ∷ []))) ∷ []) ∷ [])

fits_joined_target : is_program_fit joined_target ≡ true
unfolding is_subtype is_below object_class library_class constructor_place implemented dispatched
fits_joined_target = refl

wrong_joined_target : call joined_target 100 receiver.None (number 39) 0 [] empty all_started ≡ Wrong
unfolding java meanings library_opened constructor_place is_subtype is_below
wrong_joined_target = refl

-- static void f() { (new int[1][]..[]) instanceof Object; }, of 256 dimensions
abbrev many_dimensions : CoreProgram
many_dimensions = program [] (class (Some (number 0)) (static (method 3 [] void [] (block (
    does (core.InstanceOf (node (core.NewArray (cores (node (core.Const (value.Int (pos 1)) []) int nowhere nowhere ∷ []))) (record { base = base.Int; dims = 256 }) nowhere nowhere) object) bool ∷ []))) ∷ []) ∷ [])

fits_many_dimensions : is_program_fit many_dimensions ≡ true
unfolding is_subtype is_below object_class library_class constructor_place implemented dispatched
fits_many_dimensions = refl

wrong_many_dimensions : call many_dimensions 100 receiver.None (number 39) 0 [] empty all_started ≡ Wrong
unfolding java meanings library_opened constructor_place is_subtype is_below
wrong_many_dimensions = refl
