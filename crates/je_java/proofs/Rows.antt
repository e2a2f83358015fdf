-- Worked rows: what some statements and calls come to, and what they cost.
use Rattle.std.proofs.Common.{◌≡◌, ℕ, List, [], ◌∷◌, ◌++◌, replicate, Some, None, refl}
use Rattle.std.specs.Prelude.{ℤ, pos, negsuc, true, false, Bool, Option}
use Rattle.std.specs.Int.{int_wrap}
use Rattle.je_core.specs.declared.object.Obj.{Obj}
use Rattle.je_core.specs.declared.object.Obj.TheVariants.{Instance}
use Rattle.je_base.specs.declared.span.NameId.{NameId}
use Rattle.je_base.specs.declared.span.Span.{Span}
use Rattle.je_core.specs.declared.types.ClassId.{ClassId}
use Rattle.je_core.specs.declared.types.Ty.{Ty}
use Rattle.je_core.specs.declared.types.Base.TheVariants.{Bool as BoolBase, Int as IntBase, Byte as ByteBase, Void as VoidBase, Class as ClassBase}
use Rattle.je_core.specs.declared.value.Value.{Value}
use Rattle.je_core.specs.declared.value.Value.TheVariants.{Int, Long, Byte, Bool as Truth, Null, Ref}
use Rattle.je_core.specs.declared.program.Access.TheVariants.{Package}
use Rattle.je_core.specs.declared.program.Flags.{Flags}
use Rattle.je_core.specs.declared.program.Sort.TheVariants.{Class as ClassSort}
use Rattle.je_core.specs.declared.program.Local.{Local as LocalOf}
use Rattle.je_core.specs.declared.expr.BinOp.{BinOp}
use Rattle.je_core.specs.declared.expr.BinOp.TheVariants.{Add, Sub, Div, Shl, Lt, Eq, Ne}
use Rattle.je_core.specs.declared.expr.UnOp.TheVariants.{Minus, Tilde}
use Rattle.je_core.specs.Core.{Core, CoreForm, Const, Local, This, Field, Assign, Update, Unary, Binary, And, Or, Choose, Convert, Cast, InstanceOf, CallVirtual, CallExact, New, CoreStmt, CoreStmtForm, Empty, Block, Do, If, Loop, DoLoop, Switch, Labelled, Jump, Return, Throw, Try, CoreCatch, catch, core_catches, CoreGroup, group, core_groups, CoreField, CoreMethod, CoreClass, CoreProgram, node, stmt, cores, maybe_core, core_stmts, maybe_stmt}
use Rattle.je_java.specs.declared.call.Receiver.TheVariants as receiver
use Rattle.je_classes.specs.Hierarchy.{library_class, object_class, is_below}
use Rattle.je_classes.specs.Members.{constructor_place}
use Rattle.je_classes.specs.Subtypes.{is_subtype}
use Rattle.je_java.specs.Raised.{null_pointer, arithmetic, class_cast}
use Rattle.je_java.specs.World.{World}
use Rattle.je_java.specs.Steps.{State, Outside, Answer, Done, Thrown, Spent, Wrong}
use Rattle.je_java.specs.Meaning.{java, meanings, call}
use Rattle.je_java.specs.way.Opened.{opened}

abbrev pub nowhere : Span
nowhere = record { file = 0; start = 0; end = 0 }

abbrev pub int : Ty
int = record { base = IntBase; dims = 0 }

abbrev pub boolean : Ty
boolean = record { base = BoolBase; dims = 0 }

abbrev pub void : Ty
void = record { base = VoidBase; dims = 0 }

abbrev pub expr : CoreForm → Core
expr form = node form int nowhere nowhere

abbrev pub statement : CoreStmtForm → CoreStmt
statement form = stmt form nowhere nowhere

abbrev pub constant : Value → Core
constant value = expr (Const value [])

abbrev pub local : ℕ → Core
local at = expr (Local at)

abbrev pub increased : Core → Core
increased e = expr (Binary Add e (constant (Int (pos 1))))

-- the class A of each row, with its fields `n` and `m`, and a static field between them
abbrev pub class_a : Ty
class_a = record { base = ClassBase (record { 0 = 0 }); dims = 0 }

abbrev pub field : Bool → CoreField
field is_static = record { name = record { 0 = 0 }; span = nowhere; ty = int; is_static = is_static; is_final = false; access = Package; constant = None }

abbrev pub local_of : Ty → LocalOf
local_of ty = record { name = record { 0 = 0 }; ty = ty; is_final = false; span = nowhere }

abbrev pub flags_of : Bool → Flags
flags_of is_static = record { is_static = is_static; is_final = false; is_abstract = false; is_native = false; is_finalizer = false; access = Package }

abbrev pub method : Bool → Ty → List LocalOf → CoreStmt → CoreMethod
method is_static returns locals body = record { name = record { 0 = 0 }; span = nowhere; params = []; returns = returns; flags = flags_of is_static; throws = []; locals = locals; body = Some body }

abbrev pub class_of_methods : List CoreMethod → CoreClass
class_of_methods methods = record {
  name = record { 0 = 0 };
  span = nowhere;
  kind = record { sort = ClassSort; is_abstract = false; is_final = false; is_static = false };
  superclass = None;
  interfaces = [];
  heads = [];
  fields = field false ∷ field true ∷ field false ∷ [];
  initializers = [];
  methods = methods;
  enclosing = None;
  captured = 0;
  within = None;
  nth = 0;
  top = record { 0 = 0 };
  bridges = [];
}

abbrev pub program : List CoreMethod → CoreProgram
program methods = record { classes = class_of_methods methods ∷ []; texts = [] }

abbrev pub body : List CoreStmt → CoreStmt
body parts = statement (Block [] (core_stmts parts))

abbrev pub gives : Core → CoreStmt
gives e = statement (Return (Some e))

abbrev pub does : Core → CoreStmt
does e = statement (Do e)

-- a world without class variables
abbrev pub world : List Obj → World
world objects = record { objects = objects; statics = [] }

-- all classes have been started
abbrev pub nothing : Outside
nothing = record { started = []; starting = None }

-- a call of the class's first method, without a receiver and with 1,000,000 units
abbrev run : List CoreMethod → List Value → Answer
run methods given = call (program methods) 1000000 receiver.None (record { 0 = 0 }) 0 given (world []) nothing

abbrev pub after : List Obj → ℕ → ℕ → State
after objects units begun = record {
  world = world objects;
  own = record { this = Null; locals = [] };
  public = record { units = units; begun = begun };
  outside = nothing;
}

-- int f() { return 1 + 2; }, folded: Block, Return, Const
folded : run (method true int [] (body (gives (constant (Int (pos 3))) ∷ [])) ∷ []) [] ≡ Done (Some (Int (pos 3))) (after [] 999997 3)
unfolding java meanings opened
folded = refl

-- n = n + 1; on a local: Do, Assign, Binary, Local, Const
abbrev counts : CoreStmt
counts = does (expr (Assign (local 0) (increased (local 0))))

-- int f(int n) { n = n + 1; return n; }, which wraps: the Block, 5 more, Return and Local
on_local : run (method true int (local_of int ∷ []) (body (counts ∷ gives (local 0) ∷ [])) ∷ []) (Int (pos 2147483647) ∷ []) ≡ Done (Some (Int (negsuc 2147483647))) (after [] 999992 8)
unfolding java meanings opened int_wrap
on_local = refl

-- a local that isn't assigned begins at its default, and so does the value of a body that ends without a return
no_return : run (method true int (local_of int ∷ []) (body []) ∷ []) [] ≡ Done (Some (Int (pos 0))) (after [] 999999 1)
unfolding java meanings opened
no_return = refl

at_default : run (method true int (local_of int ∷ []) (body (gives (local 0) ∷ [])) ∷ []) [] ≡ Done (Some (Int (pos 0))) (after [] 999997 3)
unfolding java meanings opened
at_default = refl

-- A() {}
abbrev pub constructor : CoreMethod
constructor = method false void [] (body [])

-- new A()
abbrev pub made_a : Core
made_a = expr (New (record { 0 = 0 }) 1 (cores []) [] nowhere)

-- static A f() { return new A(); }: Block, Return, New, the 2 slots of A, and the constructor's Block
makes : run (method true class_a [] (body (gives made_a ∷ [])) ∷ constructor ∷ []) [] ≡
    Done (Some (Ref (record { 0 = 0 }))) (after (Instance (record { 0 = 0 }) (Int (pos 0) ∷ Int (pos 0) ∷ []) ∷ []) 999994 4)
unfolding java meanings opened
makes = refl

abbrev last_field : Core
last_field = expr (Field (expr This) (record { 0 = 0 }) 2)

-- m = m + 1; on the last field: Do, Assign, This, Binary, Field, This, Const
abbrev counts_field : CoreStmt
counts_field = does (expr (Assign last_field (increased last_field)))

abbrev an_object : List Value → List Obj
an_object slots = Instance (record { 0 = 0 }) slots ∷ []

-- void f() { m = m + 1; } on an object: the Block and 7 more
on_field : call (program (method false void [] (body (counts_field ∷ [])) ∷ [])) 1000000 (receiver.Object (record { 0 = 0 })) (record { 0 = 0 }) 0 [] (world (an_object (Int (pos 5) ∷ Int (pos 7) ∷ []))) nothing ≡
    Done None (after (an_object (Int (pos 5) ∷ Int (pos 8) ∷ [])) 999992 8)
unfolding java meanings opened int_wrap
on_field = refl

-- as many units as it takes, and one fewer
just_enough : call (program (method false void [] (body (counts_field ∷ [])) ∷ [])) 8 (receiver.Object (record { 0 = 0 })) (record { 0 = 0 }) 0 [] (world (an_object (Int (pos 5) ∷ Int (pos 7) ∷ []))) nothing ≡
    Done None (after (an_object (Int (pos 5) ∷ Int (pos 8) ∷ [])) 0 8)
unfolding java meanings opened int_wrap
just_enough = refl

too_few : call (program (method true class_a [] (body (gives made_a ∷ [])) ∷ constructor ∷ [])) 4 receiver.None (record { 0 = 0 }) 0 [] (world []) nothing ≡
    Spent (after [] 1 3)
unfolding java meanings opened
too_few = refl

-- static int f(A a) { return a.g(1, 2); } and int g(int x, int y) { m = x; return m - y; }
abbrev caller : Core → CoreMethod
caller receiver = method true int (local_of class_a ∷ []) (body (gives (expr (CallVirtual receiver (record { 0 = 0 }) 1 (cores (constant (Int (pos 1)) ∷ constant (Int (pos 2)) ∷ [])))) ∷ []))

abbrev called : CoreMethod
called = method false int (local_of int ∷ local_of int ∷ []) (body (does (expr (Assign last_field (local 0))) ∷ gives (expr (Binary Sub last_field (local 1))) ∷ []))

on_object : call (program (caller (local 0) ∷ called ∷ [])) 1000000 receiver.None (record { 0 = 0 }) 0 (Ref (record { 0 = 0 }) ∷ []) (world (an_object (Int (pos 5) ∷ Int (pos 7) ∷ []))) nothing ≡
    Done (Some (Int (negsuc 0))) (after (an_object (Int (pos 5) ∷ Int (pos 1) ∷ [])) 999984 16)
unfolding java meanings opened int_wrap
on_object = refl

-- static int f(int n) { return f(n); }
abbrev recursive : CoreMethod
recursive = method true int (local_of int ∷ []) (body (gives (expr (CallExact (maybe_core None) (record { 0 = 0 }) 0 (cores (local 0 ∷ [])))) ∷ []))

never_ends : call (program (recursive ∷ [])) 41 receiver.None (record { 0 = 0 }) 0 (Int (pos 7) ∷ []) (world []) nothing ≡ Spent (record (after [] 0 41) { own = record { this = Null; locals = Int (pos 7) ∷ [] } })
unfolding java meanings opened
never_ends = refl

-- null has no slots: there is no NullPointerException in a program of one class
on_null : call (program (caller (local 0) ∷ called ∷ [])) 1000000 receiver.None (record { 0 = 0 }) 0 (Null ∷ []) (world []) nothing ≡ Wrong
unfolding java meanings opened null_pointer library_class
on_null = refl

-- a new A from outside: its 2 slots, and its constructor's Block
starts : call (program (constructor ∷ [])) 10 receiver.Fresh (record { 0 = 0 }) 0 [] (world []) nothing ≡
    Done (Some (Ref (record { 0 = 0 }))) (after (an_object (Int (pos 0) ∷ Int (pos 0) ∷ [])) 7 1)
unfolding java meanings opened
starts = refl

-- int f(int n) { return (n = 5) - n; }: the left operand comes first (JLS 15.7.1)
abbrev five_first : CoreMethod
five_first = method true int (local_of int ∷ []) (body (gives (expr (Binary Sub (expr (Assign (local 0) (constant (Int (pos 5))))) (local 0))) ∷ []))

left_first : run (five_first ∷ []) (Int (pos 7) ∷ []) ≡ Done (Some (Int (pos 0))) (after [] 999994 6)
unfolding java meanings opened int_wrap
left_first = refl

-- a call a.g(a = 1, 2), whose first argument changes the local that is the receiver: the receiver comes first
-- (JLS 15.12.4.1)
abbrev forgets : CoreMethod
forgets = method true int (local_of class_a ∷ []) (body (gives (expr (CallVirtual (local 0) (record { 0 = 0 }) 1 (cores (expr (Assign (local 0) (constant (Int (pos 1)))) ∷ constant (Int (pos 2)) ∷ [])))) ∷ []))

receiver_first : call (program (forgets ∷ called ∷ [])) 1000000 receiver.None (record { 0 = 0 }) 0 (Ref (record { 0 = 0 }) ∷ []) (world (an_object (Int (pos 5) ∷ Int (pos 7) ∷ []))) nothing ≡
    Done (Some (Int (negsuc 0))) (after (an_object (Int (pos 5) ∷ Int (pos 1) ∷ [])) 999983 17)
unfolding java meanings opened int_wrap
receiver_first = refl

-- a class without members
abbrev pub empty : CoreClass
empty = record (class_of_methods []) { fields = [] }

-- the same program with as many classes that the last is NullPointerException: its caller's variables are back (the
-- caller of a whole call has none), and the exception is the one new object
throws_on_null : call (record { classes = (program (caller (local 0) ∷ called ∷ [])).classes ++ replicate 34 empty; texts = [] }) 1000000 receiver.None (record { 0 = 0 }) 0 (Null ∷ []) (world []) nothing ≡
    Thrown (record { 0 = 0 }) (after (Instance (record { 0 = 34 }) [] ∷ []) 999994 6)
unfolding java meanings opened null_pointer library_class
throws_on_null = refl

-- int f(int n) { return n / n; } on 1 and on 0, which throws (JLS 15.17.2): Block, Return, Binary and its two parts
abbrev divides : CoreMethod
divides = method true int (local_of int ∷ []) (body (gives (expr (Binary Div (local 0) (local 0))) ∷ []))

divided : run (divides ∷ []) (Int (pos 1) ∷ []) ≡ Done (Some (Int (pos 1))) (after [] 999995 5)
unfolding java meanings opened int_wrap
divided = refl

by_zero : call (record { classes = (program (divides ∷ [])).classes ++ replicate 27 empty; texts = [] }) 1000000 receiver.None (record { 0 = 0 }) 0 (Int (pos 0) ∷ []) (world []) nothing ≡
    Thrown (record { 0 = 0 }) (after (Instance (record { 0 = 27 }) [] ∷ []) 999995 5)
unfolding java meanings opened arithmetic library_class
by_zero = refl

-- int f(int n) { if (n < 5 && n != 3) return n < 0 ? -n : ~n; else ; return 7; }
abbrev picks : CoreMethod
picks = method true int (local_of int ∷ []) (body
    (statement (If (expr (And (expr (Binary Lt (local 0) (constant (Int (pos 5))))) (expr (Binary Ne (local 0) (constant (Int (pos 3)))))))
    (gives (expr (Choose (expr (Binary Lt (local 0) (constant (Int (pos 0))))) (expr (Unary Minus (local 0))) (expr (Unary Tilde (local 0))))))
    (maybe_stmt (Some (statement Empty))))
    ∷ gives (constant (Int (pos 7))) ∷ []))

-- the Block, If, And and its left operand's 3 nodes; then Empty, Return and Const
left_decides : run (picks ∷ []) (Int (pos 9) ∷ []) ≡ Done (Some (Int (pos 7))) (after [] 999991 9)
unfolding java meanings opened int_wrap
left_decides = refl

-- the 3 nodes of the right operand too
right_decides : run (picks ∷ []) (Int (pos 3) ∷ []) ≡ Done (Some (Int (pos 7))) (after [] 999988 12)
unfolding java meanings opened int_wrap
right_decides = refl

-- in place of the last 3: Return, Choose and its condition's 3 nodes, Unary and Local
complements : run (picks ∷ []) (Int (pos 1) ∷ []) ≡ Done (Some (Int (negsuc 1))) (after [] 999984 16)
unfolding java meanings opened int_wrap
complements = refl

negates : run (picks ∷ []) (Int (negsuc 3) ∷ []) ≡ Done (Some (Int (pos 4))) (after [] 999984 16)
unfolding java meanings opened int_wrap
negates = refl

-- `true || false`: the right operand does not begin
either : run (method true int [] (body (gives (expr (Or (constant (Truth true)) (constant (Truth false)))) ∷ [])) ∷ []) [] ≡ Done (Some (Truth true)) (after [] 999996 4)
unfolding java meanings opened
either = refl

-- boolean f(A a, A b) { return a == b; } and `!=`, on one object, on two alike, on null
abbrev compares : BinOp → List CoreMethod
compares op = method true boolean (local_of class_a ∷ local_of class_a ∷ []) (body (gives (expr (Binary op (local 0) (local 1))) ∷ [])) ∷ []

abbrev reference : ℕ → Value
reference n = Ref (record { 0 = n })

abbrev two_alike : List Obj
two_alike = Instance (record { 0 = 0 }) [] ∷ Instance (record { 0 = 0 }) [] ∷ []

abbrev run_on_two : BinOp → Value → Value → Answer
run_on_two op a b = call (program (compares op)) 1000000 receiver.None (record { 0 = 0 }) 0 (a ∷ b ∷ []) (world two_alike) nothing

one_object : run_on_two Eq (reference 1) (reference 1) ≡ Done (Some (Truth true)) (after two_alike 999995 5)
unfolding java meanings opened
one_object = refl

two_objects : run_on_two Eq (reference 0) (reference 1) ≡ Done (Some (Truth false)) (after two_alike 999995 5)
unfolding java meanings opened
two_objects = refl

no_object : run_on_two Ne (reference 0) Null ≡ Done (Some (Truth true)) (after two_alike 999995 5)
unfolding java meanings opened
no_object = refl

both_null : run_on_two Eq Null Null ≡ Done (Some (Truth true)) (after two_alike 999995 5)
unfolding java meanings opened
both_null = refl

-- no other operator takes a reference
no_sum : run_on_two Add (reference 0) Null ≡ Wrong
unfolding java meanings opened
no_sum = refl

-- `(byte) 200`
abbrev byte : Ty
byte = record { base = ByteBase; dims = 0 }

narrows : run (method true byte [] (body (gives (node (Convert (constant (Int (pos 200)))) byte nowhere nowhere) ∷ [])) ∷ []) [] ≡ Done (Some (Byte (negsuc 55))) (after [] 999996 4)
unfolding java meanings opened int_wrap
narrows = refl

-- loops: the node takes a unit once, a turn only what its condition, body and steps take

abbrev zero_below : Core → Core
zero_below e = expr (Binary Lt (constant (Int (pos 0))) e)

abbrev below_three : Core → Core
below_three e = expr (Binary Lt e (constant (Int (pos 3))))

abbrev decreased : Core → Core
decreased e = expr (Assign e (expr (Binary Sub e (constant (Int (pos 1))))))

-- for (; 0 < n; n = n - 1) ; and the method that gives n after it
abbrev counts_down : CoreStmt
counts_down = statement (Loop (zero_below (local 0)) (decreased (local 0) ∷ []) (statement Empty))

abbrev gives_n_after : List CoreStmt → CoreMethod
gives_n_after parts = method true int (local_of int ∷ []) (body (parts ++ gives (local 0) ∷ []))

-- the Block, the Loop, its condition's 3 nodes, Return and Local
no_turn : run (gives_n_after (counts_down ∷ []) ∷ []) (Int (pos 0) ∷ []) ≡ Done (Some (Int (pos 0))) (after [] 999993 7)
unfolding java meanings opened int_wrap
no_turn = refl

-- 8 more a turn: Empty, the step's 4 nodes and the condition's 3
three_turns : run (gives_n_after (counts_down ∷ []) ∷ []) (Int (pos 3) ∷ []) ≡ Done (Some (Int (pos 0))) (after [] 999969 31)
unfolding java meanings opened int_wrap
three_turns = refl

-- as many units as it takes, and one fewer
enough_to_turn : call (program (gives_n_after (counts_down ∷ []) ∷ [])) 31 receiver.None (record { 0 = 0 }) 0 (Int (pos 3) ∷ []) (world []) nothing ≡ Done (Some (Int (pos 0))) (after [] 0 31)
unfolding java meanings opened int_wrap
enough_to_turn = refl

too_few_to_turn : call (program (gives_n_after (counts_down ∷ []) ∷ [])) 28 receiver.None (record { 0 = 0 }) 0 (Int (pos 3) ∷ []) (world []) nothing ≡
    Spent (record (after [] 0 28) { own = record { this = Null; locals = Int (pos 0) ∷ [] } })
unfolding java meanings opened int_wrap
too_few_to_turn = refl

-- do n = n + 1; while (0 < n); on -1: its body runs before the condition is asked
do_first : run (gives_n_after (statement (DoLoop counts (zero_below (local 0))) ∷ []) ∷ []) (Int (negsuc 0) ∷ []) ≡ Done (Some (Int (pos 0))) (after [] 999988 12)
unfolding java meanings opened int_wrap
do_first = refl

abbrev forever : CoreStmt → CoreStmt
forever s = statement (Loop (constant (Truth true)) [] s)

abbrev breaks : Option NameId → CoreStmt
breaks label = statement (Jump false label)

abbrev continues : Option NameId → CoreStmt
continues label = statement (Jump true label)

abbrev label : ℕ → NameId
label n = record { 0 = n }

-- while (true) { n = n + 1; break; }
breaks_out : run (gives_n_after (forever (body (counts ∷ breaks None ∷ [])) ∷ []) ∷ []) (Int (pos 1) ∷ []) ≡ Done (Some (Int (pos 2))) (after [] 999988 12)
unfolding java meanings opened int_wrap
breaks_out = refl

-- a: { n = n + 1; break a; n = n + 1; }
breaks_block : run (gives_n_after (statement (Labelled (label 0) (body (counts ∷ breaks (Some (label 0)) ∷ counts ∷ []))) ∷ []) ∷ []) (Int (pos 1) ∷ []) ≡ Done (Some (Int (pos 2))) (after [] 999989 11)
unfolding java meanings opened int_wrap
breaks_block = refl

-- for (; n < 3; n = n + 1) { continue; n = n + 1; }: a `continue` runs the steps
continue_steps : run (gives_n_after (statement (Loop (below_three (local 0)) (expr (Assign (local 0) (increased (local 0))) ∷ []) (body (continues None ∷ counts ∷ []))) ∷ []) ∷ []) (Int (pos 1) ∷ []) ≡
    Done (Some (Int (pos 3))) (after [] 999975 25)
unfolding java meanings opened int_wrap
continue_steps = refl

-- a: for (; n < 3; n = n + 1) { while (true) continue a; }: through the inner loop, to the steps of the outer one
continue_outer : run (gives_n_after (statement (Labelled (label 0) (statement (Loop (below_three (local 0)) (expr (Assign (local 0) (increased (local 0))) ∷ []) (body (forever (continues (Some (label 0))) ∷ []))))) ∷ []) ∷ []) (Int (pos 1) ∷ []) ≡
    Done (Some (Int (pos 3))) (after [] 999970 30)
unfolding java meanings opened int_wrap
continue_outer = refl

-- a: b: while (n < 3) { n = n + 1; continue b; }, or `continue a`, or either in turn
abbrev two_labels : CoreStmt → CoreMethod
two_labels s = gives_n_after (statement (Labelled (label 0) (statement (Labelled (label 1) (statement (Loop (below_three (local 0)) [] (body (counts ∷ s ∷ []))))))) ∷ [])

continue_inner_label : run (two_labels (continues (Some (label 1))) ∷ []) (Int (pos 1) ∷ []) ≡ Done (Some (Int (pos 3))) (after [] 999971 29)
unfolding java meanings opened int_wrap
continue_inner_label = refl

continue_outer_label : run (two_labels (continues (Some (label 0))) ∷ []) (Int (pos 1) ∷ []) ≡ Done (Some (Int (pos 3))) (after [] 999971 29)
unfolding java meanings opened int_wrap
continue_outer_label = refl

break_after_continue : run (two_labels (statement (If (expr (Binary Lt (local 0) (constant (Int (pos 2))))) (continues (Some (label 0))) (maybe_stmt (Some (breaks (Some (label 1))))))) ∷ []) (Int (pos 0) ∷ []) ≡
    Done (Some (Int (pos 2))) (after [] 999966 34)
unfolding java meanings opened int_wrap
break_after_continue = refl

-- no label of that name stands there
stray_jump : run (gives_n_after (forever (breaks (Some (label 0))) ∷ []) ∷ []) (Int (pos 1) ∷ []) ≡ Wrong
unfolding java meanings opened int_wrap
stray_jump = refl

-- exceptions: class 1 is E, class 2 is F, a subclass of it; local 1 is what a catch takes. Class 0 has a constructor in the place of
-- Object's, whose name is that of all constructors

abbrev pub exception_class : Option ClassId → CoreClass
exception_class superclass = record empty { methods = constructor ∷ []; superclass = superclass }

abbrev pub class_number : ℕ → ClassId
class_number n = record { 0 = n }

abbrev pub with_exceptions : List CoreStmt → List CoreClass → CoreProgram
with_exceptions parts more = record {
  classes = class_of_methods (method true int (local_of int ∷ local_of class_a ∷ []) (body parts) ∷ constructor ∷ constructor ∷ [])
      ∷ exception_class None ∷ exception_class (Some (class_number 1)) ∷ more;
  texts = [];
}

abbrev pub tries : ℕ → List CoreStmt → List CoreClass → Answer
tries units parts more = call (with_exceptions parts more) units receiver.None (record { 0 = 0 }) 0 (Int (pos 5) ∷ []) (world []) nothing

-- new E(), new F(): New and its constructor's Block
abbrev throws : ℕ → CoreStmt
throws class = statement (Throw (expr (New (class_number class) 0 (cores []) [] nowhere)))

abbrev caught_as : ℕ → CoreStmt → List CoreCatch
caught_as class block = catch 1 (class_number class) nowhere block ∷ []

abbrev try_to : List CoreStmt → List CoreCatch → Option CoreStmt → CoreStmt
try_to parts catches last = statement (Try (body parts) (core_catches catches) (maybe_stmt last))

abbrev gives_one : CoreStmt
gives_one = gives (constant (Int (pos 1)))

abbrev gives_two : CoreStmt
gives_two = gives (constant (Int (pos 2)))

-- try { throw new F(); } catch (E e) { return 1; }: Block, Try, Block, Throw, New and the constructors' 2 Blocks, Block, Return and
-- Const
caught_above : tries 1000000 (try_to (throws 2 ∷ []) (caught_as 1 (body (gives_one ∷ []))) None ∷ []) [] ≡
    Done (Some (Int (pos 1))) (after (Instance (class_number 2) [] ∷ []) 999990 10)
unfolding java meanings opened constructor_place object_class library_class
caught_above = refl

-- try { throw new E(); } catch (F e) { return 1; }
not_caught_below : tries 1000000 (try_to (throws 1 ∷ []) (caught_as 2 (body (gives_one ∷ []))) None ∷ []) [] ≡
    Thrown (record { 0 = 0 }) (after (Instance (class_number 1) [] ∷ []) 999994 6)
unfolding java meanings opened
not_caught_below = refl

-- the first catch that takes it
first_catch : tries 1000000 (try_to (throws 2 ∷ []) (caught_as 2 (body (gives_two ∷ [])) ++ caught_as 1 (body (gives_one ∷ []))) None ∷ []) [] ≡
    Done (Some (Int (pos 2))) (after (Instance (class_number 2) [] ∷ []) 999990 10)
unfolding java meanings opened constructor_place object_class library_class
first_catch = refl

-- what is caught comes to the local: catch (E e) { throw e; }
thrown_on : tries 1000000 (try_to (throws 1 ∷ []) (caught_as 1 (body (statement (Throw (local 1)) ∷ []))) None ∷ []) [] ≡
    Thrown (record { 0 = 0 }) (after (Instance (class_number 1) [] ∷ []) 999991 9)
unfolding java meanings opened
thrown_on = refl

-- throw null, in a program whose last class is NullPointerException
throws_null : tries 1000000 (try_to (statement (Throw (constant Null)) ∷ []) (caught_as 34 (body (gives_one ∷ []))) None ∷ []) (replicate 32 empty) ≡
    Done (Some (Int (pos 1))) (after (Instance (class_number 34) [] ∷ []) 999992 8)
unfolding java meanings opened null_pointer library_class
throws_null = refl

-- try { return 1; } finally { return 2; }
finally_overrides : tries 1000000 (try_to (gives_one ∷ []) [] (Some (body (gives_two ∷ []))) ∷ []) [] ≡ Done (Some (Int (pos 2))) (after [] 999992 8)
unfolding java meanings opened
finally_overrides = refl

-- try { return n; } finally { n = n + 1; }: what is returned stays
finally_keeps : tries 1000000 (try_to (gives (local 0) ∷ []) [] (Some (body (counts ∷ []))) ∷ []) [] ≡ Done (Some (Int (pos 5))) (after [] 999989 11)
unfolding java meanings opened int_wrap
finally_keeps = refl

-- while (true) { try { break; } finally { n = n + 1; } } return n;
finally_on_jump : tries 1000000 (forever (body (try_to (breaks None ∷ []) [] (Some (body (counts ∷ []))) ∷ [])) ∷ gives (local 0) ∷ []) [] ≡ Done (Some (Int (pos 6))) (after [] 999985 15)
unfolding java meanings opened int_wrap
finally_on_jump = refl

-- try { throw new E(); } catch (E e) { throw new F(); } finally { n = n + 1; return n; }
finally_after_catch : tries 1000000 (try_to (throws 1 ∷ []) (caught_as 1 (body (throws 2 ∷ []))) (Some (body (counts ∷ gives (local 0) ∷ []))) ∷ []) [] ≡
    Done (Some (Int (pos 6))) (after (Instance (class_number 1) [] ∷ Instance (class_number 2) [] ∷ []) 999981 19)
unfolding java meanings opened int_wrap constructor_place object_class library_class
finally_after_catch = refl

-- the end of the units is no exception: try { while (true) ; } catch (E e) { return 1; } finally { return 2; }
spent_is_not_caught : tries 41 (try_to (forever (statement Empty) ∷ []) (caught_as 1 (body (gives_one ∷ []))) (Some (body (gives_two ∷ []))) ∷ []) [] ≡
    Spent (record (after [] 0 41) { own = record { this = Null; locals = Int (pos 5) ∷ Null ∷ [] } })
unfolding java meanings opened
spent_is_not_caught = refl

-- casts and `instanceof`

abbrev pub type_of : ℕ → Ty
type_of n = record { base = ClassBase (class_number n); dims = 0 }

abbrev pub new_of : ℕ → Core
new_of class = expr (New (class_number class) 0 (cores []) [] nowhere)

abbrev asks : Core → ℕ → List CoreStmt
asks e class = gives (expr (InstanceOf e (type_of class))) ∷ []

-- new F() instanceof E, which is above F: Block, Return, InstanceOf, New and the constructors' Blocks
instance_of_above : tries 1000000 (asks (new_of 2) 1) [] ≡ Done (Some (Truth true)) (after (Instance (class_number 2) [] ∷ []) 999994 6)
unfolding java meanings opened is_subtype is_below constructor_place object_class library_class
instance_of_above = refl

-- new E() instanceof F
instance_of_below : tries 1000000 (asks (new_of 1) 2) [] ≡ Done (Some (Truth false)) (after (Instance (class_number 1) [] ∷ []) 999995 5)
unfolding java meanings opened is_subtype is_below object_class library_class
instance_of_below = refl

-- null is no instance of any class
null_instance : tries 1000000 (asks (constant Null) 1) [] ≡ Done (Some (Truth false)) (after [] 999996 4)
unfolding java meanings opened
null_instance = refl

abbrev casts : Core → ℕ → List CoreStmt
casts e class = gives (node (Cast e) (type_of class) nowhere nowhere) ∷ []

-- (E) new F(), and (F) new E(), which throws, in a program whose last class is ClassCastException
cast_up : tries 1000000 (casts (new_of 2) 1) [] ≡ Done (Some (reference 0)) (after (Instance (class_number 2) [] ∷ []) 999994 6)
unfolding java meanings opened is_subtype is_below constructor_place object_class library_class
cast_up = refl

cast_down : tries 1000000 (casts (new_of 1) 2) (replicate 27 empty) ≡
    Thrown (record { 0 = 1 }) (after (Instance (class_number 1) [] ∷ Instance (class_number 29) [] ∷ []) 999995 5)
unfolding java meanings opened is_subtype is_below object_class library_class class_cast
cast_down = refl

cast_null : tries 1000000 (casts (constant Null) 1) [] ≡ Done (Some Null) (after [] 999996 4)
unfolding java meanings opened
cast_null = refl

-- compound assignment: the place is no node

abbrev update : Core → Option Core → Bool → Core
update place operand gives_old = expr (Update place Add (maybe_core operand) gives_old)

abbrev gives_of : Core → List CoreMethod
gives_of e = method true int (local_of int ∷ []) (body (gives e ∷ [])) ∷ []

-- n++ + n and ++n + n: Block, Return, Binary, Update and Local
old_value : run (gives_of (expr (Binary Add (update (local 0) None true) (local 0)))) (Int (pos 5) ∷ []) ≡ Done (Some (Int (pos 11))) (after [] 999995 5)
unfolding java meanings opened int_wrap
old_value = refl

new_value : run (gives_of (expr (Binary Add (update (local 0) None false) (local 0)))) (Int (pos 5) ∷ []) ≡ Done (Some (Int (pos 12))) (after [] 999995 5)
unfolding java meanings opened int_wrap
new_value = refl

-- n += (n = 7): the place has its value before the operand is evaluated
old_before_operand : run (gives_of (update (local 0) (Some (expr (Assign (local 0) (constant (Int (pos 7)))))) false)) (Int (pos 5) ∷ []) ≡ Done (Some (Int (pos 12))) (after [] 999995 5)
unfolding java meanings opened int_wrap
old_before_operand = refl

-- b++ on a byte is converted back
byte_wraps : run (method true byte (local_of byte ∷ []) (body (gives (node (Update (local 0) Add (maybe_core None) false) byte nowhere nowhere) ∷ [])) ∷ []) (Byte (pos 127) ∷ []) ≡
    Done (Some (Byte (negsuc 127))) (after [] 999997 3)
unfolding java meanings opened int_wrap
byte_wraps = refl

-- n += 1L adds longs, and n <<= 33L shifts an int
long_operand : run (gives_of (update (local 0) (Some (constant (Long (pos 1)))) false)) (Int (pos 2147483647) ∷ []) ≡ Done (Some (Int (negsuc 2147483647))) (after [] 999996 4)
unfolding java meanings opened int_wrap
long_operand = refl

shift_operand : run (gives_of (expr (Update (local 0) Shl (maybe_core (Some (constant (Long (pos 33))))) false))) (Int (pos 5) ∷ []) ≡ Done (Some (Int (pos 10))) (after [] 999996 4)
unfolding java meanings opened int_wrap
shift_operand = refl

-- m += 1; on the last field: the Block, Do, Update, This and Const
update_field : call (program (method false void [] (body (does (update last_field (Some (constant (Int (pos 1)))) false) ∷ [])) ∷ [])) 1000000 (receiver.Object (record { 0 = 0 })) (record { 0 = 0 }) 0 [] (world (an_object (Int (pos 5) ∷ Int (pos 7) ∷ []))) nothing ≡
    Done None (after (an_object (Int (pos 5) ∷ Int (pos 8) ∷ [])) 999995 5)
unfolding java meanings opened int_wrap
update_field = refl

-- a.m += 1 on null throws before the operand begins: the Block, Do, Update and Local
update_null : call (record { classes = (program (method true void (local_of class_a ∷ []) (body (does (update (expr (Field (local 0) (record { 0 = 0 }) 2)) (Some (constant (Int (pos 1)))) false) ∷ [])) ∷ [])).classes ++ replicate 34 empty; texts = [] })
    1000000 receiver.None (record { 0 = 0 }) 0 (Null ∷ []) (world []) nothing ≡ Thrown (record { 0 = 0 }) (after (Instance (record { 0 = 34 }) [] ∷ []) 999996 4)
unfolding java meanings opened null_pointer library_class
update_null = refl

-- switch

abbrev case_of : Option ℤ → List CoreStmt → CoreGroup
case_of value parts = group (record { value = value; uses = []; span = nowhere } ∷ []) (core_stmts parts)

abbrev switch_on : Core → List CoreGroup → CoreStmt
switch_on selector groups = statement (Switch [] selector (core_groups groups))

abbrev becomes : ℤ → CoreStmt
becomes z = does (expr (Assign (local 0) (constant (Int z))))

-- switch (n) { case 1: n = 10; case 2: n = n + 1; break; default: n = 7; }
abbrev switches : CoreMethod
switches = gives_n_after (switch_on (local 0) (case_of (Some (pos 1)) (becomes (pos 10) ∷ []) ∷ case_of (Some (pos 2)) (counts ∷ breaks None ∷ []) ∷ case_of None (becomes (pos 7) ∷ []) ∷ []) ∷ [])

falls_through : run (switches ∷ []) (Int (pos 1) ∷ []) ≡ Done (Some (Int (pos 11))) (after [] 999986 14)
unfolding java meanings opened int_wrap
falls_through = refl

breaks_switch : run (switches ∷ []) (Int (pos 2) ∷ []) ≡ Done (Some (Int (pos 3))) (after [] 999989 11)
unfolding java meanings opened int_wrap
breaks_switch = refl

takes_default : run (switches ∷ []) (Int (pos 9) ∷ []) ≡ Done (Some (Int (pos 7))) (after [] 999992 8)
unfolding java meanings opened int_wrap
takes_default = refl

-- switch (n) { default: n = n + 1; case 1: n = n + 1; }: the default group falls through too
abbrev default_first : CoreMethod
default_first = gives_n_after (switch_on (local 0) (case_of None (counts ∷ []) ∷ case_of (Some (pos 1)) (counts ∷ []) ∷ []) ∷ [])

default_falls : run (default_first ∷ []) (Int (pos 9) ∷ []) ≡ Done (Some (Int (pos 11))) (after [] 999985 15)
unfolding java meanings opened int_wrap
default_falls = refl

past_default : run (default_first ∷ []) (Int (pos 1) ∷ []) ≡ Done (Some (Int (pos 2))) (after [] 999990 10)
unfolding java meanings opened int_wrap
past_default = refl

-- no group is taken
none_taken : run (gives_n_after (switch_on (local 0) (case_of (Some (pos 1)) (counts ∷ []) ∷ []) ∷ []) ∷ []) (Int (pos 9) ∷ []) ≡ Done (Some (Int (pos 9))) (after [] 999995 5)
unfolding java meanings opened
none_taken = refl

-- while (n < 3) { switch (1) { case 1: n = n + 1; continue; } return 0; }: a `continue` passes by the switch
continues_past_switch : run (gives_n_after (statement (Loop (below_three (local 0)) [] (body (switch_on (constant (Int (pos 1))) (case_of (Some (pos 1)) (counts ∷ continues None ∷ []) ∷ []) ∷ gives (constant (Int (pos 0))) ∷ []))) ∷ []) ∷ []) (Int (pos 1) ∷ []) ≡
    Done (Some (Int (pos 3))) (after [] 999969 31)
unfolding java meanings opened int_wrap
continues_past_switch = refl
