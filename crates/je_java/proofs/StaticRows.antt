-- Worked rows on class variables and constant strings (JLS 4.12.3, 15.11.1, 3.10.5): what they come to, and what they cost.
use Rattle.std.proofs.Common.{◌≡◌, ℕ, List, [], ◌∷◌, Option, Some, None, refl}
use Rattle.std.specs.Prelude.{ℤ, Bool, pos, true, false, codes}
use Rattle.std.specs.Int.{int_wrap}
use Rattle.je_core.specs.declared.value.Value.{Value}
use Rattle.je_core.specs.declared.value.Value.TheVariants.{Int, Bool as Truth, Null, Ref}
use Rattle.je_core.specs.declared.expr.BinOp.TheVariants.{Add, Eq}
use Rattle.je_core.specs.Core.{Core, Text, Static, Assign, Update, Binary, CoreStmt, CoreProgram, maybe_core}
use Rattle.je_java.specs.declared.call.Receiver.TheVariants as receiver
use Rattle.je_java.specs.World.{World}
use Rattle.je_java.specs.Steps.{Answer, Done, Wrong}
use Rattle.je_java.specs.Meaning.{java, meanings, call}
use Rattle.je_java.specs.way.Opened.{opened}
use Rattle.je_java.proofs.Rows.{int, expr, constant, increased, does, gives, body, method, class_of_methods, class_number, nothing, after}

-- the classes A and B, each with the static field `s` between two others, and the constant strings "ab" and "cd"
abbrev a_program : List CoreStmt → CoreProgram
a_program parts = record {
  classes = class_of_methods (method true int [] (body parts) ∷ []) ∷ class_of_methods [] ∷ [];
  texts = codes "ab" ∷ codes "cd" ∷ [];
}

abbrev reference_to : ℕ → Value
reference_to n = Ref (record { 0 = n })

-- with A.s, B.s and the references of the strings
abbrev with_variables : ℤ → ℤ → World
with_variables a b = record { objects = []; statics = Int a ∷ Int b ∷ reference_to 0 ∷ reference_to 1 ∷ [] }

-- a call of A's method, where A.s is 5 and B.s is 7
abbrev runs : List CoreStmt → Answer
runs parts = call (a_program parts) 1000000 receiver.None (class_number 0) 0 [] (with_variables (pos 5) (pos 7)) nothing

abbrev comes_to : Value → ℤ → ℤ → ℕ → ℕ → Answer
comes_to value a b units begun = Done (Some value) (record (after [] units begun) { world = with_variables a b })

abbrev variable_on : Option Core → ℕ → Core
variable_on object class = expr (Static (maybe_core object) (class_number class) 1)

abbrev variable : ℕ → Core
variable class = variable_on None class

abbrev update : Option Core → Bool → Core
update operand gives_old = expr (Update (variable 0) Add (maybe_core operand) gives_old)

abbrev text : List ℕ → Core
text units = expr (Text units [])

-- return B.s;: Block, Return and Static
reads : runs (gives (variable 1) ∷ []) ≡ comes_to (Int (pos 7)) (pos 5) (pos 7) 999997 3
unfolding java meanings opened
reads = refl

-- A.s = B.s + 1; return A.s;: the Block, Do, Assign and 3 nodes, Return and Static
writes : runs (does (expr (Assign (variable 0) (increased (variable 1)))) ∷ gives (variable 0) ∷ []) ≡ comes_to (Int (pos 8)) (pos 8) (pos 7) 999992 8
unfolding java meanings opened int_wrap
writes = refl

-- return A.s += 3;, and return A.s++;
adds : runs (gives (update (Some (constant (Int (pos 3)))) false) ∷ []) ≡ comes_to (Int (pos 8)) (pos 8) (pos 7) 999996 4
unfolding java meanings opened int_wrap
adds = refl

counts_up : runs (gives (update None true) ∷ []) ≡ comes_to (Int (pos 5)) (pos 6) (pos 7) 999997 3
unfolding java meanings opened int_wrap
counts_up = refl

-- ((A) null).s, folded: what stands before the name is evaluated, and null is dropped as any other value
on_null : runs (gives (variable_on (Some (constant Null)) 0) ∷ []) ≡ comes_to (Int (pos 5)) (pos 5) (pos 7) 999996 4
unfolding java meanings opened
on_null = refl

writes_on_null : runs (gives (expr (Assign (variable_on (Some (constant Null)) 0) (constant (Int (pos 9))))) ∷ []) ≡ comes_to (Int (pos 9)) (pos 9) (pos 7) 999995 5
unfolding java meanings opened
writes_on_null = refl

-- a field of an instance is no class variable
no_variable : runs (gives (expr (Static (maybe_core None) (class_number 0) 0)) ∷ []) ≡ Wrong
unfolding java meanings opened
no_variable = refl

-- "ab" == "ab", and "ab" == "cd": Block, Return, Binary and 2 Text
one_string : runs (gives (expr (Binary Eq (text (codes "ab")) (text (codes "ab")))) ∷ []) ≡ comes_to (Truth true) (pos 5) (pos 7) 999995 5
unfolding java meanings opened
one_string = refl

two_strings : runs (gives (expr (Binary Eq (text (codes "ab")) (text (codes "cd")))) ∷ []) ≡ comes_to (Truth false) (pos 5) (pos 7) 999995 5
unfolding java meanings opened
two_strings = refl
