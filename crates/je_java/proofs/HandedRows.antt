-- Worked rows on hidden fields (JLS 8.1.3, 15.9.2): a new object has the object round it, and the locals that its class
-- uses, before its constructor runs, and they cost nothing.
use Rattle.std.proofs.Common.{◌≡◌, ℕ, List, [], ◌∷◌, Some, None, refl}
use Rattle.std.specs.Prelude.{pos, false}
use Rattle.std.specs.Int.{int_wrap}
use Rattle.je_core.specs.declared.object.Obj.TheVariants.{Instance}
use Rattle.je_core.specs.declared.types.ClassId.{ClassId}
use Rattle.je_core.specs.declared.value.Value.{Value}
use Rattle.je_core.specs.declared.value.Value.TheVariants.{Int, Ref}
use Rattle.je_core.specs.Core.{Core, CoreCapture, This, Field, Assign, New, CoreMethod, CoreProgram, cores}
use Rattle.je_java.specs.declared.call.Receiver.TheVariants as receiver
use Rattle.je_java.specs.Steps.{Answer, Done}
use Rattle.je_java.specs.Meaning.{java, meanings, call}
use Rattle.je_java.specs.way.Opened.{opened}
use Rattle.je_java.proofs.Rows.{nowhere, int, void, expr, increased, local_of, does, gives, body, method, class_of_methods, class_number, type_of, world, nothing, after}

-- the hidden fields of class 1, B: that of a local, and one behind `this`
abbrev of_local : ℕ → ℕ → CoreCapture
of_local field local = record { class = class_number 1; field = field; local = Some local; path = [] }

abbrev behind_this : ℕ → List (ClassId × ℕ) → CoreCapture
behind_this field path = record { class = class_number 1; field = field; local = None; path = path }

abbrev first_field : Core
first_field = expr (Field (expr This) (class_number 1) 0)

-- a constructor that counts up the first field
abbrev counts_up : CoreMethod
counts_up = method false void [] (body (does (expr (Assign first_field (increased first_field))) ∷ []))

-- class 0, A: B f(int x) { return new B(); }, and class 1, B
abbrev two_classes : List CoreCapture → CoreProgram
two_classes captures = record {
  classes = class_of_methods (method false (type_of 1) (local_of int ∷ []) (body (gives (expr (New (class_number 1) 0 (cores []) captures nowhere)) ∷ [])) ∷ [])
      ∷ class_of_methods (counts_up ∷ []) ∷ [];
  texts = [];
}

-- f(9) on the object 0, an A of 5 and 7
abbrev runs : List CoreCapture → Answer
runs captures = call (two_classes captures) 1000000 (receiver.Object (record { 0 = 0 })) (class_number 0) 0 (Int (pos 9) ∷ []) (world (Instance (class_number 0) (Int (pos 5) ∷ Int (pos 7) ∷ []) ∷ [])) nothing

abbrev comes_to : Value → Answer
comes_to last = Done (Some (Ref (record { 0 = 1 })))
    (after (Instance (class_number 0) (Int (pos 5) ∷ Int (pos 7) ∷ []) ∷ Instance (class_number 1) (Int (pos 10) ∷ last ∷ []) ∷ []) 999987 11)

-- Block, Return, New and 2 slots, and the 8 nodes of the constructor
outer_object : runs (of_local 0 0 ∷ behind_this 2 [] ∷ []) ≡ comes_to (Ref (record { 0 = 0 }))
unfolding java meanings opened int_wrap
outer_object = refl

-- behind `this`, the last field of A
through_a_field : runs (of_local 0 0 ∷ behind_this 2 ((class_number 0, 2) ∷ []) ∷ []) ≡ comes_to (Int (pos 7))
unfolding java meanings opened int_wrap
through_a_field = refl
