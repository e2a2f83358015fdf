-- Worked rows of expressions: the order of faults, what a variable is for, final variables, and what an expression
-- mentions. The classes are those of the rows of `name_typing`.
use Rattle.std.proofs.Common.{◌≡◌, refl, ℕ}
use Rattle.std.specs.Prelude.{Bool, true, false, [], ◌∷◌, None, pos, negsuc}
use Rattle.je_core.specs.declared.types.Base.TheVariants as base
use Rattle.je_core.specs.declared.value.Value.TheVariants as value
use Rattle.je_core.specs.Core.{Assign, Const, CoreForm, Field, Static, no_core, node}
use Rattle.je_ast.specs.declared.expr.Literal.TheVariants as literal
use Rattle.je_ast.specs.declared.operator.BinaryOp.TheVariants.{Add, Multiply}
use Rattle.je_ast.specs.declared.operator.PrefixOp.TheVariants.{Minus, Plus}
use Rattle.je_ast.specs.Trees.{Expression}
use Rattle.je_ast.specs.Trees as tree
use Rattle.je_classes.specs.Hierarchy.{object_class, library_class}
use Rattle.je_scopes.specs.Sites.{instance, static}
use Rattle.je_typing.specs.declared.fault.TypeRule.TheVariants.{BadOperand, BadTarget, FinalAssign, LiteralRange, NotConvertible, UnknownName}
use Rattle.je_typing.specs.Assignments.{assignment, place}
use Rattle.je_typing.specs.Conversions.{assigned as assigned_to, converted}
use Rattle.je_typing.specs.Judged.{Judged, bind, breaks, check, gives, need}
use Rattle.je_typing.specs.Literals.{literal_of, number_literal}
use Rattle.je_typing.specs.Operators.{binary, plus, primitive_operation}
use Rattle.je_typing.specs.Typed.{TypedNode}
use Rattle.source_types.specs.Erasure.{erased, class_numbered}
use Rattle.source_types.specs.Supertypes.{supertypes}
use Rattle.name_typing.specs.Fields.{find_field}
use Rattle.name_typing.specs.Program.{Place}
use Rattle.name_typing.specs.Variables.{assigned_name, not_forward, simple_name, taken, updated_name, variable_named, variable_node}
use Rattle.call_typing.specs.Calls.{used}
use Rattle.body_typing.specs.Expressions.{Known, expression, read, may_be_target}
use Rattle.body_typing.specs.FinalVariables.{Scope, not_final}
use Rattle.body_typing.specs.Mentions.{mentions, named}
use Rattle.name_typing.proofs.Rows.Parts.{at, whole, id, in_body, in_initializer, in_local_class, this_of, int, int_node, ty, heads, classes, source, program}

-- every final field counts as blank, or none
abbrev known : Bool → Known
known blank = record { captures = λ p c. []; is_blank = λ m. blank }

abbrev scope : Place → Scope
scope p = record { place = p; is_constructor = false; given = 3 ∷ [] }

-- in an instance method of A
abbrev in_a : Expression → Judged TypedNode
in_a e = expression program (known false) (scope (in_body 2 instance)) read e

abbrev named_at : ℕ → Expression
named_at n = tree.name (id n)

abbrev one : ℕ → Expression
one n = tree.literal (literal.Int (pos 1)) (at n)

abbrev set : Expression → Expression
set target = tree.assign None (at 30) target (one 31) whole

-- an int variable of this form, at a place, gets 1
abbrev assigns : CoreForm → ℕ → Judged TypedNode
assigns form n =
    gives (record {
      node = node (Assign (int_node form n).node (int_node (Const (value.Int (pos 1)) []) 31).node)
          (ty base.Int) whole (at 30);
      type = int;
    })

-- ---- v and w mean nothing: parts from left to right, before the whole

left_first : in_a (tree.binary Add (at 30) (named_at 6) (named_at 7) whole) ≡ breaks UnknownName (at 6)
unfolding simple_name updated_name variable_node not_forward variable_named taken bind check need find_field erased supertypes program source heads classes object_class library_class used
left_first = refl

-- `true * w`
parts_first : in_a (tree.binary Multiply (at 30) (tree.literal (literal.Bool true) (at 29)) (named_at 7) whole)
    ≡ breaks UnknownName (at 7)
unfolding simple_name updated_name variable_node not_forward variable_named taken bind check need find_field erased supertypes program source heads classes object_class library_class used literal_of
parts_first = refl

then_the_whole : in_a (tree.binary Multiply (at 30) (tree.literal (literal.Bool true) (at 29)) (one 31) whole)
    ≡ breaks BadOperand (at 30)
unfolding bind check need used literal_of number_literal binary primitive_operation
then_the_whole = refl

-- ---- an integer literal directly behind a minus

least_int : in_a (tree.prefix Minus (at 30) (tree.literal (literal.Int (pos 2147483648)) (at 31)) whole)
    ≡ gives (record { node = node (Const (value.Int (negsuc 2147483647)) []) (ty base.Int) whole (at 31); type = int })
unfolding bind need number_literal
least_int = refl

behind_brackets : in_a (tree.prefix Minus (at 30)
    (tree.parens (tree.literal (literal.Int (pos 2147483648)) (at 31)) whole) whole) ≡ breaks LiteralRange (at 31)
unfolding bind need used literal_of number_literal
behind_brackets = refl

-- ---- x = 1 and k = 1, where k is final; `(x) = 1` is the same

abbrev set_x : Judged TypedNode
set_x = assigns (Field (this_of 2 0) (class_numbered 2) 0) 0

a_field : in_a (set (named_at 0)) ≡ set_x
unfolding assigned_name variable_node variable_named assigned_to assignment place converted bind check need find_field erased supertypes program source heads classes object_class library_class used literal_of number_literal not_final may_be_target
a_field = refl

in_brackets : in_a (set (tree.parens (named_at 0) (at 28))) ≡ set_x
unfolding assigned_name variable_node variable_named assigned_to assignment place converted bind check need find_field erased supertypes program source heads classes object_class library_class used literal_of number_literal not_final may_be_target
in_brackets = refl

-- `(+x) = 1`
a_sum : in_a (set (tree.parens (tree.prefix Plus (at 27) (named_at 0) (at 28)) (at 29))) ≡ breaks BadTarget (at 29)
unfolding assigned_name variable_node variable_named assigned_to assignment place converted bind check need find_field erased supertypes program source heads classes object_class library_class used literal_of number_literal not_final may_be_target plus simple_name updated_name not_forward taken
a_sum = refl

a_final_field : in_a (set (named_at 3)) ≡ breaks FinalAssign (at 3)
unfolding assigned_name variable_node variable_named assigned_to assignment place converted bind check need find_field erased supertypes program source heads classes object_class library_class used literal_of number_literal not_final may_be_target
a_final_field = refl

-- `k = true`
value_first : in_a (tree.assign None (at 30) (named_at 3) (tree.literal (literal.Bool true) (at 31)) whole) ≡ breaks
    NotConvertible (at 31)
unfolding assigned_name variable_node variable_named assigned_to assignment place converted bind check need find_field erased supertypes program source heads classes object_class library_class used literal_of number_literal not_final may_be_target
value_first = refl

-- ---- a blank one, in a static initializer of A, in an instance initializer, and a final local that a class inside
-- its body captures

abbrev set_k_in : Place → Judged TypedNode
set_k_in p = expression program (known true) (scope p) read (set (named_at 3))

in_its_initializer : set_k_in (in_initializer true static 4)
    ≡ assigns (Static no_core (class_numbered 2) 3) 3
unfolding assigned_name variable_node variable_named assigned_to assignment place converted bind check need find_field erased supertypes program source heads classes object_class library_class used literal_of number_literal not_final may_be_target
in_its_initializer = refl

in_another_initializer : set_k_in (in_initializer false instance 4) ≡ breaks FinalAssign (at 3)
unfolding assigned_name variable_node variable_named assigned_to assignment place converted bind check need find_field erased supertypes program source heads classes object_class library_class used literal_of number_literal not_final may_be_target
in_another_initializer = refl

a_captured_local : expression program (known true) (scope (in_local_class true)) read (set (named_at 6)) ≡ breaks
    FinalAssign (at 6)
unfolding assigned_name variable_node variable_named assigned_to assignment place converted bind check need find_field erased supertypes program source heads classes object_class library_class used literal_of number_literal not_final may_be_target
a_captured_local = refl

-- ---- x + x.f(v)

mentioned_names : mentions (tree.binary Add (at 30) (named_at 0)
    (tree.call_on (named_at 0) (id 4) (tree.more_expressions (named_at 6) tree.no_expressions) whole) whole)
    ≡ named (id 0) ∷ named (id 0) ∷ named (id 6) ∷ []
mentioned_names = refl
