-- Worked rows: each fault beside its nearest accepted neighbour.
use Rattle.std.proofs.Common.{◌≡◌, refl}
use Rattle.std.specs.Prelude.{ℕ, ℤ, pos, true, false, List, [], ◌∷◌, ◌++◌, replicate, Option, Some, None}
use Rattle.je_base.specs.declared.span.Span.{Span}
use Rattle.je_core.specs.declared.program.Sort.TheVariants as sort
use Rattle.je_core.specs.declared.types.Base.{Base}
use Rattle.je_core.specs.declared.types.Base.TheVariants as base
use Rattle.je_core.specs.declared.value.Value.{Value}
use Rattle.je_core.specs.declared.value.Value.TheVariants as value
use Rattle.je_core.specs.Core.{CoreStmt, CoreLabel, Const, Convert, Empty, Local, Loop, If, Jump, Labelled, Return, Throw, a_stmt, node, stmt}
use Rattle.je_ast.specs.declared.name.Identifier.{Identifier}
use Rattle.je_classes.specs.Hierarchy.{library_class, object_class}
use Rattle.je_fitting.specs.Statements.{Targets, no_targets, in_switch}
use Rattle.je_fitting.specs.Types.{of}
use Rattle.je_scopes.specs.SourceTypes.{SourceType, of_class, of_variable, no_source_types}
use Rattle.source_types.specs.Heads.{ClassHead, object_type}
use Rattle.source_types.specs.Subtypes.{is_subtype}
use Rattle.source_types.specs.Supertypes.{supertypes}
use Rattle.je_typing.specs.declared.fault.TypeRule.TheVariants.{BadCase, BadCatch, BadCondition, BadLabel, BadReturn, BadThrow, NotConvertible}
use Rattle.je_typing.specs.Conversions.{assigned, converted}
use Rattle.je_typing.specs.Judged.{Judged, bind, breaks, check, gives, need}
use Rattle.je_typing.specs.Typed.{TypedNode, null_source_type, primitive_type}
use Rattle.header_typing.specs.Supers.{throwable_type}
use Rattle.statement_steps.specs.Conditions.{condition, do_loop, if_statement, loop_statement}
use Rattle.statement_steps.specs.Jumps.{jump, labelled}
use Rattle.statement_steps.specs.Returns.{a_value, never, no_value, returned, returned_value}
use Rattle.statement_steps.specs.Switches.{LabelsDone, WrittenLabel, case, default, labels_from, next_label, none_met, selector}
use Rattle.statement_steps.specs.Thrown.{caught_class, thrown}

abbrev at : ℕ → ℕ → Span
at from to = record { file = 0; start = from; end = to }

abbrev local : Base → TypedNode
local b = record { node = node (Local 0) (of b) (at 7 8) (at 7 8); type = primitive_type b }

abbrev empty : CoreStmt
empty = stmt Empty (at 9 10) (at 9 10)

-- ---- conditions: while (t) ; and while (n) ;

a_loop : loop_statement (at 0 5) (at 7 8) (local base.Bool) [] empty ≡ gives (stmt (Loop (local base.Bool).node [] empty) (at 0 5) (at 0 5))
unfolding loop_statement condition bind check
a_loop = refl

number_as_condition : loop_statement (at 0 5) (at 7 8) (local base.Int) [] empty ≡ breaks BadCondition (at 7 8)
unfolding loop_statement condition bind check
number_as_condition = refl

a_branch : if_statement (at 0 2) (at 7 8) (local base.Bool) empty (a_stmt empty) ≡ gives (stmt (If (local base.Bool).node empty (a_stmt empty)) (at 0 2) (at 0 2))
unfolding if_statement condition bind check
a_branch = refl

nothing_as_condition : do_loop (at 0 2) (at 7 8) empty (local base.Void) ≡ breaks BadCondition (at 7 8)
unfolding do_loop condition bind check
nothing_as_condition = refl

-- ---- jumps

abbrev named : ℕ → Identifier
named n = record { name = record { 0 = n }; span = at 6 7 }

-- in `m: while (..) { n: { .. } }`
abbrev inner : Targets
inner = record { labels = record { name = record { 0 = 2 }; is_loop = false } ∷ record { name = record { 0 = 1 }; is_loop = true } ∷ []; has_break = true; has_continue = true }

break_from_a_switch : jump (in_switch no_targets) false (at 0 5) None ≡ gives (stmt (Jump false None) (at 0 5) (at 0 5))
unfolding jump bind check
break_from_a_switch = refl

continue_in_a_switch : jump (in_switch no_targets) true (at 0 8) None ≡ breaks BadLabel (at 0 8)
unfolding jump bind check
continue_in_a_switch = refl

break_from_nothing : jump no_targets false (at 0 5) None ≡ breaks BadLabel (at 0 5)
unfolding jump bind check
break_from_nothing = refl

break_to_a_block : jump inner false (at 0 5) (Some (named 2)) ≡ gives (stmt (Jump false (Some (record { 0 = 2 }))) (at 0 5) (at 0 5))
unfolding jump bind check
break_to_a_block = refl

continue_to_a_loop : jump inner true (at 0 8) (Some (named 1)) ≡ gives (stmt (Jump true (Some (record { 0 = 1 }))) (at 0 8) (at 0 8))
unfolding jump bind check
continue_to_a_loop = refl

continue_to_a_block : jump inner true (at 0 8) (Some (named 2)) ≡ breaks BadLabel (at 6 7)
unfolding jump bind check
continue_to_a_block = refl

jump_to_no_label : jump inner false (at 0 5) (Some (named 3)) ≡ breaks BadLabel (at 6 7)
unfolding jump bind check
jump_to_no_label = refl

new_label : labelled inner (named 3) empty ≡ gives (stmt (Labelled (record { 0 = 3 }) empty) (at 6 7) (at 6 7))
unfolding labelled bind check
new_label = refl

label_in_its_own : labelled inner (named 1) empty ≡ breaks BadLabel (at 6 7)
unfolding labelled bind check
label_in_its_own = refl

-- ---- what is thrown and caught: `Object` is class 0, `E` stands directly below Throwable, which is directly below Object

abbrev head : List SourceType → List SourceType → ClassHead
head bounds supers = record { kind = record { sort = sort.Class; is_abstract = false; is_final = false; is_static = false }; bounds = bounds; supers = supers }

-- class 60 is directly below Throwable, all before it are directly below Object; the type variable of class 61 is below class 60
abbrev exception_type : SourceType
exception_type = of_class 60 no_source_types 0

abbrev heads : List ClassHead
heads = head [] [] ∷ replicate 59 (head [] (object_type ∷ [])) ++ head [] (throwable_type ∷ []) ∷ head (exception_type ∷ []) (object_type ∷ []) ∷ []

abbrev of_type : SourceType → TypedNode
of_type t = record { node = (local base.Int).node; type = t }

an_exception : thrown heads (at 0 5) (at 7 8) (of_type exception_type) ≡ gives (stmt (Throw (local base.Int).node) (at 0 5) (at 0 5))
unfolding thrown bind check is_subtype supertypes library_class object_class
an_exception = refl

null_thrown : thrown heads (at 0 5) (at 7 8) (of_type null_source_type) ≡ gives (stmt (Throw (local base.Int).node) (at 0 5) (at 0 5))
unfolding thrown bind check is_subtype supertypes library_class object_class
null_thrown = refl

object_thrown : thrown heads (at 0 5) (at 7 8) (of_type object_type) ≡ breaks BadThrow (at 7 8)
unfolding thrown bind check is_subtype supertypes library_class object_class
object_thrown = refl

variable_thrown : thrown heads (at 0 5) (at 7 8) (of_type (of_variable 61 0 0)) ≡ gives (stmt (Throw (local base.Int).node) (at 0 5) (at 0 5))
unfolding thrown bind check is_subtype supertypes library_class object_class
variable_thrown = refl

caught : caught_class heads (at 7 8) exception_type ≡ gives (record { 0 = 60 })
unfolding caught_class bind check need is_subtype supertypes library_class object_class
caught = refl

variable_caught : caught_class heads (at 7 8) (of_variable 61 0 0) ≡ breaks BadCatch (at 7 8)
unfolding caught_class bind check need is_subtype supertypes library_class object_class
variable_caught = refl

object_caught : caught_class heads (at 7 8) object_type ≡ breaks BadCatch (at 7 8)
unfolding caught_class bind check need is_subtype supertypes library_class object_class
object_caught = refl

-- ---- what is returned

abbrev value_of : Base → Value → TypedNode
value_of b v = record { node = node (Const v []) (of b) (at 7 8) (at 7 8); type = primitive_type b }

nothing_returned : returned no_value (at 0 6) ≡ gives (stmt (Return None) (at 0 6) (at 0 6))
unfolding returned
nothing_returned = refl

nothing_for_a_value : returned (a_value object_type) (at 0 6) ≡ breaks BadReturn (at 0 6)
unfolding returned
nothing_for_a_value = refl

return_of_an_initializer : returned never (at 0 6) ≡ breaks BadReturn (at 0 6)
unfolding returned
return_of_an_initializer = refl

-- `return 1;` gives a long where one is due, and is refused by `void` methods, by initializers, and where an object is due
widened : returned_value heads (a_value (primitive_type base.Long)) (at 0 6) (at 7 8) (value_of base.Int (value.Int (pos 1))) ≡ gives (stmt (Return (Some (node (Convert (value_of base.Int (value.Int (pos 1))).node) (of base.Long) (at 7 8) (at 7 8)))) (at 0 6) (at 0 6))
unfolding returned_value assigned converted bind check is_subtype
widened = refl

value_for_nothing : returned_value heads no_value (at 0 6) (at 7 8) (value_of base.Int (value.Int (pos 1))) ≡ breaks BadReturn (at 7 8)
unfolding returned_value
value_for_nothing = refl

value_of_an_initializer : returned_value heads never (at 0 6) (at 7 8) (value_of base.Int (value.Int (pos 1))) ≡ breaks BadReturn (at 0 6)
unfolding returned_value
value_of_an_initializer = refl

number_for_an_object : returned_value heads (a_value object_type) (at 0 6) (at 7 8) (value_of base.Int (value.Int (pos 1))) ≡ breaks NotConvertible (at 7 8)
unfolding returned_value assigned converted bind check is_subtype
number_for_an_object = refl

-- ---- switches

selected_by_a_char : selector (at 7 8) (primitive_type base.Char) ≡ gives tt
unfolding selector check
selected_by_a_char = refl

selected_by_a_long : selector (at 7 8) (primitive_type base.Long) ≡ breaks BadCase (at 7 8)
unfolding selector check
selected_by_a_long = refl

abbrev labels_by : Base → List WrittenLabel → Judged LabelsDone
labels_by b ls = labels_from heads (primitive_type b) (record { labels = []; met = none_met }) ls

abbrev case_of : ℤ → WrittenLabel
case_of z = case (at 7 8) (value_of base.Int (value.Int z))

abbrev label_of_value : Option ℤ → Span → CoreLabel
label_of_value n span = record { value = n; uses = []; span = span }

-- case 97: default: case 98: by a char
labels_of_a_char : labels_by base.Char (case_of (pos 97) ∷ default (at 9 16) ∷ case_of (pos 98) ∷ []) ≡ gives (record {
  labels = label_of_value (Some (pos 97)) (at 7 8) ∷ label_of_value None (at 9 16) ∷ label_of_value (Some (pos 98)) (at 7 8) ∷ [];
  met = record { numbers = pos 98 ∷ pos 97 ∷ []; has_default = true };
})
unfolding next_label bind check need is_subtype
labels_of_a_char = refl

label_twice : labels_by base.Int (case_of (pos 1) ∷ case_of (pos 2) ∷ case_of (pos 1) ∷ []) ≡ breaks BadCase (at 7 8)
unfolding next_label bind check need is_subtype
label_twice = refl

default_twice : labels_by base.Int (default (at 0 7) ∷ default (at 9 16) ∷ []) ≡ breaks BadCase (at 9 16)
unfolding next_label bind check need is_subtype
default_twice = refl

-- 128 is no byte, 127 is one
great_label : labels_by base.Byte (case_of (pos 128) ∷ []) ≡ breaks BadCase (at 7 8)
unfolding next_label bind check need is_subtype
great_label = refl

greatest_label : labels_by base.Byte (case_of (pos 127) ∷ []) ≡ gives (record { labels = label_of_value (Some (pos 127)) (at 7 8) ∷ []; met = record { numbers = pos 127 ∷ []; has_default = false } })
unfolding next_label bind check need is_subtype
greatest_label = refl

variable_as_label : labels_by base.Int (case (at 7 8) (local base.Int) ∷ []) ≡ breaks BadCase (at 7 8)
unfolding next_label bind check need is_subtype
variable_as_label = refl
