-- Worked rows of statements: the order of faults, scopes along a block, labels and the parts of loops, and `switch`.
-- The class is that of the rows of `name_typing`, `class A { int x; .. }`.
use Rattle.std.proofs.Common.{◌≡◌, refl, ℕ, List}
use Rattle.std.specs.Prelude.{true, false, [], ◌∷◌, Some, None, pos}
use Rattle.je_core.specs.declared.types.Base.TheVariants as base
use Rattle.je_core.specs.declared.value.Value.TheVariants as value
use Rattle.je_core.specs.Core.{Assign, Block, Const, CoreStmt, Do, Jump, Labelled, Local, Loop, core_stmts, node, stmt}
use Rattle.je_ast.specs.declared.expr.Literal.TheVariants as literal
use Rattle.je_ast.specs.declared.ty_name.Primitive.TheVariants.{Int}
use Rattle.je_ast.specs.Trees.{Expression, Statement, Statements}
use Rattle.je_ast.specs.Trees as tree
use Rattle.je_ast.specs.Types.{primitive}
use Rattle.je_classes.specs.Hierarchy.{object_class, library_class}
use Rattle.je_fitting.specs.Statements.{no_targets}
use Rattle.je_scopes.specs.Sites.{instance}
use Rattle.je_typing.specs.declared.fault.TypeRule.TheVariants.{BadCase, BadCondition, BadForEach, BadLabel, BadReturn, LocalTwice, UnknownName}
use Rattle.je_typing.specs.Conversions.{assigned, converted}
use Rattle.je_typing.specs.Judged.{Judged, ◌>>=◌, bind, breaks, check, gives, need}
use Rattle.je_typing.specs.Literals.{literal_of, number_literal}
use Rattle.source_types.specs.Erasure.{erased}
use Rattle.source_types.specs.Supertypes.{supertypes}
use Rattle.name_typing.specs.Fields.{find_field}
use Rattle.name_typing.specs.Variables.{not_forward, simple_name, taken, updated_name, variable_named, variable_node}
use Rattle.call_typing.specs.Calls.{used}
use Rattle.statement_steps.specs.Conditions.{condition, if_statement, loop_statement}
use Rattle.statement_steps.specs.Jumps.{jump, labelled}
use Rattle.statement_steps.specs.Returns.{no_value, returned_value}
use Rattle.statement_steps.specs.Switches.{next_label, selector}
use Rattle.body_typing.specs.ConstantVariables.{variable_constant}
use Rattle.body_typing.specs.Expressions.{Known}
use Rattle.body_typing.specs.FinalVariables.{Scope}
use Rattle.body_typing.specs.Bodies.{Done}
use Rattle.body_typing.specs.Statements.{statements}
use Rattle.body_typing.specs.Switches.{constant_place}
use Rattle.name_typing.proofs.Rows.Parts.{at, whole, id, in_body, int_node, ty, heads, classes, source, program}

abbrev known : Known
known = record { captures = λ p c. []; is_blank = λ m. false }

abbrev scope : Scope
scope = record { place = in_body 2 instance; is_constructor = false; given = [] }

abbrev listed : List Statement → Statements
listed [] = tree.no_statements
listed (s ∷ ss) = tree.more_statements s (listed ss)

-- the code of a block of a `void` method, and the numbers of its locals
abbrev code_in : Done → List CoreStmt × List ℕ
code_in d = (d.code, d.numbers)

abbrev coded : Judged Done → Judged (List CoreStmt × List ℕ)
coded judged = do
  d ← judged
  gives (code_in d)

abbrev in_block : List Statement → Judged (List CoreStmt × List ℕ)
in_block ss = coded (statements program known no_value no_targets scope (record { locals = []; met = [] }) (listed ss))

abbrev name_at : ℕ → Expression
name_at n = tree.name (id n)

abbrev number : ℕ → ℕ → Expression
number n p = tree.literal (literal.Int (pos n)) (at p)

abbrev truth : ℕ → Expression
truth p = tree.literal (literal.Bool true) (at p)

-- int v = e, at a place
abbrev variable : ℕ → Expression → Statement
variable n e =
    tree.local (at n) false (primitive Int 0 (at n))
    (tree.more_variables (record (id 6) { span = at n }) 0 (tree.an_expression e) tree.no_variables) whole

abbrev first_v : CoreStmt
first_v =
    stmt (Do (node (Assign (node (Local 0) (ty base.Int) (at 40) (at 40))
    (int_node (Const (value.Int (pos 1)) []) 41).node) (ty base.Int) (record { file = 0; start = 40; end = 42 })
    (at 40))) (at 40) (at 40)

-- ---- a local gets a number, and is in scope behind its declaration and in its own initializer

one_local : in_block (variable 40 (number 1 41) ∷ []) ≡ gives (first_v ∷ [], 0 ∷ [])
unfolding bind check need used literal_of number_literal assigned converted erased variable_constant
one_local = refl

twice : in_block (variable 40 (number 1 41) ∷ variable 50 (number 2 51) ∷ []) ≡ breaks LocalTwice (at 50)
unfolding bind check need used literal_of number_literal assigned converted erased variable_constant
twice = refl

-- the initializer comes before the whole
initializer_first : in_block (variable 40 (number 1 41) ∷ variable 50 (name_at 7) ∷ []) ≡ breaks UnknownName (at 7)
unfolding bind check need used literal_of number_literal assigned converted erased variable_constant simple_name updated_name variable_node not_forward variable_named taken find_field supertypes program source heads classes object_class library_class
initializer_first = refl

-- it ends with its block
behind_its_block : in_block (tree.block (at 39) (listed (variable 40 (number 1 41) ∷ [])) (at 43)
    ∷ tree.expression_statement (at 44) (name_at 6) whole ∷ []) ≡ breaks UnknownName (at 6)
unfolding bind check need used literal_of number_literal assigned converted erased variable_constant simple_name updated_name variable_node not_forward variable_named taken find_field supertypes program source heads classes object_class library_class
behind_its_block = refl

-- ---- a condition is judged behind all parts: if (1) v;

parts_first : in_block (tree.if_only (at 40) (number 1 41) (tree.expression_statement (at 6) (name_at 6) whole) whole
    ∷ []) ≡ breaks UnknownName (at 6)
unfolding bind check need used literal_of number_literal erased simple_name updated_name variable_node not_forward variable_named taken find_field supertypes program source heads classes object_class library_class
parts_first = refl

then_the_condition : in_block (tree.if_only (at 40) (number 1 41) (tree.empty (at 42)) whole ∷ []) ≡ breaks
    BadCondition (at 41)
unfolding bind check need used literal_of number_literal if_statement condition
then_the_condition = refl

-- ---- v: for (;;) continue v; the label stands at the loop

abbrev again : ℕ → Statement
again n = tree.continue (at n) (Some (id 6)) whole

abbrev turns : Statement → Statement
turns b = tree.for (at 41) (tree.steps tree.no_expressions) tree.no_expression tree.no_expressions b whole

label_at_the_loop : in_block (tree.labelled (id 6) (turns (again 42)) whole ∷ [])
    ≡ gives (
      stmt (Block [] (core_stmts
          (stmt (Labelled (id 6).name (stmt
          (Loop (node (Const (value.Bool true) []) (ty base.Bool) (at 41) (at 41)) []
          (stmt (Jump true (Some (id 6).name)) (at 42) (at 42))) (at 41) (at 41))) (at 6) (at 6) ∷ []))) (at 6) (at 41)
          ∷ [],
      [],
    )
unfolding bind check need loop_statement condition labelled jump
label_at_the_loop = refl

-- v: w: for (;;) continue v;
label_of_a_label : in_block (tree.labelled (id 6) (tree.labelled (id 7) (turns (again 42)) whole) whole ∷ []) ≡ breaks
    BadLabel (at 6)
unfolding bind check need loop_statement condition labelled jump
label_of_a_label = refl

-- ---- for (int v : x) ; where x is an int

no_array : in_block (tree.for_each (at 40) false (primitive Int 0 (at 41)) (id 6) (name_at 0) (tree.empty (at 43))
    whole ∷ []) ≡ breaks BadForEach (at 0)
unfolding bind check need used erased simple_name updated_name variable_node not_forward variable_named taken find_field supertypes program source heads classes object_class library_class
no_array = refl

-- ---- switch (x) { case 1: case 1: }

one_twice : in_block (tree.switch (at 40) (name_at 0)
    (tree.more_groups (tree.case_label (number 1 41) (tree.case_label (number 1 42) tree.no_labels))
    tree.no_statements tree.no_groups) whole ∷ []) ≡ breaks BadCase (at 42)
unfolding bind check need used literal_of number_literal erased simple_name updated_name variable_node not_forward variable_named taken find_field supertypes program source heads classes object_class library_class selector next_label
one_twice = refl

-- a label of an enum's switch is a constant's name
place_of_constant : constant_place (id 6 ∷ id 7 ∷ []) (name_at 7) ≡ Some 1
place_of_constant = refl

no_name_of_one : constant_place (id 6 ∷ id 7 ∷ []) (tree.parens (name_at 7) whole) ≡ None
no_name_of_one = refl

-- ---- return 1; in a `void` method

no_value_there : in_block (tree.return (at 40) (tree.an_expression (number 1 41)) whole ∷ []) ≡ breaks BadReturn (at 41)
unfolding bind check need used literal_of number_literal returned_value
no_value_there = refl
