-- Worked rows of whole programs: which fault is the first, what classes capture, constant fields, constructors that
-- call each other, and methods that are reached through others.
use Rattle.std.proofs.Common.{◌≡◌, refl, ℕ, List}
use Rattle.std.specs.Prelude.{◌+◌, Bool, true, false, [], ◌∷◌, Option, Some, None, pos, codes, drop, flat_map, is_some, length, map}
use Rattle.std.specs.Str.{chars}
use Rattle.je_base.specs.declared.span.Span.{Span}
use Rattle.je_core.specs.declared.program.Bridge.{Bridge}
use Rattle.je_core.specs.Core.{CoreClass, CoreField, CoreProgram}
use Rattle.je_ast.specs.declared.decl.Modifier.{Modifier}
use Rattle.je_ast.specs.declared.decl.ModifierKind.{ModifierKind}
use Rattle.je_ast.specs.declared.decl.ModifierKind.TheVariants as word
use Rattle.je_ast.specs.declared.expr.Literal.TheVariants as literal
use Rattle.je_ast.specs.declared.name.Identifier.{Identifier}
use Rattle.je_ast.specs.declared.operator.BinaryOp.TheVariants.{Add}
use Rattle.je_ast.specs.declared.ty_name.Primitive.TheVariants.{Int}
use Rattle.je_ast.specs.Trees.{Declaration, Expression, Member, Members, Statement, Statements, Variables}
use Rattle.je_ast.specs.Trees as tree
use Rattle.je_ast.specs.Types.{FormalParameter, TypeName, TypeNames, class_type, more_types, no_types, primitive}
use Rattle.je_table.specs.Library.{classes as library}
use Rattle.je_scopes.specs.Source.{Source, source}
use Rattle.je_typing.specs.declared.fault.TypeRule.TheVariants.{BadSuper, CtorCycle, StaticContext, UnknownName}
use Rattle.class_names.specs.Words.{class_words, further_words, library_words, member_words}
use Rattle.je_classes.specs.Hierarchy.{library_class, object_class}
use Rattle.je_scopes.specs.Settled.{settled}
use Rattle.je_scopes.specs.Sites.{sites}
use Rattle.source_types.specs.Erasure.{erased}
use Rattle.source_types.specs.Subtypes.{is_subtype}
use Rattle.source_types.specs.Supertypes.{supertypes}
use Rattle.declarations.specs.Declarations.{declared_class}
use Rattle.je_typing.specs.Conversions.{converted, assigned}
use Rattle.je_typing.specs.Judged.{Judged, ◌>>=◌, bind, breaks, check, gives, need}
use Rattle.je_typing.specs.Literals.{number_literal, literal_of}
use Rattle.je_typing.specs.Operators.{primitive_operation, binary}
use Rattle.header_typing.specs.Supers.{superclass, superinterface, anonymous_super, well_placed}
use Rattle.header_typing.specs.WrittenTypes.{bounded}
use Rattle.overriding.specs.Methods.{methods_above, inherited}
use Rattle.overriding.specs.Overrides.{may_override, good_override, good_implementations, all_implemented, no_clash, no_constructor_clash, no_inherited_clash}
use Rattle.member_rules.specs.Modifiers.{bad_modifier}
use Rattle.class_heads.specs.Headers.{class_heads}
use Rattle.name_typing.specs.Accesses.{found_field, static_field}
use Rattle.name_typing.specs.Fields.{find_field}
use Rattle.name_typing.specs.Qualified.{name_before, assigned_select, select}
use Rattle.name_typing.specs.Variables.{variable_named, variable_node, taken, not_forward, assigned_name, updated_name, simple_name}
use Rattle.body_typing.specs.Calls.{anonymous_creation, choice, chosen, constructor_for, constructors_in, implicit_constructor_call, own_constructor_call, superclass_constructor_call, used}
use Rattle.signature_typing.specs.Signatures.{class_signatures, signatures}
use Rattle.library_classes.specs.Library.{rows, all_due}
use Rattle.library_declarations.specs.Library.{library_declared}
use Rattle.je_names.specs.Scopes.{declared_classes}
use Rattle.statement_steps.specs.Returns.{returned_value}
use Rattle.statement_steps.specs.Switches.{next_label, selector}
use Rattle.body_typing.specs.ConstantVariables.{variable_constant}
use Rattle.body_typing.specs.LocalClasses.{local_class}
use Rattle.class_typing.specs.Bridges.{bridges}
use Rattle.class_typing.specs.Captures.{captured_locals, captures}
use Rattle.class_typing.specs.ConstantFields.{constants_of, is_blank, library_constants}
use Rattle.class_typing.specs.Constructors.{no_cycle}
use Rattle.class_typing.specs.Elaboration.{elaborated}
use Rattle.class_typing.specs.Members.{class_members, inner_static}
use Rattle.class_typing.specs.Places.{in_body, round_met, round_class, round_without_locals}
use Rattle.class_typing.specs.Programs.{classes, heads, plain_program}
use Rattle.class_typing.specs.Enums.{constants_made}
use Rattle.class_typing.specs.Texts.{initializer_texts, texts, units_of}

abbrev at : ℕ → Span
at n = record { file = 0; start = n; end = n + 1 }

abbrev whole : Span
whole = record { file = 0; start = 0; end = 99 }

-- a name, by its number and place
abbrev id : ℕ → ℕ → Identifier
id x n = record { name = record { 0 = x }; span = at n }

-- the names that are written, and behind them the library's words
abbrev words : List (List ℕ)
words =
    codes "A" ∷ codes "B" ∷ codes "f" ∷ codes "v" ∷ codes "x" ∷ codes "y" ∷ codes "compareTo" ∷ codes "Object" ∷ codes
    "Comparable" ∷ library_words

abbrev program : List Declaration → Source
program ds = source words (record { imports = []; declarations = ds } ∷ [])

abbrev members : List Member → Members
members [] = tree.no_members
members (m ∷ ms) = tree.more_members m (members ms)

abbrev class : ℕ → ℕ → Option TypeName → TypeNames → List Member → Declaration
class x n above interfaces ms = tree.class_declaration [] (id x n) [] above interfaces (members ms) whole

abbrev class_a : List Member → Declaration
class_a ms = class 0 1 None no_types ms

abbrev named : ℕ → ℕ → TypeNames → TypeName
named x n args = class_type (record { parts = id x n ∷ []; span = at n }) args 0 (at n)

abbrev int : TypeName
int = primitive Int 0 (at 2)

abbrev with : ModifierKind → ModifierKind → List Modifier
with a b = record { kind = a; span = at 2 } ∷ record { kind = b; span = at 3 } ∷ []

abbrev formal : TypeName → Bool → FormalParameter
formal t is_final = record { is_final = is_final; declared = t; name = id 3 6; dims = 0 }

-- a method whose body returns a value
abbrev returns : List Modifier → TypeName → ℕ → List FormalParameter → Expression → Member
returns ms t x fs e =
    tree.method ms (Some t) (id x 4) fs []
    (tree.a_block (at 5) (tree.more_statements (tree.return (at 6) (tree.an_expression e) whole)
    tree.no_statements) (at 20)) whole

abbrev name_at : ℕ → ℕ → Expression
name_at x n = tree.name (id x n)

abbrev number : ℕ → Expression
number n = tree.literal (literal.Int (pos n)) (at 9)

-- ---- what is looked at: of each class of the program, behind those of the library

abbrev guests : CoreProgram → List CoreClass
guests p = drop (length library) p.classes

abbrev of_guests : {A : Type 0} → (CoreClass → A) → Judged CoreProgram → Judged (List A)
of_guests f judged = do
  p ← judged
  gives (map f (guests p))

-- ---- class A { int f() { return v; } } class B implements A { }: headers come before bodies

a_body : elaborated (program (class_a (returns [] int 2 [] (name_at 3 7) ∷ []) ∷ [])) ≡ breaks UnknownName (at 7)
unfolding library_words class_words member_words further_words library_class object_class settled sites erased is_subtype supertypes declared_class converted assigned bind check need number_literal literal_of primitive_operation binary superinterface anonymous_super well_placed bounded methods_above inherited may_override good_override good_implementations all_implemented no_clash no_constructor_clash no_inherited_clash bad_modifier class_heads found_field static_field find_field name_before assigned_select select variable_named variable_node taken not_forward assigned_name updated_name simple_name used constructors_in constructor_for anonymous_creation superclass_constructor_call implicit_constructor_call choice chosen class_signatures signatures rows all_due library_declared declared_classes returned_value variable_constant bridges captured_locals captures is_blank constants_of library_constants no_cycle elaborated class_members in_body round_met round_class round_without_locals classes heads plain_program texts superclass own_constructor_call
a_body = refl

headers_first : elaborated (program
    (class_a (returns [] int 2 [] (name_at 3 7) ∷ []) ∷ class 1 30 None (more_types (named 0 31 no_types) no_types) []
    ∷ [])) ≡ breaks BadSuper (at 31)
unfolding library_words class_words member_words further_words library_class object_class settled sites erased is_subtype supertypes declared_class converted assigned bind check need number_literal literal_of primitive_operation binary superinterface anonymous_super well_placed bounded methods_above inherited may_override good_override good_implementations all_implemented no_clash no_constructor_clash no_inherited_clash bad_modifier class_heads found_field static_field find_field name_before assigned_select select variable_named variable_node taken not_forward assigned_name updated_name simple_name used constructors_in constructor_for anonymous_creation superclass_constructor_call implicit_constructor_call choice chosen class_signatures signatures rows all_due library_declared declared_classes returned_value variable_constant bridges captured_locals captures is_blank constants_of library_constants no_cycle elaborated class_members in_body round_met round_class round_without_locals classes heads plain_program texts superclass own_constructor_call
headers_first = refl

-- ---- class A { Object f(final int v) { return new Object() { int f() { return v; } }; } }: the class behind `new`
-- has the instance round it and v, and captures one local

abbrev captured : CoreClass → ℕ × List ℕ
captured c = (c.captured, map number_of c.fields)
  where
    number_of : CoreField → ℕ
    number_of f = f.name.0

a_captured_local : of_guests captured
    (elaborated (program (class_a (returns [] (named 7 3 no_types) 2 (formal int true ∷ [])
    (tree.new_anonymous (at 40) (named 7 41 no_types) tree.no_expressions
    (members (returns [] int 2 [] (name_at 3 42) ∷ [])) whole) ∷ []) ∷ [])))
    ≡ gives ((0, []) ∷ (1, 9 ∷ 3 ∷ []) ∷ [])
unfolding library_words class_words member_words further_words library_class object_class settled sites erased is_subtype supertypes declared_class converted assigned bind check need number_literal literal_of primitive_operation binary superinterface anonymous_super well_placed bounded methods_above inherited may_override good_override good_implementations all_implemented no_clash no_constructor_clash no_inherited_clash bad_modifier class_heads found_field static_field find_field name_before assigned_select select variable_named variable_node taken not_forward assigned_name updated_name simple_name used constructors_in constructor_for anonymous_creation superclass_constructor_call implicit_constructor_call choice chosen class_signatures signatures rows all_due library_declared declared_classes returned_value variable_constant bridges captured_locals captures is_blank constants_of library_constants no_cycle elaborated class_members in_body round_met round_class round_without_locals classes heads plain_program texts superclass own_constructor_call
a_captured_local = refl

-- ---- class A { int v; static class B { class x { int f() { return v; } } } }: behind B there is no object of A

abbrev of_int : ℕ → Member
of_int x = tree.field [] int (tree.more_variables (id x 4) 0 tree.no_expression tree.no_variables) whole

abbrev inside : List Modifier → ℕ → List Member → Member
inside words x ms = tree.member_type (tree.class_declaration words (id x 30) [] None no_types (members ms) whole)

abbrev static : List Modifier
static = record { kind = word.Static; span = at 3 } ∷ []

no_instance_behind_a_static_class : elaborated (program (class_a (of_int 3
    ∷ inside static 1 (inside [] 4 (returns [] int 2 [] (name_at 3 42) ∷ []) ∷ []) ∷ []) ∷ [])) ≡ breaks StaticContext (at 42)
unfolding library_words class_words member_words further_words library_class object_class settled sites erased is_subtype supertypes declared_class converted assigned bind check need number_literal literal_of primitive_operation binary superinterface anonymous_super well_placed bounded methods_above inherited may_override good_override good_implementations all_implemented no_clash no_constructor_clash no_inherited_clash bad_modifier class_heads found_field static_field find_field name_before assigned_select select variable_named variable_node taken not_forward assigned_name updated_name simple_name used constructors_in constructor_for anonymous_creation superclass_constructor_call implicit_constructor_call choice chosen class_signatures signatures rows all_due library_declared declared_classes returned_value variable_constant bridges captured_locals captures is_blank constants_of library_constants no_cycle elaborated class_members in_body round_met round_class round_without_locals classes heads plain_program texts superclass own_constructor_call
no_instance_behind_a_static_class = refl

-- ---- class A { int f(final int v) { class B { class x { int f() { return v; } } } return 1; } }: the member class
-- of a local one stands in its bodies, and both capture v

captured_by_a_member_of_a_local_class : of_guests captured
    (elaborated (program (class_a (tree.method [] (Some int) (id 2 4) (formal int true ∷ []) []
    (tree.a_block (at 5)
    (tree.more_statements (tree.local_class (class 1 30 None no_types (inside [] 4
    (returns [] int 2 [] (name_at 3 42) ∷ []) ∷ [])))
    (tree.more_statements (tree.return (at 6) (tree.an_expression (number 1)) whole) tree.no_statements))
    (at 20)) whole ∷ []) ∷ [])))
    ≡ gives ((0, []) ∷ (1, 9 ∷ 3 ∷ []) ∷ (1, 9 ∷ 3 ∷ []) ∷ [])
unfolding library_words class_words member_words further_words library_class object_class settled sites erased is_subtype supertypes declared_class converted assigned bind check need number_literal literal_of primitive_operation binary superinterface anonymous_super well_placed bounded methods_above inherited may_override good_override good_implementations all_implemented no_clash no_constructor_clash no_inherited_clash bad_modifier class_heads found_field static_field find_field name_before assigned_select select variable_named variable_node taken not_forward assigned_name updated_name simple_name used constructors_in constructor_for anonymous_creation superclass_constructor_call implicit_constructor_call choice chosen class_signatures signatures rows all_due library_declared declared_classes returned_value variable_constant bridges captured_locals captures is_blank constants_of library_constants no_cycle elaborated class_members in_body round_met round_class round_without_locals classes heads plain_program texts superclass own_constructor_call local_class
captured_by_a_member_of_a_local_class = refl

-- ---- class A { int f(int v) { class B { static final int x = 5; } switch (v) { case B.x: } return 1; } }: the constants
-- of a local class are known in its block

abbrev five : Member
five = tree.field (with word.Static word.Final) int
    (tree.more_variables (id 4 31) 0 (tree.an_expression (number 5)) tree.no_variables) whole

a_constant_of_a_local_class : of_guests captured
    (elaborated (program (class_a (tree.method [] (Some int) (id 2 4) (formal int false ∷ []) []
    (tree.a_block (at 5)
    (tree.more_statements (tree.local_class (class 1 30 None no_types (five ∷ [])))
    (tree.more_statements (tree.switch (at 32) (name_at 3 33)
    (tree.more_groups (tree.case_label (tree.select (name_at 1 34) (id 4 35) whole) tree.no_labels) tree.no_statements
    tree.no_groups) whole)
    (tree.more_statements (tree.return (at 6) (tree.an_expression (number 1)) whole) tree.no_statements)))
    (at 20)) whole ∷ []) ∷ [])))
    ≡ gives ((0, []) ∷ (0, 9 ∷ 4 ∷ []) ∷ [])
unfolding library_words class_words member_words further_words library_class object_class settled sites erased is_subtype supertypes declared_class converted assigned bind check need number_literal literal_of primitive_operation binary superinterface anonymous_super well_placed bounded methods_above inherited may_override good_override good_implementations all_implemented no_clash no_constructor_clash no_inherited_clash bad_modifier class_heads found_field static_field find_field name_before assigned_select select variable_named variable_node taken not_forward assigned_name updated_name simple_name used constructors_in constructor_for anonymous_creation superclass_constructor_call implicit_constructor_call choice chosen class_signatures signatures rows all_due library_declared declared_classes returned_value variable_constant bridges captured_locals captures is_blank constants_of library_constants no_cycle elaborated class_members in_body round_met round_class round_without_locals classes heads plain_program texts superclass own_constructor_call local_class next_label selector inner_static
a_constant_of_a_local_class = refl

-- ---- class A { static final int x = A.y + 1; static final int y = 2; }, and with A.x for 2

abbrev constant : ℕ → Expression → Member
constant x e =
    tree.field (with word.Static word.Final) int
    (tree.more_variables (id x 4) 0 (tree.an_expression e) tree.no_variables) whole

abbrev of_a : ℕ → Expression
of_a x = tree.select (name_at 0 10) (id x 11) whole

abbrev next : Expression → Expression
next e = tree.binary Add (at 12) e (number 1) whole

abbrev constants : CoreClass → List Bool
constants c = map is_constant c.fields
  where
    is_constant : CoreField → Bool
    is_constant f = is_some f.constant

by_a_later_one : of_guests constants
    (elaborated (program (class_a (constant 4 (next (of_a 5)) ∷ constant 5 (number 2) ∷ []) ∷ []))) ≡ gives
    ((true ∷ true ∷ []) ∷ [])
unfolding library_words class_words member_words further_words library_class object_class settled sites erased is_subtype supertypes declared_class converted assigned bind check need number_literal literal_of primitive_operation binary superinterface anonymous_super well_placed bounded methods_above inherited may_override good_override good_implementations all_implemented no_clash no_constructor_clash no_inherited_clash bad_modifier class_heads found_field static_field find_field name_before assigned_select select variable_named variable_node taken not_forward assigned_name updated_name simple_name used constructors_in constructor_for anonymous_creation superclass_constructor_call implicit_constructor_call choice chosen class_signatures signatures rows all_due library_declared declared_classes returned_value variable_constant bridges captured_locals captures is_blank constants_of library_constants no_cycle elaborated class_members in_body round_met round_class round_without_locals classes heads plain_program texts superclass own_constructor_call inner_static
by_a_later_one = refl

by_each_other : of_guests constants
    (elaborated (program (class_a (constant 4 (next (of_a 5)) ∷ constant 5 (of_a 4) ∷ []) ∷ []))) ≡ gives
    ((false ∷ false ∷ []) ∷ [])
unfolding library_words class_words member_words further_words library_class object_class settled sites erased is_subtype supertypes declared_class converted assigned bind check need number_literal literal_of primitive_operation binary superinterface anonymous_super well_placed bounded methods_above inherited may_override good_override good_implementations all_implemented no_clash no_constructor_clash no_inherited_clash bad_modifier class_heads found_field static_field find_field name_before assigned_select select variable_named variable_node taken not_forward assigned_name updated_name simple_name used constructors_in constructor_for anonymous_creation superclass_constructor_call implicit_constructor_call choice chosen class_signatures signatures rows all_due library_declared declared_classes returned_value variable_constant bridges captured_locals captures is_blank constants_of library_constants no_cycle elaborated class_members in_body round_met round_class round_without_locals classes heads plain_program texts superclass own_constructor_call inner_static
by_each_other = refl

-- ---- class A { A() { this(1); } A(int v) { this(); } }, and with `super()`

abbrev constructor : List FormalParameter → Bool → ℕ → tree.Expressions → Member
constructor fs is_super n args =
    tree.constructor [] (id 0 4) fs [] (tree.explicit is_super (at n) args) (at 5) tree.no_statements (at 20) whole

abbrev one_argument : tree.Expressions
one_argument = tree.more_expressions (number 1) tree.no_expressions

constructors_in_a_cycle : elaborated
    (program (class_a (constructor [] false 50 one_argument ∷ constructor (formal int false ∷ []) false 51
    tree.no_expressions ∷ []) ∷ []))
    ≡ breaks CtorCycle (at 50)
unfolding library_words class_words member_words further_words library_class object_class settled sites erased is_subtype supertypes declared_class converted assigned bind check need number_literal literal_of primitive_operation binary superinterface anonymous_super well_placed bounded methods_above inherited may_override good_override good_implementations all_implemented no_clash no_constructor_clash no_inherited_clash bad_modifier class_heads found_field static_field find_field name_before assigned_select select variable_named variable_node taken not_forward assigned_name updated_name simple_name used constructors_in constructor_for anonymous_creation superclass_constructor_call implicit_constructor_call choice chosen class_signatures signatures rows all_due library_declared declared_classes returned_value variable_constant bridges captured_locals captures is_blank constants_of library_constants no_cycle elaborated class_members in_body round_met round_class round_without_locals classes heads plain_program texts superclass own_constructor_call
constructors_in_a_cycle = refl

-- ---- class A implements Comparable<A> { public int compareTo(A v) { return 1; } }: the method of the erased
-- parameter is reached through the interface's, also in class B extends A { }

abbrev bridged : CoreClass → List (ℕ × ℕ)
bridged c = map places c.bridges
  where
    places : Bridge → ℕ × ℕ
    places b = (b.method.1, b.by.1)

abbrev public : List Modifier
public = record { kind = word.Public; span = at 2 } ∷ []

a_bridge : of_guests bridged (elaborated (program (
    class 0 1 None (more_types (named 8 30 (more_types (named 0 31 no_types) no_types)) no_types)
    (returns public int 6 (formal (named 0 32 no_types) false ∷ []) (number 1) ∷ [])
    ∷ class 1 33 (Some (named 0 34 no_types)) no_types [] ∷ [])))
    ≡ gives (((0, 0) ∷ []) ∷ ((0, 0) ∷ []) ∷ [])
unfolding library_words class_words member_words further_words library_class object_class settled sites erased is_subtype supertypes declared_class converted assigned bind check need number_literal literal_of primitive_operation binary superinterface anonymous_super well_placed bounded methods_above inherited may_override good_override good_implementations all_implemented no_clash no_constructor_clash no_inherited_clash bad_modifier class_heads found_field static_field find_field name_before assigned_select select variable_named variable_node taken not_forward assigned_name updated_name simple_name used constructors_in constructor_for anonymous_creation superclass_constructor_call implicit_constructor_call choice chosen class_signatures signatures rows all_due library_declared declared_classes returned_value variable_constant bridges captured_locals captures is_blank constants_of library_constants no_cycle elaborated class_members in_body round_met round_class round_without_locals classes heads plain_program texts superclass own_constructor_call
a_bridge = refl

-- class A<x> { int f(x v) { return 1; } B f(B v) { return v; } }  class B extends A<B> { }: neither overrides the
-- other, so B, where both are f(B), has no bridge

abbrev generic : List Member → Declaration
generic ms =
    tree.class_declaration [] (id 0 1) (record { name = id 4 50; bound = None } ∷ []) None no_types (members ms) whole

abbrev a_of : ℕ → TypeName
a_of x = named 0 34 (more_types (named x 35 no_types) no_types)

no_bridges_between_inherited_ones : of_guests bridged (elaborated (program (
    generic (returns [] int 2 (formal (named 4 51 no_types) false ∷ []) (number 1)
    ∷ returns [] (named 1 52 no_types) 2 (formal (named 1 53 no_types) false ∷ []) (name_at 3 54) ∷ [])
    ∷ class 1 33 (Some (a_of 1)) no_types [] ∷ [])))
    ≡ gives ([] ∷ [] ∷ [])
unfolding library_words class_words member_words further_words library_class object_class settled sites erased is_subtype supertypes declared_class converted assigned bind check need number_literal literal_of primitive_operation binary superinterface anonymous_super well_placed bounded methods_above inherited may_override good_override good_implementations all_implemented no_clash no_constructor_clash no_inherited_clash bad_modifier class_heads found_field static_field find_field name_before assigned_select select variable_named variable_node taken not_forward assigned_name updated_name simple_name used constructors_in constructor_for anonymous_creation superclass_constructor_call implicit_constructor_call choice chosen class_signatures signatures rows all_due library_declared declared_classes returned_value variable_constant bridges captured_locals captures is_blank constants_of library_constants no_cycle elaborated class_members in_body round_met round_class round_without_locals classes heads plain_program texts superclass own_constructor_call
no_bridges_between_inherited_ones = refl

-- class A<x> { int f(x v) { return 1; } }  class B extends A<B> { int f(B v) { return 1; } }  class y extends B { }: f
-- of B overrides that of A, with a body as it is, in B and in y

an_inherited_bridge : of_guests bridged (elaborated (program (
    generic (returns [] int 2 (formal (named 4 51 no_types) false ∷ []) (number 1) ∷ [])
    ∷ class 1 33 (Some (a_of 1)) no_types
    (returns [] int 2 (formal (named 1 53 no_types) false ∷ []) (number 1) ∷ [])
    ∷ class 5 55 (Some (named 1 56 no_types)) no_types [] ∷ [])))
    ≡ gives ([] ∷ ((0, 0) ∷ []) ∷ ((0, 0) ∷ []) ∷ [])
unfolding library_words class_words member_words further_words library_class object_class settled sites erased is_subtype supertypes declared_class converted assigned bind check need number_literal literal_of primitive_operation binary superinterface anonymous_super well_placed bounded methods_above inherited may_override good_override good_implementations all_implemented no_clash no_constructor_clash no_inherited_clash bad_modifier class_heads found_field static_field find_field name_before assigned_select select variable_named variable_node taken not_forward assigned_name updated_name simple_name used constructors_in constructor_for anonymous_creation superclass_constructor_call implicit_constructor_call choice chosen class_signatures signatures rows all_due library_declared declared_classes returned_value variable_constant bridges captured_locals captures is_blank constants_of library_constants no_cycle elaborated class_members in_body round_met round_class round_without_locals classes heads plain_program texts superclass own_constructor_call
an_inherited_bridge = refl

-- interface A<x> { int f(x v); }  class B { public int f(B v) { return 1; } }  class y extends B implements A<B> { }: f
-- of B implements that of A in y, though it overrides nothing

abbrev generic_interface : List Member → Declaration
generic_interface ms =
    tree.interface_declaration [] (id 0 1) (record { name = id 4 50; bound = None } ∷ []) no_types (members ms) whole

a_bridge_to_an_inherited_one : of_guests bridged (elaborated (program (
    generic_interface
    (tree.method [] (Some int) (id 2 4) (formal (named 4 51 no_types) false ∷ []) [] tree.no_block whole ∷ [])
    ∷ class 1 33 None no_types (returns public int 2 (formal (named 1 53 no_types) false ∷ []) (number 1) ∷ [])
    ∷ class 5 55 (Some (named 1 56 no_types)) (more_types (a_of 1) no_types) [] ∷ [])))
    ≡ gives ([] ∷ [] ∷ ((0, 0) ∷ []) ∷ [])
unfolding library_words class_words member_words further_words library_class object_class settled sites erased is_subtype supertypes declared_class converted assigned bind check need number_literal literal_of primitive_operation binary superinterface anonymous_super well_placed bounded methods_above inherited may_override good_override good_implementations all_implemented no_clash no_constructor_clash no_inherited_clash bad_modifier class_heads found_field static_field find_field name_before assigned_select select variable_named variable_node taken not_forward assigned_name updated_name simple_name used constructors_in constructor_for anonymous_creation superclass_constructor_call implicit_constructor_call choice chosen class_signatures signatures rows all_due library_declared declared_classes returned_value variable_constant bridges captured_locals captures is_blank constants_of library_constants no_cycle elaborated class_members in_body round_met round_class round_without_locals classes heads plain_program texts superclass own_constructor_call
a_bridge_to_an_inherited_one = refl

abbrev bounded_by : ℕ → ℕ → Option TypeName → TypeNames → List Modifier → List Member → Declaration
bounded_by x b above is ms members_of =
    tree.class_declaration ms (id x 1) (record { name = id 4 50; bound = Some (named b 60 no_types) } ∷ []) above is
    (members members_of) whole

-- class A<x> { int f(x v) { return 1; } }  class y { }  class B<x extends y> extends A<x> { int f(y v) { return 1; } }
-- class compareTo extends y { }  class v extends B<compareTo> { }: f of B overrides that of A by its erasure, also in v

an_inherited_bridge_by_erasure : of_guests bridged (elaborated (program (
    generic (returns [] int 2 (formal (named 4 51 no_types) false ∷ []) (number 1) ∷ [])
    ∷ class 5 33 None no_types []
    ∷ bounded_by 1 5 (Some (a_of 4)) no_types []
    (returns [] int 2 (formal (named 5 53 no_types) false ∷ []) (number 1) ∷ [])
    ∷ class 6 54 (Some (named 5 58 no_types)) no_types []
    ∷ class 3 55 (Some (named 1 56 (more_types (named 6 57 no_types) no_types))) no_types [] ∷ [])))
    ≡ gives ([] ∷ [] ∷ ((0, 0) ∷ []) ∷ [] ∷ ((0, 0) ∷ []) ∷ [])
unfolding library_words class_words member_words further_words library_class object_class settled sites erased is_subtype supertypes declared_class converted assigned bind check need number_literal literal_of primitive_operation binary superinterface anonymous_super well_placed bounded methods_above inherited may_override good_override good_implementations all_implemented no_clash no_constructor_clash no_inherited_clash bad_modifier class_heads found_field static_field find_field name_before assigned_select select variable_named variable_node taken not_forward assigned_name updated_name simple_name used constructors_in constructor_for anonymous_creation superclass_constructor_call implicit_constructor_call choice chosen class_signatures signatures rows all_due library_declared declared_classes returned_value variable_constant bridges captured_locals captures is_blank constants_of library_constants no_cycle elaborated class_members in_body round_met round_class round_without_locals classes heads plain_program texts superclass own_constructor_call
an_inherited_bridge_by_erasure = refl

-- interface A<x> { int f(x v); }  class y { }  class v { public Object f(y v) { return v; } }
-- abstract class B<x extends y> extends v implements A<x> { }: f of v has the erasure of A's in B, not its parameters

no_bridge_by_erasure_alone : of_guests bridged (elaborated (program (
    generic_interface
    (tree.method [] (Some int) (id 2 4) (formal (named 4 51 no_types) false ∷ []) [] tree.no_block whole ∷ [])
    ∷ class 5 33 None no_types []
    ∷ class 3 34 None no_types
    (returns public (named 7 61 no_types) 2 (formal (named 5 53 no_types) false ∷ []) (name_at 3 54) ∷ [])
    ∷ bounded_by 1 5 (Some (named 3 62 no_types)) (more_types (a_of 4) no_types)
    (record { kind = word.Abstract; span = at 2 } ∷ []) []
    ∷ [])))
    ≡ gives ([] ∷ [] ∷ [] ∷ [] ∷ [])
unfolding library_words class_words member_words further_words library_class object_class settled sites erased is_subtype supertypes declared_class converted assigned bind check need number_literal literal_of primitive_operation binary superinterface anonymous_super well_placed bounded methods_above inherited may_override good_override good_implementations all_implemented no_clash no_constructor_clash no_inherited_clash bad_modifier class_heads found_field static_field find_field name_before assigned_select select variable_named variable_node taken not_forward assigned_name updated_name simple_name used constructors_in constructor_for anonymous_creation superclass_constructor_call implicit_constructor_call choice chosen class_signatures signatures rows all_due library_declared declared_classes returned_value variable_constant bridges captured_locals captures is_blank constants_of library_constants no_cycle elaborated class_members in_body round_met round_class round_without_locals classes heads plain_program texts superclass own_constructor_call
no_bridge_by_erasure_alone = refl

-- ---- a constant of letters beyond ASCII, U+00E9 and U+1D538, is made with the UTF-16 units of its name

beyond_ascii : map units_of (flat_map initializer_texts (constants_made (λ w. record { 0 = 0 })
    ((0xC3 ∷ 0xA9 ∷ 0xF0 ∷ 0x9D ∷ 0x94 ∷ 0xB8 ∷ []) ∷ []) 0 (at 1) (id 0 2 ∷ []) 0 (id 0 2 ∷ [])))
    ≡ (0xE9 ∷ 0xD835 ∷ 0xDD38 ∷ []) ∷ []
unfolding chars
beyond_ascii = refl
