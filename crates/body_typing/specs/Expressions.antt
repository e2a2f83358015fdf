-- Expressions (JLS 15): what each comes to, a node with its type, or the first fault. Parts come from left to right
-- before the whole, and each form is one step of a chapter of its own on what its parts came to.
use Rattle.std.specs.Prelude.{ℕ, Bool, true, false, List, [], ◌∷◌, Option, Some, None, min, nat_eq, unwrap_or, if◌then◌else◌}
use Rattle.std.specs.List.{position}
use Rattle.je_base.specs.declared.span.Span.{Span}
use Rattle.je_core.specs.declared.types.Base.TheVariants as base
use Rattle.je_core.specs.declared.expr.BinOp.{BinOp}
use Rattle.je_core.specs.declared.expr.BinOp.TheVariants.{Add, Sub}
use Rattle.je_core.specs.declared.expr.UnOp.TheVariants as unary_op
use Rattle.je_core.specs.Core.{CoreCapture}
use Rattle.je_ast.specs.declared.expr.Literal.TheVariants as literal
use Rattle.je_ast.specs.declared.name.Identifier.{Identifier}
use Rattle.je_ast.specs.declared.operator.BinaryOp.{BinaryOp}
use Rattle.je_ast.specs.declared.operator.PrefixOp.{PrefixOp}
use Rattle.je_ast.specs.declared.operator.PrefixOp.TheVariants as prefix_op
use Rattle.je_ast.specs.declared.operator.PostfixOp.{PostfixOp}
use Rattle.je_ast.specs.declared.operator.PostfixOp.TheVariants as postfix_op
use Rattle.je_ast.specs.Spans as written
use Rattle.je_ast.specs.Trees.{Expression, Expressions}
use Rattle.je_ast.specs.Trees as tree
use Rattle.je_ast.specs.Types.{QualifiedName, TypeName, primitive, class_type}
use Rattle.je_classes.specs.Members.{Member}
use Rattle.je_scopes.specs.Looks.{Look, a_class}
use Rattle.je_scopes.specs.Scope.{header}
use Rattle.je_scopes.specs.Sites.{Site, Written, behind_new}
use Rattle.je_scopes.specs.SourceTypes.{SourceType, of_class, of_variable, plain, with_dims}
use Rattle.declarations.specs.Declarations.{type_at}
use Rattle.header_typing.specs.WrittenTypes as types
use Rattle.je_typing.specs.declared.fault.TypeRule.TheVariants.{BadArray, BadTarget, UnknownName}
use Rattle.je_typing.specs.Arrays.{Part, array_of, array_type, element, elements_if, elements_node, new_array}
use Rattle.je_typing.specs.Assignments.{assignment, compound, stepped}
use Rattle.je_typing.specs.Casts.{cast, instance_of}
use Rattle.je_typing.specs.Conditionals.{choice}
use Rattle.je_typing.specs.Judged.{Judged, gives, ◌>>=◌, ◌>>◌, breaks, check, need}
use Rattle.je_typing.specs.Literals.{literal_of, negative_int, negative_long, number_literal}
use Rattle.je_typing.specs.Operators.{binary, plus, unary}
use Rattle.je_typing.specs.Typed.{TypedNode, element_type}
use Rattle.name_typing.specs.Accesses.{super_field}
use Rattle.name_typing.specs.Instances.{outer_this, this}
use Rattle.name_typing.specs.Program.{Place, Program}
use Rattle.name_typing.specs.Qualified.{Qualifier, a_value, assigned_select, name_before, select, select_before}
use Rattle.name_typing.specs.Variables.{assigned_name, simple_name, taken, updated_name}
use Rattle.body_types.specs.BodyTypes.{bare_type, body_type, look_at}
use Rattle.call_typing.specs.Calls.{call_on, receiver, simple_call, super_call, used}
use Rattle.call_typing.specs.Creations.{anonymous_creation, creation}
use Rattle.body_typing.specs.FinalVariables.{Scope, not_final}

-- what an expression is for: its value is read, it is assigned, it is read and assigned, or it is the initializer of
-- a variable of a type
pub data Purpose : Type 0 where
  read : Purpose
  assigned : Purpose
  updated : Purpose
  initial : SourceType → Purpose

-- ---- what is written of a type

abbrev pub name_span : TypeName → Span
name_span (primitive word dims span) = span
name_span (class_type q args dims span) = q.span

-- ---- the class of a body behind `new`, by the place of that word

abbrev pub same_start : Span → Span → Bool
same_start a b = if nat_eq a.file b.file then nat_eq a.start b.start else false

abbrev pub is_behind : Span → Written → Bool
is_behind word (behind_new own t body) = same_start word own
is_behind word _ = false

abbrev pub anonymous_at : Program → Span → ℕ
anonymous_at p word = unwrap_or (position (λ (s : Site). is_behind word s.written) p.source.sites) 0

-- the type that it names, which was judged with the headers
abbrev pub anonymous_type : Program → Span → TypeName → SourceType
anonymous_type p word t = type_at p.source (anonymous_at p word) header t

-- ---- `C.this`: a class by its name

abbrev pub class_of_look : Look → Option ℕ
class_of_look (a_class c) = Some c
class_of_look look = None

-- ---- new arrays (JLS 15.10): the type of the innermost elements is written without brackets, and no array has more
-- than 255 dimensions (JVMS 4.3.2), which is asked behind the elements

abbrev pub innermost : SourceType → SourceType
innermost (plain b dims) = plain b 0
innermost (of_class c args dims) = of_class c args 0
innermost (of_variable c at dims) = of_variable c at 0

abbrev pub array_over : SourceType → ℕ → SourceType
array_over of dims = with_dims (innermost of) (min 255 dims)

-- ---- elements of an array initializer: of the type of the elements, where the type has elements

abbrev pub element_or : SourceType → SourceType
element_or t = unwrap_or (element_type t) t

-- ---- `++` adds, `--` takes away

abbrev pub step_of : PostfixOp → BinOp
step_of postfix_op.Increment = Add
step_of postfix_op.Decrement = Sub

abbrev pub prefix_purpose : PrefixOp → Purpose
prefix_purpose prefix_op.Increment = updated
prefix_purpose prefix_op.Decrement = updated
prefix_purpose o = read

abbrev pub target_purpose : Option BinaryOp → Purpose
target_purpose None = assigned
target_purpose (Some o) = updated

-- ---- what is written as a variable (JLS 15.26): a name, a field or an element, in brackets or not

abbrev pub is_variable : Expression → Bool
is_variable (tree.name id) = true
is_variable (tree.select e id span) = true
is_variable (tree.super_select word id span) = true
is_variable (tree.index e i span) = true
is_variable (tree.parens e span) = is_variable e
is_variable e = false

-- ---- an integer literal directly behind a minus may be one more (JLS 3.10.1)

abbrev pub negative_literal : PrefixOp → Expression → Span → Option (Judged TypedNode)
negative_literal prefix_op.Minus (tree.literal (literal.Int z) own) span =
    Some (number_literal base.Int (negative_int z) own span)
negative_literal prefix_op.Minus (tree.literal (literal.Long z) own) span =
    Some (number_literal base.Long (negative_long z) own span)
negative_literal o e span = None

abbrev pub or_else : Option (Judged TypedNode) → Judged TypedNode → Judged TypedNode
or_else None t = t
or_else (Some t) other = t

-- ---- parts with their spans as they are written

abbrev pub part : Span → TypedNode → Part
part span t = record { value = t; span = span }

-- ---- the class of an object that is made

abbrev pub class_or_zero : SourceType → ℕ
class_or_zero (of_class c args dims) = c
class_or_zero t = 0

-- a value that is used: no call of a `void` method
abbrev pub value : Judged TypedNode → Judged TypedNode
value judged = do
  t ← judged
  used t

-- What is known where the bodies are: of a class, what a new object of it gets from round it; of a field, whether it
-- is final and has no initializer.
pub record Known : Type 0 where
  pub captures : Place → ℕ → List CoreCapture
  pub is_blank : Member → Bool

module _ (p : Program) (k : Known) (s : Scope) where
  -- ---- variables, by what they are for

  abbrev pub simple : Purpose → Identifier → Judged TypedNode
  simple assigned id = assigned_name p s.place id
  simple updated id = updated_name p s.place id
  simple purpose id = simple_name p s.place id

  abbrev pub selected : Purpose → Identifier → Span → Qualifier → Judged TypedNode
  selected assigned id span q = assigned_select p s.place id span q
  selected updated id span q = assigned_select p s.place id span q
  selected purpose id span q = select p s.place id span q

  abbrev pub taken_for : Purpose → TypedNode → TypedNode
  taken_for assigned t = t
  taken_for updated t = t
  taken_for purpose t = taken p.heads t

  -- ---- what stands before a point (JLS 6.5.2): names are read as such, all else is a value

  abbrev pub select_on : Identifier → Span → Judged Qualifier → Judged Qualifier
  select_on id span judged = do
    q ← judged
    select_before p s.place id span q

  abbrev pub one_more : Identifier → Span → Option (Judged Qualifier) → Option (Judged Qualifier)
  one_more id span None = None
  one_more id span (Some q) = Some (select_on id span q)

  abbrev pub named_before : Expression → Option (Judged Qualifier)
  named_before (tree.name id) = Some (name_before p s.place id)
  named_before (tree.select e id span) = one_more id span (named_before e)
  named_before e = None

  abbrev pub before : Option (Judged Qualifier) → Judged TypedNode → Judged Qualifier
  before (Some q) judged = q
  before None judged = do
    t ← value judged
    gives (a_value t)

  -- ---- steps

  abbrev pub outer : QualifiedName → Span → Judged TypedNode
  outer q word = do
    c ← need UnknownName q.span (class_of_look (look_at p s.place.here q.parts))
    outer_this p s.place c q.span word

  -- what is assigned is written as a variable, and isn't final
  unfoldable pub may_be_target : Span → Bool → TypedNode → Judged (Unit {0})
  may_be_target span is_variable target = do
    check BadTarget span is_variable
    not_final p k.is_blank s target

  -- so, which is asked behind all else
  abbrev pub assigned_by : Span → Bool → TypedNode → Judged TypedNode → Judged TypedNode
  assigned_by span is_variable target assignment = do
    t ← assignment
    may_be_target span is_variable target
    gives t

  abbrev pub assign_step : Option BinaryOp → Span → Span → Span → Span → TypedNode → TypedNode → Judged TypedNode
  assign_step None at left_span right_span span left right = assignment p.heads at left_span right_span span left right
  assign_step (Some o) at left_span right_span span left right = compound p.heads o at left_span span left right

  -- JLS 15.15
  abbrev pub step : BinOp → Bool → Span → Span → Bool → Span → TypedNode → Judged TypedNode
  step o gives_old at operand_span is_variable span t =
      assigned_by operand_span is_variable t (stepped o gives_old at operand_span span t)

  abbrev pub prefix_step : PrefixOp → Span → Span → Bool → Span → TypedNode → Judged TypedNode
  prefix_step prefix_op.Plus at operand_span is_variable span t = plus at span t
  prefix_step prefix_op.Minus at operand_span is_variable span t = unary unary_op.Minus at span t
  prefix_step prefix_op.Not at operand_span is_variable span t = unary unary_op.Not at span t
  prefix_step prefix_op.Tilde at operand_span is_variable span t = unary unary_op.Tilde at span t
  prefix_step prefix_op.Increment at operand_span is_variable span t = step Add false at operand_span is_variable span t
  prefix_step prefix_op.Decrement at operand_span is_variable span t = step Sub false at operand_span is_variable span t

  abbrev pub prefixed : PrefixOp → Span → Span → Bool → Span → Judged TypedNode → Judged TypedNode
  prefixed o at operand_span is_variable span judged = do
    t ← value judged
    prefix_step o at operand_span is_variable span t

  -- ---- the walk

  abbrev mutual
    pub expression : Purpose → Expression → Judged TypedNode
    -- JLS 15.8
    expression purpose (tree.literal l span) = literal_of l span
    expression purpose (tree.this span) = this p s.place span
    expression purpose (tree.outer_this q word span) = outer q word
    -- parens change nothing
    expression purpose (tree.parens e span) = value (expression purpose e)
    -- JLS 6.5.6, 15.11
    expression purpose (tree.name id) = simple purpose id
    expression purpose (tree.select e id span) = do
      q ← before (named_before e) (expression read e)
      selected purpose id span q
    expression purpose (tree.super_select word id span) = do
      t ← super_field p s.place word id span
      gives (taken_for purpose t)
    -- JLS 15.12
    expression purpose (tree.call id es span) = do
      args ← values es
      simple_call p s.place id span args
    expression purpose (tree.call_on e id es span) = do
      q ← before (named_before e) (expression read e)
      on ← receiver q
      args ← values es
      call_on p s.place id span args on
    expression purpose (tree.super_call word id es span) = do
      args ← values es
      super_call p s.place word id span args
    -- JLS 15.13
    expression purpose (tree.index e i span) = do
      array ← value (expression read e)
      at ← value (expression read i)
      element p.heads (written.span_of e) (written.span_of i) span array at
    -- JLS 15.9
    expression purpose (tree.new_object word t es span) = do
      made ← body_type p s.place.here t
      args ← values es
      creation p s.place made word (name_span t) span args (k.captures s.place (class_or_zero made))
    expression purpose (tree.new_anonymous word t es body span) = do
      args ← values es
      anonymous_creation p s.place (anonymous_at p word) (anonymous_type p word t) word (name_span t) span args
          (k.captures s.place (anonymous_at p word))
    -- JLS 15.10
    expression purpose (tree.new_array t es dims span) = do
      of ← bare_type p s.place.here t
      lengths ← parts es
      new_array p.heads (innermost of) dims (name_span t) span lengths
    expression purpose (tree.new_array_of t dims e span) = do
      of ← bare_type p s.place.here t
      elements ← elements_in (array_over of dims) e
      given ← elements_if p.heads (element_type (array_over of dims)) elements
      made ← array_type p.heads (innermost of) dims (name_span t)
      gives (elements_node p.heads made span given)
    -- JLS 10.6: it stands only where a type is known
    expression (initial t) (tree.array_init es span) = do
      elements ← elements_for (element_or t) es
      array_of p.heads t span elements
    expression purpose (tree.array_init es span) = breaks BadArray span
    -- JLS 15.14, 15.15
    expression purpose (tree.prefix o at e span) =
        or_else (negative_literal o e span) (prefixed o at (written.span_of e) (is_variable e) span (expression (prefix_purpose o) e))
    expression purpose (tree.postfix o at e span) = do
      t ← value (expression updated e)
      step (step_of o) true at (written.span_of e) (is_variable e) span t
    -- JLS 15.16, 15.20.2
    expression purpose (tree.cast t e span) = do
      to ← bare_type p s.place.here t
      operand ← value (expression read e)
      cast p.heads to (types.span_of t) span operand
    expression purpose (tree.instance_of at e t span) = do
      operand ← value (expression read e)
      of ← bare_type p s.place.here t
      instance_of p.heads of (types.span_of t) at span operand
    -- JLS 15.17 to 15.24
    expression purpose (tree.binary o at e f span) = do
      left ← value (expression read e)
      right ← value (expression read f)
      binary p.heads o at span left right
    -- JLS 15.25
    expression purpose (tree.conditional at c e f span) = do
      condition ← value (expression read c)
      yes_value ← value (expression read e)
      no_value ← value (expression read f)
      choice p.heads at (written.span_of c) span condition yes_value no_value
    -- JLS 15.26
    expression purpose (tree.assign o at e f span) = do
      target ← value (expression (target_purpose o) e)
      right ← value (expression read f)
      assigned_by (written.span_of e) (is_variable e) target (assign_step o at (written.span_of e) (written.span_of f) span target right)

    pub values : Expressions → Judged (List TypedNode)
    values tree.no_expressions = gives []
    values (tree.more_expressions e es) = do
      t ← value (expression read e)
      ts ← values es
      gives (t ∷ ts)

    pub parts : Expressions → Judged (List Part)
    parts tree.no_expressions = gives []
    parts (tree.more_expressions e es) = do
      t ← value (expression read e)
      ts ← parts es
      gives (part (written.span_of e) t ∷ ts)

    -- of an array initializer, for elements of a type
    pub elements_for : SourceType → Expressions → Judged (List Part)
    elements_for t tree.no_expressions = gives []
    elements_for t (tree.more_expressions e es) = do
      v ← value (expression (initial t) e)
      vs ← elements_for t es
      gives (part (written.span_of e) v ∷ vs)

    pub elements_in : SourceType → Expression → Judged (List Part)
    elements_in t (tree.array_init es span) = elements_for (element_or t) es
    elements_in t e = gives []
