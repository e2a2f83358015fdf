-- What steps of typing give fits where their parts do.
use Rattle.std.specs.Prelude.{◌≡◌, ◌≤◌, ◌||◌, Bool, true, false, List, is_some}
use Rattle.je_base.specs.declared.span.Span.{Span}
use Rattle.je_core.specs.declared.expr.BinOp.{BinOp}
use Rattle.je_core.specs.declared.expr.UnOp.{UnOp}
use Rattle.je_core.specs.Core.{CoreProgram, form_of}
use Rattle.je_fitting.specs.Expressions.{Body, IsPlace}
use Rattle.je_fitting.specs.Operators.{equality, is_step, sort_of}
use Rattle.je_fitting.specs.Types.{is_variable_type}
use Rattle.source_types.specs.Erasure.{erased}
use Rattle.source_types.specs.Heads.{ClassHead}
use Rattle.source_types.specs.Subtypes.{dims_of}
use Rattle.je_typing.specs.Assignments.{assignment, stepped, update}
use Rattle.je_typing.specs.Literals.{literal_of}
use Rattle.je_typing.specs.Operators.{concatenation, logical, plus, primitive_operation, reference_equality, unary}
use Rattle.je_core.specs.declared.types.Base.{Base}
use Rattle.je_typing.specs.Arrays.{element, length_of}
use Rattle.je_typing.specs.Conditionals.{choice}
use Rattle.je_typing.specs.Casts.{instance_of, primitive_cast, reference_cast}
use Rattle.je_scopes.specs.SourceTypes.{SourceType}
use Rattle.je_typing.specs.Typed.{TypedNode, element_type, is_primitive_base, is_string, is_void}
use Rattle.je_ast.specs.declared.expr.Literal.{Literal}
use Rattle.typing_laws.specs.Correspondence.{HasHeads}
use Rattle.typing_laws.specs.Fitting.{BoundsFit, FitsAs, FitsAsVariable, Gives}

-- of nodes of a program in a body, over the headers of its classes
module _ (p : CoreProgram) (body : Body) (heads : List ClassHead) where
  abbrev Fit : TypedNode → Type 0
  Fit t = FitsAs p body heads t

  abbrev Variable : TypedNode → Type 0
  Variable t = FitsAsVariable p body heads t

  -- JLS 3.10
  abbrev pub LiteralsFit : Type 0
  LiteralsFit = (l : Literal) (span : Span) → Gives Fit (literal_of l span)

  -- JLS 15.17 to 15.22, on numbers and booleans
  abbrev pub PrimitiveOperationsFit : Type 0
  PrimitiveOperationsFit = (o : BinOp) (at span : Span) (left right : TypedNode) → Fit left → Fit right →
      Gives Fit (primitive_operation o at span left right)

  -- JLS 15.15.3 to 15.15.6
  abbrev pub UnaryOperationsFit : Type 0
  UnaryOperationsFit = (o : UnOp) (at span : Span) (operand : TypedNode) → Fit operand →
      Gives Fit (unary o at span operand)

  abbrev pub PlusFits : Type 0
  PlusFits = (at span : Span) (operand : TypedNode) → Fit operand → Gives Fit (plus at span operand)

  -- JLS 15.23, 15.24
  abbrev pub LogicalOperationsFit : Type 0
  LogicalOperationsFit = (is_and : Bool) (at span : Span) (left right : TypedNode) → Fit left → Fit right →
      Gives Fit (logical is_and at span left right)

  -- JLS 5.5, to a primitive type
  abbrev pub PrimitiveCastsFit : Type 0
  PrimitiveCastsFit = (b : Base) (type_span span : Span) (operand : TypedNode) → is_primitive_base b ≡ true →
      Fit operand → Gives Fit (primitive_cast b type_span span operand)

  -- JLS 15.18.1, where one operand is a String
  abbrev pub ConcatenationsFit : Type 0
  ConcatenationsFit = (at span : Span) (left right : TypedNode) → BoundsFit heads →
      (is_string left.type || is_string right.type) ≡ true → Fit left → Fit right →
      Gives Fit (concatenation at span left right)

  -- ---- assignments (JLS 15.26), where the variable may be assigned where it stands

  -- JLS 15.26.1
  abbrev pub AssignmentsFit : Type 0
  AssignmentsFit = (at left_span right_span span : Span) (left right : TypedNode) → HasHeads p heads →
      dims_of left.type ≤ 255 → dims_of right.type ≤ 255 →
      IsPlace p body (form_of left.node) → Variable left → Fit right →
      Gives Fit (assignment heads at left_span right_span span left right)

  -- JLS 15.26.2
  abbrev pub UpdatesFit : Type 0
  UpdatesFit = (o : BinOp) (at left_span span : Span) (left right : TypedNode) → BoundsFit heads →
      IsPlace p body (form_of left.node) → Variable left → Fit right →
      Gives Fit (update heads o at left_span span left right)

  -- JLS 15.14, 15.15.1, 15.15.2
  abbrev pub StepsFit : Type 0
  StepsFit = (o : BinOp) (gives_old : Bool) (at operand_span span : Span) (operand : TypedNode) → is_step o ≡ true →
      IsPlace p body (form_of operand.node) → Variable operand →
      Gives Fit (stepped o gives_old at operand_span span operand)

  -- ---- references

  -- JLS 15.21.3
  abbrev pub ReferenceEqualitiesFit : Type 0
  ReferenceEqualitiesFit = (o : BinOp) (at span : Span) (left right : TypedNode) → BoundsFit heads →
      sort_of o ≡ equality → Fit left → Fit right → Gives Fit (reference_equality heads o at span left right)

  -- JLS 5.5, to a type whose class is there
  abbrev pub ReferenceCastsFit : Type 0
  ReferenceCastsFit = (to : SourceType) (type_span span : Span) (operand : TypedNode) → BoundsFit heads →
      is_variable_type p (erased heads to) ≡ true → Fit operand →
      Gives Fit (reference_cast heads to type_span span operand)

  -- JLS 15.20.2
  abbrev pub TypeTestsFit : Type 0
  TypeTestsFit = (to : SourceType) (type_span at span : Span) (operand : TypedNode) → BoundsFit heads →
      is_variable_type p (erased heads to) ≡ true → Fit operand →
      Gives Fit (instance_of heads to type_span at span operand)

  -- JLS 15.25
  abbrev pub ChoicesFit : Type 0
  ChoicesFit = (at condition_span span : Span) (condition first other : TypedNode) → HasHeads p heads →
      dims_of first.type ≤ 255 → dims_of other.type ≤ 255 → is_void first.type ≡ false → is_void other.type ≡ false →
      Fit condition → Fit first → Fit other → Gives Fit (choice heads at condition_span span condition first other)

  -- ---- arrays

  -- JLS 15.13
  abbrev pub ElementsFit : Type 0
  ElementsFit = (array_span index_span span : Span) (array index : TypedNode) → BoundsFit heads →
      dims_of array.type ≤ 255 → Fit array → Fit index →
      Gives Fit (element heads array_span index_span span array index)

  -- JLS 10.7
  abbrev pub LengthsFit : Type 0
  LengthsFit = (at span : Span) (array : TypedNode) → BoundsFit heads → dims_of array.type ≤ 255 →
      is_some (element_type array.type) ≡ true → Fit array → Fit (length_of at span array.node)
