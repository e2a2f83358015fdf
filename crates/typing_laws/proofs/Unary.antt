-- Unary operators, and `&&` and `||`, fit where their operands do.
use Rattle.std.proofs.Common.{◌≡◌, ℕ, List, [], ◌++◌, Option, Some, None, refl, sym, ap, ◌∙◌, subst}
use Rattle.std.specs.Prelude.{Bool, true, false, ◌&&◌, if◌then◌else◌}
use Rattle.std.proofs.lemmas.Option.{none-some, same_Some}
use Rattle.je_base.specs.declared.span.Span.{Span}
use Rattle.je_core.specs.declared.expr.UnOp.{UnOp}
use Rattle.je_core.specs.declared.expr.UnOp.TheVariants as unary_op
use Rattle.je_core.specs.declared.types.Base.{Base}
use Rattle.je_core.specs.declared.types.Base.TheVariants as base
use Rattle.je_core.specs.declared.types.Ty.{Ty}
use Rattle.je_core.specs.declared.value.Value.{Value}
use Rattle.je_core.specs.declared.value.Value.TheVariants as value
use Rattle.je_core.specs.Core.{Core, CoreProgram, node, ty_of}
use Rattle.je_core.specs.Core as core
use Rattle.je_classes.proofs.Lists.{bool_cases}
use Rattle.je_fitting.specs.Expressions.{Body, Fits, are_there}
use Rattle.je_fitting.specs.Expressions as fits
use Rattle.je_fitting.specs.Operators.{takes_one}
use Rattle.je_fitting.specs.Types.{bool, is_bool, is_promoted, of}
use Rattle.je_fitting.proofs.Booleans.{two}
use Rattle.je_scopes.specs.SourceTypes.{SourceType}
use Rattle.plain_programs.specs.Nodes.{every}
use Rattle.source_types.specs.Heads.{ClassHead}
use Rattle.je_typing.specs.declared.fault.TypeRule.TheVariants.{BadOperand}
use Rattle.je_typing.specs.Constants.{constant_value, folded_unary, uses_of, value_in}
use Rattle.je_typing.specs.Conversions.{converted}
use Rattle.je_typing.specs.Judged.{bind, check, gives, need}
use Rattle.je_typing.specs.Operators.{logical, logical_form, logical_node, logical_value, of_base, operand_base, plus, plus_node, unary, unary_node}
use Rattle.je_typing.specs.Promotion.{promoted}
use Rattle.je_typing.specs.Typed.{TypedNode, is_boolean}
use Rattle.typing_laws.specs.Fitting.{FitsAs, Gives, stands_once, with_texts}
use Rattle.typing_laws.specs.Laws.{LogicalOperationsFit, PlusFits, UnaryOperationsFit}
use Rattle.typing_laws.proofs.Nodes.{Operand, boolean-type, constant-or-fits, converted-as, converted-type, erased-plain, no-uses, operand-fits, uses-together}
use Rattle.typing_laws.proofs.Operators.{as-operand, boolean-operand, is-number}
use Rattle.typing_laws.proofs.Values.{HasType, unary-typed, typed-in}

-- ---- the operand

record IsTaken (o : UnOp) (s : SourceType) (b : Base) : Type 0 where
  own : Operand s b
  taken : takes_one o (of b) ≡ true

number-taken : (o : UnOp) (s : SourceType) (b : Base) → (is_promoted (of b) ≡ true → takes_one o (of b) ≡ true) → promoted s ≡ Some b → IsTaken o s b
number-taken o s b h e = let n = is-number s b e in record { own = as-operand s b b n n.number_too; taken = h n.promoted }

is-taken : (o : UnOp) (s : SourceType) (b : Base) → operand_base o s ≡ Some b → IsTaken o s b
is-taken unary_op.Minus s b e = number-taken unary_op.Minus s b (λ h. h) e
is-taken unary_op.Tilde s b e = number-taken unary_op.Tilde s b (λ h. h) e
is-taken unary_op.Not s b e = bool_cases (λ c. is_boolean s ≡ c → (if c then Some base.Bool else None) ≡ Some b → IsTaken unary_op.Not s b) (is_boolean s)
    (λ _ k r. subst (IsTaken unary_op.Not s) (same_Some base.Bool b r) (record { own = boolean-operand s k; taken = refl }))
    (λ _ k r. absurd (none-some b r)) refl e

logical-typed : (is_and : Bool) (v w : Option Value) → HasType bool (logical_value is_and v w)
logical-typed true (Some (value.Bool a)) (Some (value.Bool b)) = refl
logical-typed false (Some (value.Bool a)) (Some (value.Bool b)) = refl
logical-typed _ _ _ = tt

module _ (p : CoreProgram) (body : Body) (heads : List ClassHead) where
  -- ---- unary operators

  module _ (at span : Span) (operand : TypedNode) (fit : FitsAs p body heads operand) where
    node-fits : (o : UnOp) (b : Base) → IsTaken o operand.type b → FitsAs p body heads (of_base b (node (core.Unary o (converted b operand.node)) (of b) span at))
    node-fits o b taken = record {
      node = λ texts h. subst (λ (u : Ty). Fits (with_texts p texts) body (node (core.Unary o (converted b operand.node)) u span at)) (converted-type b operand.node)
          (fits.unary (operand-fits p body heads texts operand b fit taken.own h) (ap (takes_one o) (converted-type b operand.node) ∙ taken.taken));
      uses = no-uses p body heads;
      type = sym (erased-plain heads b);
    }

    unary-gives : (o : UnOp) → Gives (FitsAs p body heads) (unary o at span operand)
    unfolding unary bind need
    unary-gives o = by (operand_base o operand.type) refl
      where
        by : (x : Option Base) → operand_base o operand.type ≡ x → Gives (FitsAs p body heads) (bind (need BadOperand at x) (λ b. gives (of_base b (unary_node o b at span operand.node))))
        by None e = tt
        by (Some b) e =
            let taken = is-taken o operand.type b e in
            constant-or-fits p body heads (folded_unary o (value_in b (constant_value operand.node))) (uses_of operand.node) b span at _
            (unary-typed o (of b) (value_in b (constant_value operand.node)) (typed-in b (constant_value operand.node))) fit.uses (node-fits o b taken)

    plus-gives : Gives (FitsAs p body heads) (plus at span operand)
    unfolding plus bind need
    plus-gives = by (promoted operand.type) refl
      where
        by : (x : Option Base) → promoted operand.type ≡ x → Gives (FitsAs p body heads) (bind (need BadOperand at x) (λ b. gives (of_base b (plus_node b at span operand.node))))
        by None e = tt
        by (Some b) e =
            let n = is-number operand.type b e in
            let own = as-operand operand.type b b n n.number_too in
            constant-or-fits p body heads (value_in b (constant_value operand.node)) (uses_of operand.node) b span at _
            (typed-in b (constant_value operand.node)) fit.uses (converted-as p body heads operand b fit own)

  -- ---- `&&` and `||`

  module _ (at span : Span) (left right : TypedNode) (l : FitsAs p body heads left) (r : FitsAs p body heads right) where
    form-fits : (is_and : Bool) → ty_of left.node ≡ bool → ty_of right.node ≡ bool → (texts : List (List ℕ)) → every (stands_once texts) (node (logical_form is_and left.node right.node) bool span at) ≡ true
        → Fits (with_texts p texts) body (node (logical_form is_and left.node right.node) bool span at)
    form-fits true a b texts h = let sides = two {a = every (stands_once texts) left.node} h in fits.and (l.node texts sides.0) (r.node texts sides.1) (ap is_bool a) (ap is_bool b)
    form-fits false a b texts h = let sides = two {a = every (stands_once texts) left.node} h in fits.or (l.node texts sides.0) (r.node texts sides.1) (ap is_bool a) (ap is_bool b)

    form-uses : (is_and : Bool) → uses_of (node (logical_form is_and left.node right.node) bool span at) ≡ []
    form-uses true = refl
    form-uses false = refl

    logical-node-fits : (is_and : Bool) → (is_boolean left.type && is_boolean right.type) ≡ true → FitsAs p body heads (of_base base.Bool (logical_node is_and at span left.node right.node))
    logical-node-fits is_and h =
        let sides = two {a = is_boolean left.type} h in
        let a : ty_of left.node ≡ bool = boolean-type p body heads left l (boolean-operand left.type sides.0) in
        let b : ty_of right.node ≡ bool = boolean-type p body heads right r (boolean-operand right.type sides.1) in
        constant-or-fits p body heads (logical_value is_and (constant_value left.node) (constant_value right.node)) (uses_of left.node ++ uses_of right.node) base.Bool span at _
        (logical-typed is_and (constant_value left.node) (constant_value right.node)) (uses-together p body heads (uses_of left.node) (uses_of right.node) l.uses r.uses)
        (record { node = form-fits is_and a b; uses = subst (are_there p) (sym (form-uses is_and)) (no-uses p body heads); type = sym (erased-plain heads base.Bool) })

    logical-gives : (is_and : Bool) → Gives (FitsAs p body heads) (logical is_and at span left right)
    unfolding logical bind check
    logical-gives is_and = by (is_boolean left.type && is_boolean right.type) refl
      where
        by : (x : Bool) → (is_boolean left.type && is_boolean right.type) ≡ x → Gives (FitsAs p body heads) (bind (check BadOperand at x) (λ u. gives (of_base base.Bool (logical_node is_and at span left.node right.node))))
        by false e = tt
        by true e = logical-node-fits is_and e

pub unary_fit : (p : CoreProgram) (body : Body) (heads : List ClassHead) → UnaryOperationsFit p body heads
unary_fit p body heads o at span operand fit = unary-gives p body heads at span operand fit o

pub plus_fits : (p : CoreProgram) (body : Body) (heads : List ClassHead) → PlusFits p body heads
plus_fits p body heads at span operand fit = plus-gives p body heads at span operand fit

pub logical_fit : (p : CoreProgram) (body : Body) (heads : List ClassHead) → LogicalOperationsFit p body heads
logical_fit p body heads is_and at span left right l r = logical-gives p body heads at span left right l r is_and
