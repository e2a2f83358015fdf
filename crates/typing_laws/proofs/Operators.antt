-- Operators on numbers and booleans fit where their operands do.
use Rattle.std.proofs.Common.{◌≡◌, ℕ, zero, suc, List, ◌++◌, Option, Some, None, refl, sym, ap, ◌∙◌, subst, inl, inr}
use Rattle.std.specs.Prelude.{true, ◌&&◌, ◌||◌, if◌then◌else◌}
use Rattle.std.proofs.lemmas.Option.{none-some, same_Some}
use Rattle.je_base.specs.declared.span.Span.{Span}
use Rattle.je_core.specs.declared.expr.BinOp.{BinOp}
use Rattle.je_core.specs.declared.types.Base.{Base}
use Rattle.je_core.specs.declared.types.Base.TheVariants as base
use Rattle.je_core.specs.declared.types.Ty.{Ty}
use Rattle.je_core.specs.Core.{CoreProgram, node, ty_of}
use Rattle.je_classes.specs.Subtypes.{is_reference}
use Rattle.je_classes.proofs.Lists.{bool_cases}
use Rattle.je_classes.proofs.Same.{same_base-refl}
use Rattle.je_fitting.specs.Expressions.{Body, Fits}
use Rattle.je_fitting.specs.Expressions as fits
use Rattle.je_fitting.specs.Operators.{Sort, arithmetic, shift, comparison, equality, bitwise, both_bool, gives as gives_type, sort_of, takes}
use Rattle.je_fitting.specs.Types.{is_number_base, is_promoted, of}
use Rattle.je_fitting.proofs.Booleans.{two, both}
use Rattle.je_scopes.specs.SourceTypes.{SourceType, plain, of_class, of_variable}
use Rattle.plain_programs.specs.Nodes.{every}
use Rattle.source_types.specs.Heads.{ClassHead}
use Rattle.je_typing.specs.declared.operands.Operands.{Operands}
use Rattle.je_typing.specs.Constants.{constant_value, uses_of, value_in}
use Rattle.je_typing.specs.Conversions.{converted}
use Rattle.je_typing.specs.declared.fault.TypeRule.TheVariants.{BadOperand}
use Rattle.je_typing.specs.Judged.{bind, gives, need}
use Rattle.je_typing.specs.Operators.{alike, apart, binary_form, binary_of, folded, of_base, operands, primitive_operation, result_base, truths_or_numbers}
use Rattle.je_typing.specs.Promotion.{promoted, promoted_base, promoted_together, wider, wider_if}
use Rattle.je_typing.specs.Typed.{TypedNode, is_boolean}
use Rattle.typing_laws.specs.Fitting.{FitsAs, Gives, stands_once, with_texts}
use Rattle.typing_laws.specs.Laws.{PrimitiveOperationsFit}
use Rattle.typing_laws.proofs.Nodes.{Operand, operand, constant-or-fits, converted-type, erased-plain, no-uses, operand-fits, uses-together}
use Rattle.typing_laws.proofs.Values.{HasType, binary-typed, typed-in}

-- ---- promotion

-- a number that is promoted to a base
pub record IsNumber (s : SourceType) (b : Base) : Type 0 where
  pub own : Base
  pub is : s ≡ plain own 0
  pub number : is_number_base own ≡ true
  pub promoted : is_promoted (of b) ≡ true
  pub number_too : is_number_base b ≡ true

promoted-in : (a b : Base) → promoted_base a ≡ Some b → IsNumber (plain a 0) b
promoted-in base.Byte b e = let q : base.Int ≡ b = same_Some base.Int b e in subst (IsNumber (plain base.Byte 0)) q (record { own = base.Byte; is = refl; number = refl; promoted = refl; number_too = refl })
promoted-in base.Short b e = let q : base.Int ≡ b = same_Some base.Int b e in subst (IsNumber (plain base.Short 0)) q (record { own = base.Short; is = refl; number = refl; promoted = refl; number_too = refl })
promoted-in base.Char b e = let q : base.Int ≡ b = same_Some base.Int b e in subst (IsNumber (plain base.Char 0)) q (record { own = base.Char; is = refl; number = refl; promoted = refl; number_too = refl })
promoted-in base.Int b e = let q : base.Int ≡ b = same_Some base.Int b e in subst (IsNumber (plain base.Int 0)) q (record { own = base.Int; is = refl; number = refl; promoted = refl; number_too = refl })
promoted-in base.Long b e = let q : base.Long ≡ b = same_Some base.Long b e in subst (IsNumber (plain base.Long 0)) q (record { own = base.Long; is = refl; number = refl; promoted = refl; number_too = refl })
promoted-in base.Bool b e = absurd (none-some b e)
promoted-in base.Null b e = absurd (none-some b e)
promoted-in base.Void b e = absurd (none-some b e)
promoted-in (base.Class c) b e = absurd (none-some b e)

pub is-number : (s : SourceType) (b : Base) → promoted s ≡ Some b → IsNumber s b
is-number (plain a zero) b e = promoted-in a b e
is-number (plain a (suc n)) b e = absurd (none-some b e)
is-number (of_class c ts n) b e = absurd (none-some b e)
is-number (of_variable c at n) b e = absurd (none-some b e)

-- it may be any number
pub as-operand : (s : SourceType) (b c : Base) → IsNumber s b → is_number_base c ≡ true → Operand s c
as-operand s b c n h = subst (λ (t : SourceType). Operand t c) (sym n.is) (operand (inr (n.number, h)))

-- ---- operands

pub record AreTaken (sort : Sort) (s t : SourceType) (q : Operands) : Type 0 where
  pub left : Operand s q.left
  pub right : Operand t q.right
  pub taken : takes sort (of q.left) (of q.right) ≡ true

record AreTogether (s t : SourceType) (b : Base) : Type 0 where
  left : Operand s b
  right : Operand t b
  promoted : is_promoted (of b) ≡ true

wider-promoted : (a c : Base) → is_promoted (of c) ≡ true → is_promoted (of (wider a c)) ≡ true
wider-promoted base.Long c h = refl
wider-promoted base.Bool c h = h
wider-promoted base.Byte c h = h
wider-promoted base.Short c h = h
wider-promoted base.Char c h = h
wider-promoted base.Int c h = h
wider-promoted base.Null c h = h
wider-promoted base.Void c h = h
wider-promoted (base.Class d) c h = h

pub wider-number : (a c : Base) → is_number_base c ≡ true → is_number_base (wider a c) ≡ true
wider-number base.Long c h = refl
wider-number base.Bool c h = h
wider-number base.Byte c h = h
wider-number base.Short c h = h
wider-number base.Char c h = h
wider-number base.Int c h = h
wider-number base.Null c h = h
wider-number base.Void c h = h
wider-number (base.Class d) c h = h

together : (s t : SourceType) (b : Base) → promoted_together s t ≡ Some b → AreTogether s t b
together s t b e = by (promoted s) refl (promoted t) refl e
  where
    by : (x : Option Base) → promoted s ≡ x → (y : Option Base) → promoted t ≡ y → wider_if x y ≡ Some b → AreTogether s t b
    by None p y q h = absurd (none-some b h)
    by (Some a) p None q h = absurd (none-some b h)
    by (Some a) p (Some c) q h =
        let m = is-number s a p in let n = is-number t c q in let w : wider a c ≡ b = same_Some (wider a c) b h in
        subst (AreTogether s t) w (record {
          left = as-operand s a (wider a c) m (wider-number a c n.number_too);
          right = as-operand t c (wider a c) n (wider-number a c n.number_too);
          promoted = wider-promoted a c n.promoted;
        })

alike-taken : (sort : Sort) (b : Base) → is_promoted (of b) ≡ true → takes sort (of b) (of b) ≡ true
alike-taken arithmetic b h = both h (same_base-refl b)
alike-taken comparison b h = both h (same_base-refl b)
alike-taken shift b h = both h h
alike-taken equality b h = ap (λ x. x || both_bool (of b) (of b) || (is_reference (of b) && is_reference (of b))) (both h (same_base-refl b))
alike-taken bitwise b h = ap (λ x. x || both_bool (of b) (of b)) (both h (same_base-refl b))

numbers-taken : (sort : Sort) (s t : SourceType) (q : Operands) → alike (promoted_together s t) ≡ Some q → AreTaken sort s t q
numbers-taken sort s t q e = by (promoted_together s t) refl e
  where
    by : (o : Option Base) → promoted_together s t ≡ o → alike o ≡ Some q → AreTaken sort s t q
    by None p h = absurd (none-some q h)
    by (Some b) p h =
        let a = together s t b p in
        subst (AreTaken sort s t) (same_Some _ q h) (record { left = a.left; right = a.right; taken = alike-taken sort b a.promoted })

pub boolean-operand : (s : SourceType) → is_boolean s ≡ true → Operand s base.Bool
boolean-operand (plain base.Bool zero) e = operand (inl refl)
boolean-operand (plain base.Byte zero) e = absurd cc
boolean-operand (plain base.Short zero) e = absurd cc
boolean-operand (plain base.Char zero) e = absurd cc
boolean-operand (plain base.Int zero) e = absurd cc
boolean-operand (plain base.Long zero) e = absurd cc
boolean-operand (plain base.Null zero) e = absurd cc
boolean-operand (plain base.Void zero) e = absurd cc
boolean-operand (plain (base.Class c) zero) e = absurd cc
boolean-operand (plain b (suc n)) e = absurd cc
boolean-operand (of_class c ts n) e = absurd cc
boolean-operand (of_variable c at n) e = absurd cc

truths-taken : (sort : Sort) → takes sort (of base.Bool) (of base.Bool) ≡ true → (s t : SourceType) (q : Operands) → truths_or_numbers s t ≡ Some q → AreTaken sort s t q
truths-taken sort h s t q e = bool_cases (λ b. (is_boolean s && is_boolean t) ≡ b → (if b then alike (Some base.Bool) else alike (promoted_together s t)) ≡ Some q → AreTaken sort s t q) (is_boolean s && is_boolean t)
    (λ _ k r. let sides = two {a = is_boolean s} k in subst (AreTaken sort s t) (same_Some _ q r) (record { left = boolean-operand s sides.0; right = boolean-operand t sides.1; taken = h }))
    (λ _ k r. numbers-taken sort s t q r) refl e

shift-taken : (s t : SourceType) (q : Operands) → apart (promoted s) (promoted t) ≡ Some q → AreTaken shift s t q
shift-taken s t q e = by (promoted s) refl (promoted t) refl e
  where
    by : (x : Option Base) → promoted s ≡ x → (y : Option Base) → promoted t ≡ y → apart x y ≡ Some q → AreTaken shift s t q
    by None p y r h = absurd (none-some q h)
    by (Some a) p None r h = absurd (none-some q h)
    by (Some a) p (Some c) r h =
        let m = is-number s a p in let n = is-number t c r in
        subst (AreTaken shift s t) (same_Some _ q h) (record { left = as-operand s a a m m.number_too; right = as-operand t c c n n.number_too; taken = both m.promoted n.promoted })

operands-taken : (sort : Sort) (s t : SourceType) (q : Operands) → operands sort s t ≡ Some q → AreTaken sort s t q
operands-taken arithmetic s t q e = numbers-taken arithmetic s t q e
operands-taken comparison s t q e = numbers-taken comparison s t q e
operands-taken shift s t q e = shift-taken s t q e
operands-taken equality s t q e = truths-taken equality refl s t q e
operands-taken bitwise s t q e = truths-taken bitwise refl s t q e

result-type : (sort : Sort) (b : Base) → gives_type sort (of b) ≡ of (result_base sort b)
result-type arithmetic b = refl
result-type shift b = refl
result-type comparison b = refl
result-type equality b = refl
result-type bitwise b = refl

module _ (p : CoreProgram) (body : Body) (heads : List ClassHead) where
  -- ---- binary operators

  module _ (o : BinOp) (at span : Span) (left right : TypedNode) (l : FitsAs p body heads left) (r : FitsAs p body heads right) where
    binary-fits : (q : Operands) → AreTaken (sort_of o) left.type right.type q → FitsAs p body heads (of_base (result_base (sort_of o) q.left) (node (binary_form o q left.node right.node) (of (result_base (sort_of o) q.left)) span at))
    binary-fits q taken = record { node = there; uses = no-uses p body heads; type = sym (erased-plain heads (result_base (sort_of o) q.left)) }
      where
        there : (texts : List (List ℕ)) → every (stands_once texts) (node (binary_form o q left.node right.node) (of (result_base (sort_of o) q.left)) span at) ≡ true
            → Fits (with_texts p texts) body (node (binary_form o q left.node right.node) (of (result_base (sort_of o) q.left)) span at)
        there texts h =
            let sides = two {a = every (stands_once texts) (converted q.left left.node)} h in
            let takes-them : takes (sort_of o) (ty_of (converted q.left left.node)) (ty_of (converted q.right right.node)) ≡ true =
            ap (λ u. takes (sort_of o) u (ty_of (converted q.right right.node))) (converted-type q.left left.node) ∙ ap (takes (sort_of o) (of q.left)) (converted-type q.right right.node) ∙ taken.taken in
            subst (λ (u : Ty). Fits (with_texts p texts) body (node (binary_form o q left.node right.node) u span at)) (ap (gives_type (sort_of o)) (converted-type q.left left.node) ∙ result-type (sort_of o) q.left)
            (fits.binary (operand-fits p body heads texts left q.left l taken.left sides.0) (operand-fits p body heads texts right q.right r taken.right sides.1) takes-them)

    operation-fits : (q : Operands) → AreTaken (sort_of o) left.type right.type q → FitsAs p body heads (binary_of o q (result_base (sort_of o) q.left) at span left.node right.node)
    operation-fits q taken = constant-or-fits p body heads (folded o q left.node right.node) (uses_of left.node ++ uses_of right.node) (result_base (sort_of o) q.left) span at _
        (subst (λ (u : Ty). HasType u (folded o q left.node right.node)) (result-type (sort_of o) q.left)
        (binary-typed o (of q.left) (value_in q.left (constant_value left.node)) (value_in q.right (constant_value right.node)) (typed-in q.left (constant_value left.node))))
        (uses-together p body heads (uses_of left.node) (uses_of right.node) l.uses r.uses)
        (binary-fits q taken)

    operation : Gives (FitsAs p body heads) (primitive_operation o at span left right)
    unfolding primitive_operation bind need
    operation = by (operands (sort_of o) left.type right.type) refl
      where
        by : (x : Option Operands) → operands (sort_of o) left.type right.type ≡ x → Gives (FitsAs p body heads) (bind (need BadOperand at x) (λ q. gives (binary_of o q (result_base (sort_of o) q.left) at span left.node right.node)))
        by None e = tt
        by (Some q) e = operation-fits q (operands-taken (sort_of o) left.type right.type q e)

pub operations_fit : (p : CoreProgram) (body : Body) (heads : List ClassHead) → PrimitiveOperationsFit p body heads
operations_fit p body heads o at span left right l r = operation p body heads o at span left right l r
