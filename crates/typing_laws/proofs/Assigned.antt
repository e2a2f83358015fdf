-- What is assigned passes: it is converted to a primitive type, or its type is a subtype.
use Rattle.std.proofs.Common.{◌≡◌, ℕ, ℤ, zero, suc, ◌<◌, ◌≤◌, List, Option, Some, None, refl, sym, ap, ◌∙◌, subst, inl, inr, arith}
use Rattle.std.specs.Prelude.{Bool, true, false, ◌&&◌, ◌||◌, nat_lt, if◌then◌else◌}
use Rattle.std.proofs.lemmas.Bool.{ltb-true}
use Rattle.std.proofs.lemmas.Option.{none-some, same_Some}
use Rattle.je_base.specs.declared.span.Span.{Span}
use Rattle.je_core.specs.declared.types.Base.{Base}
use Rattle.je_core.specs.declared.types.Base.TheVariants as base
use Rattle.je_core.specs.declared.types.Ty.{Ty}
use Rattle.je_core.specs.declared.value.Value.{Value}
use Rattle.je_core.specs.declared.value.Value.TheVariants as value
use Rattle.je_core.specs.Core.{CoreProgram, ty_of}
use Rattle.je_classes.specs.Subtypes.{same_base, same_type}
use Rattle.je_classes.specs.Subtypes as core
use Rattle.je_classes.proofs.Lists.{bool_cases}
use Rattle.je_classes.proofs.Same.{same_base-equal, same_base-refl}
use Rattle.je_fitting.specs.Expressions.{Body}
use Rattle.je_fitting.specs.Types.{agrees, is_number_base, is_primitive, of, type_of_value}
use Rattle.je_fitting.proofs.Booleans.{two, both}
use Rattle.je_scopes.specs.SourceTypes.{SourceType, plain, of_class, of_variable}
use Rattle.source_types.specs.Erasure.{erased}
use Rattle.source_types.specs.Heads.{ClassHead}
use Rattle.source_types.specs.Subtypes.{dims_of, is_subtype}
use Rattle.je_typing.specs.declared.fault.TypeRule.TheVariants.{NotConvertible}
use Rattle.je_typing.specs.Constants.{constant_value}
use Rattle.je_typing.specs.Conversions.{assigned, converted, converted_if, holds, holds_if, is_assignable, narrows, narrows_to, passes, passes_as, small_number}
use Rattle.je_typing.specs.Judged.{bind, check, gives}
use Rattle.je_typing.specs.Promotion.{rank, widens}
use Rattle.je_typing.specs.Typed.{TypedNode, is_primitive_base, primitive}
use Rattle.typing_laws.specs.Correspondence.{HasHeads}
use Rattle.typing_laws.specs.Fitting.{FitsAs, Gives, with_texts}
use Rattle.typing_laws.specs.Passing.{AssignedValuesPass, PassesAs}
use Rattle.typing_laws.proofs.Nodes.{CanBe, converted-fits, converted-texts, converted-type, erased-plain, value-typed}
use Rattle.typing_laws.proofs.Subtypes.{either, or-left, or-right, subtypes_are_erased}
use Rattle.typing_laws.proofs.Values.{HasType}

-- ---- primitive types

-- a type that is a primitive one
pub record IsPrimitive (t : SourceType) (b : Base) : Type 0 where
  pub is : t ≡ plain b 0
  pub known : is_primitive_base b ≡ true

pub primitive-is : (t : SourceType) (b : Base) → primitive t ≡ Some b → IsPrimitive t b
primitive-is (plain a zero) b e = bool_cases (λ c. is_primitive_base a ≡ c → (if c then Some a else None) ≡ Some b → IsPrimitive (plain a zero) b) (is_primitive_base a)
    (λ _ k r. subst (IsPrimitive (plain a zero)) (same_Some a b r) (record { is = refl; known = k })) (λ _ k r. absurd (none-some b r)) refl e
primitive-is (plain a (suc n)) b e = absurd (none-some b e)
primitive-is (of_class c ts n) b e = absurd (none-some b e)
primitive-is (of_variable c at n) b e = absurd (none-some b e)

none-below : (n : ℕ) → nat_lt n 0 ≡ true → ⊥
none-below n h = let l : n < 0 = ltb-true n 0 h in omega arith

widens-number : (a b : Base) → widens a b ≡ true → (is_number_base a ≡ true) × (is_number_base b ≡ true)
widens-number a b e = let k = two {a = nat_lt 0 (rank a) && nat_lt (rank a) (rank b)} e in let m = two {a = nat_lt 0 (rank a)} k.0 in (ranked a m.0, ranked-above a b m.1)
  where
    ranked : (c : Base) → nat_lt 0 (rank c) ≡ true → is_number_base c ≡ true
    ranked base.Byte h = refl
    ranked base.Short h = refl
    ranked base.Char h = refl
    ranked base.Int h = refl
    ranked base.Long h = refl
    ranked base.Bool h = absurd cc
    ranked base.Null h = absurd cc
    ranked base.Void h = absurd cc
    ranked (base.Class c) h = absurd cc

    ranked-above : (c d : Base) → nat_lt (rank c) (rank d) ≡ true → is_number_base d ≡ true
    ranked-above c base.Byte h = refl
    ranked-above c base.Short h = refl
    ranked-above c base.Char h = refl
    ranked-above c base.Int h = refl
    ranked-above c base.Long h = refl
    ranked-above c base.Bool h = absurd (none-below (rank c) h)
    ranked-above c base.Null h = absurd (none-below (rank c) h)
    ranked-above c base.Void h = absurd (none-below (rank c) h)
    ranked-above c (base.Class d) h = absurd (none-below (rank c) h)

-- a constant of a small type that is held by another one: both are numbers
pub held-number : (b : Base) (z : ℤ) → holds b z ≡ true → is_number_base b ≡ true
held-number base.Byte z h = refl
held-number base.Short z h = refl
held-number base.Char z h = refl
held-number base.Bool z h = absurd cc
held-number base.Int z h = absurd cc
held-number base.Long z h = absurd cc
held-number base.Null z h = absurd cc
held-number base.Void z h = absurd cc
held-number (base.Class c) z h = absurd cc

record IsSmall (b : Base) (t : Ty) : Type 0 where
  own : Base
  is : t ≡ of own
  number : is_number_base own ≡ true
  number_too : is_number_base b ≡ true

small-value : (b : Base) (t : Ty) (v : Value) → type_of_value v ≡ Some t → holds_if b (small_number v) ≡ true → IsSmall b t
small-value b t (value.Byte z) e h = record { own = base.Byte; is = sym (same_Some (of base.Byte) t e); number = refl; number_too = held-number b z h }
small-value b t (value.Short z) e h = record { own = base.Short; is = sym (same_Some (of base.Short) t e); number = refl; number_too = held-number b z h }
small-value b t (value.Char n) e h = record { own = base.Char; is = sym (same_Some (of base.Char) t e); number = refl; number_too = held-number b _ h }
small-value b t (value.Int z) e h = record { own = base.Int; is = sym (same_Some (of base.Int) t e); number = refl; number_too = held-number b z h }
small-value b t (value.Long z) e h = absurd cc
small-value b t (value.Bool c) e h = absurd cc
small-value b t value.Null e h = absurd cc
small-value b t (value.Ref o) e h = absurd cc

small : (b : Base) (t : Ty) (o : Option Value) → HasType t o → narrows_to b o ≡ true → IsSmall b t
small b t None k h = absurd cc
small b t (Some v) k h = small-value b t v k h

module _ (p : CoreProgram) (body : Body) (heads : List ClassHead) (from : TypedNode) (known : HasHeads p heads) (fit : FitsAs p body heads from) where
  own-value : HasType (ty_of from.node) (constant_value from.node)
  own-value = value-typed p body heads from.node fit.node

  -- ---- to a primitive type

  pub to-base : (b a : Base) → is_primitive_base b ≡ true → ty_of from.node ≡ of a → CanBe a b → PassesAs p body heads (plain b 0) (converted b from.node)
  to-base b a k own can = record {
    node = λ texts h. converted-fits (with_texts p texts) body from.node a b own can (fit.node texts (converted-texts texts b from.node h));
    agree = λ texts. ap (λ (u : Ty). agrees (with_texts p texts) u (erased heads (plain b 0))) (converted-type b from.node)
        ∙ ap (agrees (with_texts p texts) (of b)) (erased-plain heads b)
        ∙ or-left (is_primitive (of b) && same_type (of b) (of b)) (core.is_subtype (with_texts p texts) (of b) (of b)) (both (primitive-type b k) (same_base-refl b));
  }
    where
      primitive-type : (b : Base) → is_primitive_base b ≡ true → is_primitive (of b) ≡ true
      primitive-type base.Bool k = refl
      primitive-type base.Byte k = refl
      primitive-type base.Short k = refl
      primitive-type base.Char k = refl
      primitive-type base.Int k = refl
      primitive-type base.Long k = refl
      primitive-type base.Null k = absurd cc
      primitive-type base.Void k = absurd cc
      primitive-type (base.Class c) k = absurd cc

  own-type : (a : Base) → from.type ≡ plain a 0 → ty_of from.node ≡ of a
  own-type a e = fit.type ∙ ap (erased heads) e ∙ erased-plain heads a

  widened : (a b : Base) → (same_base a b || widens a b) ≡ true → CanBe a b
  widened a b e = either (CanBe a b) (same_base a b) (widens a b) e (λ h. inl (same_base-equal a b h)) (λ h. inr (widens-number a b h))

  by-passing : (b : Base) → is_primitive_base b ≡ true → (o : Option Base) → primitive from.type ≡ o → passes_as heads from.type (plain b 0) o (Some b) ≡ true → PassesAs p body heads (plain b 0) (converted b from.node)
  by-passing b k None e h = absurd cc
  by-passing b k (Some a) e h = to-base b a k (own-type a (primitive-is from.type a e).is) (widened a b h)

  by-narrowing : (b : Base) → is_primitive_base b ≡ true → narrows_to b (constant_value from.node) ≡ true → PassesAs p body heads (plain b 0) (converted b from.node)
  by-narrowing b k h = let s = small b (ty_of from.node) (constant_value from.node) own-value h in to-base b s.own k s.is (inr (s.number, s.number_too))

  -- ---- to another type

  pub with-texts : (texts : List (List ℕ)) → HasHeads (with_texts p texts) heads
  with-texts texts = record {
    supers = λ c t q. let s = known.supers c t q in record { class = s.class; arguments = s.arguments; is = s.is; above = s.above };
    bounds = known.bounds;
    variables = known.variables;
  }

  pub by-subtype : (to : SourceType) → dims_of from.type ≤ 255 → dims_of to ≤ 255 → is_subtype heads from.type to ≡ true → PassesAs p body heads to from.node
  by-subtype to m n h = record {
    node = fit.node;
    agree = λ texts. ap (λ (u : Ty). agrees (with_texts p texts) u (erased heads to)) fit.type
        ∙ or-right (is_primitive (erased heads from.type) && same_type (erased heads from.type) (erased heads to)) (core.is_subtype (with_texts p texts) (erased heads from.type) (erased heads to))
        (subtypes_are_erased (with_texts p texts) heads (with-texts texts) from.type to m n h);
  }

  to-other : (to : SourceType) → dims_of from.type ≤ 255 → dims_of to ≤ 255 → (o : Option Base) → passes_as heads from.type to o None ≡ true → PassesAs p body heads to from.node
  to-other to m n None h = by-subtype to m n h
  to-other to m n (Some a) h = absurd cc

  no-narrowing : (to : SourceType) → primitive to ≡ None → narrows (constant_value from.node) to ≡ true → ⊥
  no-narrowing (plain b zero) e h = let s = small b (ty_of from.node) (constant_value from.node) own-value h in none-primitive b s.number_too e
    where
      none-primitive : (b : Base) → is_number_base b ≡ true → primitive (plain b zero) ≡ None → ⊥
      none-primitive base.Byte k e = absurd cc
      none-primitive base.Short k e = absurd cc
      none-primitive base.Char k e = absurd cc
      none-primitive base.Int k e = absurd cc
      none-primitive base.Long k e = absurd cc
      none-primitive base.Bool k e = absurd cc
      none-primitive base.Null k e = absurd cc
      none-primitive base.Void k e = absurd cc
      none-primitive (base.Class c) k e = absurd cc
  no-narrowing (plain b (suc n)) e h = absurd cc
  no-narrowing (of_class c ts n) e h = absurd cc
  no-narrowing (of_variable c at n) e h = absurd cc

  -- ---- both

  assignable : (to : SourceType) → dims_of from.type ≤ 255 → dims_of to ≤ 255 → is_assignable heads from to ≡ true → (o : Option Base) → primitive to ≡ o → PassesAs p body heads to (converted_if o from.node)
  assignable to m n h (Some b) e =
      let k = primitive-is to b e in
      subst (λ (t : SourceType). PassesAs p body heads t (converted b from.node)) (sym k.is)
      (either _ (passes heads from.type to) (narrows (constant_value from.node) to) h
      (λ x. by-passing b k.known (primitive from.type) refl (subst (λ (t : SourceType). passes_as heads from.type t (primitive from.type) (Some b) ≡ true) k.is (ap (passes_as heads from.type to (primitive from.type)) (sym e) ∙ x)))
      (λ x. by-narrowing b k.known (subst (λ (t : SourceType). narrows (constant_value from.node) t ≡ true) k.is x)))
  assignable to m n h None e = either _ (passes heads from.type to) (narrows (constant_value from.node) to) h
      (λ x. to-other to m n (primitive from.type) (ap (passes_as heads from.type to (primitive from.type)) (sym e) ∙ x))
      (λ x. absurd (no-narrowing to e x))

  assigned-passes : (to : SourceType) (span : Span) → dims_of from.type ≤ 255 → dims_of to ≤ 255 → Gives (PassesAs p body heads to) (assigned heads to span from)
  unfolding assigned bind check
  assigned-passes to span m n = by (is_assignable heads from to) refl
    where
      by : (x : Bool) → is_assignable heads from to ≡ x → Gives (PassesAs p body heads to) (bind (check NotConvertible span x) (λ u. gives (converted_if (primitive to) from.node)))
      by false e = tt
      by true e = assignable to m n e (primitive to) refl

pub assigned_values_pass : AssignedValuesPass
assigned_values_pass p body heads to span from known m n fit = assigned-passes p body heads from known fit to span m n
