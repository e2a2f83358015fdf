-- The types to which operands are promoted, and those of results, are primitive.
use Rattle.std.proofs.Common.{◌≡◌, zero, suc, Bool, true, false, ◌&&◌, Option, Some, None, refl, ap, ◌∙◌, sym}
use Rattle.std.specs.Prelude.{if◌then◌else◌}
use Rattle.je_base.specs.declared.span.Span.{Span}
use Rattle.je_core.specs.declared.expr.UnOp.{UnOp}
use Rattle.je_core.specs.declared.expr.UnOp.TheVariants.{Minus, Not, Tilde}
use Rattle.je_core.specs.declared.types.Base.{Base}
use Rattle.je_core.specs.declared.types.Base.TheVariants as base
use Rattle.je_fitting.specs.Operators.{Sort, arithmetic, shift, comparison, equality, bitwise}
use Rattle.je_scopes.specs.SourceTypes.{SourceType, plain, of_class, of_variable}
use Rattle.je_typing.specs.declared.fault.TypeRule.{TypeRule}
use Rattle.je_typing.specs.declared.operands.Operands.{Operands}
use Rattle.je_typing.specs.Judged.{Judged, gives, faulty, need}
use Rattle.je_typing.specs.Operators.{alike, apart, operand_base, operands, result_base}
use Rattle.je_typing.specs.Promotion.{promoted, promoted_base, promoted_together, wider_if}
use Rattle.je_typing.specs.Typed.{is_primitive_base, is_boolean, primitive}
use Rattle.typed_nodes.specs.way.Kept.{kept_option}

abbrev kept-judged : {A : Type 0} → (A → Bool) → Judged A → Bool
kept-judged f (gives a) = f a
kept-judged f (faulty fault) = true

judged-is : {A : Type 0} (f : A → Bool) (rule : TypeRule) (span : Span) (o : Option A) → kept-judged f (need rule span o) ≡ kept_option f o
unfolding need
judged-is f rule span None = refl
judged-is f rule span (Some a) = refl

needed : {A : Type 0} (f : A → Bool) (rule : TypeRule) (span : Span) (o : Option A) (a : A) → kept_option f o ≡ true → need rule span o ≡ gives a → f a ≡ true
needed f rule span o a h e = sym (ap (kept-judged f) e) ∙ judged-is f rule span o ∙ h

pub base-kept : (b : Base) → kept_option is_primitive_base (promoted_base b) ≡ true
base-kept base.Bool = refl
base-kept base.Byte = refl
base-kept base.Short = refl
base-kept base.Char = refl
base-kept base.Int = refl
base-kept base.Long = refl
base-kept base.Null = refl
base-kept base.Void = refl
base-kept (base.Class c) = refl

promoted-kept : (t : SourceType) → kept_option is_primitive_base (promoted t) ≡ true
promoted-kept (plain b zero) = base-kept b
promoted-kept (plain b (suc n)) = refl
promoted-kept (of_class c ts n) = refl
promoted-kept (of_variable c i n) = refl

pub promoted_is_primitive : (rule : TypeRule) (span : Span) (t : SourceType) (b : Base) → need rule span (promoted t) ≡ gives b → is_primitive_base b ≡ true
promoted_is_primitive rule span t b e = needed is_primitive_base rule span (promoted t) b (promoted-kept t) e

truth-kept : (b : Bool) → kept_option is_primitive_base (if b then Some base.Bool else None) ≡ true
truth-kept true = refl
truth-kept false = refl

operand-kept : (o : UnOp) (t : SourceType) → kept_option is_primitive_base (operand_base o t) ≡ true
operand-kept Minus t = promoted-kept t
operand-kept Tilde t = promoted-kept t
operand-kept Not t = truth-kept (is_boolean t)

pub operand_is_primitive : (rule : TypeRule) (span : Span) (o : UnOp) (t : SourceType) (b : Base) → need rule span (operand_base o t) ≡ gives b → is_primitive_base b ≡ true
operand_is_primitive rule span o t b e = needed is_primitive_base rule span (operand_base o t) b (operand-kept o t) e

-- ---- of two operands

pub wider-kept : (x y : Option Base) → kept_option is_primitive_base x ≡ true → kept_option is_primitive_base y ≡ true → kept_option is_primitive_base (wider_if x y) ≡ true
wider-kept None y h k = refl
wider-kept (Some a) None h k = refl
wider-kept (Some base.Long) (Some b) h k = refl
wider-kept (Some base.Bool) (Some b) h k = k
wider-kept (Some base.Byte) (Some b) h k = k
wider-kept (Some base.Short) (Some b) h k = k
wider-kept (Some base.Char) (Some b) h k = k
wider-kept (Some base.Int) (Some b) h k = k
wider-kept (Some base.Null) (Some b) h k = k
wider-kept (Some base.Void) (Some b) h k = k
wider-kept (Some (base.Class c)) (Some b) h k = k

together-kept : (t u : SourceType) → kept_option is_primitive_base (promoted_together t u) ≡ true
together-kept t u = wider-kept (promoted t) (promoted u) (promoted-kept t) (promoted-kept u)

abbrev has-result : Sort → Operands → Bool
has-result s p = is_primitive_base (result_base s p.left)

result-kept : (s : Sort) (b : Base) → is_primitive_base b ≡ true → is_primitive_base (result_base s b) ≡ true
result-kept arithmetic b h = h
result-kept shift b h = h
result-kept comparison b h = refl
result-kept equality b h = refl
result-kept bitwise b h = h

alike-kept : (s : Sort) (o : Option Base) → kept_option is_primitive_base o ≡ true → kept_option (has-result s) (alike o) ≡ true
alike-kept s None h = refl
alike-kept s (Some b) h = result-kept s b h

apart-kept : (s : Sort) (x y : Option Base) → kept_option is_primitive_base x ≡ true → kept_option (has-result s) (apart x y) ≡ true
apart-kept s None y h = refl
apart-kept s (Some a) None h = refl
apart-kept s (Some a) (Some b) h = result-kept s a h

either-kept : (s : Sort) (b : Bool) (o : Option Base) → kept_option is_primitive_base o ≡ true → kept_option (has-result s) (if b then alike (Some base.Bool) else alike o) ≡ true
either-kept s true o h = alike-kept s (Some base.Bool) refl
either-kept s false o h = alike-kept s o h

operands-kept : (s : Sort) (t u : SourceType) → kept_option (has-result s) (operands s t u) ≡ true
operands-kept arithmetic t u = alike-kept arithmetic (promoted_together t u) (together-kept t u)
operands-kept shift t u = apart-kept shift (promoted t) (promoted u) (promoted-kept t)
operands-kept comparison t u = alike-kept comparison (promoted_together t u) (together-kept t u)
operands-kept equality t u = either-kept equality (is_boolean t && is_boolean u) (promoted_together t u) (together-kept t u)
operands-kept bitwise t u = either-kept bitwise (is_boolean t && is_boolean u) (promoted_together t u) (together-kept t u)

pub result_is_primitive : (rule : TypeRule) (span : Span) (s : Sort) (t u : SourceType) (p : Operands) → need rule span (operands s t u) ≡ gives p → is_primitive_base (result_base s p.left) ≡ true
result_is_primitive rule span s t u p e = needed (has-result s) rule span (operands s t u) p (operands-kept s t u) e

-- ---- the base of a primitive type

own-kept : (b : Base) → kept_option is_primitive_base (if is_primitive_base b then Some b else None) ≡ true
own-kept base.Bool = refl
own-kept base.Byte = refl
own-kept base.Short = refl
own-kept base.Char = refl
own-kept base.Int = refl
own-kept base.Long = refl
own-kept base.Null = refl
own-kept base.Void = refl
own-kept (base.Class c) = refl

pub primitive-kept : (t : SourceType) → kept_option is_primitive_base (primitive t) ≡ true
primitive-kept (plain b zero) = own-kept b
primitive-kept (plain b (suc n)) = refl
primitive-kept (of_class c ts n) = refl
primitive-kept (of_variable c i n) = refl

pub primitive_is_primitive : (t : SourceType) (b : Base) → primitive t ≡ Some b → is_primitive_base b ≡ true
primitive_is_primitive t b e = ap (kept_option is_primitive_base) (sym e) ∙ primitive-kept t
