-- Whether a constant fits a type, by the primitive type that it is.
use Rattle.std.proofs.Common.{◌≡◌, zero, suc, Bool, false, Option, Some, None, ℤ, refl, sym}
use Rattle.je_core.specs.declared.types.Base.{Base}
use Rattle.je_core.specs.declared.types.Base.TheVariants as base
use Rattle.je_core.specs.declared.value.Value.{Value}
use Rattle.je_scopes.specs.SourceTypes.{SourceType, plain, of_class, of_variable}
use Rattle.je_typing.specs.Conversions.{holds, holds_if, narrows, narrows_to, small_number}
use Rattle.je_typing.specs.Typed.{primitive}
use Rattle.conversion_steps.specs.way.Narrowing.{narrows_if}

-- a type that holds no number of the small types
none-held : (b : Base) → ((z : ℤ) → holds b z ≡ false) → (v : Option Value) → false ≡ narrows_to b v
none-held b h None = refl
none-held b h (Some v) = held (small_number v) where
  held : (o : Option ℤ) → false ≡ holds_if b o
  held None = refl
  held (Some z) = sym (h z)

narrows-base : (v : Option Value) (b : Base) → narrows_if v (primitive (plain b zero)) ≡ narrows v (plain b zero)
narrows-base v base.Bool = refl
narrows-base v base.Byte = refl
narrows-base v base.Short = refl
narrows-base v base.Char = refl
narrows-base v base.Int = refl
narrows-base v base.Long = refl
narrows-base v base.Null = none-held base.Null (λ z. refl) v
narrows-base v base.Void = none-held base.Void (λ z. refl) v
narrows-base v (base.Class c) = none-held (base.Class c) (λ z. refl) v

pub narrows_by_base : (v : Option Value) (t : SourceType) → narrows_if v (primitive t) ≡ narrows v t
narrows_by_base v (plain b zero) = narrows-base v b
narrows_by_base v (plain b (suc n)) = refl
narrows_by_base v (of_class c ts n) = refl
narrows_by_base v (of_variable c i n) = refl
