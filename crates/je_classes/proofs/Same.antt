-- The tests for equal bases and types.
use Rattle.std.proofs.Common.{◌≡◌, ℕ, zero, suc, ◌∙◌, refl, sym, ap, arith}
use Rattle.std.specs.Prelude.{true}
use Rattle.std.proofs.lemmas.Bool.Decides.{nat_tests}
use Rattle.je_core.specs.declared.types.Base.{Base}
use Rattle.je_core.specs.declared.types.Base.TheVariants as base
use Rattle.je_core.specs.declared.types.Ty.{Ty}
use Rattle.je_classes.specs.Subtypes.{kind_number, number_in_kind, same_base, same_type}

abbrev base_of : ℕ → ℕ → Base
base_of zero c = base.Bool
base_of (suc zero) c = base.Byte
base_of (suc (suc zero)) c = base.Short
base_of (suc (suc (suc zero))) c = base.Char
base_of (suc (suc (suc (suc zero)))) c = base.Int
base_of (suc (suc (suc (suc (suc zero))))) c = base.Long
base_of (suc (suc (suc (suc (suc (suc zero)))))) c = base.Null
base_of (suc (suc (suc (suc (suc (suc (suc zero))))))) c = base.Void
base_of (suc (suc (suc (suc (suc (suc (suc (suc n)))))))) c = base.Class (record { 0 = c })

numbered : (b : Base) → base_of (kind_number b) (number_in_kind b) ≡ b
numbered base.Bool = refl
numbered base.Byte = refl
numbered base.Short = refl
numbered base.Char = refl
numbered base.Int = refl
numbered base.Long = refl
numbered base.Null = refl
numbered base.Void = refl
numbered (base.Class c) = refl

pub same_base-refl : (b : Base) → same_base b b ≡ true
same_base-refl b = grind (arith, nat_tests)

pub same_base-equal : (a b : Base) → same_base a b ≡ true → a ≡ b
same_base-equal a b e =
    let k : kind_number a ≡ kind_number b = grind (arith, nat_tests) in
    let n : number_in_kind a ≡ number_in_kind b = grind (arith, nat_tests) in
    sym (numbered a) ∙ ap (λ (m : ℕ). base_of m (number_in_kind a)) k ∙ ap (base_of (kind_number b)) n ∙ numbered b

pub same_type-refl : (t : Ty) → same_type t t ≡ true
same_type-refl t = let b : same_base t.base t.base ≡ true = same_base-refl t.base in grind (arith, nat_tests)

pub same_type-equal : (s t : Ty) → same_type s t ≡ true → s ≡ t
same_type-equal s t e =
    let d : s.dims ≡ t.dims = grind (arith, nat_tests) in
    let b : same_base s.base t.base ≡ true = grind (arith, nat_tests) in
    ap (λ (k : Base). record { base = k; dims = s.dims }) (same_base-equal s.base t.base b) ∙ ap (λ (n : ℕ). record { base = t.base; dims = n }) d
