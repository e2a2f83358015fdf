-- The types above a type, step by step.
use Rattle.std.proofs.Common.{◌≡◌, ℕ, zero, suc, ◌-◌, ◌<◌, ◌≤◌, List, [], ◌∷◌, drop, length, map, refl, sym, ap, ◌∙◌, arith}
use Rattle.std.specs.declared.vec.Vec.{Vec}
use Rattle.std.specs.declared.alloc.Global.{Global}
use Rattle.je_core.specs.declared.types.Base.{Base}
use Rattle.je_core.specs.declared.types.Base.TheVariants as base
use Rattle.je_core.specs.declared.types.ClassId.{ClassId}
use Rattle.je_scopes.specs.SourceTypes.{SourceType, of_class, of_variable}
use Rattle.name_types.specs.declared.types.SrcBase.{SrcBase, out-SrcBase}
use Rattle.name_types.specs.declared.types.SrcBase.TheOpen as node
use Rattle.name_types.specs.declared.types.SrcBase.TheVariants.{Plain, Made, Var}
use Rattle.name_types.specs.declared.types.SrcTy.{SrcTy}
use Rattle.name_types.specs.View.{all_shown, base_layer, plain_shown, shown}
use Rattle.name_types.proofs.Views.{base_is, type_is}
use Rattle.source_types.specs.Heads.{ClassHead}
use Rattle.source_types.specs.Supertypes.{directly_above}
use Rattle.source_types.specs.way.Reaching.{climbed, gone_up}
use Rattle.source_types.proofs.Reaching.{all_done}
use Rattle.source_subtypes.proofs.Equal.{plain-shape, made-shape, variable-shape}

pub climbed-step : (heads : List ClassHead) (n : ℕ) (met : List SourceType) (from : ℕ) → 0 < n →
    climbed heads n met from ≡ climbed heads (n - 1) (gone_up heads met (drop from met)) (length met)
climbed-step heads zero met from l = absurd (omega arith)
climbed-step heads (suc n) met from l =
    let less : n ≡ suc n - 1 = omega arith in
    ap (λ (k : ℕ). climbed heads k (gone_up heads met (drop from met)) (length met)) less

pub drop-map : {A B : Type 0} (f : A → B) (n : ℕ) (xs : List A) → map f (drop n xs) ≡ drop n (map f xs)
drop-map f zero xs = refl
drop-map f (suc n) [] = refl
drop-map f (suc n) (x ∷ xs) = drop-map f n xs

pub length-mapped : {A B : Type 0} (f : A → B) (xs : List A) → length (map f xs) ≡ length xs
length-mapped f [] = refl
length-mapped f (x ∷ xs) = ap suc (length-mapped f xs)

pub past-nothing : {A : Type 0} (n : ℕ) (xs : List A) → length xs ≤ n → drop n xs ≡ []
past-nothing zero [] l = refl
past-nothing zero (x ∷ xs) l = absurd (omega arith)
past-nothing (suc n) [] l = refl
past-nothing (suc n) (x ∷ xs) l = past-nothing n xs (omega arith)

-- where none is left that leads further, nothing more is met
pub done-past : (heads : List ClassHead) (n : ℕ) (met : List SourceType) (from : ℕ) → length met ≤ from → climbed heads n met from ≡ met
done-past heads zero met from l = refl
done-past heads (suc n) met from l = ap (λ (ts : List SourceType). climbed heads n (gone_up heads met ts) (length met)) (past-nothing from met l) ∙ all_done heads n met

-- ---- what is directly above a type

layer-none : (heads : List ClassHead) (f : node.SrcBase-F SrcBase SrcTy) (n : ℕ) → (n ≡ 0 → ⊥) → [] ≡ directly_above heads (base_layer shown f n)
layer-none heads f zero e = absurd (e refl)
layer-none heads (node.Plain base.Bool) (suc n) e = refl
layer-none heads (node.Plain base.Byte) (suc n) e = refl
layer-none heads (node.Plain base.Short) (suc n) e = refl
layer-none heads (node.Plain base.Char) (suc n) e = refl
layer-none heads (node.Plain base.Int) (suc n) e = refl
layer-none heads (node.Plain base.Long) (suc n) e = refl
layer-none heads (node.Plain base.Null) (suc n) e = refl
layer-none heads (node.Plain base.Void) (suc n) e = refl
layer-none heads (node.Plain (base.Class c)) (suc n) e = refl
layer-none heads (node.Made c args) (suc n) e = refl
layer-none heads (node.Var c at) (suc n) e = refl

pub array-none : (heads : List ClassHead) (t : SrcTy) → (t.dims ≡ 0 → ⊥) → [] ≡ directly_above heads (shown t)
array-none heads t e = layer-none heads (out-SrcBase t.base) t.dims e ∙ ap (directly_above heads) (sym (type_is t ∙ base_is t.base t.dims))

pub plain-flat : (t : SrcTy) (b : Base) → t.base ≡ Plain b → t.dims ≡ 0 → plain_shown b 0 ≡ shown t
plain-flat t b e d = ap (plain_shown b) (sym d) ∙ sym (type_is t ∙ plain-shape t.base b t.dims e)

pub made-flat : (t : SrcTy) (c : ClassId) (args : Vec SrcTy Global) → t.base ≡ Made c args → t.dims ≡ 0 → of_class c.0 (all_shown args.items) 0 ≡ shown t
made-flat t c args e d = ap (λ (n : ℕ). of_class c.0 (all_shown args.items) n) (sym d) ∙ sym (type_is t ∙ made-shape t.base c args t.dims e)

pub variable-flat : (t : SrcTy) (c : ClassId) (at : ℕ) → t.base ≡ Var c at → t.dims ≡ 0 → of_variable c.0 at 0 ≡ shown t
variable-flat t c at e d = ap (λ (n : ℕ). of_variable c.0 at n) (sym d) ∙ sym (type_is t ∙ variable-shape t.base c at t.dims e)
