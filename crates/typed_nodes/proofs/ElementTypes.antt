-- The type of an array's elements, by the array's base and dimensions.
use Rattle.std.proofs.Common.{◌≡◌, ◌≢◌, ℕ, zero, suc, ◌-◌, Some, None, refl, sym, ap, ◌∙◌, arith}
use Rattle.je_core.specs.declared.types.Base.TheVariants as base
use Rattle.je_typing.specs.Typed.{element_type}
use Rattle.name_types.specs.declared.types.SrcBase.{SrcBase, out-SrcBase}
use Rattle.name_types.specs.declared.types.SrcBase.TheOpen as node
use Rattle.name_types.specs.declared.types.SrcTy.{SrcTy}
use Rattle.name_types.specs.View.{base_layer, base_shown, shown}
use Rattle.name_types.proofs.Views.{base_is}

layer-element : (f : node.SrcBase-F SrcBase SrcTy) (n : ℕ) → Some (base_layer shown f n) ≡ element_type (base_layer shown f (suc n))
layer-element (node.Plain base.Bool) n = refl
layer-element (node.Plain base.Byte) n = refl
layer-element (node.Plain base.Short) n = refl
layer-element (node.Plain base.Char) n = refl
layer-element (node.Plain base.Int) n = refl
layer-element (node.Plain base.Long) n = refl
layer-element (node.Plain base.Null) n = refl
layer-element (node.Plain base.Void) n = refl
layer-element (node.Plain (base.Class c)) n = refl
layer-element (node.Made c args) n = refl
layer-element (node.Var c at) n = refl

layer-none : (f : node.SrcBase-F SrcBase SrcTy) → None ≡ element_type (base_layer shown f zero)
layer-none (node.Plain base.Bool) = refl
layer-none (node.Plain base.Byte) = refl
layer-none (node.Plain base.Short) = refl
layer-none (node.Plain base.Char) = refl
layer-none (node.Plain base.Int) = refl
layer-none (node.Plain base.Long) = refl
layer-none (node.Plain base.Null) = refl
layer-none (node.Plain base.Void) = refl
layer-none (node.Plain (base.Class c)) = refl
layer-none (node.Made c args) = refl
layer-none (node.Var c at) = refl

pub no_element : (b : SrcBase) (n : ℕ) → n ≡ 0 → None ≡ element_type (base_shown b n)
no_element b zero e = layer-none (out-SrcBase b) ∙ sym (ap element_type (base_is b zero))
no_element b (suc n) e = absurd (omega arith)

pub an_element : (b : SrcBase) (n : ℕ) → n ≢ 0 → Some (base_shown b (n - 1)) ≡ element_type (base_shown b n)
an_element b zero h = absurd (h refl)
an_element b (suc n) h =
    let less : suc n - 1 ≡ n = omega arith in
    ap (λ (k : ℕ). Some (base_shown b k)) less ∙ ap Some (base_is b n) ∙ layer-element (out-SrcBase b) n ∙ sym (ap element_type (base_is b (suc n)))

pub ruleset elements = (no_element, an_element)
