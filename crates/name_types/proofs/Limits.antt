-- Dimensions behind a type, of which no more than 255 count.
use Rattle.std.proofs.Common.{◌≡◌, ℕ, ◌+◌, min, refl, ap, ◌∙◌, sym, arith}
use Rattle.je_core.specs.declared.types.Base.{Base}
use Rattle.je_core.specs.declared.types.Base.TheVariants as base
use Rattle.je_scopes.specs.SourceTypes.{SourceType, plain, of_class, of_variable, with_dims}
use Rattle.name_types.specs.declared.types.SrcBase.{SrcBase, out-SrcBase}
use Rattle.name_types.specs.declared.types.SrcBase.TheOpen as node
use Rattle.name_types.specs.declared.types.SrcTy.{SrcTy}
use Rattle.name_types.specs.View.{all_in_limit, base_layer, base_shown, in_limit, plain_shown, shown}
use Rattle.name_types.proofs.Views.{base_is}

-- a type with other dimensions
abbrev at_dims : SourceType → ℕ → SourceType
at_dims (plain b m) n = plain b n
at_dims (of_class c ts m) n = of_class c ts n
at_dims (of_variable c at m) n = of_variable c at n

abbrev dims_of : SourceType → ℕ
dims_of (plain b m) = m
dims_of (of_class c ts m) = m
dims_of (of_variable c at m) = m

plain-at : (b : Base) (m n : ℕ) → plain_shown b n ≡ at_dims (plain_shown b m) n
plain-at base.Bool m n = refl
plain-at base.Byte m n = refl
plain-at base.Short m n = refl
plain-at base.Char m n = refl
plain-at base.Int m n = refl
plain-at base.Long m n = refl
plain-at base.Null m n = refl
plain-at base.Void m n = refl
plain-at (base.Class c) m n = refl

plain-dims : (b : Base) (n : ℕ) → dims_of (plain_shown b n) ≡ n
plain-dims base.Bool n = refl
plain-dims base.Byte n = refl
plain-dims base.Short n = refl
plain-dims base.Char n = refl
plain-dims base.Int n = refl
plain-dims base.Long n = refl
plain-dims base.Null n = refl
plain-dims base.Void n = refl
plain-dims (base.Class c) n = refl

layer-at : (f : node.SrcBase-F SrcBase SrcTy) (m n : ℕ) → base_layer shown f n ≡ at_dims (base_layer shown f m) n
layer-at (node.Plain b) m n = plain-at b m n
layer-at (node.Made c args) m n = refl
layer-at (node.Var c at) m n = refl

layer-dims : (f : node.SrcBase-F SrcBase SrcTy) (n : ℕ) → dims_of (base_layer shown f n) ≡ n
layer-dims (node.Plain b) n = plain-dims b n
layer-dims (node.Made c args) n = refl
layer-dims (node.Var c at) n = refl

-- what a limit of a sum is
in-limit-more : (d m : ℕ) → min 255 (min 255 d + m) ≡ min 255 (d + m)
in-limit-more d m = omega arith

with-limit : (t : SourceType) (m : ℕ) → at_dims (in_limit t) (min 255 (dims_of (in_limit t) + m)) ≡ in_limit (with_dims t m)
with-limit (plain b d) m = ap (λ (k : ℕ). plain b k) (in-limit-more d m)
with-limit (of_class c ts d) m = ap (λ (k : ℕ). of_class c (all_in_limit ts) k) (in-limit-more d m)
with-limit (of_variable c at d) m = ap (λ (k : ℕ). of_variable c at k) (in-limit-more d m)

-- Further dimensions behind a base count as they do behind the type that it shows.
pub with_more : (b : SrcBase) (t : SourceType) (m n : ℕ) → base_shown b n ≡ in_limit t → base_shown b (min 255 (n + m)) ≡ in_limit (with_dims t m)
with_more b t m n e =
    let k : n ≡ dims_of (in_limit t) = sym (layer-dims (out-SrcBase b) n) ∙ ap dims_of (sym (base_is b n) ∙ e) in
    base_is b (min 255 (n + m)) ∙ layer-at (out-SrcBase b) n (min 255 (n + m)) ∙ ap (λ (s : SourceType). at_dims s (min 255 (n + m))) (sym (base_is b n) ∙ e)
    ∙ ap (λ (j : ℕ). at_dims (in_limit t) (min 255 (j + m))) k ∙ with-limit t m
