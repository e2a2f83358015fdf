-- Erasure, from bound to bound.
use Rattle.std.proofs.Common.{◌≡◌, ℕ, zero, suc, ◌+◌, ◌-◌, ◌<◌, min, List, refl, sym, ap, ◌∙◌, arith}
use Rattle.std.specs.declared.vec.Vec.{Vec}
use Rattle.std.specs.declared.alloc.Global.{Global}
use Rattle.je_core.specs.declared.types.Base.{Base}
use Rattle.je_core.specs.declared.types.Base.TheVariants as base
use Rattle.je_core.specs.declared.types.ClassId.{ClassId}
use Rattle.je_core.specs.declared.types.Ty.{Ty}
use Rattle.je_classes.specs.Hierarchy.{object_class}
use Rattle.je_scopes.specs.SourceTypes.{of_variable}
use Rattle.name_types.specs.declared.types.SrcBase.TheVariants.{Plain, Made, Var}
use Rattle.name_types.specs.declared.types.SrcTy.{SrcTy}
use Rattle.name_types.specs.View.{plain_shown, shown}
use Rattle.name_types.proofs.Views.{type_is}
use Rattle.source_types.specs.Heads.{ClassHead, bound_of, object_type}
use Rattle.source_types.specs.Erasure.{type, erased_array, erased_within}
use Rattle.source_subtypes.proofs.Equal.{plain-shape, made-shape, variable-shape}

module _ (heads : List ClassHead) where
  twice : (t : Ty) (n outer : ℕ) → erased_array (erased_array t n) outer ≡ erased_array t (min 255 (n + outer))
  twice t n outer = ap (λ (k : ℕ). type t.base k) (omega arith)

  -- an array over an array of a variable
  over-variable : (left c at m n : ℕ) → erased_array (erased_within heads left (of_variable c at m)) n ≡ erased_within heads left (of_variable c at (min 255 (m + n)))
  over-variable zero c at m n = refl
  over-variable (suc left) c at m n = twice (erased_within heads left (bound_of heads c at)) m n

  pub bound-erased : (left c at n : ℕ) → 0 < left →
      erased_within heads left (of_variable c at n) ≡ erased_array (erased_within heads (left - 1) (bound_of heads c at)) n
  bound-erased zero c at n l = absurd (omega arith)
  bound-erased (suc left) c at n l =
      let less : left ≡ suc left - 1 = omega arith in
      ap (λ (k : ℕ). erased_array (erased_within heads k (bound_of heads c at)) n) less

  plain-erased : (left : ℕ) (b : Base) (n : ℕ) → erased_within heads left (plain_shown b n) ≡ type b n
  plain-erased left base.Bool n = refl
  plain-erased left base.Byte n = refl
  plain-erased left base.Short n = refl
  plain-erased left base.Char n = refl
  plain-erased left base.Int n = refl
  plain-erased left base.Long n = refl
  plain-erased left base.Null n = refl
  plain-erased left base.Void n = refl
  plain-erased left (base.Class c) n = refl

  pub plain-last : (left : ℕ) (t : SrcTy) (b : Base) → t.base ≡ Plain b → type b t.dims ≡ erased_within heads left (shown t)
  plain-last left t b e = sym (ap (erased_within heads left) (type_is t ∙ plain-shape t.base b t.dims e) ∙ plain-erased left b t.dims)

  pub made-last : (left : ℕ) (t : SrcTy) (c : ClassId) (args : Vec SrcTy Global) → t.base ≡ Made c args → type (base.Class c) t.dims ≡ erased_within heads left (shown t)
  made-last left t c args e = sym (ap (erased_within heads left) (type_is t ∙ made-shape t.base c args t.dims e))

  pub object-last : (left : ℕ) → type (base.Class object_class) 0 ≡ erased_within heads left object_type
  object-last left = refl

  pub variable-next : (left : ℕ) (t : SrcTy) (c : ClassId) (at n : ℕ) → t.base ≡ Var c at →
      erased_array (erased_within heads left (shown t)) n ≡ erased_within heads left (of_variable c.0 at (min 255 (t.dims + n)))
  variable-next left t c at n e = ap (λ u. erased_array (erased_within heads left u) n) (type_is t ∙ variable-shape t.base c at t.dims e) ∙ over-variable left c.0 at t.dims n
