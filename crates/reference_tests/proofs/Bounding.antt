-- The bound of a type variable, from bound to bound.
use Rattle.std.proofs.Common.{◌≡◌, ℕ, zero, suc, ◌+◌, ◌-◌, ◌<◌, min, List, refl, sym, ap, ◌∙◌, arith}
use Rattle.std.specs.declared.vec.Vec.{Vec}
use Rattle.std.specs.declared.alloc.Global.{Global}
use Rattle.je_core.specs.declared.types.Base.{Base}
use Rattle.je_core.specs.declared.types.Base.TheVariants as base
use Rattle.je_core.specs.declared.types.ClassId.{ClassId}
use Rattle.je_scopes.specs.SourceTypes.{SourceType, SourceTypes, plain, of_class, of_variable}
use Rattle.name_types.specs.declared.types.SrcBase.TheVariants.{Plain, Made, Var}
use Rattle.name_types.specs.declared.types.SrcTy.{SrcTy}
use Rattle.name_types.specs.View.{plain_shown, shown}
use Rattle.source_types.specs.Heads.{ClassHead, bound_of, object_type, variable_count}
use Rattle.source_types.specs.Substitution.{array_over}
use Rattle.je_typing.specs.Castable.{bounded, bounded_within}
use Rattle.reference_tests.proofs.Shapes.{plain_type, made_type, variable_type}

module _ (heads : List ClassHead) where
  twice : (t : SourceType) (n outer : ℕ) → array_over (array_over t n) outer ≡ array_over t (min 255 (n + outer))
  twice (plain b m) n outer = ap (λ (k : ℕ). plain b k) (omega arith)
  twice (of_class c ts m) n outer = ap (λ (k : ℕ). of_class c ts k) (omega arith)
  twice (of_variable c at m) n outer = ap (λ (k : ℕ). of_variable c at k) (omega arith)

  -- an array over an array of a variable
  over-variable : (left c at m n : ℕ) → array_over (bounded_within heads left (of_variable c at m)) n ≡ bounded_within heads left (of_variable c at (min 255 (m + n)))
  over-variable zero c at m n = twice object_type m n
  over-variable (suc left) c at m n = twice (bounded_within heads left (bound_of heads c at)) m n

  pub bound-bounded : (left c at n : ℕ) → 0 < left →
      bounded_within heads left (of_variable c at n) ≡ array_over (bounded_within heads (left - 1) (bound_of heads c at)) n
  bound-bounded zero c at n l = absurd (omega arith)
  bound-bounded (suc left) c at n l =
      let less : left ≡ suc left - 1 = omega arith in
      ap (λ (k : ℕ). array_over (bounded_within heads k (bound_of heads c at)) n) less

  plain-kept : (left : ℕ) (b : Base) (n : ℕ) → bounded_within heads left (plain b n) ≡ plain b n
  plain-kept zero b n = refl
  plain-kept (suc left) b n = refl

  class-kept : (left c : ℕ) (ts : SourceTypes) (n : ℕ) → bounded_within heads left (of_class c ts n) ≡ of_class c ts n
  class-kept zero c ts n = refl
  class-kept (suc left) c ts n = refl

  base-kept : (left : ℕ) (b : Base) (n : ℕ) → bounded_within heads left (plain_shown b n) ≡ plain_shown b n
  base-kept left base.Bool n = plain-kept left base.Bool n
  base-kept left base.Byte n = plain-kept left base.Byte n
  base-kept left base.Short n = plain-kept left base.Short n
  base-kept left base.Char n = plain-kept left base.Char n
  base-kept left base.Int n = plain-kept left base.Int n
  base-kept left base.Long n = plain-kept left base.Long n
  base-kept left base.Null n = plain-kept left base.Null n
  base-kept left base.Void n = plain-kept left base.Void n
  base-kept left (base.Class c) n = class-kept left c.0 _ n

  pub plain-last : (left : ℕ) (t : SrcTy) (b : Base) → t.base ≡ Plain b → shown t ≡ bounded_within heads left (shown t)
  plain-last left t b e = let shape : shown t ≡ plain_shown b t.dims = plain_type t b e in
      shape ∙ sym (base-kept left b t.dims) ∙ sym (ap (bounded_within heads left) shape)

  pub made-last : (left : ℕ) (t : SrcTy) (c : ClassId) (args : Vec SrcTy Global) → t.base ≡ Made c args → shown t ≡ bounded_within heads left (shown t)
  made-last left t c args e = let shape = made_type t c args e in
      shape ∙ sym (class-kept left c.0 _ t.dims) ∙ sym (ap (bounded_within heads left) shape)

  pub object-last : (left : ℕ) → object_type ≡ bounded_within heads left object_type
  object-last left = sym (class-kept left _ _ 0)

  pub variable-next : (left : ℕ) (t : SrcTy) (c : ClassId) (at n : ℕ) → t.base ≡ Var c at →
      array_over (bounded_within heads left (shown t)) n ≡ bounded_within heads left (of_variable c.0 at (min 255 (t.dims + n)))
  variable-next left t c at n e = ap (λ (u : SourceType). array_over (bounded_within heads left u) n) (variable_type t c at e) ∙ over-variable left c.0 at t.dims n

pub plain_bounded : (heads : List ClassHead) (t : SrcTy) (b : Base) → t.base ≡ Plain b → shown t ≡ bounded heads (shown t)
plain_bounded heads t b e = plain-last heads (variable_count heads) t b e

pub made_bounded : (heads : List ClassHead) (t : SrcTy) (c : ClassId) (args : Vec SrcTy Global) → t.base ≡ Made c args → shown t ≡ bounded heads (shown t)
made_bounded heads t c args e = made-last heads (variable_count heads) t c args e

pub ruleset bounds = (plain_bounded, made_bounded, variable_type)
