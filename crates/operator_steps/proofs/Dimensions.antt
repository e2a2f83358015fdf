-- A type of so many dimensions over a base, and of an array that is made.
use Rattle.std.proofs.Common.{◌≡◌, ℕ, List, true, false, sym, ap, ◌∙◌, zero-add}
use Rattle.je_base.specs.declared.span.Span.{Span}
use Rattle.je_core.specs.declared.types.Base.TheVariants as base
use Rattle.je_scopes.specs.SourceTypes.{SourceType, plain, of_class, of_variable, with_dims}
use Rattle.name_types.specs.declared.types.SrcBase.{SrcBase, out-SrcBase}
use Rattle.name_types.specs.declared.types.SrcBase.TheOpen as node
use Rattle.name_types.specs.declared.types.SrcTy.{SrcTy}
use Rattle.name_types.specs.View.{base_layer, base_shown, shown}
use Rattle.name_types.proofs.Views.{base_is}
use Rattle.source_types.specs.Heads.{ClassHead}
use Rattle.je_typing.specs.declared.fault.Refusal.TheVariants.{Fault}
use Rattle.je_typing.specs.declared.fault.TypeRule.TheVariants.{BadArray}
use Rattle.je_typing.specs.Answers.{IsFault, first_fault}
use Rattle.je_typing.specs.Arrays.{array_type, may_be_made}
use Rattle.je_typing.specs.Judged.{check, gives}
use Rattle.je_typing.proofs.Walks.{bind_faults, bind_gives}

layer-dims : (f : node.SrcBase-F SrcBase SrcTy) (n : ℕ) → with_dims (base_layer shown f 0) n ≡ base_layer shown f n
layer-dims (node.Plain base.Bool) n = ap (λ (k : ℕ). plain base.Bool k) (zero-add n)
layer-dims (node.Plain base.Byte) n = ap (λ (k : ℕ). plain base.Byte k) (zero-add n)
layer-dims (node.Plain base.Short) n = ap (λ (k : ℕ). plain base.Short k) (zero-add n)
layer-dims (node.Plain base.Char) n = ap (λ (k : ℕ). plain base.Char k) (zero-add n)
layer-dims (node.Plain base.Int) n = ap (λ (k : ℕ). plain base.Int k) (zero-add n)
layer-dims (node.Plain base.Long) n = ap (λ (k : ℕ). plain base.Long k) (zero-add n)
layer-dims (node.Plain base.Null) n = ap (λ (k : ℕ). plain base.Null k) (zero-add n)
layer-dims (node.Plain base.Void) n = ap (λ (k : ℕ). plain base.Void k) (zero-add n)
layer-dims (node.Plain (base.Class c)) n = ap (λ (k : ℕ). of_class c.0 _ k) (zero-add n)
layer-dims (node.Made c args) n = ap (λ (k : ℕ). of_class c.0 _ k) (zero-add n)
layer-dims (node.Var c at) n = ap (λ (k : ℕ). of_variable c.0 at k) (zero-add n)

pub added_dims : (b : SrcBase) (n : ℕ) → with_dims (base_shown b 0) n ≡ base_shown b n
added_dims b n = ap (λ (t : SourceType). with_dims t n) (base_is b 0) ∙ layer-dims (out-SrcBase b) n ∙ sym (base_is b n)

module _ (heads : List ClassHead) (t : SourceType) (n : ℕ) (span : Span) where
  pub array_sized : may_be_made heads t n ≡ true → array_type heads t n span ≡ gives (with_dims t n)
  unfolding array_type check
  array_sized e = bind_gives (check BadArray span (may_be_made heads t n)) (λ done. gives (with_dims t n)) tt (ap (check BadArray span) e)

  pub array_refused : may_be_made heads t n ≡ false → IsFault (array_type heads t n span) (Fault (record { rule = BadArray; span = span }))
  unfolding array_type check
  array_refused e = bind_faults (check BadArray span (may_be_made heads t n)) (λ done. gives (with_dims t n)) _ (first_fault (ap (check BadArray span) e))

pub ruleset arrays = (array_sized, array_refused)
