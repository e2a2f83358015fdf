-- The methods that a type in memory has, by its base and its dimensions.
use Rattle.std.proofs.Common.{◌≡◌, ◌≢◌, ℕ, zero, suc, List, refl, sym, ap, ◌∙◌, arith}
use Rattle.std.specs.declared.vec.Vec.{Vec}
use Rattle.std.specs.declared.alloc.Global.{Global}
use Rattle.je_core.specs.declared.types.Base.{Base}
use Rattle.je_core.specs.declared.types.Base.TheVariants as base
use Rattle.je_core.specs.declared.types.ClassId.{ClassId}
use Rattle.je_scopes.specs.SourceTypes.{SourceType, SourceTypes, plain, of_class, of_variable}
use Rattle.name_types.specs.declared.types.SrcBase.{SrcBase, out-SrcBase}
use Rattle.name_types.specs.declared.types.SrcBase.TheOpen as node
use Rattle.name_types.specs.declared.types.SrcBase.TheVariants.{Plain, Made, Var}
use Rattle.name_types.specs.declared.types.SrcTy.{SrcTy}
use Rattle.name_types.specs.View.{base_layer, base_shown, plain_shown, shown}
use Rattle.name_types.proofs.Views.{base_is, type_is}
use Rattle.source_types.specs.Heads.{ClassHead, object_type}
use Rattle.je_typing.specs.Castable.{bounded}
use Rattle.overriding.specs.Methods.{Method, seen_in}
use Rattle.class_methods.specs.way.Parts.{parts_of}
use Rattle.reference_tests.proofs.Shapes.{plain_type, made_type, variable_type}
use Rattle.call_steps.specs.way.Sought.{methods_by, own_if, own_in}

pub own_by_parts : (f : ℕ → List Method) (t : SourceType) → own_if f (parts_of t) ≡ own_in f t
own_by_parts f (plain b n) = refl
own_by_parts f (of_class c args n) = refl
own_by_parts f (of_variable c at n) = refl

module _ (heads : List ClassHead) (f : ℕ → List Method) where
  -- an array
  layer-array : (b : node.SrcBase-F SrcBase SrcTy) (n : ℕ) → methods_by heads f (base_layer shown b (suc n)) ≡ seen_in f object_type
  unfolding methods_by
  layer-array (node.Plain base.Bool) n = refl
  layer-array (node.Plain base.Byte) n = refl
  layer-array (node.Plain base.Short) n = refl
  layer-array (node.Plain base.Char) n = refl
  layer-array (node.Plain base.Int) n = refl
  layer-array (node.Plain base.Long) n = refl
  layer-array (node.Plain base.Null) n = refl
  layer-array (node.Plain base.Void) n = refl
  layer-array (node.Plain (base.Class c)) n = refl
  layer-array (node.Made c args) n = refl
  layer-array (node.Var c at) n = refl

  base-array : (b : SrcBase) (n : ℕ) → n ≢ 0 → methods_by heads f (base_shown b n) ≡ seen_in f object_type
  base-array b zero h = absurd (h refl)
  base-array b (suc n) h = ap (methods_by heads f) (base_is b (suc n)) ∙ layer-array (out-SrcBase b) n

  pub array_sought : (t : SrcTy) → t.dims ≢ 0 → methods_by heads f (shown t) ≡ seen_in f object_type
  array_sought t h = ap (methods_by heads f) (type_is t) ∙ base-array t.base t.dims h

  plain-own : (b : Base) (n : ℕ) → n ≡ 0 → methods_by heads f (plain_shown b n) ≡ own_in f (plain_shown b n)
  unfolding methods_by
  plain-own b (suc n) h = absurd (omega arith)
  plain-own base.Bool zero h = refl
  plain-own base.Byte zero h = refl
  plain-own base.Short zero h = refl
  plain-own base.Char zero h = refl
  plain-own base.Int zero h = refl
  plain-own base.Long zero h = refl
  plain-own base.Null zero h = refl
  plain-own base.Void zero h = refl
  plain-own (base.Class c) zero h = refl

  pub plain_sought : (t : SrcTy) (b : Base) → t.dims ≡ 0 → t.base ≡ Plain b → methods_by heads f (shown t) ≡ own_in f (shown t)
  plain_sought t b h e = let shape = plain_type t b e in
      ap (methods_by heads f) shape ∙ plain-own b t.dims h ∙ ap (own_in f) (sym shape)

  class-own : (c : ℕ) (args : SourceTypes) (n : ℕ) → n ≡ 0 → methods_by heads f (of_class c args n) ≡ own_in f (of_class c args n)
  unfolding methods_by
  class-own c args zero h = refl
  class-own c args (suc n) h = absurd (omega arith)

  pub made_sought : (t : SrcTy) (c : ClassId) (args : Vec SrcTy Global) → t.dims ≡ 0 → t.base ≡ Made c args → methods_by heads f (shown t) ≡ own_in f (shown t)
  made_sought t c args h e = let shape = made_type t c args e in
      ap (methods_by heads f) shape ∙ class-own c.0 _ t.dims h ∙ ap (own_in f) (sym shape)

  variable-bound : (c at n : ℕ) → n ≡ 0 → methods_by heads f (of_variable c at n) ≡ seen_in f (bounded heads (of_variable c at n))
  unfolding methods_by
  variable-bound c at zero h = refl
  variable-bound c at (suc n) h = absurd (omega arith)

  pub variable_sought : (t : SrcTy) (c : ClassId) (at : ℕ) → t.dims ≡ 0 → t.base ≡ Var c at → methods_by heads f (shown t) ≡ seen_in f (bounded heads (shown t))
  variable_sought t c at h e = let shape = variable_type t c at e in
      ap (methods_by heads f) shape ∙ variable-bound c.0 at t.dims h ∙ ap (λ (u : SourceType). seen_in f (bounded heads u)) (sym shape)

pub ruleset sought = (array_sought, plain_sought, made_sought, variable_sought)
