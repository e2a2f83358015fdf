-- Types of elements, and the class of an object that is made.
use Rattle.std.proofs.Common.{◌≡◌, ℕ, Option, Some, None, refl, ap, sym, ◌∙◌}
use Rattle.std.specs.Prelude.{unwrap_or}
use Rattle.je_core.specs.declared.types.Base.TheVariants as base
use Rattle.je_scopes.specs.SourceTypes.{SourceType, plain, of_class, of_variable}
use Rattle.header_typing.specs.Supers.{class_in}
use Rattle.je_typing.specs.Typed.{element_type}
use Rattle.body_typing.specs.Expressions.{class_or_zero, element_or, innermost}
use Rattle.name_types.specs.declared.types.SrcTy.{SrcTy}
use Rattle.name_types.specs.declared.types.SrcBase.{SrcBase, out-SrcBase}
use Rattle.name_types.specs.declared.types.SrcBase.TheOpen as node
use Rattle.name_types.specs.View.{base_layer, base_shown, shown}
use Rattle.name_types.proofs.Views.{base_is, type_is}

number_is : (t : SourceType) → unwrap_or (class_in t) 0 ≡ class_or_zero t
number_is (plain b n) = refl
number_is (of_class c args n) = refl
number_is (of_variable c at n) = refl

pub some_class : (t : SourceType) (c : ℕ) → Some c ≡ class_in t → c ≡ class_or_zero t
some_class t c e = ap (λ (o : Option ℕ). unwrap_or o 0) e ∙ number_is t

pub no_class : (t : SourceType) → None ≡ class_in t → 0 ≡ class_or_zero t
no_class t e = ap (λ (o : Option ℕ). unwrap_or o 0) e ∙ number_is t

pub ruleset classes = (some_class, no_class)

pub an_element : (t u : SourceType) → Some u ≡ element_type t → u ≡ element_or t
an_element t u e = ap (λ (o : Option SourceType). unwrap_or o t) e

pub no_element : (t : SourceType) → None ≡ element_type t → t ≡ element_or t
no_element t e = ap (λ (o : Option SourceType). unwrap_or o t) e

pub ruleset elements = (an_element, no_element)

-- a base without brackets is that of the innermost elements

layer-innermost : (f : node.SrcBase-F SrcBase SrcTy) (n : ℕ) → base_layer shown f 0 ≡ innermost (base_layer shown f n)
layer-innermost (node.Plain base.Bool) n = refl
layer-innermost (node.Plain base.Byte) n = refl
layer-innermost (node.Plain base.Short) n = refl
layer-innermost (node.Plain base.Char) n = refl
layer-innermost (node.Plain base.Int) n = refl
layer-innermost (node.Plain base.Long) n = refl
layer-innermost (node.Plain base.Null) n = refl
layer-innermost (node.Plain base.Void) n = refl
layer-innermost (node.Plain (base.Class c)) n = refl
layer-innermost (node.Made c args) n = refl
layer-innermost (node.Var c at) n = refl

pub innermost_is : (t : SrcTy) → base_shown t.base 0 ≡ innermost (shown t)
innermost_is t =
    base_is t.base 0 ∙ layer-innermost (out-SrcBase t.base) t.dims ∙ sym (ap innermost (type_is t ∙ base_is t.base t.dims))
