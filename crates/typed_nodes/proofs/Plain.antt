-- Types in memory of which the base is all: primitive types, `void` and the type of `null`.
use Rattle.std.proofs.Common.{◌≡◌, ◌≢◌, ℕ, zero, suc, true, None, refl, ap, ◌∙◌, sym, true≢false}
use Rattle.std.specs.Prelude.{codes}
use Rattle.je_core.specs.declared.types.Base.{Base}
use Rattle.je_core.specs.declared.types.Base.TheVariants as base
use Rattle.je_classes.specs.Hierarchy.{library_class}
use Rattle.je_scopes.specs.SourceTypes.{SourceType, plain, of_class, of_variable}
use Rattle.je_typing.specs.Promotion.{promoted}
use Rattle.je_typing.specs.Typed.{primitive, primitive_type, is_primitive_base, is_boolean, is_numeric, is_void, null_source_type, string_type}
use Rattle.name_types.specs.declared.types.SrcBase.{SrcBase, out-SrcBase}
use Rattle.name_types.specs.declared.types.SrcBase.TheOpen as node
use Rattle.name_types.specs.declared.types.SrcBase.TheVariants.{Plain}
use Rattle.name_types.specs.declared.types.SrcTy.{SrcTy}
use Rattle.name_types.specs.View.{base_layer, base_shown, plain_shown, shown}
use Rattle.name_types.proofs.Bases.{plain_base}
use Rattle.name_types.proofs.Views.{base_is}
use Rattle.source_types.specs.Subtypes.{is_reference}
use Rattle.typed_nodes.specs.way.Plain.{plain_of, promoted_if, is_bool_if, is_number_if, is_void_if, is_reference_if, primitive_if}

layer-none : (f : node.SrcBase-F SrcBase SrcTy) (n : ℕ) → plain_of (base_layer shown f (suc n)) ≡ None
layer-none (node.Plain base.Bool) n = refl
layer-none (node.Plain base.Byte) n = refl
layer-none (node.Plain base.Short) n = refl
layer-none (node.Plain base.Char) n = refl
layer-none (node.Plain base.Int) n = refl
layer-none (node.Plain base.Long) n = refl
layer-none (node.Plain base.Null) n = refl
layer-none (node.Plain base.Void) n = refl
layer-none (node.Plain (base.Class c)) n = refl
layer-none (node.Made c args) n = refl
layer-none (node.Var c at) n = refl

-- an array is not plain
pub array_is_none : (b : SrcBase) (n : ℕ) → n ≢ 0 → None ≡ plain_of (base_shown b n)
array_is_none b zero h = absurd (h refl)
array_is_none b (suc n) h = sym (ap plain_of (base_is b (suc n)) ∙ layer-none (out-SrcBase b) n)

pub shown_primitive : (b : Base) → is_primitive_base b ≡ true → base_shown (Plain b) 0 ≡ primitive_type b
shown_primitive b h = plain_base b 0 ∙ primitive-shown b h where
  primitive-shown : (b : Base) → is_primitive_base b ≡ true → plain_shown b 0 ≡ primitive_type b
  primitive-shown base.Bool h = refl
  primitive-shown base.Byte h = refl
  primitive-shown base.Short h = refl
  primitive-shown base.Char h = refl
  primitive-shown base.Int h = refl
  primitive-shown base.Long h = refl
  primitive-shown base.Null h = refl
  primitive-shown base.Void h = refl
  primitive-shown (base.Class c) h = absurd (true≢false (sym h))

pub plain_shape : (b : SrcBase) (p : Base) (n : ℕ) → b ≡ Plain p → base_shown b n ≡ plain_shown p n
plain_shape b p n e = ap (λ k. base_shown k n) e ∙ plain_base p n

pub shown_null : base_shown (Plain base.Null) 0 ≡ null_source_type
shown_null = plain_base base.Null 0

pub shown_string : base_shown (Plain (base.Class (library_class (codes "java.lang.String")))) 0 ≡ string_type
shown_string = plain_base (base.Class (library_class (codes "java.lang.String"))) 0

-- ---- what is asked of a type, by its base

pub promoted_by_base : (t : SourceType) → promoted_if (plain_of t) ≡ promoted t
promoted_by_base (plain b zero) = refl
promoted_by_base (plain b (suc n)) = refl
promoted_by_base (of_class c ts n) = refl
promoted_by_base (of_variable c i n) = refl

pub boolean_by_base : (t : SourceType) → is_bool_if (plain_of t) ≡ is_boolean t
boolean_by_base (plain b zero) = refl
boolean_by_base (plain b (suc n)) = refl
boolean_by_base (of_class c ts n) = refl
boolean_by_base (of_variable c i n) = refl

pub numeric_by_base : (t : SourceType) → is_number_if (plain_of t) ≡ is_numeric t
numeric_by_base (plain b zero) = refl
numeric_by_base (plain b (suc n)) = refl
numeric_by_base (of_class c ts n) = refl
numeric_by_base (of_variable c i n) = refl

pub void_by_base : (t : SourceType) → is_void_if (plain_of t) ≡ is_void t
void_by_base (plain b zero) = refl
void_by_base (plain b (suc n)) = refl
void_by_base (of_class c ts n) = refl
void_by_base (of_variable c i n) = refl

pub primitive_by_base : (t : SourceType) → primitive_if (plain_of t) ≡ primitive t
primitive_by_base (plain b zero) = refl
primitive_by_base (plain b (suc n)) = refl
primitive_by_base (of_class c ts n) = refl
primitive_by_base (of_variable c i n) = refl

pub reference_by_base : (t : SourceType) → is_reference_if (plain_of t) ≡ is_reference t
reference_by_base (plain b zero) = refl
reference_by_base (plain b (suc n)) = refl
reference_by_base (of_class c ts n) = refl
reference_by_base (of_variable c i n) = refl
