-- Types in memory by their bases, and what may be of each other by the classes that they are.
use Rattle.std.proofs.Common.{◌≡◌, ℕ, zero, suc, List, Option, Some, None, refl, sym, ap, ◌∙◌, nat_eq, arith}
use Rattle.std.specs.Prelude.{Bool, false}
use Rattle.std.specs.declared.vec.Vec.{Vec}
use Rattle.std.specs.declared.alloc.Global.{Global}
use Rattle.je_core.specs.declared.types.Base.{Base}
use Rattle.je_core.specs.declared.types.Base.TheVariants as base
use Rattle.je_core.specs.declared.types.ClassId.{ClassId}
use Rattle.je_scopes.specs.SourceTypes.{SourceType, plain, of_class, of_variable, same_source_type}
use Rattle.name_types.specs.declared.types.SrcBase.TheVariants.{Plain, Made, Var}
use Rattle.name_types.specs.declared.types.SrcTy.{SrcTy}
use Rattle.name_types.specs.View.{all_shown, plain_shown, shown}
use Rattle.name_types.proofs.Views.{type_is}
use Rattle.source_types.specs.Heads.{ClassHead}
use Rattle.source_types.specs.Subtypes.{dims_of, is_null}
use Rattle.je_typing.specs.Castable.{is_of_class, may_be_element}
use Rattle.je_typing.specs.Typed.{null_source_type}
use Rattle.source_subtypes.proofs.Equal.{plain-shape, made-shape, variable-shape, shown-dims}
use Rattle.reference_tests.specs.way.Shapes.{class_in, may_be_shaped}

pub plain_type : (t : SrcTy) (b : Base) → t.base ≡ Plain b → shown t ≡ plain_shown b t.dims
plain_type t b e = type_is t ∙ plain-shape t.base b t.dims e

pub made_type : (t : SrcTy) (c : ClassId) (args : Vec SrcTy Global) → t.base ≡ Made c args → shown t ≡ of_class c.0 (all_shown args.items) t.dims
made_type t c args e = type_is t ∙ made-shape t.base c args t.dims e

pub variable_type : (t : SrcTy) (c : ClassId) (at : ℕ) → t.base ≡ Var c at → shown t ≡ of_variable c.0 at t.dims
variable_type t c at e = type_is t ∙ variable-shape t.base c at t.dims e

pub ruleset shapes = (plain_type, made_type, variable_type)

-- ---- types without dimensions

flat-null : (t : SourceType) → dims_of t ≡ 0 → same_source_type t null_source_type ≡ is_null t
flat-null (plain b (suc n)) d = absurd (omega arith)
flat-null (plain base.Bool zero) d = refl
flat-null (plain base.Byte zero) d = refl
flat-null (plain base.Short zero) d = refl
flat-null (plain base.Char zero) d = refl
flat-null (plain base.Int zero) d = refl
flat-null (plain base.Long zero) d = refl
flat-null (plain base.Null zero) d = refl
flat-null (plain base.Void zero) d = refl
flat-null (plain (base.Class c) zero) d = refl
flat-null (of_class c ts n) d = refl
flat-null (of_variable c i n) d = refl

pub null_is : (t : SrcTy) → t.dims ≡ 0 → same_source_type (shown t) null_source_type ≡ is_null (shown t)
null_is t d = flat-null (shown t) (shown-dims t ∙ d)

abbrev of-class-if : ℕ → Option ℕ → Bool
of-class-if d None = false
of-class-if d (Some c) = nat_eq c d

pub class_is : (d : ℕ) (t : SourceType) (o : Option ℕ) → o ≡ class_in t → is_of_class d t ≡ of-class-if d o
class_is d (plain b n) o e = ap (of-class-if d) (sym e)
class_is d (of_class c ts n) o e = ap (of-class-if d) (sym e)
class_is d (of_variable c i n) o e = ap (of-class-if d) (sym e)

pub shaped_is : (heads : List ClassHead) (s t : SourceType) → may_be_shaped heads s t (class_in s) (class_in t) ≡ may_be_element heads s t
shaped_is heads (plain a m) (plain b n) = refl
shaped_is heads (plain a m) (of_class d ts n) = refl
shaped_is heads (plain a m) (of_variable d i n) = refl
shaped_is heads (of_class c ss m) (plain b n) = refl
shaped_is heads (of_class c ss m) (of_class d ts n) = refl
shaped_is heads (of_class c ss m) (of_variable d i n) = refl
shaped_is heads (of_variable c i m) (plain b n) = refl
shaped_is heads (of_variable c i m) (of_class d ts n) = refl
shaped_is heads (of_variable c i m) (of_variable d j n) = refl
