-- What a place of a form has that fits.
use Rattle.std.proofs.Common.{◌≡◌, ℕ, Some, refl}
use Rattle.std.specs.Prelude.{true, false, slice_get}
use Rattle.je_base.specs.declared.span.Span.{Span}
use Rattle.je_core.specs.declared.types.ClassId.{ClassId}
use Rattle.je_core.specs.declared.types.Ty.{Ty}
use Rattle.je_core.specs.Core.{Core, CoreForm, CoreField, CoreProgram, MaybeCore, node, ty_of}
use Rattle.je_core.specs.Core as core
use Rattle.je_classes.specs.Subtypes.{class_type, array_of, is_subtype}
use Rattle.je_fitting.specs.Expressions.{Body, Fits, local, field, static, index, MaybeFits, field_at}
use Rattle.je_fitting.specs.Types.{is_int}

module _ (p : CoreProgram) (body : Body) (t : Ty) where
  pub record FieldHas (o : Core) (class : ClassId) (n : ℕ) : Type 0 where
    pub object : Fits p body o
    pub below : is_subtype p (ty_of o) (class_type class) ≡ true
    pub its : CoreField
    pub there : field_at p class n ≡ Some its
    pub instance : its.is_static ≡ false
    pub type : its.ty ≡ t

  pub record StaticHas (o : MaybeCore) (class : ClassId) (n : ℕ) : Type 0 where
    pub object : MaybeFits p body class o
    pub its : CoreField
    pub there : field_at p class n ≡ Some its
    pub static : its.is_static ≡ true
    pub type : its.ty ≡ t

  pub record IndexHas (a i : Core) : Type 0 where
    pub array : Fits p body a
    pub of_array : ty_of a ≡ array_of t
    pub index : Fits p body i
    pub of_int : is_int (ty_of i) ≡ true

module _ {p : CoreProgram} {body : Body} {t : Ty} {span at : Span} where
  pub local-has : {n : ℕ} → Fits p body (node (core.Local n) t span at) → slice_get body.locals n ≡ Some t
  local-has (local e) = e

  pub field-has : {o : Core} {class : ClassId} {n : ℕ} → Fits p body (node (core.Field o class n) t span at) → FieldHas p body t o class n
  field-has (field {f = f} object below there instance) = record { object = object; below = below; its = f; there = there; instance = instance; type = refl }

  pub static-has : {o : MaybeCore} {class : ClassId} {n : ℕ} → Fits p body (node (core.Static o class n) t span at) → StaticHas p body t o class n
  static-has (static {f = f} object there is) = record { object = object; its = f; there = there; static = is; type = refl }

  pub index-has : {a i : Core} → Fits p body (node (core.Index a i) t span at) → IndexHas p body t a i
  index-has (index array of_array i of_int) = record { array = array; of_array = of_array; index = i; of_int = of_int }
