-- What is asked of a type in memory, by its base.
use Rattle.std.proofs.Common.{◌≡◌, ℕ, List, true, false, refl, ap, ◌∙◌}
use Rattle.std.specs.declared.vec.Vec.{Vec}
use Rattle.std.specs.declared.alloc.Global.{Global}
use Rattle.je_core.specs.declared.types.Base.{Base}
use Rattle.je_core.specs.declared.types.Base.TheVariants as base
use Rattle.je_core.specs.declared.types.ClassId.{ClassId}
use Rattle.je_scopes.specs.Sites.{Site}
use Rattle.je_scopes.specs.SourceTypes.{SourceType, plain, of_class, of_variable}
use Rattle.name_types.specs.declared.types.SrcBase.TheVariants.{Plain, Made, Var}
use Rattle.name_types.specs.declared.types.SrcTy.{SrcTy}
use Rattle.name_types.specs.View.{plain_shown, shown}
use Rattle.declarations.specs.Declarations.{DeclaredClass}
use Rattle.class_methods.specs.way.Parts.{parts_of}
use Rattle.call_typing.specs.Constructors.{constructors_in}
use Rattle.call_typing.specs.Creations.{is_variable}
use Rattle.reference_tests.proofs.Shapes.{plain_type, made_type, variable_type}
use Rattle.call_steps.specs.way.Parts.{constructors_if}

pub constructors_by_parts : (sites : List Site) (classes : List DeclaredClass) (t : SourceType) → constructors_if sites classes (parts_of t) ≡ constructors_in sites classes t
unfolding constructors_in
constructors_by_parts sites classes (plain b n) = refl
constructors_by_parts sites classes (of_class c args n) = refl
constructors_by_parts sites classes (of_variable c at n) = refl

plain-no-variable : (b : Base) (n : ℕ) → is_variable (plain_shown b n) ≡ false
plain-no-variable base.Bool n = refl
plain-no-variable base.Byte n = refl
plain-no-variable base.Short n = refl
plain-no-variable base.Char n = refl
plain-no-variable base.Int n = refl
plain-no-variable base.Long n = refl
plain-no-variable base.Null n = refl
plain-no-variable base.Void n = refl
plain-no-variable (base.Class c) n = refl

pub plain_is_none : (t : SrcTy) (b : Base) → t.base ≡ Plain b → is_variable (shown t) ≡ false
plain_is_none t b e = ap is_variable (plain_type t b e) ∙ plain-no-variable b t.dims

pub made_is_none : (t : SrcTy) (c : ClassId) (args : Vec SrcTy Global) → t.base ≡ Made c args → is_variable (shown t) ≡ false
made_is_none t c args e = ap is_variable (made_type t c args e)

pub variable_is_one : (t : SrcTy) (c : ClassId) (at : ℕ) → t.base ≡ Var c at → is_variable (shown t) ≡ true
variable_is_one t c at e = ap is_variable (variable_type t c at e)

pub ruleset shapes = (plain_is_none, made_is_none, variable_is_one)
