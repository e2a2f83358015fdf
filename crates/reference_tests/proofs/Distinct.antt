-- Type arguments in memory: which are type variables, and which types no object has at once.
use Rattle.std.proofs.Common.{◌≡◌, ℕ, zero, suc, refl, sym, ap, ◌∙◌, nat_eq}
use Rattle.std.specs.Prelude.{Bool, true, false, ◌&&◌}
use Rattle.std.specs.declared.vec.Vec.{Vec}
use Rattle.std.specs.declared.alloc.Global.{Global}
use Rattle.je_core.specs.declared.types.Base.{Base}
use Rattle.je_core.specs.declared.types.Base.TheVariants as base
use Rattle.je_core.specs.declared.types.ClassId.{ClassId}
use Rattle.je_scopes.specs.SourceTypes.{SourceType, SourceTypes, plain, of_class, of_variable, no_source_types, more_source_types}
use Rattle.name_types.specs.declared.types.SrcBase.TheVariants.{Plain, Made, Var}
use Rattle.name_types.specs.declared.types.SrcTy.{SrcTy}
use Rattle.name_types.specs.View.{all_shown, plain_shown, shown}
use Rattle.source_types.specs.Subtypes.{dims_of}
use Rattle.je_typing.specs.Castable.{are_distinct, is_variable, some_are_distinct}
use Rattle.source_subtypes.proofs.Equal.{shown-dims}
use Rattle.reference_tests.proofs.Shapes.{plain_type, made_type, variable_type}

-- ---- type variables

array-unvaried : (t : SourceType) → (dims_of t ≡ 0 → ⊥) → is_variable t ≡ false
array-unvaried (plain b n) d = refl
array-unvaried (of_class c ts n) d = refl
array-unvaried (of_variable c i zero) d = absurd (d refl)
array-unvaried (of_variable c i (suc n)) d = refl

plain-unvaried : (b : Base) (n : ℕ) → is_variable (plain_shown b n) ≡ false
plain-unvaried base.Bool n = refl
plain-unvaried base.Byte n = refl
plain-unvaried base.Short n = refl
plain-unvaried base.Char n = refl
plain-unvaried base.Int n = refl
plain-unvaried base.Long n = refl
plain-unvaried base.Null n = refl
plain-unvaried base.Void n = refl
plain-unvaried (base.Class c) n = refl

pub array_is_none : (t : SrcTy) → (t.dims ≡ 0 → ⊥) → is_variable (shown t) ≡ false
array_is_none t d = array-unvaried (shown t) (λ e. d (sym (shown-dims t) ∙ e))

pub plain_is_none : (t : SrcTy) (b : Base) → t.base ≡ Plain b → is_variable (shown t) ≡ false
plain_is_none t b e = ap is_variable (plain_type t b e) ∙ plain-unvaried b t.dims

pub made_is_none : (t : SrcTy) (c : ClassId) (args : Vec SrcTy Global) → t.base ≡ Made c args → is_variable (shown t) ≡ false
made_is_none t c args e = ap is_variable (made_type t c args e)

pub variable_is_one : (t : SrcTy) (c : ClassId) (at : ℕ) → t.base ≡ Var c at → t.dims ≡ 0 → is_variable (shown t) ≡ true
variable_is_one t c at e d = ap is_variable (variable_type t c at e) ∙ ap (λ (n : ℕ). is_variable (of_variable c.0 at n)) d

pub ruleset varying = (array_is_none, plain_is_none, made_is_none, variable_is_one)

-- ---- two lists of type arguments

and-false : (a : Bool) → (a && false) ≡ false
and-false true = refl
and-false false = refl

behind-none : (ss : SourceTypes) → some_are_distinct ss no_source_types ≡ false
behind-none no_source_types = refl
behind-none (more_source_types s ss) = refl

class-first : (c : ℕ) (n : ℕ) (u : SourceType) → are_distinct (of_class c no_source_types n) u ≡ false
class-first c n (plain b m) = refl
class-first c n (of_class d ts m) = and-false (nat_eq c d)
class-first c n (of_variable d i m) = refl

class-second : (u : SourceType) (d : ℕ) (n : ℕ) → are_distinct u (of_class d no_source_types n) ≡ false
class-second (plain b m) d n = refl
class-second (of_class c ss m) d n = ap (λ (b : Bool). nat_eq c d && b) (behind-none ss) ∙ and-false (nat_eq c d)
class-second (of_variable c i m) d n = refl

other-second : (u : SourceType) (b : Base) (n : ℕ) → are_distinct u (plain b n) ≡ false
other-second (plain a m) b n = refl
other-second (of_class c ss m) b n = refl
other-second (of_variable c i m) b n = refl

variable-second : (u : SourceType) (c i n : ℕ) → are_distinct u (of_variable c i n) ≡ false
variable-second (plain a m) c i n = refl
variable-second (of_class d ss m) c i n = refl
variable-second (of_variable d j m) c i n = refl

plain-first : (b : Base) (n : ℕ) (u : SourceType) → are_distinct (plain_shown b n) u ≡ false
plain-first base.Bool n u = refl
plain-first base.Byte n u = refl
plain-first base.Short n u = refl
plain-first base.Char n u = refl
plain-first base.Int n u = refl
plain-first base.Long n u = refl
plain-first base.Null n u = refl
plain-first base.Void n u = refl
plain-first (base.Class c) n u = class-first c.0 n u

plain-second : (u : SourceType) (b : Base) (n : ℕ) → are_distinct u (plain_shown b n) ≡ false
plain-second u base.Bool n = other-second u base.Bool n
plain-second u base.Byte n = other-second u base.Byte n
plain-second u base.Short n = other-second u base.Short n
plain-second u base.Char n = other-second u base.Char n
plain-second u base.Int n = other-second u base.Int n
plain-second u base.Long n = other-second u base.Long n
plain-second u base.Null n = other-second u base.Null n
plain-second u base.Void n = other-second u base.Void n
plain-second u (base.Class c) n = class-second u c.0 n

pub plain_first : (t : SrcTy) (u : SourceType) (b : Base) → t.base ≡ Plain b → false ≡ are_distinct (shown t) u
plain_first t u b e = sym (ap (λ (s : SourceType). are_distinct s u) (plain_type t b e) ∙ plain-first b t.dims u)

pub plain_second : (u : SourceType) (t : SrcTy) (b : Base) → t.base ≡ Plain b → false ≡ are_distinct u (shown t)
plain_second u t b e = sym (ap (are_distinct u) (plain_type t b e) ∙ plain-second u b t.dims)

pub variable_first : (t : SrcTy) (u : SourceType) (c : ClassId) (at : ℕ) → t.base ≡ Var c at → false ≡ are_distinct (shown t) u
variable_first t u c at e = sym (ap (λ (s : SourceType). are_distinct s u) (variable_type t c at e))

pub variable_second : (u : SourceType) (t : SrcTy) (c : ClassId) (at : ℕ) → t.base ≡ Var c at → false ≡ are_distinct u (shown t)
variable_second u t c at e = sym (ap (are_distinct u) (variable_type t c at e) ∙ variable-second u c.0 at t.dims)

pub of_two_classes : (s t : SrcTy) (c d : ClassId) (ss ts : Vec SrcTy Global) → s.base ≡ Made c ss → t.base ≡ Made d ts →
    (nat_eq c.0 d.0 && some_are_distinct (all_shown ss.items) (all_shown ts.items)) ≡ are_distinct (shown s) (shown t)
of_two_classes s t c d ss ts e f = sym (λ i. are_distinct (made_type s c ss e i) (made_type t d ts f i))

pub ruleset distinct = (plain_first, plain_second, variable_first, variable_second, of_two_classes)
