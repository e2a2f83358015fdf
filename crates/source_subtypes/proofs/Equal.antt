-- When types that bases show are the same.
use Rattle.std.proofs.Common.{◌≡◌, ℕ, ◌<◌, List, [], ◌∷◌, length, refl, sym, ap, ◌∙◌, arith}
use Rattle.std.specs.Prelude.{Bool, true, false, ◌&&◌, nat_eq}
use Rattle.std.specs.declared.vec.Vec.{Vec}
use Rattle.std.specs.declared.alloc.Global.{Global}
use Rattle.std.proofs.lemmas.Bool.Decides.{nat_tests}
use Rattle.je_core.specs.declared.types.ClassId.{ClassId}
use Rattle.je_core.specs.declared.types.Base.{Base}
use Rattle.je_core.specs.declared.types.Base.TheVariants as base
use Rattle.je_classes.specs.Subtypes.{same_base}
use Rattle.je_classes.specs.Subtypes as base_types
use Rattle.je_classes.proofs.Same.{same_base-refl, same_base-equal}
use Rattle.je_scopes.specs.SourceTypes.{SourceType, SourceTypes, plain, of_class, of_variable, no_source_types, more_source_types, same_source_type, same_source_types}
use Rattle.name_types.specs.declared.types.SrcBase.{SrcBase, out-SrcBase}
use Rattle.name_types.specs.declared.types.SrcBase.TheOpen as node
use Rattle.name_types.specs.declared.types.SrcBase.TheVariants.{Plain, Made, Var}
use Rattle.name_types.specs.declared.types.SrcTy.{SrcTy}
use Rattle.name_types.specs.View.{all_shown, base_layer, base_shown, plain_shown, shown}
use Rattle.name_types.proofs.Views.{base_is, type_is}
use Rattle.name_types.proofs.Bases.{plain_base, made_base, variable_base}
use Rattle.source_types.specs.Subtypes.{dims_of, element_of, is_null, is_reference}
use Rattle.source_types.proofs.Same.{same-refl, same-equal}

number-refl : (n : ℕ) → nat_eq n n ≡ true
number-refl n = grind (arith, nat_tests)

and-true : (b : Bool) → (b && true) ≡ b
and-true true = refl
and-true false = refl

and-false : (b : Bool) → (b && false) ≡ false
and-false true = refl
and-false false = refl

same-test : (a b : Bool) → (a ≡ true → b ≡ true) → (b ≡ true → a ≡ true) → a ≡ b
same-test true true f g = refl
same-test true false f g = absurd (let e : false ≡ true = f refl in cc)
same-test false true f g = absurd (let e : false ≡ true = g refl in cc)
same-test false false f g = refl

-- ---- what a base of a form shows

pub plain-shape : (b : SrcBase) (p : Base) (n : ℕ) → b ≡ Plain p → base_shown b n ≡ plain_shown p n
plain-shape b p n e = ap (λ k. base_shown k n) e ∙ plain_base p n

pub made-shape : (b : SrcBase) (c : ClassId) (args : Vec SrcTy Global) (n : ℕ) → b ≡ Made c args → base_shown b n ≡ of_class c.0 (all_shown args.items) n
made-shape b c args n e = ap (λ k. base_shown k n) e ∙ made_base c args n

pub variable-shape : (b : SrcBase) (c : ClassId) (at n : ℕ) → b ≡ Var c at → base_shown b n ≡ of_variable c.0 at n
variable-shape b c at n e = ap (λ k. base_shown k n) e ∙ variable_base c at n

-- ---- plain bases

-- the base that a type without arguments shows
abbrev base_in : SourceType → Base
base_in (plain b n) = b
base_in (of_class c ts n) = base.Class (record { 0 = c })
base_in (of_variable c at n) = base.Void

base-back : (b : Base) (n : ℕ) → base_in (plain_shown b n) ≡ b
base-back base.Bool n = refl
base-back base.Byte n = refl
base-back base.Short n = refl
base-back base.Char n = refl
base-back base.Int n = refl
base-back base.Long n = refl
base-back base.Null n = refl
base-back base.Void n = refl
base-back (base.Class c) n = refl

pub plain-same : (a b : Base) (n : ℕ) → same_base a b ≡ same_source_type (plain_shown a n) (plain_shown b n)
plain-same a b n = same-test (same_base a b) (same_source_type (plain_shown a n) (plain_shown b n))
    (λ e. ap (λ (k : Base). same_source_type (plain_shown k n) (plain_shown b n)) (same_base-equal a b e) ∙ same-refl (plain_shown b n))
    (λ e. let k : a ≡ b = sym (base-back a n) ∙ ap base_in (same-equal (plain_shown a n) (plain_shown b n) e) ∙ base-back b n in
    ap (λ (j : Base). same_base j b) k ∙ same_base-refl b)

-- a class without arguments, and one with these
class-same : (c d : ClassId) (us : SourceTypes) (n : ℕ) → (same_base (base.Class c) (base.Class d) && same_source_types no_source_types us) ≡ same_source_type (of_class c.0 no_source_types n) (of_class d.0 us n)
class-same c d us n = rw (number-refl n, and-true (nat_eq c.0 d.0)) refl

class-other : (c d : ClassId) (ts : SourceTypes) (n : ℕ) → (same_base (base.Class c) (base.Class d) && same_source_types no_source_types ts) ≡ same_source_type (of_class c.0 ts n) (of_class d.0 no_source_types n)
class-other c d no_source_types n = ap (λ (b : Bool). b && true) (sym (and-true (nat_eq c.0 d.0)) ∙ ap (λ (k : Bool). nat_eq c.0 d.0 && k) (sym (number-refl n)))
class-other c d (more_source_types t ts) n = and-false (same_base (base.Class c) (base.Class d)) ∙ sym (and-false (nat_eq c.0 d.0 && nat_eq n n))

pub plain-made : (a : Base) (d : ClassId) (us : SourceTypes) (n : ℕ) → (same_base a (base.Class d) && same_source_types no_source_types us) ≡ same_source_type (plain_shown a n) (of_class d.0 us n)
plain-made base.Bool d us n = refl
plain-made base.Byte d us n = refl
plain-made base.Short d us n = refl
plain-made base.Char d us n = refl
plain-made base.Int d us n = refl
plain-made base.Long d us n = refl
plain-made base.Null d us n = refl
plain-made base.Void d us n = refl
plain-made (base.Class c) d us n = class-same c d us n

pub made-plain : (c : ClassId) (b : Base) (ts : SourceTypes) (n : ℕ) → (same_base (base.Class c) b && same_source_types no_source_types ts) ≡ same_source_type (of_class c.0 ts n) (plain_shown b n)
made-plain c base.Bool ts n = refl
made-plain c base.Byte ts n = refl
made-plain c base.Short ts n = refl
made-plain c base.Char ts n = refl
made-plain c base.Int ts n = refl
made-plain c base.Long ts n = refl
made-plain c base.Null ts n = refl
made-plain c base.Void ts n = refl
made-plain c (base.Class d) ts n = class-other c d ts n

pub made-made : (c d n : ℕ) (ts us : SourceTypes) → (nat_eq c d && same_source_types ts us) ≡ same_source_type (of_class c ts n) (of_class d us n)
made-made c d n ts us = rw (number-refl n, and-true (nat_eq c d)) refl

pub variable-variable : (c d at place n : ℕ) → (nat_eq c d && nat_eq at place) ≡ same_source_type (of_variable c at n) (of_variable d place n)
variable-variable c d at place n = rw (number-refl n, and-true (nat_eq c d && nat_eq at place)) refl

pub plain-variable : (a : Base) (d at n : ℕ) → false ≡ same_source_type (plain_shown a n) (of_variable d at n)
plain-variable base.Bool d at n = refl
plain-variable base.Byte d at n = refl
plain-variable base.Short d at n = refl
plain-variable base.Char d at n = refl
plain-variable base.Int d at n = refl
plain-variable base.Long d at n = refl
plain-variable base.Null d at n = refl
plain-variable base.Void d at n = refl
plain-variable (base.Class c) d at n = refl

pub variable-plain : (c at n : ℕ) (b : Base) → false ≡ same_source_type (of_variable c at n) (plain_shown b n)
variable-plain c at n base.Bool = refl
variable-plain c at n base.Byte = refl
variable-plain c at n base.Short = refl
variable-plain c at n base.Char = refl
variable-plain c at n base.Int = refl
variable-plain c at n base.Long = refl
variable-plain c at n base.Null = refl
variable-plain c at n base.Void = refl
variable-plain c at n (base.Class d) = refl

-- ---- with dimensions

plain-dims : (b : Base) (n : ℕ) → dims_of (plain_shown b n) ≡ n
plain-dims base.Bool n = refl
plain-dims base.Byte n = refl
plain-dims base.Short n = refl
plain-dims base.Char n = refl
plain-dims base.Int n = refl
plain-dims base.Long n = refl
plain-dims base.Null n = refl
plain-dims base.Void n = refl
plain-dims (base.Class c) n = refl

plain-element : (b : Base) (n : ℕ) → element_of (plain_shown b n) ≡ plain_shown b 0
plain-element base.Bool n = refl
plain-element base.Byte n = refl
plain-element base.Short n = refl
plain-element base.Char n = refl
plain-element base.Int n = refl
plain-element base.Long n = refl
plain-element base.Null n = refl
plain-element base.Void n = refl
plain-element (base.Class c) n = refl

layer-dims : (f : node.SrcBase-F SrcBase SrcTy) (n : ℕ) → dims_of (base_layer shown f n) ≡ n
layer-dims (node.Plain b) n = plain-dims b n
layer-dims (node.Made c args) n = refl
layer-dims (node.Var c at) n = refl

layer-element : (f : node.SrcBase-F SrcBase SrcTy) (n : ℕ) → element_of (base_layer shown f n) ≡ base_layer shown f 0
layer-element (node.Plain b) n = plain-element b n
layer-element (node.Made c args) n = refl
layer-element (node.Var c at) n = refl

pub base-dims : (b : SrcBase) (n : ℕ) → dims_of (base_shown b n) ≡ n
base-dims b n = ap dims_of (base_is b n) ∙ layer-dims (out-SrcBase b) n

pub base-element : (b : SrcBase) (n : ℕ) → element_of (base_shown b n) ≡ base_shown b 0
base-element b n = ap element_of (base_is b n) ∙ layer-element (out-SrcBase b) n ∙ sym (base_is b 0)

pub shown-dims : (t : SrcTy) → dims_of (shown t) ≡ t.dims
shown-dims t = ap dims_of (type_is t) ∙ base-dims t.base t.dims

pub shown-element : (t : SrcTy) → element_of (shown t) ≡ base_shown t.base 0
shown-element t = ap element_of (type_is t) ∙ base-element t.base t.dims

pub same-types : (a b : SrcTy) (r : Bool) → ((n : ℕ) → r ≡ same_source_type (base_shown a.base n) (base_shown b.base n)) → a.dims ≡ b.dims → r ≡ same_source_type (shown a) (shown b)
same-types a b r f d =
    f a.dims ∙ (λ i. same_source_type (base_shown a.base a.dims) (base_shown b.base (d i))) ∙ (λ i. same_source_type (sym (type_is a) i) (sym (type_is b) i))

pub other-types : (a b : SrcTy) → (a.dims ≡ b.dims → ⊥) → nat_eq a.dims b.dims ≡ same_source_type (shown a) (shown b)
other-types a b e = same-test (nat_eq a.dims b.dims) (same_source_type (shown a) (shown b))
    (λ h. let d : a.dims ≡ b.dims = grind (arith, nat_tests) in absurd (e d))
    (λ h. let d : a.dims ≡ b.dims = sym (shown-dims a) ∙ ap dims_of (same-equal (shown a) (shown b) h) ∙ shown-dims b in absurd (e d))

-- ---- two tests, of which the first is decided

pub first-true : (a x r : Bool) → a ≡ true → (a && x) ≡ r → x ≡ r
first-true true x r e f = f
first-true false x r e f = absurd cc

pub first-false : (a x r : Bool) → a ≡ false → (a && x) ≡ r → a ≡ r
first-false true x r e f = absurd cc
first-false false x r e f = f

pub some-shown : (xs : List SrcTy) → 0 < length xs → false ≡ same_source_types no_source_types (all_shown xs)
some-shown [] l = absurd (omega arith)
some-shown (x ∷ xs) l = refl

-- ---- numbers

pub number-same : (m n : ℕ) → m ≡ n → nat_eq m n ≡ true
number-same m n e = rw e (number-refl n)

pub number-other : (m n : ℕ) → (m ≡ n → ⊥) → nat_eq m n ≡ false
number-other m n f = grind (arith, nat_tests, f)

-- ---- null, and references

pub null-plain : (b : Base) (n : ℕ) → base_types.is_null b ≡ is_null (plain_shown b n)
null-plain base.Bool n = refl
null-plain base.Byte n = refl
null-plain base.Short n = refl
null-plain base.Char n = refl
null-plain base.Int n = refl
null-plain base.Long n = refl
null-plain base.Null n = refl
null-plain base.Void n = refl
null-plain (base.Class c) n = refl

pub reference-plain : (b : Base) → base_types.is_reference_base b ≡ is_reference (plain_shown b 0)
reference-plain base.Bool = refl
reference-plain base.Byte = refl
reference-plain base.Short = refl
reference-plain base.Char = refl
reference-plain base.Int = refl
reference-plain base.Long = refl
reference-plain base.Null = refl
reference-plain base.Void = refl
reference-plain (base.Class c) = refl
