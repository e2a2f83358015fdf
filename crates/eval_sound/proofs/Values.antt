-- What a value of a type is.
use Rattle.std.proofs.Common.{◌≡◌, ℕ, zero, suc, List, Option, Some, None, refl, sym, ap, subst, inl, inr, eq-eqb}
use Rattle.std.specs.Prelude.{ℤ, Bool, true, false, ◌⊎◌, slice_get, nat_eq, nat_lt, if◌then◌else◌}
use Rattle.std.proofs.lemmas.Option.{same_Some}
use Rattle.je_core.specs.declared.object.Obj.{Obj}
use Rattle.je_core.specs.declared.object.Obj.TheVariants.{Instance, Array, Text, Builder, Row, Cap}
use Rattle.je_core.specs.declared.types.Base.{Base}
use Rattle.je_core.specs.declared.types.Base.TheVariants as base
use Rattle.je_core.specs.declared.types.Ty.{Ty}
use Rattle.je_core.specs.declared.value.ObjId.{ObjId}
use Rattle.je_core.specs.declared.value.Value.{Value}
use Rattle.je_core.specs.declared.value.Value.TheVariants as value
use Rattle.je_core.specs.Core.{CoreProgram}
use Rattle.je_classes.specs.Subtypes.{kind_number, array_of, null_type, is_reference_of, is_reference, is_base_below, are_below, is_subtype}
use Rattle.je_fitting.specs.Types.{of, agrees}
use Rattle.je_java.specs.World.{type_in}
use Rattle.je_sound.specs.Values.{ValueFits}
use Rattle.je_sound.proofs.Values.{agree-cases}

-- a value of each type
pub data Formed : Ty → Value → Type 0 where
  bool : {b : Bool} → Formed (of base.Bool) (value.Bool b)
  byte : {x : ℤ} → Formed (of base.Byte) (value.Byte x)
  short : {x : ℤ} → Formed (of base.Short) (value.Short x)
  char : {n : ℕ} → Formed (of base.Char) (value.Char n)
  int : {x : ℤ} → Formed (of base.Int) (value.Int x)
  long : {x : ℤ} → Formed (of base.Long) (value.Long x)
  null : {t : Ty} → is_reference t ≡ true → Formed t value.Null
  reference : {t : Ty} {o : ObjId} → is_reference t ≡ true → Formed t (value.Ref o)

base-above : (p : CoreProgram) (a b : Base) → is_base_below p a b ≡ true → is_reference_of b 0 ≡ true
base-above p (base.Class c) (base.Class d) e = refl
base-above p base.Null (base.Class d) e = refl
base-above p base.Null base.Null e = refl
base-above p _ b e = absurd cc

above : (p : CoreProgram) (a b : Base) (m n : ℕ) → are_below p a m b n ≡ true → is_reference_of b n ≡ true
above p a b m (suc n) e = refl
above p a b zero zero e = base-above p a b e
above p a (base.Class c) (suc m) zero e = refl
above p a _ (suc m) zero e = absurd cc

-- what is above a type is a reference
pub reference-above : (p : CoreProgram) (s t : Ty) → is_subtype p s t ≡ true → is_reference t ≡ true
unfolding is_subtype
reference-above p s t e = above p s.base t.base s.dims t.dims e

-- a primitive type is below none
plain-below : (p : CoreProgram) (b : Base) (t : Ty) → is_reference_of b 0 ≡ false → is_subtype p (of b) t ≡ true → ⊥
unfolding is_subtype
plain-below p (base.Class c) t q e = absurd cc
plain-below p base.Null t q e = absurd cc
plain-below p base.Bool t q e = by t.base t.dims e
  where
    by : (b : Base) (n : ℕ) → are_below p base.Bool 0 b n ≡ true → ⊥
    by b zero h = absurd cc
    by b (suc n) h = absurd cc
plain-below p base.Byte t q e = by t.base t.dims e
  where
    by : (b : Base) (n : ℕ) → are_below p base.Byte 0 b n ≡ true → ⊥
    by b zero h = absurd cc
    by b (suc n) h = absurd cc
plain-below p base.Short t q e = by t.base t.dims e
  where
    by : (b : Base) (n : ℕ) → are_below p base.Short 0 b n ≡ true → ⊥
    by b zero h = absurd cc
    by b (suc n) h = absurd cc
plain-below p base.Char t q e = by t.base t.dims e
  where
    by : (b : Base) (n : ℕ) → are_below p base.Char 0 b n ≡ true → ⊥
    by b zero h = absurd cc
    by b (suc n) h = absurd cc
plain-below p base.Int t q e = by t.base t.dims e
  where
    by : (b : Base) (n : ℕ) → are_below p base.Int 0 b n ≡ true → ⊥
    by b zero h = absurd cc
    by b (suc n) h = absurd cc
plain-below p base.Long t q e = by t.base t.dims e
  where
    by : (b : Base) (n : ℕ) → are_below p base.Long 0 b n ≡ true → ⊥
    by b zero h = absurd cc
    by b (suc n) h = absurd cc
plain-below p base.Void t q e = by t.base t.dims e
  where
    by : (b : Base) (n : ℕ) → are_below p base.Void 0 b n ≡ true → ⊥
    by b zero h = absurd cc
    by b (suc n) h = absurd cc

-- an object's type is a reference
pub object-reference : (o : Option Obj) (t : Ty) → type_in o ≡ Some t → is_reference t ≡ true
object-reference None t e = absurd cc
object-reference (Some (Instance class slots)) t e = subst (λ (u : Ty). is_reference u ≡ true) (same_Some _ _ e) refl
object-reference (Some (Text units)) t e = subst (λ (u : Ty). is_reference u ≡ true) (same_Some _ _ e) refl
object-reference (Some (Builder units)) t e = subst (λ (u : Ty). is_reference u ≡ true) (same_Some _ _ e) refl
object-reference (Some (Row class slots)) t e = subst (λ (u : Ty). is_reference u ≡ true) (same_Some _ _ e) refl
object-reference (Some (Cap device class)) t e = subst (λ (u : Ty). is_reference u ≡ true) (same_Some _ _ e) refl
object-reference (Some (Array element slots)) t e = by (nat_lt element.dims 255) e
  where
    by : (b : Bool) → (if b then Some (array_of element) else None) ≡ Some t → is_reference t ≡ true
    by true h = subst (λ (u : Ty). is_reference u ≡ true) (same_Some _ _ h) refl
    by false h = absurd cc

module _ (p : CoreProgram) (objects : List Obj) (t : Ty) where
  -- a value whose own type is primitive has just that type
  plain : (b : Base) (own : Ty) (v : Value) → is_reference_of b 0 ≡ false → Some (of b) ≡ Some own → agrees p own t ≡ true → Formed (of b) v → Formed t v
  plain b own v q e h f = by (agree-cases p (of b) t (subst (λ (u : Ty). agrees p u t ≡ true) (sym (same_Some (of b) own e)) h))
    where
      by : (of b ≡ t) ⊎ (is_subtype p (of b) t ≡ true) → Formed t v
      by (inl i) = subst (λ (u : Ty). Formed u v) i f
      by (inr i) = absurd (plain-below p b t q i)

  -- one whose own type is a reference has a reference type
  referring : (own : Ty) → is_reference own ≡ true → agrees p own t ≡ true → is_reference t ≡ true
  referring own q h = by (agree-cases p own t h)
    where
      by : (own ≡ t) ⊎ (is_subtype p own t ≡ true) → is_reference t ≡ true
      by (inl i) = subst (λ (u : Ty). is_reference u ≡ true) i q
      by (inr i) = reference-above p own t i

  formed-by : (v : Value) → ValueFits p objects t v → Formed t v
  formed-by (value.Bool b) f = plain base.Bool f.own _ refl f.has f.agree bool
  formed-by (value.Byte x) f = plain base.Byte f.own _ refl f.has f.agree byte
  formed-by (value.Short x) f = plain base.Short f.own _ refl f.has f.agree short
  formed-by (value.Char n) f = plain base.Char f.own _ refl f.has f.agree char
  formed-by (value.Int x) f = plain base.Int f.own _ refl f.has f.agree int
  formed-by (value.Long x) f = plain base.Long f.own _ refl f.has f.agree long
  formed-by value.Null f = null (referring f.own (subst (λ (u : Ty). is_reference u ≡ true) (same_Some null_type f.own f.has) refl) f.agree)
  formed-by (value.Ref o) f = reference (referring f.own (object-reference (slice_get objects o.0) f.own f.has) f.agree)

pub formed : {p : CoreProgram} {objects : List Obj} {t : Ty} {v : Value} → ValueFits p objects t v → Formed t v
formed {p = p} {objects = objects} {t = t} {v = v} f = formed-by p objects t v f

-- what is below a type is a reference
pub reference-below : (p : CoreProgram) (s t : Ty) → is_subtype p s t ≡ true → is_reference s ≡ true
reference-below p s t e = by s.base s.dims (is_reference_of s.base s.dims) refl e
  where
    by : (b : Base) (n : ℕ) (r : Bool) → is_reference_of b n ≡ r → is_subtype p (record { base = b; dims = n }) t ≡ true → is_reference_of b n ≡ true
    by b (suc n) r q h = refl
    by b zero true q h = q
    by b zero false q h = absurd (plain-below p b t q h)

-- what goes to a primitive place is of its type
pub plain-same : (p : CoreProgram) (s t : Ty) → is_reference t ≡ false → agrees p s t ≡ true → s ≡ t
plain-same p s t r e = by (agree-cases p s t e)
  where
    by : (s ≡ t) ⊎ (is_subtype p s t ≡ true) → s ≡ t
    by (inl q) = q
    by (inr q) = let z = reference-above p s t q in absurd cc

-- what goes to a place of references is a reference
pub reference-agrees : (p : CoreProgram) (s t : Ty) → is_reference t ≡ true → agrees p s t ≡ true → is_reference s ≡ true
reference-agrees p s t r e = by (agree-cases p s t e)
  where
    by : (s ≡ t) ⊎ (is_subtype p s t ≡ true) → is_reference s ≡ true
    by (inl q) = subst (λ (u : Ty). is_reference u ≡ true) (sym q) r
    by (inr q) = reference-below p s t q

-- the numbers of the other types

pub int-fits : (p : CoreProgram) (objects : List Obj) (x : ℤ) → ValueFits p objects (of base.Int) (value.Int x)
int-fits p objects x = record { own = of base.Int; has = refl; agree = refl }

pub long-fits : (p : CoreProgram) (objects : List Obj) (x : ℤ) → ValueFits p objects (of base.Long) (value.Long x)
long-fits p objects x = record { own = of base.Long; has = refl; agree = refl }

pub char-fits : (p : CoreProgram) (objects : List Obj) (n : ℕ) → ValueFits p objects (of base.Char) (value.Char n)
char-fits p objects n = record { own = of base.Char; has = refl; agree = refl }

pub truth-fits : (p : CoreProgram) (objects : List Obj) (b : Bool) → ValueFits p objects (of base.Bool) (value.Bool b)
truth-fits p objects b = record { own = of base.Bool; has = refl; agree = refl }

-- the values of the primitive types

pub not-reference : {A : Type 0} {t : Ty} (b : Base) → t ≡ of b → is_reference_of b 0 ≡ false → is_reference t ≡ true → A
not-reference b e q r = absurd (let z : is_reference_of b 0 ≡ true = subst (λ (u : Ty). is_reference u ≡ true) e r in by (is_reference_of b 0) q z)
  where
    by : (x : Bool) → x ≡ false → x ≡ true → ⊥
    by true f g = absurd cc
    by false f g = absurd cc

pub differ : {A : Type 0} (a b : Base) → of a ≡ of b → nat_eq (kind_number a) (kind_number b) ≡ false → A
differ a b e q = absurd (let k : kind_number a ≡ kind_number b = ap (λ (u : Ty). kind_number u.base) e in let y = eq-eqb (kind_number a) (kind_number b) k in by (nat_eq (kind_number a) (kind_number b)) q y)
  where
    by : (x : Bool) → x ≡ false → x ≡ true → ⊥
    by true f g = absurd cc
    by false f g = absurd cc

int-by : {t : Ty} {v : Value} → t ≡ of base.Int → Formed t v → (x : ℤ) × (v ≡ value.Int x)
int-by e bool = differ base.Bool base.Int e refl
int-by e byte = differ base.Byte base.Int e refl
int-by e short = differ base.Short base.Int e refl
int-by e char = differ base.Char base.Int e refl
int-by e (int {x = x}) = (x, refl)
int-by e long = differ base.Long base.Int e refl
int-by e (null r) = not-reference base.Int e refl r
int-by e (reference r) = not-reference base.Int e refl r

long-by : {t : Ty} {v : Value} → t ≡ of base.Long → Formed t v → (x : ℤ) × (v ≡ value.Long x)
long-by e bool = differ base.Bool base.Long e refl
long-by e byte = differ base.Byte base.Long e refl
long-by e short = differ base.Short base.Long e refl
long-by e char = differ base.Char base.Long e refl
long-by e int = differ base.Int base.Long e refl
long-by e (long {x = x}) = (x, refl)
long-by e (null r) = not-reference base.Long e refl r
long-by e (reference r) = not-reference base.Long e refl r

char-by : {t : Ty} {v : Value} → t ≡ of base.Char → Formed t v → (n : ℕ) × (v ≡ value.Char n)
char-by e bool = differ base.Bool base.Char e refl
char-by e byte = differ base.Byte base.Char e refl
char-by e short = differ base.Short base.Char e refl
char-by e (char {n = n}) = (n, refl)
char-by e int = differ base.Int base.Char e refl
char-by e long = differ base.Long base.Char e refl
char-by e (null r) = not-reference base.Char e refl r
char-by e (reference r) = not-reference base.Char e refl r

bool-by : {t : Ty} {v : Value} → t ≡ of base.Bool → Formed t v → (b : Bool) × (v ≡ value.Bool b)
bool-by e (bool {b = b}) = (b, refl)
bool-by e byte = differ base.Byte base.Bool e refl
bool-by e short = differ base.Short base.Bool e refl
bool-by e char = differ base.Char base.Bool e refl
bool-by e int = differ base.Int base.Bool e refl
bool-by e long = differ base.Long base.Bool e refl
bool-by e (null r) = not-reference base.Bool e refl r
bool-by e (reference r) = not-reference base.Bool e refl r

pub int-of : {p : CoreProgram} {objects : List Obj} {t : Ty} {v : Value} → t ≡ of base.Int → ValueFits p objects t v → (x : ℤ) × (v ≡ value.Int x)
int-of e f = int-by e (formed f)

pub long-of : {p : CoreProgram} {objects : List Obj} {t : Ty} {v : Value} → t ≡ of base.Long → ValueFits p objects t v → (x : ℤ) × (v ≡ value.Long x)
long-of e f = long-by e (formed f)

pub char-of : {p : CoreProgram} {objects : List Obj} {t : Ty} {v : Value} → t ≡ of base.Char → ValueFits p objects t v → (n : ℕ) × (v ≡ value.Char n)
char-of e f = char-by e (formed f)

pub bool-of : {p : CoreProgram} {objects : List Obj} {t : Ty} {v : Value} → t ≡ of base.Bool → ValueFits p objects t v → (b : Bool) × (v ≡ value.Bool b)
bool-of e f = bool-by e (formed f)
