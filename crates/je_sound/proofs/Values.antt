-- Values that fit a type.
use Rattle.std.proofs.Common.{◌≡◌, ℕ, zero, suc, List, [], Some, refl, sym, subst, inl, inr}
use Rattle.std.specs.Prelude.{Bool, true, false, ◌&&◌, ◌||◌, ◌⊎◌}
use Rattle.je_core.specs.Defaults.{default_in}
use Rattle.je_core.specs.declared.object.Obj.{Obj}
use Rattle.je_core.specs.declared.types.Base.{Base}
use Rattle.je_core.specs.declared.types.Base.TheVariants as base
use Rattle.je_core.specs.declared.types.Ty.{Ty}
use Rattle.je_core.specs.declared.value.Value.{Value}
use Rattle.je_core.specs.declared.value.Value.TheVariants as value
use Rattle.je_core.specs.Core.{CoreProgram}
use Rattle.je_classes.specs.Hierarchy.{supers_of, object_class}
use Rattle.je_classes.specs.Subtypes.{Subtype, itself, through, null_type, same_type, is_subtype}
use Rattle.je_classes.specs.Laws.{SubtypesAreDecided}
use Rattle.je_classes.proofs.Below.{or_true}
use Rattle.je_classes.proofs.Same.{same_type-equal}
use Rattle.je_java.specs.World.{type_of}
use Rattle.je_fitting.specs.Types.{is_primitive, agrees, is_there, holds_something}
use Rattle.je_fitting.proofs.Booleans.{two}
use Rattle.je_sound.specs.Values.{own_type, ValueFits, ValuesFit}
use Rattle.je_sound.specs.Laws.{FitsAbove, DefaultsFit}
use Rattle.je_sound.proofs.Library.{alone}
use Rattle.je_sound.proofs.Lists.{zip-weaker}

-- ---- agreeing with one type after another

subtype-on : {p : CoreProgram} {s t u : Ty} → Subtype p s t → Subtype p t u → Subtype p s u
subtype-on (itself r) q = q
subtype-on (through d r) q = through d (subtype-on r q)

-- the same primitive type, or a subtype
pub agree-cases : (p : CoreProgram) (s t : Ty) → agrees p s t ≡ true → (s ≡ t) ⊎ (is_subtype p s t ≡ true)
agree-cases p s t e = by (is_primitive s && same_type s t) refl e
  where
    by : (b : Bool) → (is_primitive s && same_type s t) ≡ b → (b || is_subtype p s t) ≡ true → (s ≡ t) ⊎ (is_subtype p s t ≡ true)
    by true q h = inl (same_type-equal s t (two {a = is_primitive s} {b = same_type s t} q).1)
    by false q h = inr h

module _ (decided : SubtypesAreDecided) (p : CoreProgram) (o : supers_of p object_class ≡ []) where
  pub agree-on : (s t u : Ty) → agrees p s t ≡ true → agrees p t u ≡ true → agrees p s u ≡ true
  agree-on s t u e f = by (agree-cases p s t e) (agree-cases p t u f)
    where
      by : (s ≡ t) ⊎ (is_subtype p s t ≡ true) → (t ≡ u) ⊎ (is_subtype p t u ≡ true) → agrees p s u ≡ true
      by (inl q) h = subst (λ (v : Ty). agrees p v u ≡ true) (sym q) f
      by (inr g) (inl q) = subst (λ (v : Ty). agrees p s v ≡ true) q e
      by (inr g) (inr h) = or_true (is_primitive s && same_type s u) (is_subtype p s u)
          ((decided p s u o).1 (subtype-on ((decided p s t o).0 g) ((decided p t u o).0 h)))

pub fits_above : SubtypesAreDecided → FitsAbove
fits_above decided p objects s t value library f e = record { own = f.own; has = f.has; agree = agree-on decided p (alone p library) f.own s t f.agree e }

-- ---- defaults

default-fits : (p : CoreProgram) (objects : List Obj) (b : Base) (n : ℕ) → holds_something b ≡ true → ValueFits p objects (record { base = b; dims = n }) (default_in n b)
unfolding is_subtype
default-fits p objects b (suc n) e = record { own = null_type; has = refl; agree = refl }
default-fits p objects base.Bool zero e = record { own = record { base = base.Bool; dims = 0 }; has = refl; agree = refl }
default-fits p objects base.Byte zero e = record { own = record { base = base.Byte; dims = 0 }; has = refl; agree = refl }
default-fits p objects base.Short zero e = record { own = record { base = base.Short; dims = 0 }; has = refl; agree = refl }
default-fits p objects base.Char zero e = record { own = record { base = base.Char; dims = 0 }; has = refl; agree = refl }
default-fits p objects base.Int zero e = record { own = record { base = base.Int; dims = 0 }; has = refl; agree = refl }
default-fits p objects base.Long zero e = record { own = record { base = base.Long; dims = 0 }; has = refl; agree = refl }
default-fits p objects (base.Class c) zero e = record { own = null_type; has = refl; agree = refl }
default-fits p objects base.Null zero e = absurd cc
default-fits p objects base.Void zero e = absurd cc

pub defaults_fit : DefaultsFit
defaults_fit p objects t e = default-fits p objects t.base t.dims (two {a = is_there p t} {b = holds_something t.base} e).1

-- ---- in another world

-- each object has its type on
abbrev pub TypesStay : List Obj → List Obj → Type 0
TypesStay objects later = (id : ℕ) (t : Ty) → type_of objects id ≡ Some t → type_of later id ≡ Some t

module _ (p : CoreProgram) (objects later : List Obj) (stay : TypesStay objects later) where
  own-type-stays : (v : Value) (t : Ty) → own_type objects v ≡ Some t → own_type later v ≡ Some t
  own-type-stays (value.Ref o) t e = stay o.0 t e
  own-type-stays (value.Bool b) t e = e
  own-type-stays (value.Byte n) t e = e
  own-type-stays (value.Short n) t e = e
  own-type-stays (value.Char n) t e = e
  own-type-stays (value.Int n) t e = e
  own-type-stays (value.Long n) t e = e
  own-type-stays value.Null t e = e

  pub value-stays : (t : Ty) (v : Value) → ValueFits p objects t v → ValueFits p later t v
  value-stays t v f = record { own = f.own; has = own-type-stays v f.own f.has; agree = f.agree }

  pub values-stay : (ts : List Ty) (vs : List Value) → ValuesFit p objects ts vs → ValuesFit p later ts vs
  values-stay ts vs z = zip-weaker (ValueFits p objects) (ValueFits p later) value-stays ts vs z
