-- The first of some fields.
use Rattle.std.proofs.Common.{◌≡◌, List, [], ◌∷◌, Some, None, take, map, refl}
use Rattle.std.specs.Prelude.{Bool, true, false, ◌&&◌, slice_get}
use Rattle.std.proofs.lemmas.Option.{none-some, same_Some}
use Rattle.je_core.specs.declared.program.Field.{Field}
use Rattle.je_core.specs.declared.types.Ty.{Ty}
use Rattle.je_core.specs.View.{field_view}
use Rattle.je_classes.specs.Subtypes.{same_type, same_types}
use Rattle.je_fitting.specs.Classes.{field_types}

and-true : (b : Bool) → (b && true) ≡ b
and-true true = refl
and-true false = refl

pub outer_none : (t : Ty) (fs : List Field) → slice_get fs 0 ≡ None → same_types (take 1 (field_types (map field_view fs))) (t ∷ []) ≡ false
outer_none t [] e = refl
outer_none t (f ∷ fs) e = absurd cc

pub outer_some : (t : Ty) (fs : List Field) (f : Field) → slice_get fs 0 ≡ Some f → same_types (take 1 (field_types (map field_view fs))) (t ∷ []) ≡ same_type f.ty t
outer_some t [] f e = absurd (none-some f e)
outer_some t (g ∷ fs) f e = let q : g ≡ f = same_Some g f e in rw q (and-true (same_type f.ty t))

pub outer_absent : (ts : List Ty) → same_types (take 0 ts) [] ≡ true
outer_absent [] = refl
outer_absent (t ∷ ts) = refl

pub ruleset outer = (outer_none, outer_some, outer_absent)
