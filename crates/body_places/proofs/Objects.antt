-- The class of a type, and what an array lacks.
use Rattle.std.proofs.Common.{◌≡◌, ℕ, zero, suc, List, [], Option, Some, None, refl, sym, ap, ◌∙◌}
use Rattle.std.specs.Prelude.{nat_eq, Bool, false}
use Rattle.je_base.specs.declared.span.NameId.{NameId}
use Rattle.je_scopes.specs.SourceTypes.{SourceType, plain, of_class, of_variable}
use Rattle.name_types.specs.declared.types.SrcTy.{SrcTy}
use Rattle.name_types.specs.View.{shown}
use Rattle.source_subtypes.proofs.Climbing.{array-none}
use Rattle.source_subtypes.proofs.Equal.{shown-dims}
use Rattle.source_types.specs.Heads.{ClassHead}
use Rattle.source_types.specs.Subtypes.{dims_of}
use Rattle.source_types.specs.Supertypes.{directly_above}
use Rattle.declarations.specs.Declarations.{DeclaredClass}
use Rattle.header_typing.specs.Supers.{class_in}
use Rattle.je_typing.specs.Castable.{is_of_class}
use Rattle.name_typing.specs.Fields.{own_field}
use Rattle.body_places.specs.way.Walk.{object_class_in, own_if}

abbrev flat : ℕ → Option ℕ → Option ℕ
flat zero o = o
flat (suc n) o = None

object-is : (t : SourceType) → object_class_in t ≡ flat (dims_of t) (class_in t)
object-is (plain b zero) = refl
object-is (plain b (suc n)) = refl
object-is (of_class c args zero) = refl
object-is (of_class c args (suc n)) = refl
object-is (of_variable c at zero) = refl
object-is (of_variable c at (suc n)) = refl

many : (n : ℕ) (o : Option ℕ) → (n ≡ 0 → ⊥) → None ≡ flat n o
many zero o e = absurd (e refl)
many (suc n) o e = refl

pub array_has_none : (t : SrcTy) → (t.dims ≡ 0 → ⊥) → None ≡ object_class_in (shown t)
array_has_none t e = many t.dims (class_in (shown t)) e ∙ ap (λ (n : ℕ). flat n (class_in (shown t))) (sym (shown-dims t)) ∙ sym (object-is (shown t))

pub flat_class : (t : SrcTy) (o : Option ℕ) → t.dims ≡ 0 → o ≡ class_in (shown t) → o ≡ object_class_in (shown t)
flat_class t o e h = h ∙ ap (λ (n : ℕ). flat n (class_in (shown t))) (sym (shown-dims t ∙ e)) ∙ sym (object-is (shown t))

pub ruleset objects = (array_has_none, flat_class)

pub own_by_class : (classes : List DeclaredClass) (x : NameId) (t : SourceType) → own_if classes x (object_class_in t) ≡ own_field classes x t
own_by_class classes x (plain b n) = refl
own_by_class classes x (of_class c args zero) = refl
own_by_class classes x (of_class c args (suc n)) = refl
own_by_class classes x (of_variable c at n) = refl

pub none_above : (heads : List ClassHead) (t : SrcTy) → (t.dims ≡ 0 → ⊥) → [] ≡ directly_above heads (shown t)
none_above heads t e = array-none heads t e

abbrev is_of_if : ℕ → Option ℕ → Bool
is_of_if d None = false
is_of_if d (Some c) = nat_eq c d

pub of_class_is : (d : ℕ) (t : SourceType) → is_of_if d (class_in t) ≡ is_of_class d t
of_class_is d (plain b n) = refl
of_class_is d (of_class c args n) = refl
of_class_is d (of_variable c at n) = refl
