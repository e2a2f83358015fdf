-- Constructors among the methods that a class declares.
use Rattle.std.proofs.Common.{◌≡◌, ℕ, List, [], ◌∷◌, refl}
use Rattle.std.specs.Prelude.{Bool, true, false, not, ◌||◌, suc, slice_get, if◌then◌else◌}
use Rattle.std.specs.List.{list_any}
use Rattle.declarations.specs.Declarations.{DeclaredMethod}
use Rattle.overriding.specs.Methods.{methods_in, own_method}
use Rattle.call_typing.specs.Constructors.{constructors_from}
use Rattle.member_forms.specs.declared.walk.ClassWalk.{ClassWalk}
use Rattle.member_forms.specs.Seen.{program_of}
use Rattle.member_forms.specs.Walks.{is_without_constructor}
use Rattle.member_forms.specs.way.Unwritten.{is_constructor}

abbrev none_of : {A : Type 0} → List A → Bool
none_of [] = true
none_of (m ∷ ms) = false

first : (c : ℕ) (at : ℕ) (m : DeclaredMethod) (ms : List DeclaredMethod) (is : Bool) (rest : Bool) → none_of (constructors_from c (suc at) ms) ≡ not rest →
    none_of (if is then own_method c at m ∷ constructors_from c (suc at) ms else constructors_from c (suc at) ms) ≡ not (is || rest)
first c at m ms true rest h = refl
first c at m ms false rest h = h

none_among : (c : ℕ) (at : ℕ) (ms : List DeclaredMethod) → none_of (constructors_from c at ms) ≡ not (list_any is_constructor ms)
none_among c at [] = refl
none_among c at (m ∷ ms) = first c at m ms m.is_constructor (list_any is_constructor ms) (none_among c (suc at) ms)

pub without : (w : ClassWalk) → is_without_constructor w ≡ not (list_any is_constructor (methods_in (slice_get (program_of w).classes w.class.0)))
without w = none_among w.class.0 0 (methods_in (slice_get (program_of w).classes w.class.0))
