-- A call of an object's `toString()`, which hands no argument on, and what becomes of a new string.
use Rattle.std.proofs.Common.{◌≡◌, ℕ, List, [], ◌∷◌, Option, Some, refl, ap, ◌∙◌}
use Rattle.std.specs.Prelude.{Bool, true, false, if◌then◌else◌}
use Rattle.je_core.specs.declared.types.Ty.{Ty}
use Rattle.je_core.specs.declared.value.ObjId.{ObjId}
use Rattle.je_core.specs.declared.value.Value.{Value}
use Rattle.je_core.specs.declared.value.Value.TheVariants.{Ref}
use Rattle.je_core.specs.Core.{CoreMethod, CoreProgram}
use Rattle.je_classes.specs.Dispatch.{dispatched}
use Rattle.je_classes.specs.Hierarchy.{object_class}
use Rattle.je_classes.specs.Members.{Member, method_of}
use Rattle.je_classes.specs.Subtypes.{same_types}
use Rattle.je_java.specs.Classes.{method_at}
use Rattle.je_java.specs.LibraryClasses.{to_string_place}
use Rattle.je_java.specs.World.{type_of}
use Rattle.je_java.specs.Steps.{State, Answer, Run, Exits, Computation, Nothing, ret, bind, seq, need, deref, get_type, get_receiving_class, receiving_class, make_text, on_some}
use Rattle.je_java.specs.Meaning.{Meanings, member_at, run_member, admit_all, hand_on, to_string}
use Rattle.machine_parts.specs.declared.frame.Made.{Made}
use Rattle.machine_parts.specs.declared.frame.Sum.{Sum}
use Rattle.machine_parts.specs.declared.frame.Sum.TheVariants.{Given, Stored}
use Rattle.machine_parts.specs.Telling.{summed}
use Rattle.machine_parts.specs.Ways.{Ways, valued}
use Rattle.machine_parts.specs.way.Clauses.{made_ways}
use Rattle.machine_forms.specs.declared.telling.Telling.{Telling}
use Rattle.machine_forms.specs.way.Calling.{telling_ways}
use Rattle.machine_forms.specs.way.Updating.{becomes}

none_admitted : (p : CoreProgram) (types : List Ty) → admit_all p types [] ≡ ret tt
none_admitted p [] = refl
none_admitted p (ty ∷ types) = refl

either : (b : Bool) (m : Computation Nothing) → m ≡ ret tt → (if b then ret tt else m) ≡ ret tt
either true m e = refl
either false m e = e

nothing_handed : (p : CoreProgram) (named method : CoreMethod) → hand_on p named method [] ≡ ret tt
nothing_handed p named method = either (same_types named.params method.params) _ (none_admitted p method.params)

there : {A : Type 0} (o : Option A) (a : A) (go : A → Answer) → o ≡ Some a → on_some o go ≡ go a
there o a go e = ap (λ o'. on_some o' go) e

pub told_first : (p : CoreProgram) (m : Meanings) (object : ObjId) (own : Ty) (named method : CoreMethod) (member : Member) (go : Value → Run) (exits : Exits) (s : State) →
    type_of s.world.objects object.0 ≡ Some own → method_at p object_class to_string_place ≡ Some named →
    dispatched p (receiving_class own.dims own.base) (member_at object_class to_string_place) ≡ Some member → method_of p member ≡ Some method →
    to_string p m object go exits s ≡ run_member p m member method (Ref object) [] go exits s
unfolding ret bind seq need deref get_type get_receiving_class
told_first p m object own named method member go exits s c n d f =
    there _ own _ c ∙ there _ named _ n ∙ there _ member _ d ∙ there _ method _ f
    ∙ (λ i. nothing_handed p named method i (λ u. run_member p m member method (Ref object) [] go exits) exits s)

-- how it goes on with what the call came to
pub told_on : (p : CoreProgram) (m : Meanings) (object : ObjId) (telling : Telling) (rest : Value → Computation Value) (k : Ways) (s after : State) →
    ((go : Value → Run) (exits : Exits) → telling_ways m telling go exits after ≡ to_string p m object go exits s) →
    telling_ways m telling (λ v. valued (rest v) k) k.out after ≡ valued (bind (to_string p m object) rest) k s
unfolding bind
told_on p m object telling rest k s after h = h (λ v. valued (rest v) k) k.out

-- what becomes of the string that was made

summed_is : (p : CoreProgram) (sum : Sum) (units : List ℕ) → bind (make_text units) (λ text. becomes p sum (Ref text)) ≡ summed p sum units
unfolding bind
summed_is p Given units = refl
summed_is p (Stored node object index old) units = refl

-- how it goes on with what the making of the string came to
pub summed_first : (p : CoreProgram) (sum : Sum) (units : List ℕ) (made : Made) (k : Ways) (s after : State) →
    ((go : ObjId → Run) (exits : Exits) → made_ways made go after ≡ make_text units go exits s) →
    made_ways made (λ text. becomes p sum (Ref text) k.give k.out) after ≡ valued (summed p sum units) k s
unfolding bind
summed_first p sum units made k s after h = h _ k.out ∙ ap (λ (n : Computation Value). valued n k s) (summed_is p sum units)
