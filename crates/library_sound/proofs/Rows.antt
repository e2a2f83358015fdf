-- Worked rows: `charAt` of String, of each program that has the library's classes, is a tame method that can run, and the constructor
-- of StringBuilder makes its object; `hashCode` of Object is no tame member.
use Rattle.std.proofs.Common.{◌≡◌, ℕ, List, Some, refl}
use Rattle.std.specs.Prelude.{true, false, slice_get, codes}
use Rattle.je_base.specs.declared.span.NameId.{NameId}
use Rattle.je_core.specs.declared.types.ClassId.{ClassId}
use Rattle.je_core.specs.Core.{CoreMethod, CoreProgram}
use Rattle.je_classes.specs.Hierarchy.{library_class}
use Rattle.je_classes.specs.Members.{methods_in}
use Rattle.je_fitting.specs.Expressions.{is_constructor}
use Rattle.je_java.specs.LibraryClasses.{builder_class, string_class}
use Rattle.je_java.specs.LibraryMembers.{has_own_makers}
use Rattle.library_classes.specs.Library.{LibraryStands, all_due, rows}
use Rattle.library_places.specs.Places.{library_place}
use Rattle.eval_sound.specs.Premises.{IsOfLibrary}
use Rattle.library_fits.proofs.Named.{constructor-named, method-there}
use Rattle.library_sound.specs.Laws.{IsTame}
use Rattle.library_sound.proofs.Members.{wild-or-tame}

-- a method of the library's classes that isn't abstract
record Stands (number : List ℕ → NameId) (k : ClassId) (at : ℕ) (word : List ℕ) : Type 0 where
  method : CoreMethod
  there : slice_get (methods_in (slice_get (all_due number) k.0)) at ≡ Some method
  concrete : method.flags.is_abstract ≡ false
  name : method.name ≡ number word

char-at : (number : List ℕ → NameId) → Stands number string_class 0 (codes "charAt")
unfolding library_class string_class all_due rows
char-at number = record { method = _; there = refl; concrete = refl; name = refl }

new-builder : (number : List ℕ → NameId) → Stands number builder_class 8 (codes "new")
unfolding library_class builder_class all_due rows
new-builder number = record { method = _; there = refl; concrete = refl; name = refl }

a_method : (p : CoreProgram) (s : LibraryStands p) → IsOfLibrary p string_class 0 (char-at s.number).method
unfolding library_class string_class
a_method p s = let m = char-at s.number in record { there = method-there p s string_class 0 m.method m.there; of_library = refl; concrete = m.concrete }

a_tame_method : IsTame string_class 0
unfolding library_class string_class library_place
a_tame_method = record { row = _; there = refl; tame = refl }

a_maker : (p : CoreProgram) (s : LibraryStands p) → IsOfLibrary p builder_class 8 (new-builder s.number).method × (is_constructor p (new-builder s.number).method ≡ true)
unfolding library_class builder_class
a_maker p s = let m = new-builder s.number in (record { there = method-there p s builder_class 8 m.method m.there; of_library = refl; concrete = m.concrete }, constructor-named p s m.method m.name)

makes_its_object : IsTame builder_class 8 × (has_own_makers builder_class ≡ true)
unfolding library_class builder_class library_place has_own_makers
makes_its_object = (record { row = _; there = refl; tame = refl }, refl)

abbrev object : ClassId
object = record { 0 = 0 }

wild : ¬ IsTame object 1
unfolding library_place
wild t = wild-or-tame object 1 t refl
