-- The exceptions that evaluation itself throws stand in the library, below Throwable.
use Rattle.je_sound.proofs.Library.{there-too}
use Rattle.std.proofs.Common.{◌≡◌, ℕ, List, ◌∷◌, [], Some, refl, sym, ap, subst, ◌∙◌}
use Rattle.std.specs.Prelude.{true, slice_get, codes}
use Rattle.std.specs.List.{Contains}
use Rattle.je_base.specs.declared.span.NameId.{NameId}
use Rattle.je_core.specs.declared.types.ClassId.{ClassId}
use Rattle.je_core.specs.Core.{CoreClass, CoreProgram}
use Rattle.je_table.specs.declared.classes.LibraryClass.TheVariants as class
use Rattle.je_table.specs.Library.{class_row}
use Rattle.je_classes.specs.Hierarchy.{class_at, library_class, supers_in, Below, same, above, is_below}
use Rattle.je_classes.proofs.Below.{below-from}
use Rattle.je_classes.proofs.Lists.{contains-here}
use Rattle.je_fitting.specs.Expressions.{can_be_made}
use Rattle.je_java.specs.Raised.{null_pointer, arithmetic, array_index, array_store, negative_size, class_cast, string_index, number_format, illegal_state}
use Rattle.je_sound.specs.Objects.{throwable_class}
use Rattle.library_classes.specs.Library.{LibraryStands, all_due, class_due, rows}

-- a class whose instances can be thrown
pub record CanRaise (p : CoreProgram) (k : ClassId) : Type 0 where
  pub class : CoreClass
  pub there : class_at p k ≡ Some class
  pub made : can_be_made class ≡ true
  pub below : is_below p k throwable_class ≡ true

-- a class of the library whose objects can be made, and the class above it
record IsDue (number : List ℕ → NameId) (k : ClassId) (up : ClassId) : Type 0 where
  class : CoreClass
  there : slice_get (all_due number) k.0 ≡ Some class
  made : can_be_made class ≡ true
  others : List ClassId
  supers : supers_in (Some class) ≡ up ∷ others

abbrev exception : ClassId
exception = library_class (codes "java.lang.Exception")

abbrev runtime_exception : ClassId
runtime_exception = library_class (codes "java.lang.RuntimeException")

abbrev index_exception : ClassId
index_exception = library_class (codes "java.lang.IndexOutOfBoundsException")

exception-due : (number : List ℕ → NameId) → IsDue number exception throwable_class
unfolding library_class throwable_class all_due rows
exception-due number = record { class = class_due number 24 (class_row class.Exception); there = refl; made = refl; others = []; supers = refl }

runtime-due : (number : List ℕ → NameId) → IsDue number runtime_exception exception
unfolding library_class all_due rows
runtime-due number = record { class = class_due number 26 (class_row class.RuntimeException); there = refl; made = refl; others = []; supers = refl }

index-due : (number : List ℕ → NameId) → IsDue number index_exception runtime_exception
unfolding library_class all_due rows
index-due number = record { class = class_due number 32 (class_row class.IndexOutOfBoundsException); there = refl; made = refl; others = []; supers = refl }

null-due : (number : List ℕ → NameId) → IsDue number null_pointer runtime_exception
unfolding library_class null_pointer all_due rows
null-due number = record { class = class_due number 34 (class_row class.NullPointerException); there = refl; made = refl; others = []; supers = refl }

arithmetic-due : (number : List ℕ → NameId) → IsDue number arithmetic runtime_exception
unfolding library_class arithmetic all_due rows
arithmetic-due number = record { class = class_due number 27 (class_row class.ArithmeticException); there = refl; made = refl; others = []; supers = refl }

cast-due : (number : List ℕ → NameId) → IsDue number class_cast runtime_exception
unfolding library_class class_cast all_due rows
cast-due number = record { class = class_due number 29 (class_row class.ClassCastException); there = refl; made = refl; others = []; supers = refl }

store-due : (number : List ℕ → NameId) → IsDue number array_store runtime_exception
unfolding library_class array_store all_due rows
store-due number = record { class = class_due number 28 (class_row class.ArrayStoreException); there = refl; made = refl; others = []; supers = refl }

size-due : (number : List ℕ → NameId) → IsDue number negative_size runtime_exception
unfolding library_class negative_size all_due rows
size-due number = record { class = class_due number 33 (class_row class.NegativeArraySizeException); there = refl; made = refl; others = []; supers = refl }

place-due : (number : List ℕ → NameId) → IsDue number array_index index_exception
unfolding library_class array_index all_due rows
place-due number = record { class = class_due number 36 (class_row class.ArrayIndexOutOfBoundsException); there = refl; made = refl; others = []; supers = refl }

abbrev argument_exception : ClassId
argument_exception = library_class (codes "java.lang.IllegalArgumentException")

argument-due : (number : List ℕ → NameId) → IsDue number argument_exception runtime_exception
unfolding library_class all_due rows
argument-due number = record { class = class_due number 30 (class_row class.IllegalArgumentException); there = refl; made = refl; others = []; supers = refl }

state-due : (number : List ℕ → NameId) → IsDue number illegal_state runtime_exception
unfolding library_class illegal_state all_due rows
state-due number = record { class = class_due number 31 (class_row class.IllegalStateException); there = refl; made = refl; others = []; supers = refl }

string-place-due : (number : List ℕ → NameId) → IsDue number string_index index_exception
unfolding library_class string_index all_due rows
string-place-due number = record { class = class_due number 37 (class_row class.StringIndexOutOfBoundsException); there = refl; made = refl; others = []; supers = refl }

format-due : (number : List ℕ → NameId) → IsDue number number_format argument_exception
unfolding library_class number_format all_due rows
format-due number = record { class = class_due number 38 (class_row class.NumberFormatException); there = refl; made = refl; others = []; supers = refl }

module _ (p : CoreProgram) (s : LibraryStands p) where
  up : {k d last : ClassId} → IsDue s.number k d → Below p d last → Below p k last
  up {k = k} {d = d} q r = above (subst (λ cs. Contains cs d) (sym (ap supers_in (there-too p s k q.class q.there) ∙ q.supers)) (contains-here d q.others)) r

  exception-below : Below p exception throwable_class
  exception-below = up (exception-due s.number) same

  runtime-below : Below p runtime_exception throwable_class
  runtime-below = up (runtime-due s.number) exception-below

  raises : {k d : ClassId} → IsDue s.number k d → Below p d throwable_class → CanRaise p k
  raises {k = k} q r = record { class = q.class; there = there-too p s k q.class q.there; made = q.made; below = below-from p (up q r) }

  pub raises-null : CanRaise p null_pointer
  raises-null = raises (null-due s.number) runtime-below

  pub raises-arithmetic : CanRaise p arithmetic
  raises-arithmetic = raises (arithmetic-due s.number) runtime-below

  pub raises-cast : CanRaise p class_cast
  raises-cast = raises (cast-due s.number) runtime-below

  pub raises-store : CanRaise p array_store
  raises-store = raises (store-due s.number) runtime-below

  pub raises-size : CanRaise p negative_size
  raises-size = raises (size-due s.number) runtime-below

  pub raises-index : CanRaise p array_index
  raises-index = raises (place-due s.number) (up (index-due s.number) runtime-below)

  pub raises-state : CanRaise p illegal_state
  raises-state = raises (state-due s.number) runtime-below

  pub raises-string-index : CanRaise p string_index
  raises-string-index = raises (string-place-due s.number) (up (index-due s.number) runtime-below)

  pub raises-format : CanRaise p number_format
  raises-format = raises (format-due s.number) (up (argument-due s.number) runtime-below)
