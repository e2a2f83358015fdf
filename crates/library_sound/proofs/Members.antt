-- Each member of each class is safe, or wild, or abstract; so each tame one that can run is safe.
use Rattle.std.proofs.Common.{◌≡◌, ◌+◌, ◌≤◌, ◌<◌, ℕ, List, [], ◌∷◌, length, Some, None, refl, sym, ap, subst, ◌∙◌, inl, inr, arith}
use Rattle.std.specs.Prelude.{true, false, ◌⊎◌, slice_get, get_or, codes}
use Rattle.std.proofs.lemmas.Bool.Decides.{nat_tests}
use Rattle.std.proofs.lemmas.Option.{slice_get_cases}
use Rattle.je_base.specs.declared.span.NameId.{NameId}
use Rattle.je_core.specs.declared.types.ClassId.{ClassId}
use Rattle.je_core.specs.declared.value.Value.{Value}
use Rattle.je_core.specs.Core.{CoreClass, CoreMethod, CoreProgram}
use Rattle.je_table.specs.declared.classes.LibraryClass.{LibraryClass}
use Rattle.je_table.specs.declared.classes.LibraryClass.TheVariants as class
use Rattle.je_table.specs.declared.members.CostKind.TheVariants as cost
use Rattle.je_table.specs.declared.types.RowBase.TheVariants as base
use Rattle.je_table.specs.Library.{class_row}
use Rattle.je_table.specs.Library as table
use Rattle.je_table.specs.Rows.{row_of}
use Rattle.je_classes.specs.Hierarchy.{library_class}
use Rattle.je_classes.specs.Laws.{SubtypesAreDecided}
use Rattle.je_classes.specs.Members.{methods_in}
use Rattle.je_fitting.proofs.Booleans.{both}
use Rattle.je_java.specs.LibraryClasses.{string_class}
use Rattle.je_java.specs.LibraryMembers.{has_own_makers, member_of_class, member_row}
use Rattle.je_java.specs.library.Throwables.{refused_class, throwable_class, throwable_member}
use Rattle.je_sound.proofs.Library.{there-too}
use Rattle.library_classes.specs.Library.{all_due, method_due, methods_due, rows}
use Rattle.class_names.specs.Words.{class_words, further_words, library_words, member_words}
use Rattle.library_places.specs.Places.{library_place}
use Rattle.eval_sound.specs.Premises.{IsOfLibrary, MakerIsSafe, MemberIsSafe}
use Rattle.plain_programs.specs.Wild.{is_wild}
use Rattle.eval_sound.specs.Safety.{Any, Safe, Setting}
use Rattle.eval_sound.proofs.Evaluation.{known}
use Rattle.library_fits.proofs.Table.{apart}
use Rattle.eval_sound.proofs.Moves.{any, fits-more, safe-ret}
use Rattle.library_fits.proofs.Named.{constructor-named, method-named}
use Rattle.eval_sound.proofs.Types.{Known, fits-above}
use Rattle.library_sound.specs.Laws.{IsTame, MakersAreSafe, MembersAreSafe}
use Rattle.library_sound.proofs.Arguments.{given-at, pay-plain}
use Rattle.library_sound.proofs.Cases.{◌⋄◌, ◌⋄⋄◌, none, no_class, Case, Each, EachClass, abstract, each-at, each-class-at, is_tame_in, library_number, maker, member, method, paid, paid-void, runs, wild}
use Rattle.library_sound.proofs.Classes.{Members, of-builder, of-const-row, of-int-row, of-integer, of-long, of-math, of-object, of-string, of-text-row, of-token}
use Rattle.library_sound.proofs.Throwables.{climbs, safe-code, safe-message, safe-with_message, thrown-agrees}

-- ---- classes below Throwable

abbrev empty_row : LibraryClass → table.Member
empty_row c = table.method c (codes "new") [] (table.of base.Void) cost.Plain

abbrev text_row : LibraryClass → table.Member
text_row c = table.method c (codes "new") (table.text ∷ []) (table.of base.Void) cost.Plain

-- a class that has the two constructors of an exception alone
record IsException (number : List ℕ → NameId) (n : ℕ) (c : LibraryClass) : Type 0 where
  empty : member_row (library_number n) 0 ≡ Some (empty_row c)
  with_text : member_row (library_number n) 1 ≡ Some (text_row c)
  methods : methods_due number (class_row c) ≡ method_due number (class_row c) (row_of (empty_row c)) ∷ method_due number (class_row c) (row_of (text_row c)) ∷ []
  handed : has_own_makers (library_number n) ≡ false
  below : climbs number 5 (library_number n) ≡ true
  does : (program : CoreProgram) (own : ClassId) (signature : List ℕ) (this : Value) (given : List Value) →
      member_of_class c program own signature this given ≡ throwable_member program signature this given

count : (number : List ℕ → NameId) → length (all_due number) ≡ 39
unfolding all_due
count number = refl

module _ (S : Setting) (fit : Known S.program) where
  of-exception : (n : ℕ) (c : LibraryClass) → IsException fit.library.number n c → Members S fit.library.number n c
  unfolding library_class throwable_member string_class
  of-exception n c is = subst (Each S fit.library.number (library_number n) 0) (sym is.methods) (
      member (ap is_tame_in is.empty) is.handed (runs fit _ _ _ _ is.empty λ w objects this given f h. paid-void fit (pay-plain fit this given) h λ l g a.
      subst (λ m. Safe S w l Any m) (sym (is.does S.program (library_number n) (codes "new()") this given)) (safe-ret _ any)) ⋄
      member (ap is_tame_in is.with_text) is.handed (runs fit _ _ _ _ is.with_text λ w objects this given f h. paid-void fit (pay-plain fit this given) h λ l g a.
      subst (λ m. Safe S w l Any m) (sym (is.does S.program (library_number n) (codes "new(String)") this given))
      (safe-with_message fit (fits-above S.program fit (fits-more g (f refl)) (thrown-agrees S.program fit 5 (library_number n) is.below)) (given-at 0 a refl))) ⋄ none)

  of-throwable : Members S fit.library.number 9 class.Throwable
  unfolding library_place library_class rows throwable_member throwable_class string_class has_own_makers
  of-throwable =
      member refl refl (runs fit _ _ _ _ refl λ c w this given f h. paid fit (pay-plain fit this given) h λ l g a. safe-message fit (fits-more g (f refl))) ⋄
      member refl refl (runs fit _ _ _ _ refl λ c w this given f h. paid-void fit (pay-plain fit this given) h λ l g a. safe-ret _ any) ⋄
      member refl refl (runs fit _ _ _ _ refl λ c w this given f h. paid-void fit (pay-plain fit this given) h λ l g a. safe-with_message fit (fits-more g (f refl)) (given-at 0 a refl)) ⋄
      none

  of-refused : Members S fit.library.number 23 class.Refused
  unfolding library_place library_class rows throwable_member refused_class has_own_makers
  of-refused = member refl refl (runs fit _ _ _ _ refl λ c w this given f h. paid fit (pay-plain fit this given) h λ l g a. safe-code fit (fits-more g (f refl))) ⋄ none

  -- ---- wild members, and those of interfaces

  of-system : Members S fit.library.number 6 class.System
  unfolding library_place library_class rows is_wild library_words class_words member_words further_words
  of-system =
      wild refl refl (codes "currentTimeMillis") (record { name = refl; there = refl; other = refl }) ⋄
      wild refl refl (codes "getProperty") (record { name = refl; there = refl; other = refl }) ⋄
      wild refl refl (codes "identityHashCode") (record { name = refl; there = refl; other = refl }) ⋄
      wild refl refl (codes "setProperty") (record { name = refl; there = refl; other = refl }) ⋄
      none

  of-comparable : Members S fit.library.number 7 class.Comparable
  unfolding rows
  of-comparable = abstract refl ⋄ none

  of-runnable : Members S fit.library.number 8 class.Runnable
  unfolding rows
  of-runnable = abstract refl ⋄ none

  of-console : Members S fit.library.number 18 class.Console
  unfolding rows
  of-console = abstract refl ⋄ none

  of-cell : Members S fit.library.number 19 class.Cell
  unfolding rows
  of-cell = abstract refl ⋄ abstract refl ⋄ none

  of-clock : Members S fit.library.number 20 class.Clock
  unfolding rows
  of-clock = abstract refl ⋄ none

  of-inbox : Members S fit.library.number 21 class.Inbox
  unfolding rows
  of-inbox = abstract refl ⋄ none

  of-store : Members S fit.library.number 22 class.Store
  unfolding rows
  of-store = abstract refl ⋄ abstract refl ⋄ none

  -- ---- all of them

  is-Exception : IsException fit.library.number 24 class.Exception
  unfolding library_place library_class rows throwable_class all_due has_own_makers
  is-Exception = record { empty = refl; with_text = refl; methods = refl; handed = refl; below = refl; does = λ program own signature this given. refl }

  is-Error : IsException fit.library.number 25 class.Error
  unfolding library_place library_class rows throwable_class all_due has_own_makers
  is-Error = record { empty = refl; with_text = refl; methods = refl; handed = refl; below = refl; does = λ program own signature this given. refl }

  is-RuntimeException : IsException fit.library.number 26 class.RuntimeException
  unfolding library_place library_class rows throwable_class all_due has_own_makers
  is-RuntimeException = record { empty = refl; with_text = refl; methods = refl; handed = refl; below = refl; does = λ program own signature this given. refl }

  is-ArithmeticException : IsException fit.library.number 27 class.ArithmeticException
  unfolding library_place library_class rows throwable_class all_due has_own_makers
  is-ArithmeticException = record { empty = refl; with_text = refl; methods = refl; handed = refl; below = refl; does = λ program own signature this given. refl }

  is-ArrayStoreException : IsException fit.library.number 28 class.ArrayStoreException
  unfolding library_place library_class rows throwable_class all_due has_own_makers
  is-ArrayStoreException = record { empty = refl; with_text = refl; methods = refl; handed = refl; below = refl; does = λ program own signature this given. refl }

  is-ClassCastException : IsException fit.library.number 29 class.ClassCastException
  unfolding library_place library_class rows throwable_class all_due has_own_makers
  is-ClassCastException = record { empty = refl; with_text = refl; methods = refl; handed = refl; below = refl; does = λ program own signature this given. refl }

  is-IllegalArgumentException : IsException fit.library.number 30 class.IllegalArgumentException
  unfolding library_place library_class rows throwable_class all_due has_own_makers
  is-IllegalArgumentException = record { empty = refl; with_text = refl; methods = refl; handed = refl; below = refl; does = λ program own signature this given. refl }

  is-IllegalStateException : IsException fit.library.number 31 class.IllegalStateException
  unfolding library_place library_class rows throwable_class all_due has_own_makers
  is-IllegalStateException = record { empty = refl; with_text = refl; methods = refl; handed = refl; below = refl; does = λ program own signature this given. refl }

  is-IndexOutOfBoundsException : IsException fit.library.number 32 class.IndexOutOfBoundsException
  unfolding library_place library_class rows throwable_class all_due has_own_makers
  is-IndexOutOfBoundsException = record { empty = refl; with_text = refl; methods = refl; handed = refl; below = refl; does = λ program own signature this given. refl }

  is-NegativeArraySizeException : IsException fit.library.number 33 class.NegativeArraySizeException
  unfolding library_place library_class rows throwable_class all_due has_own_makers
  is-NegativeArraySizeException = record { empty = refl; with_text = refl; methods = refl; handed = refl; below = refl; does = λ program own signature this given. refl }

  is-NullPointerException : IsException fit.library.number 34 class.NullPointerException
  unfolding library_place library_class rows throwable_class all_due has_own_makers
  is-NullPointerException = record { empty = refl; with_text = refl; methods = refl; handed = refl; below = refl; does = λ program own signature this given. refl }

  is-UnsupportedOperationException : IsException fit.library.number 35 class.UnsupportedOperationException
  unfolding library_place library_class rows throwable_class all_due has_own_makers
  is-UnsupportedOperationException = record { empty = refl; with_text = refl; methods = refl; handed = refl; below = refl; does = λ program own signature this given. refl }

  is-ArrayIndexOutOfBoundsException : IsException fit.library.number 36 class.ArrayIndexOutOfBoundsException
  unfolding library_place library_class rows throwable_class all_due has_own_makers
  is-ArrayIndexOutOfBoundsException = record { empty = refl; with_text = refl; methods = refl; handed = refl; below = refl; does = λ program own signature this given. refl }

  is-StringIndexOutOfBoundsException : IsException fit.library.number 37 class.StringIndexOutOfBoundsException
  unfolding library_place library_class rows throwable_class all_due has_own_makers
  is-StringIndexOutOfBoundsException = record { empty = refl; with_text = refl; methods = refl; handed = refl; below = refl; does = λ program own signature this given. refl }

  is-NumberFormatException : IsException fit.library.number 38 class.NumberFormatException
  unfolding library_place library_class rows throwable_class all_due has_own_makers
  is-NumberFormatException = record { empty = refl; with_text = refl; methods = refl; handed = refl; below = refl; does = λ program own signature this given. refl }

  all-members : EachClass S fit.library.number 0 (all_due fit.library.number)
  unfolding all_due rows
  all-members =
      of-object S fit ⋄⋄
      of-string S fit ⋄⋄
      of-builder S fit ⋄⋄
      of-integer S fit ⋄⋄
      of-long S fit ⋄⋄
      of-math S fit ⋄⋄
      of-system ⋄⋄
      of-comparable ⋄⋄
      of-runnable ⋄⋄
      of-throwable ⋄⋄
      none ⋄⋄
      none ⋄⋄
      none ⋄⋄
      none ⋄⋄
      of-token S fit ⋄⋄
      of-const-row S fit ⋄⋄
      of-int-row S fit ⋄⋄
      of-text-row S fit ⋄⋄
      of-console ⋄⋄
      of-cell ⋄⋄
      of-clock ⋄⋄
      of-inbox ⋄⋄
      of-store ⋄⋄
      of-refused ⋄⋄
      of-exception 24 class.Exception is-Exception ⋄⋄
      of-exception 25 class.Error is-Error ⋄⋄
      of-exception 26 class.RuntimeException is-RuntimeException ⋄⋄
      of-exception 27 class.ArithmeticException is-ArithmeticException ⋄⋄
      of-exception 28 class.ArrayStoreException is-ArrayStoreException ⋄⋄
      of-exception 29 class.ClassCastException is-ClassCastException ⋄⋄
      of-exception 30 class.IllegalArgumentException is-IllegalArgumentException ⋄⋄
      of-exception 31 class.IllegalStateException is-IllegalStateException ⋄⋄
      of-exception 32 class.IndexOutOfBoundsException is-IndexOutOfBoundsException ⋄⋄
      of-exception 33 class.NegativeArraySizeException is-NegativeArraySizeException ⋄⋄
      of-exception 34 class.NullPointerException is-NullPointerException ⋄⋄
      of-exception 35 class.UnsupportedOperationException is-UnsupportedOperationException ⋄⋄
      of-exception 36 class.ArrayIndexOutOfBoundsException is-ArrayIndexOutOfBoundsException ⋄⋄
      of-exception 37 class.StringIndexOutOfBoundsException is-StringIndexOutOfBoundsException ⋄⋄
      of-exception 38 class.NumberFormatException is-NumberFormatException ⋄⋄
      no_class

  -- a member of the library
  pub case-of : (k : ClassId) (at : ℕ) (m : CoreMethod) → IsOfLibrary S.program k at m → Case S fit.library.number k at m
  case-of k at m of = by (slice_get_cases (all_due fit.library.number) k.0).1
    where
      within : k.0 < 39
      within = grind (arith, nat_tests, of.of_library)

      by : ((c : CoreClass) × (k.0 < length (all_due fit.library.number)) × (slice_get (all_due fit.library.number) k.0 ≡ Some c) × (get_or (all_due fit.library.number) k.0 c ≡ c)) ⊎
          ((length (all_due fit.library.number) ≤ k.0) × (slice_get (all_due fit.library.number) k.0 ≡ None)) → Case S fit.library.number k at m
      by (inl (c, l, e, u)) =
          let p : at + 0 ≡ at = omega arith in
          let q : k.0 + 0 ≡ k.0 = omega arith in
          let methods = subst (λ n. Each S fit.library.number (library_number n) 0 c.methods) q (each-class-at S fit.library.number 0 (all_due fit.library.number) all-members k.0 c e) in
          subst (λ n. Case S fit.library.number k n m) p (each-at S fit.library.number k 0 c.methods methods at m (ap (λ o. slice_get (methods_in o) at) (sym (there-too S.program fit.library k c e)) ∙ of.there))
      by (inr (l, u)) = absurd (omega (arith, count fit.library.number, within))

pub wild-or-tame : {A : Type 0} (k : ClassId) (at : ℕ) → IsTame k at → is_tame_in (member_row k at) ≡ false → A
wild-or-tame k at tame e = apart tame.tame (sym (ap is_tame_in tame.there) ∙ e)

pub members_are_safe : SubtypesAreDecided → MembersAreSafe
members_are_safe decided setting f class at m of tame which = by (case-of setting fit class at m of)
  where
    fit : Known setting.program
    fit = known decided f

    by : Case setting fit.library.number class at m → MemberIsSafe setting class at m
    by (member row handed safe) = safe
    by (method row word is safe) = safe
    by (maker row own name safe) = apart (both own (constructor-named setting.program fit.library m name)) which
    by (wild e is word w) = wild-or-tame class at tame e
    by (abstract e) = apart e of.concrete

pub makers_are_safe : SubtypesAreDecided → MakersAreSafe
makers_are_safe decided setting f class at m of tame own is = by (case-of setting fit class at m of)
  where
    fit : Known setting.program
    fit = known decided f

    by : Case setting fit.library.number class at m → MakerIsSafe setting class at m
    by (member row handed safe) = apart own handed
    by (method row word w safe) = apart is (method-named setting.program fit.library m word w.name w.there w.other)
    by (maker row own' name safe) = safe
    by (wild e is word w) = wild-or-tame class at tame e
    by (abstract e) = apart e of.concrete
