-- An elaborated program fits.
use Rattle.std.proofs.Common.{◌≡◌, ℕ, suc, ◌<◌, ◌≤◌, ◌⊎◌, inl, inr, List, [], ◌∷◌, ◌++◌, length, Some, refl, ap, subst, arith}
use Rattle.std.specs.Prelude.{drop, slice_get}
use Rattle.std.proofs.lemmas.Option.{same_Some}
use Rattle.std.proofs.lemmas.Bool.{cases_lt}
use Rattle.je_core.specs.Core.{CoreClass, CoreProgram}
use Rattle.je_classes.specs.Hierarchy.{class_at}
use Rattle.je_fitting.specs.Program.{FitsWhole, IsPart, Part, PartFits, a_field, a_method, field_fits, is_field, is_itself, is_method, itself, itself_fits, method_fits}
use Rattle.je_scopes.specs.Source.{Source}
use Rattle.source_types.specs.Erasure.{class_numbered}
use Rattle.class_typing.specs.Programs.{library_count, number}
use Rattle.library_classes.specs.Library.{LibraryStands, all_due}
use Rattle.library_classes.proofs.Standing.{programs_stand}
use Rattle.library_fits.specs.Laws.{LibraryFits}
use Rattle.elaborated_laws.specs.Elaborated.{IsElaborated}
use Rattle.elaborated_laws.proofs.Classes.{library-counts}
use Rattle.program_laws.specs.Laws.{ProgramFits}
use Rattle.program_laws.specs.Premises.{ClassesStand, SourceIsSound}
use Rattle.program_laws.proofs.Classes.{classes_fit}
use Rattle.program_laws.proofs.Fields.{fields_fit}
use Rattle.program_laws.proofs.Methods.{library-numbered, methods_fit}

module _ (source : Source) (program : CoreProgram) (e : IsElaborated source program) (sound : SourceIsSound source program e)
    (stand : ClassesStand source program e) where
  guest-fits : (c : ℕ) (class : CoreClass) → library_count source ≤ c → class_at program (class_numbered c) ≡ Some class →
      FitsWhole program (class_numbered c) class
  guest-fits c class le there = record { parts = by }
    where
      by : (part : Part) → IsPart class part → PartFits program (class_numbered c) class part
      by itself is_itself = itself_fits
          (classes_fit source program e sound c class le there (stand.bodies c class le there)
          (stand.parts c class le there) (stand.implementations c class le there))
      by (a_field at) (is_field {f = f} here) =
          field_fits here (fields_fit source program e sound c class le there (stand.parts c class le there) at f here)
      by (a_method at) (is_method {m = m} here) = method_fits here
          (methods_fit source program e sound c class le there (stand.bodies c class le there) at m here)

-- ---- the library's classes

prefix : {A : Type 0} (xs ys : List A) → ((n : ℕ) → n < length xs → slice_get ys n ≡ slice_get xs n) → ys ≡ xs ++ drop (length xs) ys
prefix [] ys h = refl
prefix (x ∷ xs) [] h = absurd (let e = h 0 (omega arith) in cc)
prefix (x ∷ xs) (y ∷ ys) h = let e : y ≡ x = same_Some y x (h 0 (omega arith)) in rw e (ap (λ zs. x ∷ zs) (prefix xs ys (λ n l. h (suc n) (omega (arith, l)))))

library-stands : (source : Source) (program : CoreProgram) (e : IsElaborated source program) → SourceIsSound source program e → LibraryStands program
library-stands source program e sound =
    programs_stand source.texts program (drop (length (all_due (number source))) program.classes) sound.words.numbered
    (prefix (all_due (number source)) program.classes (λ n l. e.has.library n (subst (λ m. n < m) (library-counts (number source)) l)))

pub programs_fit : LibraryFits → (source : Source) (program : CoreProgram) (e : IsElaborated source program) → ProgramFits source program e
programs_fit library source program e sound stand id class there =
    by (cases_lt id.0 (library_count source))
  where
    by : (id.0 < library_count source ⊎ library_count source ≤ id.0) → FitsWhole program id class
    by (inl l) = library program (library-stands source program e sound) id class (library-numbered source id l) there
    by (inr le) = guest-fits source program e sound stand id.0 class le there
