-- What is declared of a class, in the list of all classes, in that of their headers, and with hidden fields.
use Rattle.std.proofs.Common.{◌≡◌, ℕ, zero, suc, ◌+◌, ◌<◌, List, [], ◌∷◌, ◌++◌, length, Some, refl, sym, ap, ◌∙◌, arith, zero-add}
use Rattle.std.specs.Prelude.{option_map, slice_get}
use Rattle.je_base.specs.declared.span.NameId.{NameId}
use Rattle.je_table.specs.Library.{Class, classes as rows}
use Rattle.je_scopes.specs.Source.{Source}
use Rattle.source_types.specs.Heads.{head_at}
use Rattle.declarations.specs.Declarations.{DeclaredClass}
use Rattle.name_walk.proofs.Standing.{slice_get-append}
use Rattle.class_heads.specs.Headers.{class_heads, head_of, heads_from}
use Rattle.library_classes.specs.Library.{all_due, class_due, classes_due}
use Rattle.library_declarations.specs.Library.{class_declared, classes_declared, library_declared}
use Rattle.class_typing.specs.Elaboration.{BodiesMet}
use Rattle.class_typing.specs.Programs.{CapturedLocal, classes, heads, hidden_fields, library_count, number, plain_program, with_hidden}
use Rattle.elaborated_laws.specs.Elaborated.{captured_by, program_of}
use Rattle.elaborated_laws.proofs.Classes.{due-count, library-counts}
use Rattle.elaborated_laws.proofs.Lists.{placed}

-- ---- the program

pub heads-are : (source : Source) (first : BodiesMet) → (program_of source first).heads ≡ heads source
unfolding plain_program
heads-are source first = refl

pub classes-are : (source : Source) (first : BodiesMet) →
    (program_of source first).classes ≡ with_hidden source (captured_by source first) 0 (classes source)
unfolding plain_program
classes-are source first = refl

-- ---- of a class

abbrev pub hidden-before : Source → (ℕ → List CapturedLocal) → ℕ → DeclaredClass → DeclaredClass
hidden-before source captured c d = record d { fields = hidden_fields source captured c ++ d.fields }

hidden-from : (source : Source) (captured : ℕ → List CapturedLocal) (ds : List DeclaredClass) (at c : ℕ) →
    slice_get (with_hidden source captured at ds) c ≡ option_map (hidden-before source captured (at + c)) (slice_get ds c)
hidden-from source captured [] at c = refl
hidden-from source captured (d ∷ ds) at zero =
    let here : at ≡ at + 0 = omega arith in ap (λ n. Some (hidden-before source captured n d)) here
hidden-from source captured (d ∷ ds) at (suc c) =
    let there : suc at + c ≡ at + suc c = omega arith in
    hidden-from source captured ds (suc at) c
    ∙ ap (λ n. option_map (hidden-before source captured n) (slice_get ds c)) there

heads-get : (all ds : List DeclaredClass) (at c : ℕ) →
    slice_get (heads_from all at ds) c ≡ option_map (head_of all (at + c)) (slice_get ds c)
heads-get all [] at c = refl
heads-get all (d ∷ ds) at zero = let here : at ≡ at + 0 = omega arith in ap (λ n. Some (head_of all n d)) here
heads-get all (d ∷ ds) at (suc c) =
    let there : suc at + c ≡ at + suc c = omega arith in
    heads-get all ds (suc at) c ∙ ap (λ n. option_map (head_of all n) (slice_get ds c)) there

pub heads-at : (source : Source) (c : ℕ) →
    head_at (heads source) c ≡ option_map (head_of (classes source) c) (slice_get (classes source) c)
unfolding heads class_heads
heads-at source c =
    heads-get (classes source) (classes source) 0 c
    ∙ ap (λ n. option_map (head_of (classes source) n) (slice_get (classes source) c)) (zero-add c)

pub head-there : (source : Source) (c : ℕ) (d : DeclaredClass) → slice_get (classes source) c ≡ Some d →
    head_at (heads source) c ≡ Some (head_of (classes source) c d)
head-there source c d there = heads-at source c ∙ ap (option_map (head_of (classes source) c)) there

pub hidden-there : (source : Source) (captured : ℕ → List CapturedLocal) (c : ℕ) (d : DeclaredClass) →
    slice_get (classes source) c ≡ Some d →
    slice_get (with_hidden source captured 0 (classes source)) c ≡ Some (hidden-before source captured c d)
hidden-there source captured c d there =
    hidden-from source captured (classes source) 0 c
    ∙ ap (λ n. option_map (hidden-before source captured n) (slice_get (classes source) c)) (zero-add c)
    ∙ ap (option_map (hidden-before source captured c)) there

hidden-count : (source : Source) (captured : ℕ → List CapturedLocal) (ds : List DeclaredClass) (at : ℕ) →
    length (with_hidden source captured at ds) ≡ length ds
hidden-count source captured [] at = refl
hidden-count source captured (d ∷ ds) at = ap suc (hidden-count source captured ds (suc at))

pub as-many-classes : (source : Source) (first : BodiesMet) → length (program_of source first).classes ≡ length (classes source)
as-many-classes source first =
    ap length (classes-are source first) ∙ hidden-count source (captured_by source first) (classes source) 0

-- ---- of one of the library

due-get : (number : List ℕ → NameId) (rs : List Class) (at c : ℕ) →
    slice_get (classes_due number at rs) c ≡ option_map (class_due number (at + c)) (slice_get rs c)
due-get number [] at c = refl
due-get number (r ∷ rs) at zero = let here : at ≡ at + 0 = omega arith in ap (λ n. Some (class_due number n r)) here
due-get number (r ∷ rs) at (suc c) =
    let there : suc at + c ≡ at + suc c = omega arith in
    due-get number rs (suc at) c ∙ ap (λ n. option_map (class_due number n) (slice_get rs c)) there

declared-get : (number : List ℕ → NameId) (rs : List Class) (at c : ℕ) →
    slice_get (classes_declared number at rs) c ≡ option_map (class_declared number (at + c)) (slice_get rs c)
declared-get number [] at c = refl
declared-get number (r ∷ rs) at zero = let here : at ≡ at + 0 = omega arith in ap (λ n. Some (class_declared number n r)) here
declared-get number (r ∷ rs) at (suc c) =
    let there : suc at + c ≡ at + suc c = omega arith in
    declared-get number rs (suc at) c ∙ ap (λ n. option_map (class_declared number n) (slice_get rs c)) there

rows-count : (number : List ℕ → NameId) → length (all_due number) ≡ length rows
unfolding all_due
rows-count number = due-count number 0 rows

pub library-many : (source : Source) → library_count source ≡ length rows
library-many source = sym (library-counts (number source)) ∙ rows-count (number source)

-- its row, by which it is both declared and due
pub record InLibrary (source : Source) (c : ℕ) : Type 0 where
  pub row : Class
  pub there : slice_get rows c ≡ Some row
  pub declared : slice_get (classes source) c ≡ Some (class_declared (number source) c row)
  pub due : slice_get (all_due (number source)) c ≡ Some (class_due (number source) c row)

pub in-library : (source : Source) (c : ℕ) → c < library_count source → InLibrary source c
unfolding classes all_due library_declared
in-library source c l =
    let many : length rows ≡ library_count source = sym (rows-count (number source)) ∙ library-counts (number source) in
    let r = placed rows c (omega (arith, l, many)) in
    record {
      row = r.element;
      there = r.is;
      declared = slice_get-append (library_declared (number source)) _ c l
          ∙ declared-get (number source) rows 0 c
          ∙ ap (λ n. option_map (class_declared (number source) n) (slice_get rows c)) (zero-add c)
          ∙ ap (option_map (class_declared (number source) c)) r.is;
      due = due-get (number source) rows 0 c
          ∙ ap (λ n. option_map (class_due (number source) n) (slice_get rows c)) (zero-add c)
          ∙ ap (option_map (class_due (number source) c)) r.is;
    }
