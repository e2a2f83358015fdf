-- The classes of an elaborated program, one by one.
use Rattle.std.proofs.Common.{◌≡◌, ℕ, zero, suc, ◌+◌, ◌-◌, ◌<◌, ◌≤◌, List, [], ◌∷◌, ◌++◌, length, Some, refl, sym, ap, ◌∙◌, subst, arith, length-append}
use Rattle.std.specs.Prelude.{drop, slice_get}
use Rattle.std.proofs.Math.Seq.{drop-append_seam}
use Rattle.std.proofs.lemmas.List.{length-drop, length-map}
use Rattle.std.proofs.lemmas.Option.{none-some, same_Some}
use Rattle.je_base.specs.declared.span.NameId.{NameId}
use Rattle.je_core.specs.Core.{CoreClass, CoreProgram}
use Rattle.je_table.specs.Library.{Class, classes as library}
use Rattle.je_scopes.specs.Faults.{below}
use Rattle.je_scopes.specs.Source.{Source}
use Rattle.name_walk.proofs.Standing.{slice_get-append}
use Rattle.declarations.specs.Declarations.{DeclaredClass}
use Rattle.je_names.specs.Scopes.{declared_classes}
use Rattle.je_typing.specs.Judged.{Judged, bind, gives}
use Rattle.signature_typing.specs.Signatures.{signatures}
use Rattle.library_classes.specs.Library.{all_due, classes_due}
use Rattle.library_declarations.specs.Library.{classes_declared, library_declared}
use Rattle.class_typing.specs.Classes.{core_class}
use Rattle.class_typing.specs.Elaboration.{BodiesMet, constants_first, core_classes, core_program, elaborated, first_bodies, first_world, guest_count, members_of, setting, with_captures}
use Rattle.class_typing.specs.Members.{MembersDone}
use Rattle.class_typing.specs.Programs.{all_with_methods, classes, library_count, number}
use Rattle.class_typing.specs.Texts.{texts}
use Rattle.elaborated_laws.specs.Elaborated.{HasClasses, IsElaborated, IsMade, captured_by, program_of, world_of}
use Rattle.elaborated_laws.proofs.Came.{came, given}
use Rattle.elaborated_laws.proofs.Lists.{later}

-- ---- counts

pub due-count : (number : List ℕ → NameId) (at : ℕ) (cs : List Class) → length (classes_due number at cs) ≡ length cs
due-count number at [] = refl
due-count number at (c ∷ cs) = ap suc (due-count number (suc at) cs)

declared-count : (number : List ℕ → NameId) (at : ℕ) (cs : List Class) → length (classes_declared number at cs) ≡ length cs
declared-count number at [] = refl
declared-count number at (c ∷ cs) = ap suc (declared-count number (suc at) cs)

pub library-counts : (number : List ℕ → NameId) → length (all_due number) ≡ length (library_declared number)
unfolding all_due library_declared
library-counts number = due-count number 0 library ∙ sym (declared-count number 0 library)

pub below-count : (n : ℕ) → length (below n) ≡ n
below-count zero = refl
below-count (suc n) = length-append (below n) (n ∷ []) ∙ ap (λ k. k + 1) (below-count n) ∙ omega arith

methods-count : (source : Source) (c : ℕ) (ds : List DeclaredClass) → length (all_with_methods source c ds) ≡ length ds
methods-count source c [] = refl
methods-count source c (d ∷ ds) = ap suc (methods-count source (suc c) ds)

sites-count : (source : Source) → length (declared_classes source) ≡ length source.sites
unfolding declared_classes
sites-count source = length-map _ _ ∙ below-count (length source.sites)

-- as many as the library has, and as many as stand behind them
pub classes-count : (source : Source) → length (classes source) ≡ library_count source + guest_count source
unfolding classes
classes-count source =
    length-append (library_declared (number source)) _
    ∙ ap (λ n. library_count source + n)
    (methods-count source (library_count source) (drop (library_count source) (declared_classes source))
    ∙ length-drop (library_count source) (declared_classes source)
    ∙ ap (λ n. n - library_count source) (sites-count source))

-- ---- the classes of a source, from one on

module _ (source : Source) (first : BodiesMet) where
  abbrev made-from : ℕ → ℕ → Judged (List CoreClass)
  made-from c n = core_classes source (world_of source first) (captured_by source first) first.met c n

  abbrev members-at : ℕ → Judged MembersDone
  members-at c = members_of source (world_of source first) (captured_by source first) first.met c

  abbrev class-of : ℕ → MembersDone → CoreClass
  class-of c d = core_class (program_of source first) (captured_by source first) c d

  abbrev rest-behind : ℕ → ℕ → MembersDone → Judged (List CoreClass)
  rest-behind c n d = bind (made-from (suc c) n) (λ rest. gives (class-of c d ∷ rest))

  pub made-count : (n c : ℕ) (guests : List CoreClass) → made-from c n ≡ gives guests → length guests ≡ n
  made-count zero c guests e = ap length (sym (given [] guests e))
  made-count (suc n) c guests e =
      let d = came (members-at c) (rest-behind c n) guests e in
      let r = came (made-from (suc c) n) (λ rest. gives (class-of c d.first ∷ rest)) guests d.rest in
      ap length (sym (given (class-of c d.first ∷ r.first) guests r.rest)) ∙ ap suc (made-count n (suc c) r.first r.is)

  pub made-at : (n c k : ℕ) (guests : List CoreClass) (class : CoreClass) → made-from c n ≡ gives guests →
      slice_get guests k ≡ Some class → IsMade source first (c + k) class
  made-at zero c k guests class e h =
      absurd (none-some class (ap (λ xs. slice_get xs k) (given [] guests e) ∙ h))
  made-at (suc n) c zero guests class e h =
      let d = came (members-at c) (rest-behind c n) guests e in
      let r = came (made-from (suc c) n) (λ rest. gives (class-of c d.first ∷ rest)) guests d.rest in
      let here : c ≡ c + 0 = omega arith in
      subst (λ at. IsMade source first at class) here
      (record {
        done = d.first;
        walked = d.is;
        is = sym (same_Some (class-of c d.first) class
            (ap (λ xs. slice_get xs 0) (given (class-of c d.first ∷ r.first) guests r.rest) ∙ h));
      })
  made-at (suc n) c (suc k) guests class e h =
      let d = came (members-at c) (rest-behind c n) guests e in
      let r = came (made-from (suc c) n) (λ rest. gives (class-of c d.first ∷ rest)) guests d.rest in
      let there : suc c + k ≡ c + suc k = omega arith in
      subst (λ at. IsMade source first at class) there
      (made-at n (suc c) k r.first class r.is
      (ap (λ xs. slice_get xs (suc k)) (given (class-of c d.first ∷ r.first) guests r.rest) ∙ h))

-- ---- all classes

module _ (source : Source) (first : BodiesMet) (guests : List CoreClass) (program : CoreProgram)
    (made : core_classes source (world_of source first) (captured_by source first) first.met (library_count source)
    (guest_count source) ≡ gives guests)
    (is : core_program source guests ≡ program) where
  abbrev due : List CoreClass
  due = all_due (number source)

  all-classes : program.classes ≡ due ++ guests
  all-classes = sym (ap (λ (p : CoreProgram). p.classes) is)

  due-many : length due ≡ library_count source
  due-many = library-counts (number source)

  pub has-classes : HasClasses source first program
  has-classes = record {
    library = λ c l.
        ap (λ cs. slice_get cs c) all-classes
        ∙ slice_get-append due guests c (subst (λ n. c < n) (sym due-many) l);
    guests = λ c class le there.
        let within : length due ≤ c = subst (λ n. n ≤ c) (sym due-many) le in
        let place : library_count source + (c - length due) ≡ c = omega (arith, le, due-many) in
        subst (λ at. IsMade source first at class) place
        (made-at source first (guest_count source) (library_count source) (c - length due) guests class made
        (sym (later due guests c within) ∙ sym (ap (λ cs. slice_get cs c) all-classes) ∙ there));
    count = ap length all-classes ∙ length-append due guests
        ∙ ap (λ n. n + length guests) due-many
        ∙ ap (λ n. library_count source + n) (made-count source first (guest_count source) (library_count source) guests made)
        ∙ sym (classes-count source);
  }

  pub has-texts : program.texts ≡ texts (drop (library_count source) program.classes)
  has-texts =
      sym (ap (λ (p : CoreProgram). p.texts) is)
      ∙ ap texts (sym (ap (λ n. drop n program.classes) (sym due-many)
      ∙ ap (λ cs. drop (length due) cs) all-classes ∙ drop-append_seam due guests))

-- ---- the whole

pub programs_elaborated : (source : Source) (program : CoreProgram) → elaborated source ≡ gives program → IsElaborated source program
unfolding elaborated
programs_elaborated source program e =
    let bodies = λ (first : BodiesMet). with_captures source (captured_by source first) first in
    let judged = came (signatures (setting source ((first_world source (constants_first source)).program)))
    (λ done. bind (first_bodies source) bodies) program e in
    let met = came (first_bodies source) bodies program judged.rest in
    let first = met.first in
    let made = came (core_classes source (world_of source first) (captured_by source first) first.met (library_count source)
    (guest_count source)) (λ guests. gives (core_program source guests)) program met.rest in
    let is = given (core_program source made.first) program made.rest in
    record {
      signed = judged.is;
      first = first;
      met = met.is;
      has = has-classes source first made.first program made.is is;
      texts = has-texts source first made.first program made.is is;
    }
