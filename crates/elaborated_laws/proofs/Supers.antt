-- Classes are directly below those that their headers name.
use Rattle.std.proofs.Common.{◌≡◌, ℕ, zero, suc, ◌+◌, ◌<◌, ◌≤◌, ◌⊎◌, inl, inr, List, [], ◌∷◌, length, Some, refl, sym, ap, ◌∙◌, subst, arith, zero-add}
use Rattle.std.specs.Prelude.{Bool, true, false, ◌&&◌, if◌then◌else◌, map, slice_get}
use Rattle.std.specs.List.{Contains}
use Rattle.std.proofs.lemmas.Bool.{cases_lt}
use Rattle.std.proofs.lemmas.List.Elements.{Contains-append_right}
use Rattle.std.proofs.lemmas.Option.{same_Some, slice_get_past}
use Rattle.je_base.specs.declared.span.NameId.{NameId}
use Rattle.je_core.specs.declared.types.ClassId.{ClassId}
use Rattle.je_core.specs.Core.{CoreClass, CoreProgram}
use Rattle.je_classes.specs.Hierarchy.{class_at, object_class, library_class, supers_in, with_superclass}
use Rattle.je_classes.specs.Hierarchy as core
use Rattle.je_classes.proofs.Lists.{contains-cases, contains-here, contains-later}
use Rattle.je_table.specs.Library.{Class, classes as rows}
use Rattle.je_table.specs.declared.classes.Super.{Super}
use Rattle.je_scopes.specs.Headers.{is_interface_sort, site_at}
use Rattle.je_scopes.specs.Source.{Source}
use Rattle.je_scopes.specs.SourceTypes.{SourceType, SourceTypes, of_class}
use Rattle.source_types.specs.Erasure.{class_numbered}
use Rattle.source_types.specs.Heads.{ClassHead, head_at, object_type, supers_of}
use Rattle.source_types.specs.Heads as heads_in
use Rattle.source_types.proofs.Same.{and-left, and-right}
use Rattle.declarations.specs.Declarations.{DeclaredClass}
use Rattle.header_typing.specs.Supers.{class_in}
use Rattle.class_heads.specs.Headers.{class_heads, heads_from, is_whole}
use Rattle.typing_laws.specs.Correspondence.{StandsAbove}
use Rattle.typing_laws.proofs.Subtypes.{contains-none}
use Rattle.library_classes.specs.Library.{class_above, interfaces_due, superclass_due}
use Rattle.library_declarations.specs.Library.{class_declared, library_declared, super_type}
use Rattle.class_typing.specs.Captures.{listed}
use Rattle.class_typing.specs.Classes.{classes_of_types, interfaces_if, superclass_if}
use Rattle.class_typing.specs.Programs.{classes, heads, library_count, number}
use Rattle.elaborated_laws.specs.Elaborated.{IsElaborated, IsMade, program_of}
use Rattle.elaborated_laws.specs.Laws.{SupersStand}
use Rattle.elaborated_laws.specs.Premises.{HeadsAreClasses}
use Rattle.elaborated_laws.proofs.Declared.{InLibrary, heads-are, in-library}
use Rattle.elaborated_laws.proofs.Heads.{get-head}
use Rattle.elaborated_laws.proofs.Lists.{placed}

-- ---- the classes of types

above-whole : (b : Bool) (cs : List ClassId) → with_superclass (superclass_if b cs) (interfaces_if b cs) ≡ cs
above-whole true cs = refl
above-whole false [] = refl
above-whole false (c ∷ cs) = refl

class-contained : (ts : List SourceType) (d : ℕ) (args : SourceTypes) → Contains ts (of_class d args 0) →
    Contains (classes_of_types ts) (class_numbered d)
class-contained [] d args q = absurd (contains-none (of_class d args 0) q)
class-contained (t ∷ ts) d args q = by (contains-cases t (of_class d args 0) ts q) (class-contained ts d args)
  where
    by : (t ≡ of_class d args 0) ⊎ Contains ts (of_class d args 0) →
        (Contains ts (of_class d args 0) → Contains (classes_of_types ts) (class_numbered d)) →
        Contains (classes_of_types (t ∷ ts)) (class_numbered d)
    by (inl same) f = subst (λ u. Contains (classes_of_types (u ∷ ts)) (class_numbered d)) (sym same)
        (contains-here (class_numbered d) (classes_of_types ts))
    by (inr more) f = Contains-append_right (map class_numbered (listed (class_in t))) (classes_of_types ts) (class_numbered d) (f more)

-- ---- the library

due-supers : (row : Class) → with_superclass (superclass_due row) (interfaces_due row) ≡ map class_above row.supers
due-supers row = by row.is_interface refl row.supers refl
  where
    by : (b : Bool) → row.is_interface ≡ b → (ss : List Super) → row.supers ≡ ss →
        with_superclass (superclass_due row) (interfaces_due row) ≡ map class_above row.supers
    by true e ss s = rw e refl
    by false e [] s = rw e (rw s refl)
    by false e (x ∷ xs) s = rw e (rw s refl)

-- a type above a class of the library, as its row has it
super-stands : (program : CoreProgram) (c : ℕ) (ss : List Super) (t : SourceType) → Contains (map super_type ss) t →
    ((d : ClassId) → Contains (map class_above ss) d → Contains (core.supers_of program (class_numbered c)) d) → StandsAbove program c t
super-stands program c [] t q f = absurd (contains-none t q)
super-stands program c (s ∷ ss) t q f = by (contains-cases (super_type s) t (map super_type ss) q)
    (λ more. super-stands program c ss t more (λ d h. f d (contains-later (class_above s) d (map class_above ss) h)))
  where
    by : (super_type s ≡ t) ⊎ Contains (map super_type ss) t → (Contains (map super_type ss) t → StandsAbove program c t) →
        StandsAbove program c t
    by (inl same) g = record {
      class = (class_above s).0;
      arguments = _;
      is = sym same;
      above = f (class_above s) (contains-here (class_above s) (map class_above ss));
    }
    by (inr more) g = g more

-- each row names a superclass, unless it is that of Object or of an interface
abbrev all-whole : List DeclaredClass → (List ℕ → NameId) → ℕ → List Class → Bool
all-whole all number at [] = true
all-whole all number at (r ∷ rs) = is_whole all at (class_declared number at r) && all-whole all number (suc at) rs

rows-whole : (source : Source) → all-whole (classes source) (number source) 0 rows ≡ true
unfolding classes library_declared library_class object_class
rows-whole source = refl

whole-get : (all : List DeclaredClass) (number : List ℕ → NameId) (rs : List Class) (at c : ℕ) (row : Class) →
    slice_get rs c ≡ Some row → all-whole all number at rs ≡ true → is_whole all (at + c) (class_declared number (at + c) row) ≡ true
whole-get all number [] at c row e h = absurd cc
whole-get all number (r ∷ rs) at zero row e h =
    let here : at ≡ at + 0 = omega arith in
    subst (λ n. is_whole all n (class_declared number n row) ≡ true) here
    (subst (λ r. is_whole all at (class_declared number at r) ≡ true) (same_Some r row e) (and-left _ _ h))
whole-get all number (r ∷ rs) at (suc c) row e h =
    let there : suc at + c ≡ at + suc c = omega arith in
    subst (λ n. is_whole all n (class_declared number n row) ≡ true) there
    (whole-get all number rs (suc at) c row e (and-right (is_whole all at (class_declared number at r)) _ h))

row-whole : (source : Source) (c : ℕ) (l : InLibrary source c) → is_whole (classes source) c (class_declared (number source) c l.row) ≡ true
row-whole source c l =
    subst (λ n. is_whole (classes source) n (class_declared (number source) n l.row) ≡ true) (zero-add c)
    (whole-get (classes source) (number source) rows 0 c l.row l.there (rows-whole source))

-- ---- all classes

pub heads-count : (all ds : List DeclaredClass) (at : ℕ) → length (heads_from all at ds) ≡ length ds
heads-count all [] at = refl
heads-count all (d ∷ ds) at = ap suc (heads-count all ds (suc at))

module _ (source : Source) (program : CoreProgram) (e : IsElaborated source program) (classes-named : HeadsAreClasses source) where
  abbrev head-list : List ClassHead
  head-list = (program_of source e.first).heads

  as-many-heads : length head-list ≡ length (classes source)
  unfolding heads class_heads
  as-many-heads = ap length (heads-are source e.first) ∙ heads-count (classes source) (classes source) 0

  pub library-named : (c : ℕ) (l : InLibrary source c) → supers_of head-list c ≡ map super_type l.row.supers
  library-named c l =
      let d = class_declared (number source) c l.row in
      ap heads_in.supers_in (get-head source program e c d l.declared)
      ∙ ap (λ b. if b then d.heads else object_type ∷ d.heads) (row-whole source c l)

  pub library-above : (c : ℕ) (l : InLibrary source c) → c < library_count source →
      core.supers_of program (class_numbered c) ≡ map class_above l.row.supers
  library-above c l within = ap supers_in (e.has.library c within ∙ l.due) ∙ due-supers l.row

  library-supers : (c : ℕ) (t : SourceType) → InLibrary source c → c < library_count source → Contains (supers_of head-list c) t →
      StandsAbove program c t
  library-supers c t l within q =
      super-stands program c l.row.supers t (subst (λ ts. Contains ts t) (library-named c l) q)
      (λ x h. subst (λ xs. Contains xs x) (sym (library-above c l within)) h)

  pub guest-above : (c : ℕ) (class : CoreClass) → class_at program (class_numbered c) ≡ Some class → IsMade source e.first c class →
      core.supers_of program (class_numbered c) ≡ classes_of_types (supers_of head-list c)
  guest-above c class there made =
      ap supers_in there ∙ ap (λ (k : CoreClass). with_superclass k.superclass k.interfaces) made.is
      ∙ above-whole (is_interface_sort (site_at (program_of source e.first).source.sites c).sort) (classes_of_types (supers_of head-list c))

  guest-supers : (c : ℕ) (class : CoreClass) (t : SourceType) → class_at program (class_numbered c) ≡ Some class →
      IsMade source e.first c class → library_count source ≤ c → Contains (supers_of head-list c) t → StandsAbove program c t
  guest-supers c class t there made le q =
      let is = classes-named c t le (subst (λ hs. Contains (supers_of hs c) t) (heads-are source e.first) q) in
      record {
        class = is.class;
        arguments = is.arguments;
        is = is.is;
        above = subst (λ cs. Contains cs (class_numbered is.class)) (sym (guest-above c class there made))
            (class-contained (supers_of head-list c) is.class is.arguments (subst (Contains (supers_of head-list c)) is.is q));
      }

  stands-above : (c : ℕ) (t : SourceType) → Contains (supers_of head-list c) t → StandsAbove program c t
  stands-above c t q = by (cases_lt c (library_count source)) (cases_lt c (length (classes source)))
    where
      by : (c < library_count source ⊎ library_count source ≤ c) →
          (c < length (classes source) ⊎ length (classes source) ≤ c) → StandsAbove program c t
      by (inl l) other = library-supers c t (in-library source c l) l q
      by (inr le) (inl within) =
          let k = placed program.classes c (subst (λ n. c < n) (sym e.has.count) within) in
          guest-supers c k.element t k.is (e.has.guests c k.element le k.is) le q
      by (inr le) (inr past) =
          absurd (contains-none t
          (subst (λ o. Contains (heads_in.supers_in o) t) (slice_get_past head-list c (subst (λ n. n ≤ c) (sym as-many-heads) past)) q))

pub supers_stand : (source : Source) (program : CoreProgram) (e : IsElaborated source program) → SupersStand source program e
supers_stand source program e named c t q = stands-above source program e named c t q
