-- Classes are of the kinds of their headers.
use Rattle.std.proofs.Common.{◌≡◌, ℕ, ◌<◌, ◌≤◌, ◌⊎◌, inl, inr, List, length, Some, refl, sym, ap, ◌∙◌, subst}
use Rattle.std.specs.Prelude.{Bool, true, false, ◌||◌, if◌then◌else◌, slice_get}
use Rattle.std.proofs.lemmas.Bool.{cases_lt}
use Rattle.std.proofs.lemmas.Option.{same_Some, slice_get_within}
use Rattle.je_core.specs.declared.program.Kind.{Kind}
use Rattle.je_core.specs.declared.program.Sort.TheVariants as sort
use Rattle.je_core.specs.Core.{CoreClass, CoreProgram}
use Rattle.je_classes.specs.Hierarchy.{class_at}
use Rattle.je_fitting.specs.Expressions.{is_interface_sort}
use Rattle.je_table.specs.Library.{Class}
use Rattle.je_scopes.specs.Source.{Source}
use Rattle.source_types.specs.Erasure.{class_numbered}
use Rattle.source_types.specs.Heads.{ClassHead, head_at}
use Rattle.declarations.specs.Declarations.{DeclaredClass}
use Rattle.class_heads.specs.Headers.{head_of}
use Rattle.fitting_laws.specs.Represented.{HeadStands}
use Rattle.library_classes.specs.Library.{class_due, sort_due}
use Rattle.library_declarations.specs.Library.{class_declared}
use Rattle.class_typing.specs.Classes.{kind_in}
use Rattle.class_typing.specs.Programs.{classes, library_count, number}
use Rattle.elaborated_laws.specs.Elaborated.{IsElaborated, IsMade, captured_by, program_of}
use Rattle.elaborated_laws.specs.Laws.{KindsStand}
use Rattle.elaborated_laws.proofs.Declared.{InLibrary, classes-are, head-there, heads-are, hidden-there, in-library}
use Rattle.elaborated_laws.proofs.Lists.{placed}

-- ---- kinds

-- an interface of the library is abstract, though the core program doesn't say so
abstract-alike : (row : Class) → (false || is_interface_sort (sort_due row)) ≡ (row.is_interface || is_interface_sort (sort_due row))
abstract-alike row = by row.is_interface refl
  where
    by : (b : Bool) → row.is_interface ≡ b →
        (false || is_interface_sort (sort_due row)) ≡ (row.is_interface || is_interface_sort (sort_due row))
    by true e = ap (λ b. is_interface_sort (if b then sort.Interface else sort.Class)) e ∙ sym (ap (λ b. b || is_interface_sort (sort_due row)) e)
    by false e = sym (ap (λ b. b || is_interface_sort (sort_due row)) e)

module _ (source : Source) (program : CoreProgram) (e : IsElaborated source program) where
  abbrev head-list : List ClassHead
  head-list = (program_of source e.first).heads

  pub get-head : (c : ℕ) (d : DeclaredClass) → slice_get (classes source) c ≡ Some d →
      head_at head-list c ≡ Some (head_of (classes source) c d)
  get-head c d there = ap (λ hs. head_at hs c) (heads-are source e.first) ∙ head-there source c d there

  library-kind : (c : ℕ) (class : CoreClass) → class_at program (class_numbered c) ≡ Some class → InLibrary source c →
      c < library_count source → HeadStands head-list c class
  library-kind c class there l within =
      let same : class_due (number source) c l.row ≡ class =
      same_Some (class_due (number source) c l.row) class (sym l.due ∙ sym (e.has.library c within) ∙ there) in
      subst (HeadStands head-list c) same (record {
        head = head_of (classes source) c (class_declared (number source) c l.row);
        there = get-head c (class_declared (number source) c l.row) l.declared;
        sort = refl;
        is_abstract = abstract-alike l.row;
        is_final = refl;
      })

  guest-kind : (c : ℕ) (class : CoreClass) → IsMade source e.first c class → (d : DeclaredClass) →
      slice_get (classes source) c ≡ Some d → HeadStands head-list c class
  guest-kind c class made d there =
      let kind : class.kind ≡ d.kind =
      ap (λ (k : CoreClass). k.kind) made.is
      ∙ ap (λ ds. kind_in (program_of source e.first) (captured_by source e.first) c (slice_get ds c)) (classes-are source e.first)
      ∙ ap (kind_in (program_of source e.first) (captured_by source e.first) c) (hidden-there source (captured_by source e.first) c d there) in
      record {
        head = head_of (classes source) c d;
        there = get-head c d there;
        sort = ap (λ (k : Kind). k.sort) kind;
        is_abstract = ap (λ (k : Kind). k.is_abstract || is_interface_sort k.sort) kind;
        is_final = ap (λ (k : Kind). k.is_final) kind;
      }

  pub kinds_stand : KindsStand source program e
  kinds_stand c class there = by (cases_lt c (library_count source))
    where
      by : (c < library_count source ⊎ library_count source ≤ c) → HeadStands head-list c class
      by (inl l) = library-kind c class there (in-library source c l) l
      by (inr le) =
          let within : c < length (classes source) = subst (λ n. c < n) e.has.count (slice_get_within program.classes c class there) in
          let d = placed (classes source) c within in
          guest-kind c class (e.has.guests c class le there) d.element d.is
