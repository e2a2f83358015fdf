-- Nothing stands above a class of the core program but what headers name.
use Rattle.std.proofs.Common.{◌≡◌, ℕ, ◌<◌, ◌≤◌, ◌⊎◌, inl, inr, List, [], ◌∷◌, ◌++◌, length, refl, sym, ap, ◌∙◌, subst}
use Rattle.std.specs.Prelude.{map}
use Rattle.std.specs.List.{Contains}
use Rattle.std.proofs.lemmas.Bool.{cases_lt}
use Rattle.std.proofs.lemmas.Option.{slice_get_past}
use Rattle.je_core.specs.declared.types.ClassId.{ClassId}
use Rattle.je_core.specs.Core.{CoreProgram}
use Rattle.je_classes.specs.Hierarchy.{supers_in, supers_of as core_supers_of}
use Rattle.je_classes.proofs.Lists.{contains-cases, contains-here, contains-later}
use Rattle.je_table.specs.declared.classes.Super.{Super}
use Rattle.je_scopes.specs.Source.{Source}
use Rattle.je_scopes.specs.SourceTypes.{SourceType, SourceTypes, of_class}
use Rattle.source_types.specs.Erasure.{class_numbered}
use Rattle.source_types.specs.Heads.{supers_of}
use Rattle.source_types.specs.Laws.{IsAcyclic}
use Rattle.header_typing.specs.Supers.{class_in}
use Rattle.typing_laws.proofs.Subtypes.{contains-none}
use Rattle.library_classes.specs.Library.{class_above}
use Rattle.library_declarations.specs.Library.{super_type}
use Rattle.class_typing.specs.Captures.{listed}
use Rattle.class_typing.specs.Classes.{classes_of_types}
use Rattle.class_typing.specs.Programs.{library_count}
use Rattle.elaborated_laws.specs.Elaborated.{IsElaborated}
use Rattle.elaborated_laws.specs.Premises.{IsClassType}
use Rattle.elaborated_laws.proofs.Declared.{heads-are, in-library}
use Rattle.elaborated_laws.proofs.Lists.{placed}
use Rattle.elaborated_laws.proofs.Methods.{methods_are_declared}
use Rattle.elaborated_laws.proofs.Supers.{guest-above, library-above, library-named}
use Rattle.override_laws.specs.Fitting.{HasNoOthers, IsNamed}
use Rattle.judged_laws.proofs.Erased.{heads_are_acyclic}
use Rattle.program_laws.proofs.Sources.{heads-named}
use Rattle.program_laws.specs.Premises.{SourceIsSound, declared}

-- a class that types name
pub record Names (ts : List SourceType) (d : ClassId) : Type 0 where
  pub arguments : SourceTypes
  pub there : Contains ts (of_class d.0 arguments 0)

named-first : (t : SourceType) (ts : List SourceType) (k : ℕ) (args : SourceTypes) → t ≡ of_class k args 0 → (d : ClassId) →
    class_numbered k ≡ d → Names (t ∷ ts) d
named-first t ts k args is d same = record {
  arguments = args;
  there = subst (Contains (t ∷ ts)) (is ∙ ap (λ (x : ClassId). of_class x.0 args 0) same) (contains-here t ts);
}

named-later : (t : SourceType) (ts : List SourceType) (d : ClassId) → Names ts d → Names (t ∷ ts) d
named-later t ts d n = record { arguments = n.arguments; there = contains-later t (of_class d.0 n.arguments 0) ts n.there }

pub types-name : (ts : List SourceType) → ((t : SourceType) → Contains ts t → IsClassType t) → (d : ClassId) →
    Contains (classes_of_types ts) d → Names ts d
types-name [] are d q = absurd (contains-none d q)
types-name (t ∷ ts) are d q =
    let is = are t (contains-here t ts) in
    by is (contains-cases (class_numbered is.class) d (classes_of_types ts)
    (subst (λ u. Contains (map class_numbered (listed (class_in u)) ++ classes_of_types ts) d) is.is q))
    (types-name ts (λ u h. are u (contains-later t u ts h)) d)
  where
    by : (is : IsClassType t) → (class_numbered is.class ≡ d) ⊎ Contains (classes_of_types ts) d →
        (Contains (classes_of_types ts) d → Names ts d) → Names (t ∷ ts) d
    by is (inl same) f = named-first t ts is.class is.arguments is.is d same
    by is (inr more) f = named-later t ts d (f more)

rows-name : (ss : List Super) (d : ClassId) → Contains (map class_above ss) d → Names (map super_type ss) d
rows-name [] d q = absurd (contains-none d q)
rows-name (s ∷ ss) d q = by (contains-cases (class_above s) d (map class_above ss) q) (rows-name ss d)
  where
    by : (class_above s ≡ d) ⊎ Contains (map class_above ss) d → (Contains (map class_above ss) d → Names (map super_type ss) d) →
        Names (map super_type (s ∷ ss)) d
    by (inl same) f = named-first (super_type s) (map super_type ss) (class_above s).0 _ refl d same
    by (inr more) f = named-later (super_type s) (map super_type ss) d (f more)

module _ (source : Source) (program : CoreProgram) (e : IsElaborated source program) (sound : SourceIsSound source program e) where
  abbrev named-by : ℕ → List SourceType
  named-by c = supers_of (declared source program e).heads c

  is-named : (c : ℕ) (d : ClassId) → Names (named-by c) d → IsNamed (declared source program e).heads c d
  is-named c d n = record { arguments = n.arguments; there = n.there }

  library-supers : (c : ℕ) (d : ClassId) → c < library_count source → Contains (core_supers_of program (class_numbered c)) d →
      Names (named-by c) d
  library-supers c d l q =
      let row = in-library source c l in
      subst (λ ts. Names ts d) (sym (library-named source program e (heads-named source program e sound) c row))
      (rows-name row.row.supers d
      (subst (λ cs. Contains cs d) (library-above source program e (heads-named source program e sound) c row l) q))

  guest-supers : (c : ℕ) (d : ClassId) → library_count source ≤ c → c < length program.classes →
      Contains (core_supers_of program (class_numbered c)) d → Names (named-by c) d
  guest-supers c d le l q =
      let k = placed program.classes c l in
      types-name (named-by c)
      (λ t h. heads-named source program e sound c t le (subst (λ hs. Contains (supers_of hs c) t) (heads-are source e.first) h)) d
      (subst (λ cs. Contains cs d)
      (guest-above source program e (heads-named source program e sound) c k.element k.is (e.has.guests c k.element le k.is)) q)

  no-other-supers : (c : ℕ) (d : ClassId) → Contains (core_supers_of program (class_numbered c)) d →
      IsNamed (declared source program e).heads c d
  no-other-supers c d q = is-named c d (by (cases_lt c (library_count source)) (cases_lt c (length program.classes)))
    where
      by : (c < library_count source ⊎ library_count source ≤ c) →
          (c < length program.classes ⊎ length program.classes ≤ c) → Names (named-by c) d
      by (inl l) other = library-supers c d l q
      by (inr le) (inl l) = guest-supers c d le l q
      by (inr le) (inr past) = absurd (contains-none d
          (subst (λ o. Contains (supers_in o) d) (slice_get_past program.classes c past) q))

  pub has-no-others : HasNoOthers (declared source program e) program
  has-no-others = record { supers = no-other-supers; methods = methods_are_declared source program e sound.sites sound.words }

  pub acyclic : IsAcyclic (declared source program e).heads
  acyclic = heads_are_acyclic source program e sound.sites sound.names sound.written (heads-named source program e sound)
