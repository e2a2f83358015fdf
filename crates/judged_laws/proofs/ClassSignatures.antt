-- The methods of a class stand as signatures without fault say, those that no source writes among them.
use Rattle.std.proofs.Common.{◌≡◌, ℕ, ◌<◌, ◌≤◌, List, [], ◌∷◌, length, map, Option, Some, None, refl, sym, ap, ◌∙◌, subst}
use Rattle.std.specs.Prelude.{Bool, true, false, not, ◌&&◌, codes, if◌then◌else◌, is_some, slice_get}
use Rattle.std.specs.List.{find, list_any}
use Rattle.std.specs.Str.{bytes_eq}
use Rattle.std.proofs.lemmas.Option.{slice_get_within}
use Rattle.je_base.specs.declared.span.NameId.{NameId}
use Rattle.je_base.specs.declared.span.Span.{Span}
use Rattle.je_core.specs.Core.{CoreClass, CoreMethod, CoreProgram}
use Rattle.je_ast.specs.declared.name.Identifier.{Identifier}
use Rattle.je_classes.specs.Hierarchy.{class_at}
use Rattle.je_classes.specs.Members.{In, first, further, names_constructors}
use Rattle.je_classes.proofs.Lists.{bool_cases}
use Rattle.je_classes.proofs.Sets.{by_either, in-either}
use Rattle.je_scopes.specs.Headers.{constants_in, is_interface_sort, members_in, site_at, span_in}
use Rattle.je_scopes.specs.Members.{methods_of}
use Rattle.je_scopes.specs.Sites.{Written, behind_new, declared, in_library}
use Rattle.je_scopes.specs.Source.{Source}
use Rattle.source_types.specs.Erasure.{class_numbered, erased}
use Rattle.declarations.specs.Declarations.{declared_class, declared_method, is_enum_sort}
use Rattle.class_names.specs.Words.{class_words, further_words, library_words, member_words}
use Rattle.je_typing.specs.Judged.{Judged, bind, gives}
use Rattle.name_typing.specs.Program.{Frame, Program}
use Rattle.overriding.specs.Methods.{methods_in}
use Rattle.body_typing.specs.Bodies.{Met, stands_behind_new}
use Rattle.body_typing.specs.Expressions.{Known}
use Rattle.typing_laws.specs.Fitting.{Gives}
use Rattle.fitting_laws.proofs.Gives.{behind}
use Rattle.class_typing.specs.Constructors.{no_cycle}
use Rattle.class_typing.specs.Elaboration.{hidden_count}
use Rattle.class_typing.specs.Enums.{enum_code, enum_methods}
use Rattle.class_typing.specs.Members.{MembersDone, anonymous_constructor, class_members, default_constructor, enum_members, is_without_constructor, members_from, nothing, unwritten}
use Rattle.class_typing.specs.Places.{round_met, stands_at}
use Rattle.class_typing.specs.Programs.{classes, library_count, number, plain_program, with_enum_methods}
use Rattle.elaborated_laws.specs.Elaborated.{IsElaborated, captured_by, program_of, world_of}
use Rattle.elaborated_laws.specs.Premises.{HasSites, HasWords, IsEnumDeclaration, is_interface_written}
use Rattle.elaborated_laws.proofs.Classes.{classes-count}
use Rattle.elaborated_laws.proofs.Constants.{anything}
use Rattle.elaborated_laws.proofs.Guests.{guest-declared, within-sites}
use Rattle.elaborated_laws.proofs.Methods.{guest-methods, names-new, new-named, other-word, same-methods}
use Rattle.elaborated_laws.proofs.MethodWalk.{true-false}
use Rattle.judged_laws.specs.Judged.{IsJudged}
use Rattle.judged_laws.specs.Laws.{SignaturesStand, signed}
use Rattle.judged_laws.specs.Parts.{SignatureStands}
use Rattle.judged_laws.proofs.Sorts.{no-interface, same-sorts, sort-is}
use Rattle.judged_laws.proofs.Thrown.{all-thrown}
use Rattle.fitting_laws.specs.Sound.{HeadsAreSound}
use Rattle.elaborated_laws.specs.Sound.{VariablesAreSound}
use Rattle.je_core.specs.declared.types.ClassId.{ClassId}
use Rattle.judged_laws.proofs.Signatures.{AllStand, Stands, members-stand}
use Rattle.judged_laws.proofs.Signed.{classes_are_judged}

-- ---- what no source writes

module _ (names : NameId → Bool) (IsThere : ClassId → Type 0) (p : Program) (k : Known) (c : ℕ) (round : List Frame) where
  abbrev interface : Bool
  interface = is_interface_sort (site_at p.source.sites c).sort

  abbrev Done : MembersDone → Type 0
  Done = AllStand names interface IsThere

  then-stand : {A : Type 0} (j : Judged A) (g : A → Judged MembersDone) → ((a : A) → Gives Done (g a)) → Gives Done (bind j g)
  then-stand j g h = behind (λ a. Unit {0}) Done j g (anything j) (λ a u. h a)

  none-stand : Gives Done (gives nothing)
  none-stand = λ m i. elim i [ ]

  unwritten-one : (x : CoreMethod) → Stands names interface IsThere x → (m : CoreMethod) → In (x ∷ []) m → Stands names interface IsThere m
  unwritten-one x h _ first = h
  unwritten-one x h m (further i) = elim i [ ]

  module _ (no : interface ≡ false) where
    default-stands : Gives Done (default_constructor p k c round)
    default-stands = then-stand _ _ (λ done. unwritten-one _ (record {
      throws = λ d j. elim j [ ];
      has_body = refl;
      of_interface = λ i. absurd (true-false i no);
      own = λ y. refl;
      concrete = λ y. refl;
      result = λ y. refl;
    }))

    anonymous-stands : (o : Option Met) → Gives Done (anonymous_constructor p k c round o)
    anonymous-stands None = none-stand
    anonymous-stands (Some (stands_behind_new d s word t es)) = then-stand _ _ (λ chosen. unwritten-one _ (record {
      throws = λ d j. elim j [ ];
      has_body = refl;
      of_interface = λ i. absurd (true-false i no);
      own = λ y. refl;
      concrete = λ y. refl;
      result = λ y. refl;
    }))
    anonymous-stands (Some _) = none-stand

  by-interface : (i without : Bool) → i ≡ interface →
      Gives Done (if not i && without then default_constructor p k c round else gives nothing)
  by-interface true without e = none-stand
  by-interface false false e = none-stand
  by-interface false true e = default-stands (sym e)

  unwritten-stand : (met : List Met) (w : Written) → is_enum_sort (site_at p.source.sites c).sort ≡ false →
      (is_interface_written w ≡ false → interface ≡ false) → Gives Done (unwritten p k c round met w)
  unwritten-stand met in_library h i = none-stand
  unwritten-stand met (behind_new word t ms) h i = anonymous-stands (i refl) (find (stands_at c) met)
  unwritten-stand met (declared d) h i =
      subst (λ b. Gives Done (if b then gives (enum_members p k c round (constants_in (site_at p.source.sites c).written))
      else (if not interface && is_without_constructor p k c round then default_constructor p k c round else gives nothing)))
      (sym h) (by-interface interface (is_without_constructor p k c round) refl)

-- ---- a class of the source

module _ (source : Source) (program : CoreProgram) (e : IsElaborated source program) (sites : HasSites source) (words : HasWords source)
    (variables : VariablesAreSound (program_of source e.first)) (sound : HeadsAreSound program (program_of source e.first).heads) where
  abbrev p : Program
  p = program_of source e.first

  abbrev IsThere : ClassId → Type 0
  IsThere d = is_some (class_at program d) ≡ true

  abbrev names : NameId → Bool
  names name = names_constructors program name

  new : names (number source (codes "new")) ≡ true
  new = new-named source program e words.numbered sites.enums words.no_method

  abbrev in-class : ℕ → MembersDone → Type 0
  in-class c = AllStand names (is_interface_sort (site_at source.sites c).sort) IsThere

  written-stand : (c : ℕ) → library_count source ≤ c → c < length (classes source) → IsJudged (signed source) c → is_enum_sort (site_at source.sites c).sort ≡ false →
      methods_in (slice_get p.classes c) ≡ map (declared_method source c) (methods_of source c) →
      (k : Known) (around : List Frame) (met : List Met) (hidden : ℕ) → Gives (in-class c) (class_members p k c around met hidden)
  unfolding class_members plain_program erased
  written-stand c le l judged plain-sort are k around met hidden =
      let w = (site_at source.sites c).written in
      behind (in-class c) (in-class c) (members_from p k c around hidden 0 (members_in w)) _
      (members-stand names (declared_method source c) p k c around (signed source)
      (λ m. record { is_static = refl; is_abstract = refl; is_native = refl })
      IsThere (all-thrown source program e variables sound c le l k around) (λ mods id fs ts. refl) new 0 hidden 0 (members_in w) are
      (λ s q plain. names-new source program e s.name.name ∙ words.no_method c s q plain) judged.members)
      (λ d z. behind (in-class c) (in-class c) (unwritten p k c around met w) _
      (unwritten-stand names IsThere p k c around met w plain-sort (λ h. sites.interfaces c ∙ h))
      (λ further f. behind (λ (u : Unit {0}). Unit {0}) (in-class c) (no_cycle d.calls) _ (anything _)
      (λ done u m i. by_either (z m) (f m) (in-either d.methods i))))

  -- ---- enums (JLS 8.9)

  word : (w : List ℕ) → list_any (bytes_eq w) library_words ≡ true → bytes_eq w (codes "new") ≡ false → names (number source w) ≡ false
  word = other-word source program e words.numbered sites.enums words.no_method

  code-stands : (c : ℕ) (span : Span) (ids : List Identifier) → is_interface_sort (site_at source.sites c).sort ≡ false → (m : CoreMethod) →
      In (enum_code (number source) source.texts c span ids) m → Stands names (is_interface_sort (site_at source.sites c).sort) IsThere m
  unfolding library_words class_words member_words further_words
  code-stands c span ids sorted _ first = record {
    throws = λ d j. elim j [ ];
    has_body = refl;
    of_interface = λ i. absurd (true-false i sorted);
    own = λ y. refl;
    concrete = λ y. refl;
    result = λ y. refl;
  }
  code-stands c span ids sorted _ (further first) = record {
    throws = λ d j. elim j [ ];
    has_body = refl;
    of_interface = λ i. absurd (true-false i sorted);
    own = λ y. refl;
    concrete = λ y. refl;
    result = λ y. absurd (true-false y (word (codes "name") refl refl));
  }
  code-stands c span ids sorted _ (further (further first)) = record {
    throws = λ d j. elim j [ ];
    has_body = refl;
    of_interface = λ i. absurd (true-false i sorted);
    own = λ y. refl;
    concrete = λ y. refl;
    result = λ y. absurd (true-false y (word (codes "toString") refl refl));
  }
  code-stands c span ids sorted _ (further (further (further first))) = record {
    throws = λ d j. elim j [ ];
    has_body = refl;
    of_interface = λ i. absurd (true-false i sorted);
    own = λ y. refl;
    concrete = λ y. refl;
    result = λ y. absurd (true-false y (word (codes "ordinal") refl refl));
  }
  code-stands c span ids sorted _ (further (further (further (further first)))) = record {
    throws = λ d j. elim j [ ];
    has_body = refl;
    of_interface = λ i. absurd (true-false i sorted);
    own = λ y. absurd (true-false y (word (codes "values") refl refl));
    concrete = λ y. refl;
    result = λ y. absurd (true-false y (word (codes "values") refl refl));
  }
  code-stands c span ids sorted m (further (further (further (further (further i))))) = elim i [ ]

  enum-stand : (c : ℕ) → is_enum_sort (site_at source.sites c).sort ≡ true →
      (k : Known) (around : List Frame) (met : List Met) (hidden : ℕ) → Gives (in-class c) (class_members p k c around met hidden)
  unfolding class_members plain_program
  enum-stand c enum k around met hidden =
      let w = (site_at source.sites c).written in
      let is = sites.enums c enum in
      behind (in-class c) (in-class c) (members_from p k c around hidden 0 (members_in w)) _
      (subst (λ u. Gives (in-class c) (members_from p k c around hidden 0 (members_in u))) (sym is.is) (λ m i. elim i [ ]))
      (λ d z. behind (in-class c) (in-class c) (unwritten p k c around met w) _ (by w is)
      (λ further f. behind (λ (u : Unit {0}). Unit {0}) (in-class c) (no_cycle d.calls) _ (anything _)
      (λ done u m i. by_either (z m) (f m) (in-either d.methods i))))
    where
      by : (w : Written) → IsEnumDeclaration w → Gives (in-class c) (unwritten p k c around met w)
      by w is =
          subst (λ u. Gives (in-class c) (unwritten p k c around met u)) (sym is.is)
          (subst (λ b. Gives (in-class c) (if b then gives (enum_members p k c around (constants_in (site_at source.sites c).written))
          else (if not (is_interface_sort (site_at source.sites c).sort) && is_without_constructor p k c around then default_constructor p k c around else gives nothing)))
          (sym enum)
          (code-stands c (span_in (site_at source.sites c).written) (constants_in (site_at source.sites c).written)
          (no-interface (site_at source.sites c).sort enum)))

  -- ---- both

  class-stands : (c : ℕ) → library_count source ≤ c → c < length (classes source) → (within : c < length source.sites) →
      slice_get (classes source) c ≡ Some (with_enum_methods source c (declared_class source c)) →
      (k : Known) (around : List Frame) (met : List Met) (hidden : ℕ) → Gives (in-class c) (class_members p k c around met hidden)
  unfolding declared_class
  class-stands c le l within there k around met hidden =
      bool_cases (λ b. Gives (in-class c) (class_members p k c around met hidden)) (is_enum_sort (site_at source.sites c).sort)
      (λ y. enum-stand c y k around met hidden)
      (λ n. written-stand c le l (classes_are_judged source program e sites c le within) n
      (guest-methods source program e words.numbered sites.enums words.no_method c there
      ∙ same-methods source c (declared_class source c)
      ∙ ap (λ b. if b then enum_methods (number source) c else (declared_class source c).methods) n)
      k around met hidden)

  pub all-stand : (c : ℕ) (class : CoreClass) → library_count source ≤ c → class_at program (class_numbered c) ≡ Some class →
      (m : CoreMethod) → In class.methods m → SignatureStands program class m
  all-stand c class le there m among =
      let l : c < length (classes source) = subst (λ n. c < n) e.has.count (slice_get_within program.classes c class there) in
      let within = within-sites source c le (subst (λ n. c < n) (classes-count source) l) in
      let own = guest-declared source c le within in
      let made = e.has.guests c class le there in
      let stand = subst (Gives (in-class c)) made.walked
      (class-stands c le l within own (world_of source e.first).known (round_met source.sites e.first.met c) e.first.met
      (hidden_count source (captured_by source e.first) c)) in
      let h = stand m (subst (λ (x : CoreClass). In x.methods m) made.is among) in
      record {
        throws = h.throws;
        has_body = h.has_body;
        of_interface = λ i. h.of_interface (sym (ap is_interface_sort (sort-is source program e c class made own)) ∙ sym (same-sorts class.kind.sort) ∙ i);
        constructor = λ y. record { own = h.own y; concrete = h.concrete y; result = h.result y };
      }

pub signatures_stand : (source : Source) (program : CoreProgram) (e : IsElaborated source program) → SignaturesStand source program e
signatures_stand source program e sites words variables sound = all-stand source program e sites words variables sound
