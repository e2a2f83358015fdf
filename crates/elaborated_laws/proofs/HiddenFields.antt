-- The hidden fields of a class are the one with the instance round it, those with captured locals, and an enum's two.
use Rattle.std.proofs.Common.{◌≡◌, ℕ, ◌+◌, ◌<◌, ◌≤◌, append-nil, List, [], ◌∷◌, ◌++◌, length, Option, Some, None, refl, sym, ap, ◌∙◌, subst, arith, length-append}
use Rattle.std.specs.Prelude.{Bool, true, false, not, ◌||◌, drop, filter, if◌then◌else◌, map, option_map, slice_get, take}
use Rattle.std.specs.List.{All, list_all}
use Rattle.std.proofs.Math.Seq.{drop-append_seam}
use Rattle.std.proofs.lemmas.Bool.Decides.{nat_tests}
use Rattle.std.proofs.lemmas.List.{drop-map, length-map, take-append-le}
use Rattle.std.proofs.lemmas.List.Elements.{All-cons, All-nil, All-take, filter-append}
use Rattle.std.proofs.lemmas.Option.{slice_get_within}
use Rattle.je_base.specs.declared.span.NameId.{NameId}
use Rattle.je_core.specs.declared.program.Access.TheVariants as access
use Rattle.je_core.specs.declared.program.Sort.{Sort}
use Rattle.je_core.specs.declared.program.Sort.TheVariants as sort
use Rattle.je_core.specs.declared.types.ClassId.{ClassId}
use Rattle.je_core.specs.Core.{Core, CoreClass, CoreField, CoreProgram}
use Rattle.je_ast.specs.declared.decl.Modifier.{Modifier}
use Rattle.je_classes.specs.Members.{is_hidden_access}
use Rattle.source_types.proofs.Same.{and-left, and-right, and-true}
use Rattle.je_fitting.specs.Classes.{HiddenFit, field_types, handed_count, hidden_fields, is_hidden, outer_type}
use Rattle.je_fitting.specs.Classes as fits
use Rattle.je_fitting.specs.Expressions.{outer_count}
use Rattle.je_fitting.specs.Members.{is_guest}
use Rattle.je_scopes.specs.Headers.{site_at}
use Rattle.je_scopes.specs.Source.{Source}
use Rattle.je_scopes.specs.SourceTypes.{SourceType}
use Rattle.source_types.specs.Erasure.{class_numbered, erased}
use Rattle.declarations.specs.Declarations.{DeclaredField, declared_class, declared_field, is_enum_sort}
use Rattle.je_scopes.specs.Sites.{has_private}
use Rattle.declarations.specs.Words.{access_of, has_protected, has_public}
use Rattle.je_scopes.specs.Members.{FieldSite, fields_of}
use Rattle.name_typing.specs.Program.{Program}
use Rattle.class_typing.specs.Classes.{captured_name, core_class, declared_from, enum_names, fields, hidden_from, kind_in, names_before, outer_names, written_fields}
use Rattle.class_typing.specs.Classes as core_classes
use Rattle.class_typing.specs.Members.{MembersDone}
use Rattle.class_typing.specs.Programs.{CapturedLocal, captured_type, classes, enclosing, enum_types, library_count, number, outer_types, plain_program, types_before, with_enum_methods}
use Rattle.class_typing.specs.Enums.{enum_methods}
use Rattle.elaborated_laws.specs.Elaborated.{IsElaborated, IsMade, captured_by, program_of}
use Rattle.elaborated_laws.specs.Laws.{HiddenFieldsFit}
use Rattle.elaborated_laws.proofs.Classes.{classes-count}
use Rattle.elaborated_laws.proofs.Declared.{classes-are, hidden-there, library-many}
use Rattle.elaborated_laws.proofs.Fields.{many-hidden, same-fields}
use Rattle.elaborated_laws.proofs.Guests.{guest-declared, within-sites}

-- ---- fields in a list of which all, or none, are hidden

all-kept : {A : Type 0} (test : A → Bool) (xs : List A) → list_all test xs ≡ true → filter test xs ≡ xs
all-kept test [] h = refl
all-kept test (x ∷ xs) h =
    ap (λ b. if b then x ∷ filter test xs else filter test xs) (and-left _ _ h)
    ∙ ap (λ ys. x ∷ ys) (all-kept test xs (and-right (test x) _ h))

none-kept : {A : Type 0} (test : A → Bool) (xs : List A) → list_all (λ x. not (test x)) xs ≡ true → filter test xs ≡ []
none-kept test [] h = refl
none-kept test (x ∷ xs) h =
    ap (λ b. if b then x ∷ filter test xs else filter test xs) (no (test x) (and-left _ _ h))
    ∙ none-kept test xs (and-right (not (test x)) _ h)
  where
    no : (b : Bool) → not b ≡ true → b ≡ false
    no false e = refl
    no true e = absurd cc

module _ (p : Program) (captured : ℕ → List CapturedLocal) (c : ℕ) where
  hidden-all : (P : CoreField → Type 0) → ((x : NameId) (t : SourceType) → P (core_classes.hidden_field p captured c x t)) →
      (xs : List NameId) (ts : List SourceType) → All P (hidden_from p captured c xs ts)
  hidden-all P h [] ts = All-nil P
  hidden-all P h (x ∷ xs) [] = All-nil P
  hidden-all P h (x ∷ xs) (t ∷ ts) = All-cons P _ _ (h x t) (hidden-all P h xs ts)

  hidden-pass : (xs : List NameId) (ts : List SourceType) → list_all is_hidden (hidden_from p captured c xs ts) ≡ true
  hidden-pass [] ts = refl
  hidden-pass (x ∷ xs) [] = refl
  hidden-pass (x ∷ xs) (t ∷ ts) = hidden-pass xs ts

  hidden-types : (xs : List NameId) (ts : List SourceType) → length xs ≡ length ts →
      field_types (hidden_from p captured c xs ts) ≡ map (erased p.heads) ts
  hidden-types [] [] e = refl
  hidden-types [] (t ∷ ts) e = absurd (omega (arith, e))
  hidden-types (x ∷ xs) [] e = absurd (omega (arith, e))
  hidden-types (x ∷ xs) (t ∷ ts) e = ap (λ us. erased p.heads t ∷ us) (hidden-types xs ts (omega (arith, e)))

  abbrev is_open : DeclaredField → Bool
  is_open f = not (is_hidden_access f.access)

  declared-pass : (fs : List DeclaredField) (cs : List (Option Core)) → list_all is_open fs ≡ true →
      list_all (λ f. not (is_hidden f)) (declared_from p captured c fs cs) ≡ true
  declared-pass [] cs h = refl
  declared-pass (f ∷ fs) [] h = refl
  declared-pass (f ∷ fs) (k ∷ cs) h = and-true _ _ (and-left _ _ h) (declared-pass fs cs (and-right (is_open f) _ h))

  -- ---- the whole

  abbrev hidden : List CoreField
  hidden = hidden_from p captured c (names_before p captured c) (types_before p.source captured c)

  abbrev before : List SourceType
  before = outer_types p.source (enclosing p.source c) ++ map (captured_type p.source) (captured c)

  abbrev enum-sort : Bool
  enum-sort = is_enum_sort (site_at p.source.sites c).sort

  abbrev of-enum : List SourceType
  of-enum = enum_types p.source enum-sort

  abbrev round : Option ClassId
  round = option_map class_numbered (enclosing p.source c)

  abbrev handed : ℕ
  handed = outer_count round + length (captured c)

  outer-counted : (o : Option ℕ) → length (outer_types p.source o) ≡ outer_count (option_map class_numbered o)
  outer-counted None = refl
  outer-counted (Some d) = refl

  before-many : length before ≡ handed
  before-many =
      length-append (outer_types p.source (enclosing p.source c)) _
      ∙ ap (λ n. n + length (map (captured_type p.source) (captured c))) (outer-counted (enclosing p.source c))
      ∙ ap (λ n. outer_count round + n) (length-map (captured c) (captured_type p.source))

  hidden-many : length hidden ≡ handed + length of-enum
  hidden-many =
      sym (length-map hidden (λ (f : CoreField). f.ty))
      ∙ ap length (hidden-types _ _ (many-hidden p captured c))
      ∙ length-map (types_before p.source captured c) (erased p.heads)
      ∙ length-append before of-enum
      ∙ ap (λ n. n + length of-enum) before-many

  enum-erased : (x : Sort) → map (erased p.heads) (enum_types p.source (is_enum_sort x)) ≡ fits.enum_types x
  unfolding erased
  enum-erased sort.Enum = refl
  enum-erased sort.Class = refl
  enum-erased sort.Interface = refl
  enum-erased sort.Local = refl
  enum-erased sort.Anonymous = refl

  outer-first : (o : Option ℕ) (xs ys : List NameId) (ts us : List SourceType) (rest : List CoreField) →
      take (outer_count (option_map class_numbered o))
      (field_types (hidden_from p captured c (outer_names p captured c o ++ xs ++ ys) (outer_types p.source o ++ ts ++ us) ++ rest))
      ≡ outer_type (option_map class_numbered o)
  unfolding erased
  outer-first None xs ys ts us rest = refl
  outer-first (Some d) xs ys ts us rest = refl

  module _ (d : MembersDone) (open-fields : list_all is_open (written_fields p captured c) ≡ true)
      (of-sort : (core_class p captured c d).kind.sort ≡ (site_at p.source.sites c).sort) where
    abbrev class : CoreClass
    class = core_class p captured c d

    abbrev others : List CoreField
    others = declared_from p captured c (written_fields p captured c) d.constants

    hidden-are : hidden_fields class ≡ hidden
    hidden-are =
        filter-append is_hidden hidden others
        ∙ ap (λ fs. fs ++ filter is_hidden others) (all-kept is_hidden hidden (hidden-pass (names_before p captured c) (types_before p.source captured c)))
        ∙ ap (λ fs. hidden ++ fs) (none-kept is_hidden others (declared-pass (written_fields p captured c) d.constants open-fields))
        ∙ append-nil hidden

    enum-many : length of-enum ≡ length (fits.enum_types class.kind.sort)
    enum-many =
        sym (length-map of-enum (erased p.heads))
        ∙ ap length (enum-erased (site_at p.source.sites c).sort ∙ ap fits.enum_types (sym of-sort))

    pub hidden-fit : HiddenFit class
    hidden-fit = record {
      count = ap length hidden-are ∙ hidden-many ∙ ap (λ n. handed + n) enum-many;
      first = subst (All (λ (f : CoreField). is_hidden f ≡ true))
          (sym (take-append-le handed hidden others (omega (arith, hidden-many))))
          (All-take (λ (f : CoreField). is_hidden f ≡ true) handed hidden (hidden-all (λ (f : CoreField). is_hidden f ≡ true) (λ x t. refl) _ _));
      outer = outer-first (enclosing p.source c) (map (captured_name p captured c) (captured c)) (enum_names p captured c enum-sort)
          (map (captured_type p.source) (captured c)) of-enum others;
      of_enum = ap (λ fs. drop handed (field_types fs)) hidden-are
          ∙ ap (drop handed) (hidden-types _ _ (many-hidden p captured c))
          ∙ drop-map (erased p.heads) handed (before ++ of-enum)
          ∙ ap (map (erased p.heads)) (ap (λ n. drop n (before ++ of-enum)) (sym before-many) ∙ drop-append_seam before of-enum)
          ∙ enum-erased (site_at p.source.sites c).sort ∙ ap fits.enum_types (sym of-sort);
      own = subst (All (λ (f : CoreField). f.is_static ≡ false)) (sym hidden-are) (hidden-all (λ (f : CoreField). f.is_static ≡ false) (λ x t. refl) _ _);
      final = subst (All (λ (f : CoreField). f.is_final ≡ true)) (sym hidden-are) (hidden-all (λ (f : CoreField). f.is_final ≡ true) (λ x t. refl) _ _);
    }

-- ---- the classes of a source

open-access : (b : Bool) (ms : List Modifier) → not (is_hidden_access (access_of b ms)) ≡ true
open-access b ms = by (has_private ms) (b || has_public ms) (has_protected ms)
  where
    by : (x y z : Bool) → not (is_hidden_access (if x then access.Private
        else (if y then access.Public else (if z then access.Protected else access.Package)))) ≡ true
    by true y z = refl
    by false true z = refl
    by false false true = refl
    by false false false = refl

sites-open : (source : Source) (c : ℕ) (fs : List FieldSite) →
    list_all (λ (f : DeclaredField). not (is_hidden_access f.access)) (map (declared_field source c) fs) ≡ true
sites-open source c [] = refl
sites-open source c (f ∷ fs) = and-true _ _ (open-access _ f.modifiers) (sites-open source c fs)

own-open : (source : Source) (c : ℕ) →
    list_all (λ (f : DeclaredField). not (is_hidden_access f.access)) (with_enum_methods source c (declared_class source c)).fields ≡ true
unfolding declared_class
own-open source c =
    ap (list_all (λ (f : DeclaredField). not (is_hidden_access f.access))) (same-fields source c (declared_class source c))
    ∙ sites-open source c (fields_of source c)

own-sort : (source : Source) (c : ℕ) → (with_enum_methods source c (declared_class source c)).kind.sort ≡ (site_at source.sites c).sort
unfolding declared_class
own-sort source c = by (is_enum_sort (declared_class source c).kind.sort)
  where
    by : (b : Bool) → (if b then record (declared_class source c) { methods = enum_methods (number source) c } else declared_class source c).kind.sort
        ≡ (site_at source.sites c).sort
    by true = refl
    by false = refl

module _ (source : Source) (program : CoreProgram) (e : IsElaborated source program) where
  abbrev whole : Program
  whole = program_of source e.first

  abbrev caught : ℕ → List CapturedLocal
  caught = captured_by source e.first

  class-fits : (c : ℕ) (k : CoreClass) → IsMade source e.first c k →
      slice_get (classes source) c ≡ Some (with_enum_methods source c (declared_class source c)) → HiddenFit k
  unfolding plain_program
  class-fits c k made there =
      let own = with_enum_methods source c (declared_class source c) in
      subst HiddenFit (sym made.is)
      (hidden-fit whole caught c made.done
      (ap (λ o. list_all (λ (f : DeclaredField). not (is_hidden_access f.access)) (core_classes.fields_in whole caught c o)) there
      ∙ own-open source c)
      (ap (λ ds. (kind_in whole caught c (slice_get ds c)).sort) (classes-are source e.first)
      ∙ ap (λ o. (kind_in whole caught c o).sort) (hidden-there source caught c own there)
      ∙ own-sort source c))

  past-library : (c : ℕ) → is_guest (class_numbered c) ≡ true → library_count source ≤ c
  past-library c g = let many : library_count source ≡ 39 = library-many source in grind (arith, nat_tests, many)

  pub hidden_fields_fit : HiddenFieldsFit source program e
  hidden_fields_fit c class g there =
      let le = past-library c g in
      let l = subst (λ n. c < n) (e.has.count ∙ classes-count source) (slice_get_within program.classes c class there) in
      class-fits c class (e.has.guests c class le there) (guest-declared source c le (within-sites source c le l))
