-- The methods of a class stand at their places, those that no source writes behind the others.
use Rattle.std.proofs.Common.{◌≡◌, ℕ, ◌-◌, ◌<◌, ◌≤◌, ◌⊎◌, inl, inr, List, [], ◌∷◌, ◌++◌, length, Option, Some, None, refl, sym, ap, ◌∙◌, subst, arith}
use Rattle.std.specs.Prelude.{Bool, true, false, not, ◌&&◌, codes, filter, if◌then◌else◌, map, slice_get, unwrap_or, nat_eq}
use Rattle.std.specs.List.{AllZip, Contains, list_all, list_any}
use Rattle.std.specs.Str.{bytes_eq}
use Rattle.std.proofs.lemmas.Bool.{cases_lt}
use Rattle.std.proofs.lemmas.Bool.Decides.{nat_tests}
use Rattle.std.proofs.lemmas.Option.{none-some, same_Some, slice_get_past, slice_get_within}
use Rattle.std.proofs.lemmas.Slice.Eq.{bytes_eq-Decides}
use Rattle.je_base.specs.declared.span.NameId.{NameId}
use Rattle.je_core.specs.declared.types.ClassId.{ClassId}
use Rattle.je_core.specs.Core.{CoreClass, CoreMethod, CoreProgram}
use Rattle.je_classes.specs.Hierarchy.{class_at, library_class, object_class}
use Rattle.je_classes.specs.Members.{In, constructor_place, first, further, is_name_of, names_constructors, same_name}
use Rattle.je_classes.specs.Members as core_methods
use Rattle.je_classes.proofs.Lists.{bool_cases, contains-any}
use Rattle.je_table.specs.declared.classes.LibraryClass.TheVariants as class
use Rattle.je_table.specs.Library.{class_row}
use Rattle.je_table.specs.Rows.{Row}
use Rattle.je_scopes.specs.Headers.{constants_in, is_interface_sort, members_in, site_at, span_in}
use Rattle.je_scopes.specs.Sites.{Written}
use Rattle.source_types.proofs.Same.{and-left, and-right}
use Rattle.je_scopes.specs.Members.{method_sites}
use Rattle.je_scopes.specs.Source.{Source}
use Rattle.source_types.specs.Erasure.{class_numbered}
use Rattle.class_names.specs.Words.{AreNumbered, class_words, further_words, library_words, member_words}
use Rattle.library_classes.specs.Library.{all_due, class_due, is_method_of, method_due, rows}
use Rattle.library_classes.proofs.Standing.{one_text}
use Rattle.library_declarations.specs.Library.{class_declared, method_declared}
use Rattle.fitting_laws.specs.Methods.{MethodStands}
use Rattle.override_laws.specs.Fitting.{IsDeclared}
use Rattle.je_fitting.specs.Expressions.{is_constructor, method_at}
use Rattle.declarations.specs.Declarations.{DeclaredClass, DeclaredMethod, declared_class, declared_method, is_enum_sort}
use Rattle.je_scopes.specs.Members.{methods_of}
use Rattle.je_typing.specs.Judged.{gives}
use Rattle.name_typing.specs.Program.{Frame, Program}
use Rattle.name_walk.proofs.Standing.{slice_get-append}
use Rattle.overriding.specs.Methods.{methods_in}
use Rattle.body_typing.specs.Bodies.{Met}
use Rattle.body_typing.specs.Expressions.{Known}
use Rattle.typing_laws.specs.Fitting.{Gives}
use Rattle.fitting_laws.proofs.Gives.{behind}
use Rattle.class_typing.specs.Constructors.{no_cycle}
use Rattle.class_typing.specs.Enums.{enum_code, enum_methods}
use Rattle.je_ast.specs.declared.name.Identifier.{Identifier}
use Rattle.je_base.specs.declared.span.Span.{Span}
use Rattle.source_types.specs.Erasure.{erased}
use Rattle.class_typing.specs.Members.{MembersDone, class_members, default_constructor, enum_members, is_without_constructor, members_from, nothing, unwritten}
use Rattle.class_typing.specs.Elaboration.{hidden_count}
use Rattle.class_typing.specs.Places.{round_met}
use Rattle.class_typing.specs.Programs.{CapturedLocal, classes, library_count, number, plain_program, with_enum_methods}
use Rattle.elaborated_laws.specs.Elaborated.{IsElaborated, IsMade, captured_by, program_of, world_of}
use Rattle.elaborated_laws.specs.Premises.{EnumsAreDeclared, IsEnumDeclaration, NoMethodIsNew}
use Rattle.elaborated_laws.proofs.Constants.{anything}
use Rattle.elaborated_laws.proofs.Lists.{Beside, beside, beside-first, later, placed}
use Rattle.elaborated_laws.proofs.Classes.{classes-count}
use Rattle.elaborated_laws.proofs.Guests.{guest-declared, within-sites}
use Rattle.elaborated_laws.proofs.Heads.{get-head}
use Rattle.elaborated_laws.proofs.LibraryTypes.{all-filtered, is_flat, is_flat_row, rows-flat, type-erased, types-erased}
use Rattle.elaborated_laws.specs.Laws.{MethodsAreDeclared, MethodsStand}
use Rattle.elaborated_laws.proofs.MethodWalk.{MethodAlike, Zipped, members-zipped, true-false}
use Rattle.elaborated_laws.proofs.UnwrittenMethods.{Constructors, unwritten-named}
use Rattle.elaborated_laws.proofs.Declared.{InLibrary, as-many-classes, classes-are, hidden-there, in-library, library-many}

-- ---- the name of constructors

names-by : (program : CoreProgram) (number : List ℕ → NameId) → class_at program object_class ≡ Some (class_due number 0 (class_row class.Object)) →
    (name : NameId) → names_constructors program name ≡ same_name (number (codes "new")) name
unfolding constructor_place rows
names-by program number there name = ap (λ o. is_name_of name (slice_get (core_methods.methods_in o) constructor_place)) there

pub names-new : (source : Source) (program : CoreProgram) (e : IsElaborated source program) (name : NameId) →
    names_constructors program name ≡ same_name (number source (codes "new")) name
unfolding all_due object_class library_class
names-new source program e name =
    let within : 0 < library_count source = let m : library_count source ≡ 39 = library-many source in omega (arith, m) in
    names-by program (number source) (e.has.library 0 within) name

-- ---- names that are words of the library

pub word-there : (word : List ℕ) → list_any (bytes_eq word) library_words ≡ true → Contains library_words word
word-there word h =
    let p = contains-any (bytes_eq word) library_words h in
    subst (Contains library_words) (sym ((bytes_eq-Decides word p.element).0 p.passes)) p.there

rows-named : list_all (λ (r : Row). list_any (bytes_eq r.name) library_words) rows ≡ true
unfolding rows library_words class_words member_words further_words
rows-named = refl

new-there : list_any (bytes_eq (codes "new")) library_words ≡ true
unfolding library_words class_words member_words further_words
new-there = refl

pub same-numbers : (a b : NameId) → nat_eq a.0 b.0 ≡ true → a ≡ b
same-numbers a b h = let e : a.0 ≡ b.0 = grind (arith, nat_tests) in ap (λ (n : ℕ). let id : NameId = record { 0 = n } in id) e

module _ (source : Source) (program : CoreProgram) (e : IsElaborated source program) (numbered : AreNumbered source.texts library_words) where
  -- a word of the library is the name of constructors where it is `new`
  names-word : (word : List ℕ) → Contains library_words word →
      names_constructors program (number source word) ≡ bytes_eq word (codes "new")
  names-word word there =
      names-new source program e (number source word) ∙ by (bytes_eq word (codes "new")) refl (nat_eq (number source (codes "new")).0 (number source word).0) refl
    where
      by : (b : Bool) → bytes_eq word (codes "new") ≡ b → (d : Bool) → nat_eq (number source (codes "new")).0 (number source word).0 ≡ d → d ≡ b
      by true h true k = refl
      by false h false k = refl
      by true h false k =
          let same : word ≡ codes "new" = (bytes_eq-Decides word (codes "new")).0 h in
          let again : nat_eq (number source (codes "new")).0 (number source (codes "new")).0 ≡ false =
          subst (λ w. nat_eq (number source (codes "new")).0 (number source w).0 ≡ false) same k in
          absurd (grind (arith, nat_tests))
      by false h true k =
          let numbers : number source (codes "new") ≡ number source word = same-numbers (number source (codes "new")) (number source word) k in
          let same : word ≡ codes "new" = one_text source.texts numbered word (codes "new") there (word-there (codes "new") new-there) (sym numbers) in
          let yes : bytes_eq word (codes "new") ≡ true = (bytes_eq-Decides word (codes "new")).1 same in
          absurd cc

-- ---- a class of the source

pub nat-itself : (n : ℕ) → nat_eq n n ≡ true
nat-itself n = grind (arith, nat_tests)

pub same-methods : (source : Source) (c : ℕ) (d : DeclaredClass) →
    (with_enum_methods source c d).methods ≡ (if is_enum_sort d.kind.sort then enum_methods (number source) c else d.methods)
same-methods source c d = by (is_enum_sort d.kind.sort)
  where
    by : (b : Bool) → (if b then record d { methods = enum_methods (number source) c } else d).methods
        ≡ (if b then enum_methods (number source) c else d.methods)
    by true = refl
    by false = refl

-- in front of further methods
beside-front : {A B : Type 0} (R : A → B → Type 0) (xs ys : List A) (k : ℕ) (y : B) → Beside R xs k y → Beside R (xs ++ ys) k y
beside-front R xs ys k y b = record {
  element = b.element;
  is = slice_get-append xs ys k (slice_get_within xs k b.element b.is) ∙ b.is;
  holds = b.holds;
}

module _ (source : Source) (program : CoreProgram) (e : IsElaborated source program) (numbered : AreNumbered source.texts library_words)
    (enums : EnumsAreDeclared source) (no-new : NoMethodIsNew source) where
  abbrev p : Program
  p = program_of source e.first

  abbrev caught : ℕ → List CapturedLocal
  caught = captured_by source e.first

  abbrev names : NameId → Bool
  names name = names_constructors program name

  abbrev Alike : CoreMethod → DeclaredMethod → Type 0
  Alike = MethodAlike names p.heads

  pub new-named : names (number source (codes "new")) ≡ true
  new-named = names-new source program e (number source (codes "new")) ∙ nat-itself (number source (codes "new")).0

  -- each method that is declared stands among those that members came to, which are no others, constructors aside
  record AllStand (own-methods : List DeclaredMethod) (d : MembersDone) : Type 0 where
    stand : (at : ℕ) (m : DeclaredMethod) → slice_get own-methods at ≡ Some m → Beside Alike d.methods at m
    only : (at : ℕ) (m : CoreMethod) → slice_get d.methods at ≡ Some m → names m.name ≡ false →
        Beside (λ k n. Alike n k) own-methods at m

  -- by constructors behind them
  only-behind : (own-methods : List DeclaredMethod) (d more : MembersDone) → AllZip Alike d.methods own-methods →
      Constructors names more → (at : ℕ) (m : CoreMethod) → slice_get (d.methods ++ more.methods) at ≡ Some m →
      names m.name ≡ false → Beside (λ k n. Alike n k) own-methods at m
  only-behind own-methods d more z f at m e plain = by (cases_lt at (length d.methods))
    where
      by : (at < length d.methods ⊎ length d.methods ≤ at) → Beside (λ k n. Alike n k) own-methods at m
      by (inl l) = beside-first Alike d.methods own-methods at m z (sym (slice_get-append d.methods more.methods at l) ∙ e)
      by (inr le) = absurd (true-false (f (at - length d.methods) m (sym (later d.methods more.methods at le) ∙ e)) plain)

  module _ (c : ℕ) (own-methods : List DeclaredMethod) (are : methods_in (slice_get p.classes c) ≡ own-methods) where
    in-members : own-methods ≡ map (declared_method source c) (methods_of source c) →
        is_enum_sort (site_at source.sites c).sort ≡ false → (k : Known) (around : List Frame) (met : List Met) (hidden : ℕ) →
        Gives (AllStand own-methods) (class_members p k c around met hidden)
    unfolding class_members plain_program
    in-members written no-enum k around met hidden =
        let w = (site_at source.sites c).written in
        behind (Zipped names (declared_method source c) p k c around (method_sites (members_in w))) (AllStand own-methods)
        (members_from p k c around hidden 0 (members_in w)) _
        (members-zipped names (declared_method source c) p k c around new-named hidden 0 (members_in w) (are ∙ written)
        (λ s q. record { constructor_kept = refl; name_kept = refl; name = λ plain. names-new source program e s.name.name ∙ no-new c s q plain }))
        (λ d z. let zip = subst (AllZip Alike d.methods) (sym written) z in
        behind (Constructors names) (AllStand own-methods) (unwritten p k c around met w) _
        (unwritten-named names p k c around new-named met w no-enum)
        (λ further f. behind (λ (u : Unit {0}). Unit {0}) (AllStand own-methods) (no_cycle d.calls) _ (anything _)
        (λ done v. record {
          stand = λ at m h. beside-front Alike d.methods further.methods at m (beside Alike d.methods own-methods at m zip h);
          only = only-behind own-methods d further zip f;
        })))

  -- ---- enums (JLS 8.9)

  pub other-word : (word : List ℕ) → list_any (bytes_eq word) library_words ≡ true → bytes_eq word (codes "new") ≡ false →
      names (number source word) ≡ false
  other-word word there h = names-word source program e numbered word (word-there word there) ∙ h

  enum-alike : (c : ℕ) (span : Span) (ids : List Identifier) →
      AllZip Alike (enum_code (number source) source.texts c span ids) (enum_methods (number source) c)
  unfolding erased library_words class_words member_words further_words
  enum-alike c span ids = (
    record { params = refl; returns = refl; flags = refl; is_constructor = new-named; name = λ plain. refl },
    (
      record { params = refl; returns = refl; flags = refl; is_constructor = other-word (codes "name") refl refl; name = λ plain. refl },
      (
        record { params = refl; returns = refl; flags = refl; is_constructor = other-word (codes "toString") refl refl; name = λ plain. refl },
        (
          record { params = refl; returns = refl; flags = refl; is_constructor = other-word (codes "ordinal") refl refl; name = λ plain. refl },
          (record { params = refl; returns = refl; flags = refl; is_constructor = other-word (codes "values") refl refl; name = λ plain. refl }, tt),
        ),
      ),
    ),
  )

  in-enum : (c : ℕ) (own-methods : List DeclaredMethod) → own-methods ≡ enum_methods (number source) c →
      is_enum_sort (site_at source.sites c).sort ≡ true → (k : Known) (around : List Frame) (met : List Met) (hidden : ℕ) →
      Gives (AllStand own-methods) (class_members p k c around met hidden)
  unfolding class_members plain_program
  in-enum c own-methods are sort k around met hidden =
      let w = (site_at source.sites c).written in
      let is = enums c sort in
      behind (λ (d : MembersDone). d.methods ≡ []) (AllStand own-methods) (members_from p k c around hidden 0 (members_in w)) _
      (subst (λ u. Gives (λ (d : MembersDone). d.methods ≡ []) (members_from p k c around hidden 0 (members_in u))) (sym is.is) refl)
      (λ d none. behind (λ (f : MembersDone). AllZip Alike f.methods (enum_methods (number source) c)) (AllStand own-methods)
      (unwritten p k c around met w) _ (further-of w is)
      (λ further z. behind (λ (f : Unit {0}). Unit {0}) (AllStand own-methods) (no_cycle d.calls) _ (anything _)
      (λ done v.
      let zip : AllZip Alike (d.methods ++ further.methods) own-methods =
      subst (AllZip Alike (d.methods ++ further.methods)) (sym are)
      (subst (λ ms. AllZip Alike (ms ++ further.methods) (enum_methods (number source) c)) (sym none) z) in
      record {
        stand = λ at m h. beside Alike (d.methods ++ further.methods) own-methods at m zip h;
        only = λ at m h plain. beside-first Alike (d.methods ++ further.methods) own-methods at m zip h;
      })))
    where
      further-of : (w : Written) → IsEnumDeclaration w →
          Gives (λ (f : MembersDone). AllZip Alike f.methods (enum_methods (number source) c)) (unwritten p k c around met w)
      further-of w is =
          subst (λ u. Gives (λ (f : MembersDone). AllZip Alike f.methods (enum_methods (number source) c)) (unwritten p k c around met u)) (sym is.is)
          (subst (λ b. Gives (λ (f : MembersDone). AllZip Alike f.methods (enum_methods (number source) c))
          (if b then gives (enum_members p k c around (constants_in (site_at source.sites c).written))
          else (if not (is_interface_sort (site_at source.sites c).sort) && is_without_constructor p k c around then default_constructor p k c around else gives nothing)))
          (sym sort) (enum-alike c (span_in (site_at source.sites c).written) (constants_in (site_at source.sites c).written)))

  -- ---- all classes

  pub guest-methods : (c : ℕ) → slice_get (classes source) c ≡ Some (with_enum_methods source c (declared_class source c)) →
      methods_in (slice_get p.classes c) ≡ (with_enum_methods source c (declared_class source c)).methods
  guest-methods c there =
      ap (λ ds. methods_in (slice_get ds c)) (classes-are source e.first)
      ∙ ap methods_in (hidden-there source caught c (with_enum_methods source c (declared_class source c)) there)

  all-stand : (c : ℕ) → slice_get (classes source) c ≡ Some (with_enum_methods source c (declared_class source c)) →
      (k : Known) (around : List Frame) (met : List Met) (hidden : ℕ) →
      Gives (AllStand (with_enum_methods source c (declared_class source c)).methods) (class_members p k c around met hidden)
  unfolding declared_class
  all-stand c there k around met hidden =
      bool_cases (λ b. Gives (AllStand (with_enum_methods source c (declared_class source c)).methods) (class_members p k c around met hidden))
      (is_enum_sort (site_at source.sites c).sort)
      (λ yes. in-enum c (with_enum_methods source c (declared_class source c)).methods
      (same-methods source c (declared_class source c) ∙ ap (λ b. if b then enum_methods (number source) c else (declared_class source c).methods) yes)
      yes k around met hidden)
      (λ no. in-members c (with_enum_methods source c (declared_class source c)).methods (guest-methods c there)
      (same-methods source c (declared_class source c) ∙ ap (λ b. if b then enum_methods (number source) c else (declared_class source c).methods) no)
      no k around met hidden)

  stands-by : (c at : ℕ) (m : DeclaredMethod) (k : CoreClass) → class_at program (class_numbered c) ≡ Some k → Beside Alike k.methods at m →
      MethodStands program p.heads c at m
  stands-by c at m k there b = record {
    method = b.element;
    there = ap (λ o. slice_get (core_methods.methods_in o) at) there ∙ b.is;
    params = b.holds.params;
    returns = b.holds.returns;
    flags = b.holds.flags;
    is_constructor = b.holds.is_constructor;
  }

  guest-there : (c : ℕ) → library_count source ≤ c → c < length (classes source) →
      slice_get (classes source) c ≡ Some (with_enum_methods source c (declared_class source c))
  guest-there c le l = guest-declared source c le (within-sites source c le (subst (λ n. c < n) (classes-count source) l))

  -- what the members of a class of the source came to
  guest-members : (c : ℕ) (k : CoreClass) → library_count source ≤ c → c < length (classes source) → (made : IsMade source e.first c k) →
      AllStand (with_enum_methods source c (declared_class source c)).methods made.done
  guest-members c k le l made =
      subst (Gives (AllStand (with_enum_methods source c (declared_class source c)).methods)) made.walked
      (all-stand c (guest-there c le l) (world_of source e.first).known (round_met source.sites e.first.met c) e.first.met
      (hidden_count source caught c))

  guest-stands : (c at : ℕ) (m : DeclaredMethod) → library_count source ≤ c → c < length (classes source) →
      slice_get (methods_in (slice_get p.classes c)) at ≡ Some m → MethodStands program p.heads c at m
  guest-stands c at m le l h =
      let k = placed program.classes c (subst (λ n. c < n) (sym e.has.count) l) in
      let made = e.has.guests c k.element le k.is in
      stands-by c at m k.element k.is
      (subst (λ (j : CoreClass). Beside Alike j.methods at m) (sym made.is)
      ((guest-members c k.element le l made).stand at m (sym (ap (λ ms. slice_get ms at) (guest-methods c (guest-there c le l))) ∙ h)))

  declared-by : (c : ℕ) (at : ℕ) (m : CoreMethod) (own-methods : List DeclaredMethod) →
      methods_in (slice_get p.classes c) ≡ own-methods → names m.name ≡ false → Beside (λ k n. Alike n k) own-methods at m →
      IsDeclared p (class_numbered c) at m
  declared-by c at m own-methods are plain b = record {
    method = b.element;
    there = ap (λ ms. slice_get ms at) are ∙ b.is;
    name = b.holds.name plain;
  }

  guest-only : (c at : ℕ) (k : CoreClass) (m : CoreMethod) → library_count source ≤ c → c < length (classes source) →
      class_at program (class_numbered c) ≡ Some k → slice_get k.methods at ≡ Some m → names m.name ≡ false →
      IsDeclared p (class_numbered c) at m
  guest-only c at k m le l there h plain =
      let made = e.has.guests c k le there in
      declared-by c at m (with_enum_methods source c (declared_class source c)).methods (guest-methods c (guest-there c le l)) plain
      ((guest-members c k le l made).only at m
      (subst (λ (j : CoreClass). slice_get j.methods at ≡ Some m) made.is h) plain)

  -- ---- the library's

  rows-alike : (c : ℕ) (l : InLibrary source c) (rs : List Row) → list_all is_flat_row rs ≡ true →
      list_all (λ (r : Row). list_any (bytes_eq r.name) library_words) rs ≡ true →
      AllZip Alike (map (method_due (number source) l.row) rs) (map (method_declared (number source) l.row c) rs)
  rows-alike c l [] h n = tt
  rows-alike c l (r ∷ rs) h n =
      let there = get-head source program e c (class_declared (number source) c l.row) l.declared in
      let flat = and-left (is_flat_row r) _ h in (
        record {
          params = types-erased p.heads (classes source) (number source) c l.row there (unwrap_or r.parameters []) (and-right (is_flat r.returns) _ flat);
          returns = type-erased p.heads (classes source) (number source) c l.row there r.returns (and-left _ _ flat);
          flags = refl;
          is_constructor = names-word source program e numbered r.name (word-there r.name (and-left _ _ n));
          name = λ plain. refl;
        },
        rows-alike c l rs (and-right (is_flat_row r) _ h) (and-right (list_any (bytes_eq r.name) library_words) _ n),
      )

  abbrev declared-rows : (c : ℕ) → InLibrary source c → List DeclaredMethod
  declared-rows c l = map (method_declared (number source) l.row c) (filter (is_method_of l.row) rows)

  library-methods : (c : ℕ) (l : InLibrary source c) → methods_in (slice_get p.classes c) ≡ declared-rows c l
  library-methods c l =
      ap (λ ds. methods_in (slice_get ds c)) (classes-are source e.first)
      ∙ ap methods_in (hidden-there source caught c (class_declared (number source) c l.row) l.declared)

  library-alike : (c : ℕ) (l : InLibrary source c) →
      AllZip Alike (map (method_due (number source) l.row) (filter (is_method_of l.row) rows)) (declared-rows c l)
  library-alike c l =
      rows-alike c l (filter (is_method_of l.row) rows) (all-filtered is_flat_row (is_method_of l.row) rows rows-flat)
      (all-filtered (λ (r : Row). list_any (bytes_eq r.name) library_words) (is_method_of l.row) rows rows-named)

  library-stands : (c at : ℕ) (m : DeclaredMethod) → c < library_count source →
      slice_get (methods_in (slice_get p.classes c)) at ≡ Some m → MethodStands program p.heads c at m
  library-stands c at m within h =
      let l = in-library source c within in
      stands-by c at m (class_due (number source) c l.row) (e.has.library c within ∙ l.due)
      (beside Alike (class_due (number source) c l.row).methods (declared-rows c l) at m (library-alike c l)
      (sym (ap (λ ms. slice_get ms at) (library-methods c l)) ∙ h))

  library-only : (c at : ℕ) (k : CoreClass) (m : CoreMethod) → c < library_count source →
      class_at program (class_numbered c) ≡ Some k → slice_get k.methods at ≡ Some m → names m.name ≡ false →
      IsDeclared p (class_numbered c) at m
  library-only c at k m within there h plain =
      let l = in-library source c within in
      let same : k ≡ class_due (number source) c l.row =
      same_Some k (class_due (number source) c l.row) (sym there ∙ e.has.library c within ∙ l.due) in
      declared-by c at m (declared-rows c l) (library-methods c l) plain
      (beside-first Alike (class_due (number source) c l.row).methods (declared-rows c l) at m (library-alike c l)
      (subst (λ (j : CoreClass). slice_get j.methods at ≡ Some m) same h))

  stands : (c at : ℕ) (m : DeclaredMethod) → slice_get (methods_in (slice_get p.classes c)) at ≡ Some m → MethodStands program p.heads c at m
  stands c at m h = by (cases_lt c (library_count source)) (cases_lt c (length (classes source)))
    where
      by : (c < library_count source ⊎ library_count source ≤ c) → (c < length (classes source) ⊎ length (classes source) ≤ c) →
          MethodStands program p.heads c at m
      by (inl l) other = library-stands c at m l h
      by (inr le) (inl l) = guest-stands c at m le l h
      by (inr le) (inr past) = absurd (none-some m
          (sym (ap (λ o. slice_get (methods_in o) at)
          (slice_get_past p.classes c (subst (λ n. n ≤ c) (sym (as-many-classes source e.first)) past))) ∙ h))

  only-declared : (c at : ℕ) (o : Option CoreClass) (m : CoreMethod) → class_at program (class_numbered c) ≡ o →
      slice_get (core_methods.methods_in o) at ≡ Some m → names m.name ≡ false → IsDeclared p (class_numbered c) at m
  only-declared c at None m there h plain = absurd (none-some m h)
  only-declared c at (Some k) m there h plain = by (cases_lt c (library_count source))
    where
      by : (c < library_count source ⊎ library_count source ≤ c) → IsDeclared p (class_numbered c) at m
      by (inl l) = library-only c at k m l there h plain
      by (inr le) = guest-only c at k m le (subst (λ n. c < n) e.has.count (slice_get_within program.classes c k there)) there h plain

  pub all-declared : (c : ClassId) (at : ℕ) (m : CoreMethod) → method_at program c at ≡ Some m →
      is_constructor program m ≡ false → IsDeclared p c at m
  all-declared c at m h plain = only-declared c.0 at (class_at program c) m refl h plain

pub methods_stand : (source : Source) (program : CoreProgram) (e : IsElaborated source program) → MethodsStand source program e
methods_stand source program e sites words c at m h = stands source program e words.numbered sites.enums words.no_method c at m h

pub methods_are_declared : (source : Source) (program : CoreProgram) (e : IsElaborated source program) →
    MethodsAreDeclared source program e
methods_are_declared source program e sites words = all-declared source program e words.numbered sites.enums words.no_method
