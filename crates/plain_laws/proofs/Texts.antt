-- The `toString()` that is found in String isn't wild: String declares one, so it inherits none without parameters, and no method of
-- String is wild.
use Rattle.std.proofs.Common.{◌≡◌, ℕ, zero, suc, ◌+◌, List, [], ◌∷◌, ◌++◌, length, Option, Some, None, option_map, refl, sym, ap, ◌∙◌, subst, arith, append-nil, true≢false}
use Rattle.std.specs.Prelude.{Bool, true, false, cond, not, ◌||◌, filter, slice_get, codes, if◌then◌else◌}
use Rattle.std.specs.List.{flat_map, list_all, list_any}
use Rattle.std.proofs.lemmas.List.Elements.{filter-append}
use Rattle.std.proofs.lemmas.Bool.{eq-eqb}
use Rattle.std.proofs.lemmas.Option.{none-some, same_Some}
use Rattle.je_base.specs.declared.span.NameId.{NameId}
use Rattle.je_core.specs.declared.types.ClassId.{ClassId}
use Rattle.je_core.specs.declared.types.Ty.{Ty}
use Rattle.je_core.specs.Core.{CoreMethod, CoreClass, CoreProgram}
use Rattle.je_table.specs.declared.classes.LibraryClass.TheVariants as class
use Rattle.je_table.specs.Library.{class_row, classes}
use Rattle.je_table.specs.Rows.{Row}
use Rattle.je_classes.specs.Hierarchy.{class_at, library_class, object_class, supers_of}
use Rattle.je_classes.specs.Members.{Found, nothing, one, several, Member, found_in, joined, method_of, methods_in, methods_of, names_constructors, same_member, same_name}
use Rattle.je_classes.specs.Methods.{accepts, all_pass, chosen, chosen_of, counts, declared, earlier, find_method, first_of, first_unless, implicit, is_best, is_concrete, is_inherited, is_private_in, methods_named, methods_within, named_from, params_in, params_of, passes_on, stands_before}
use Rattle.je_classes.specs.Subtypes.{same_types}
use Rattle.je_classes.proofs.Lists.{bool_cases}
use Rattle.je_fitting.specs.Types.{string}
use Rattle.je_fitting.proofs.Booleans.{two, both, is_false, is_not}
use Rattle.library_classes.specs.Library.{LibraryStands, all_due, class_due, methods_due, place_of_method, rows}
use Rattle.plain_programs.specs.Wild.{has_wild_text, has_wild_text_of, is_wild, is_wild_found, is_wild_row, is_wild_text, rows_of, text_place}
use Rattle.plain_laws.specs.Laws.{StringsAreNotWild}

-- ---- what is chosen among members that aren't wild

abbrev tame : Member → Bool
tame m = not (is_wild m)

joined-tame : (m : Member) (f : Found) → is_wild m ≡ false → is_wild_found (joined (one m) f) ≡ false
joined-tame m nothing h = h
joined-tame m (one n) h = bool_cases (λ b. is_wild_found (if b then one m else several) ≡ false) (same_member m n) (λ q. h) (λ q. refl)
joined-tame m several h = refl

found-tame : (ms : List Member) → list_all tame ms ≡ true → is_wild_found (found_in ms) ≡ false
found-tame [] h = refl
found-tame (m ∷ ms) h = joined-tame m (found_in ms) (is_false (two {a = tame m} h).0)

earlier-tame : (m : Member) (f : Found) → is_wild m ≡ false → is_wild_found f ≡ false → is_wild_found (earlier m f) ≡ false
earlier-tame m nothing h k = h
earlier-tame m (one n) h k = bool_cases (λ b. is_wild_found (if b then one n else one m) ≡ false) (stands_before n m) (λ q. k) (λ q. h)
earlier-tame m several h k = h

first-tame : (ms : List Member) → list_all tame ms ≡ true → is_wild_found (first_of ms) ≡ false
first-tame [] h = refl
first-tame (m ∷ ms) h = earlier-tame m (first_of ms) (is_false (two {a = tame m} h).0) (first-tame ms (two {a = tame m} h).1)

kept-tame : (test : Member → Bool) (ms : List Member) → list_all tame ms ≡ true → list_all tame (filter test ms) ≡ true
kept-tame test [] h = refl
kept-tame test (m ∷ ms) h = bool_cases (λ b. list_all tame (cond b (m ∷ filter test ms) (filter test ms)) ≡ true) (test m)
    (λ q. both (two {a = tame m} h).0 (kept-tame test ms (two {a = tame m} h).1))
    (λ q. kept-tame test ms (two {a = tame m} h).1)

unless-tame : (p : CoreProgram) (best : List Member) (f : Found) → list_all tame best ≡ true → is_wild_found f ≡ false → is_wild_found (first_unless p best f) ≡ false
unless-tame p best nothing h k = first-tame (filter (counts p best) best) (kept-tame (counts p best) best h)
unless-tame p best (one m) h k = k
unless-tame p best several h k = refl

of-tame : (p : CoreProgram) (ms best : List Member) → list_all tame best ≡ true → is_wild_found (chosen_of p ms best) ≡ false
of-tame p [] best h = refl
of-tame p (c ∷ cs) [] h = refl
of-tame p (c ∷ cs) (m ∷ ms) h = unless-tame p (m ∷ ms) (found_in (filter (is_concrete p) (m ∷ ms))) h (found-tame (filter (is_concrete p) (m ∷ ms)) (kept-tame (is_concrete p) (m ∷ ms) h))

chosen-tame : (p : CoreProgram) (ms : List Member) → list_all tame ms ≡ true → is_wild_found (chosen p ms) ≡ false
chosen-tame p ms h = of-tame p ms (filter (is_best p ms) ms) (kept-tame (is_best p ms) ms h)

-- ---- the methods of String

abbrev string_class : ClassId
string_class = library_class (codes "java.lang.String")

tame-rows : list_all (λ (r : Row). r.tame) (rows_of (slice_get classes string_class.0)) ≡ true
unfolding library_class rows
tame-rows = refl

tame-at : (rs : List Row) (at : ℕ) → list_all (λ (r : Row). r.tame) rs ≡ true → is_wild_row (slice_get rs at) ≡ false
tame-at [] at h = refl
tame-at (r ∷ rs) zero h = ap not (two {a = r.tame} h).0
tame-at (r ∷ rs) (suc at) h = tame-at rs at (two {a = r.tame} h).1

-- none is wild
own-tame : (at : ℕ) → is_wild (record { class = string_class; at = at }) ≡ false
unfolding is_wild
own-tame at = tame-at (rows_of (slice_get classes string_class.0)) at tame-rows

named-tame : (n : ℕ) (ms : List CoreMethod) (name : NameId) → list_all tame (named_from string_class n ms name) ≡ true
named-tame n [] name = refl
named-tame n (m ∷ ms) name = bool_cases (λ b. list_all tame (if b then record { class = string_class; at = n } ∷ named_from string_class (suc n) ms name else named_from string_class (suc n) ms name) ≡ true) (same_name m.name name)
    (λ q. both (is_not (own-tame n)) (named-tame (suc n) ms name))
    (λ q. named-tame (suc n) ms name)

-- a method of that name is among those of that name
met : (test : Member → Bool) (c : ClassId) (name : NameId) (n : ℕ) (ms : List CoreMethod) (at : ℕ) (m : CoreMethod) → slice_get ms at ≡ Some m → same_name m.name name ≡ true →
    test (record { class = c; at = n + at }) ≡ true → list_any test (named_from c n ms name) ≡ true
met test c name n [] at m e s t = absurd (none-some m e)
met test c name n (k ∷ ms) zero m e s t =
    let one : k ≡ m = same_Some k m e in
    let here : n + 0 ≡ n = omega arith in
    let passes : test (record { class = c; at = n }) ≡ true = subst (λ (i : ℕ). test (record { class = c; at = i }) ≡ true) here t in
    subst (λ (b : Bool). list_any test (if b then record { class = c; at = n } ∷ named_from c (suc n) ms name else named_from c (suc n) ms name) ≡ true) (sym (ap (λ (g : CoreMethod). same_name g.name name) one ∙ s))
    (ap (λ b. b || list_any test (named_from c (suc n) ms name)) passes)
met test c name n (k ∷ ms) (suc at) m e s t =
    let next : n + suc at ≡ suc n + at = omega arith in
    let rest : list_any test (named_from c (suc n) ms name) ≡ true = met test c name (suc n) ms at m e s (subst (λ (i : ℕ). test (record { class = c; at = i }) ≡ true) next t) in
    bool_cases (λ b. list_any test (if b then record { class = c; at = n } ∷ named_from c (suc n) ms name else named_from c (suc n) ms name) ≡ true) (same_name k.name name)
    (λ q. either (test (record { class = c; at = n })) rest)
    (λ q. rest)
  where
    either : (a : Bool) {b : Bool} → b ≡ true → (a || b) ≡ true
    either true h = refl
    either false h = h

-- what accepts no argument has no parameter
no-parameter : (p : CoreProgram) (ps : List Ty) → all_pass p [] ps ≡ true → ps ≡ []
no-parameter p [] h = refl
no-parameter p (t ∷ ps) h = absurd cc

-- what isn't kept by the one test isn't kept by the other
kept-by-neither : (first second : Member → Bool) (ms : List Member) → ((m : Member) → second m ≡ true → first m ≡ false) → filter second (filter first ms) ≡ []
kept-by-neither first second [] h = refl
kept-by-neither first second (m ∷ ms) h = bool_cases (λ b. first m ≡ b → filter second (cond b (m ∷ filter first ms) (filter first ms)) ≡ []) (first m)
    (λ q r. bool_cases (λ b. second m ≡ b → cond b (m ∷ filter second (filter first ms)) (filter second (filter first ms)) ≡ []) (second m)
    (λ s t. absurd (true≢false (sym r ∙ h m t)))
    (λ s t. kept-by-neither first second ms h) refl)
    (λ q r. kept-by-neither first second ms h) refl

module _ (p : CoreProgram) (library : LibraryStands p) where
  abbrev name : NameId
  name = library.number (codes "toString")

  string-there : class_at p string_class ≡ Some (class_due library.number 1 (class_row class.String))
  unfolding library_class all_due
  string-there = ap (λ cs. slice_get cs 1) library.first

  object-there : class_at p object_class ≡ Some (class_due library.number 0 (class_row class.Object))
  unfolding object_class library_class all_due
  object-there = ap (λ cs. slice_get cs 0) library.first

  abbrev text_at : ℕ
  text_at = place_of_method (class_row class.String) (codes "toString")

  abbrev methods : List CoreMethod
  methods = methods_due library.number (class_row class.String)

  own-methods : methods_of p string_class ≡ methods
  own-methods = ap methods_in string-there

  -- String's own `toString()`
  record OwnText : Type 0 where
    text : CoreMethod
    there : slice_get methods text_at ≡ Some text
    called : text.name ≡ name
    bare : text.params ≡ []

  abbrev said : CoreMethod → NameId × List Ty
  said m = (m.name, m.params)

  own-text-by : (o : Option CoreMethod) → slice_get methods text_at ≡ o → option_map said o ≡ Some (name, []) → OwnText
  own-text-by None e h = absurd cc
  own-text-by (Some m) e h = let one : said m ≡ (name, []) = same_Some (said m) (name, []) h in
      record { text = m; there = e; called = ap (λ (x : NameId × List Ty). x.0) one; bare = ap (λ (x : NameId × List Ty). x.1) one }

  own-text : OwnText
  unfolding rows
  own-text = own-text-by (slice_get methods text_at) refl refl

  abbrev nearer : List Member
  nearer = declared p name string_class

  abbrev text : Member
  text = record { class = string_class; at = text_at }

  text-there : method_of p text ≡ Some own-text.text
  text-there = ap (λ ms. slice_get ms text_at) own-methods ∙ own-text.there

  text-bare : params_of p text ≡ []
  text-bare = ap params_in text-there ∙ own-text.bare

  -- what takes no argument isn't inherited
  not-inherited : (m : Member) → accepts p [] m ≡ true → is_inherited p name nearer m ≡ false
  unfolding rows
  not-inherited m h =
      let none : params_of p m ≡ [] = no-parameter p (params_of p m) h in
      let alike : same_types (params_of p text) (params_of p m) ≡ true = ap (λ ps. same_types ps (params_of p m)) text-bare ∙ ap (same_types []) none in
      let found : list_any (λ n. same_types (params_of p n) (params_of p m)) (named_from string_class 0 methods name) ≡ true =
      met (λ n. same_types (params_of p n) (params_of p m)) string_class name 0 methods text_at own-text.text own-text.there (same-name own-text.text own-text.called) alike in
      let among : list_any (λ n. same_types (params_of p n) (params_of p m)) nearer ≡ true =
      ap (λ ms. list_any (λ n. same_types (params_of p n) (params_of p m)) (named_from string_class 0 ms name)) own-methods ∙ found in
      closed (names_constructors p name) (is_private_in (method_of p m)) among
    where
      closed : (a b : Bool) {c : Bool} → c ≡ true → not (a || b || c) ≡ false
      closed true b h = refl
      closed false true h = refl
      closed false false h = ap not h

      same-name : (m : CoreMethod) → m.name ≡ name → same_name m.name name ≡ true
      same-name m e = ap (λ (x : NameId). same_name x name) e ∙ eq-eqb name.0 name.0 refl

  nearer-tame : list_all tame nearer ≡ true
  nearer-tame = named-tame 0 (methods_of p string_class) name

  within-tame : (n : ℕ) → list_all tame (filter (accepts p []) (methods_within p n name string_class)) ≡ true
  within-tame zero = refl
  within-tame (suc n) =
      let farther = flat_map (λ d. filter (passes_on p string_class d) (methods_within p n name d)) (supers_of p string_class) ++ implicit p name string_class in
      ap (list_all tame) (filter-append (accepts p []) nearer (filter (is_inherited p name nearer) farther)
      ∙ ap (λ ms. filter (accepts p []) nearer ++ ms) (kept-by-neither (is_inherited p name nearer) (accepts p []) farther not-inherited))
      ∙ ap (list_all tame) (append-nil (filter (accepts p []) nearer))
      ∙ kept-tame (accepts p []) nearer nearer-tame

  found-text : is_wild_found (find_method p string_class name []) ≡ false
  unfolding find_method methods_named
  found-text = chosen-tame p (filter (accepts p []) (methods_named p string_class name)) (within-tame (length p.classes))

  object-text : option_map (λ (m : CoreMethod). m.name) (method_of p (record { class = object_class; at = text_place })) ≡ Some name
  unfolding object_class library_class text_place rows
  object-text = ap (λ (o : Option CoreClass). option_map (λ (m : CoreMethod). m.name) (slice_get (methods_in o) text_place)) object-there

  pub not-wild : is_wild_text p string ≡ false
  unfolding has_wild_text
  not-wild = by (method_of p (record { class = object_class; at = text_place })) object-text
    where
      by : (o : Option CoreMethod) → option_map (λ (m : CoreMethod). m.name) o ≡ Some name → has_wild_text_of p string_class o ≡ false
      by None e = refl
      by (Some m) e = ap (λ (x : NameId). is_wild_found (find_method p string_class x [])) (same_Some m.name name e) ∙ found-text

pub strings_are_not_wild : StringsAreNotWild
strings_are_not_wild p library = not-wild p library
