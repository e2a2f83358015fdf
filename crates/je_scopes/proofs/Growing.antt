-- A look-up that meets more known headers answers the same, or no longer waits.
use Rattle.std.proofs.Common.{◌≡◌, ℕ, zero, suc, List, [], ◌∷◌, ◌++◌, length, Option, Some, None, refl, sym, subst}
use Rattle.std.specs.Prelude.{Bool}
use Rattle.std.specs.List.{list_all}
use Rattle.je_base.specs.declared.span.NameId.{NameId}
use Rattle.je_ast.specs.declared.name.Identifier.{Identifier}
use Rattle.je_ast.specs.Types.{TypeName}
use Rattle.je_scopes.specs.Looks.{Look, waits, nothing, a_class, a_variable, unclear, joined, joined_over, or_further, class_found}
use Rattle.je_scopes.specs.Headers.{site_at}
use Rattle.je_scopes.specs.Source.{Source}
use Rattle.je_scopes.specs.Scope.{Known, Part, header, member, static_member, inheritable, from_supers, member_within, inherited, in_class, nearest, outwards, member_of, qualified, or_full_name, meaning, named_on, or_whole, named, is_accessible, part_outside}
use Rattle.je_scopes.specs.Settled.{parts_of, heads_of, also, supers_in}
use Rattle.je_scopes.specs.Laws.{Extends, header_of}

data Grows : Look → Look → Type 0 where
  still : {b : Look} → Grows waits b
  same : {a : Look} → Grows a a

-- the same of what is known of a header
pub data Kept : Option (List ℕ) → Option (List ℕ) → Type 0 where
  unknown : {b : Option (List ℕ)} → Kept None b
  kept : {a : Option (List ℕ)} → Kept a a

-- the same of a name: what it means, with the classes that it names
data Names : Look → List ℕ → Look → List ℕ → Type 0 where
  still_named : {ds es : List ℕ} {b : Look} → Names waits ds b es
  same_named : {ds : List ℕ} {a : Look} → Names a ds a ds

joined-waits : (a b : Look) → Grows (joined a waits) b
joined-waits waits b = still
joined-waits nothing b = still
joined-waits (a_class c) b = still
joined-waits (a_variable c at) b = still
joined-waits unclear b = still

grows-joined : {a b c d : Look} → Grows a b → Grows c d → Grows (joined a c) (joined b d)
grows-joined still q = still
grows-joined (same {a = a}) (still {b = d}) = joined-waits a (joined a d)
grows-joined same same = same

grows-over : (f g : ℕ → Look) (cs : List ℕ) → ((c : ℕ) → Grows (f c) (g c)) → Grows (joined_over f cs) (joined_over g cs)
grows-over f g [] h = same
grows-over f g (c ∷ cs) h = grows-joined (h c) (grows-over f g cs h)

further-same : (a : Look) {c d : Look} → Grows c d → Grows (or_further a c) (or_further a d)
further-same waits q = same
further-same nothing q = q
further-same (a_class c) q = same
further-same (a_variable c at) q = same
further-same unclear q = same

grows-further : {a b c d : Look} → Grows a b → Grows c d → Grows (or_further a c) (or_further b d)
grows-further still q = still
grows-further (same {a = a}) q = further-same a q

grows-inheritable : (p : Source) {a b : Look} → Grows a b → Grows (inheritable p a) (inheritable p b)
grows-inheritable p still = still
grows-inheritable p same = same

supers-same : (f g : ℕ → Look) (ds : Option (List ℕ)) → ((c : ℕ) → Grows (f c) (g c)) → Grows (from_supers f ds) (from_supers g ds)
supers-same f g None h = same
supers-same f g (Some ds) h = grows-over f g ds h

grows-supers : (f g : ℕ → Look) {a b : Option (List ℕ)} → Kept a b → ((c : ℕ) → Grows (f c) (g c)) → Grows (from_supers f a) (from_supers g b)
grows-supers f g unknown h = still
grows-supers f g (kept {a = a}) h = supers-same f g a h

kept-by : (a b : Option (List ℕ)) → ((ds : List ℕ) → a ≡ Some ds → b ≡ Some ds) → Kept a b
kept-by None b h = unknown
kept-by (Some ds) b h = subst (λ o. Kept (Some ds) o) (sym (h ds refl)) kept

kept-some : {a b : Option (List ℕ)} → Kept a b → (ds : List ℕ) → a ≡ Some ds → b ≡ Some ds
kept-some unknown ds e = absurd (cc)
kept-some kept ds e = e

also-none : (b : Bool) (a : Look) (o : Option (List ℕ)) → Kept (also b a None) o
also-none b waits o = unknown
also-none b nothing o = unknown
also-none b (a_class d) o = unknown
also-none b (a_variable d at) o = unknown
also-none b unclear o = unknown

kept-also : (test : List ℕ → Bool) {a b : Look} {ds es : List ℕ} {x y : Option (List ℕ)} → Names a ds b es → Kept x y → Kept (also (test ds) a x) (also (test es) b y)
kept-also test still_named q = unknown
kept-also test (same_named {ds = ds} {a = a}) (unknown {b = y}) = also-none (test ds) a (also (test ds) a y)
kept-also test same_named kept = kept

names-by : {a : Look} (ds es : List ℕ) (b : Look) → a ≡ waits → Names a ds b es
names-by ds es b e = subst (λ a. Names a ds b es) (sym e) still_named

module _ (p : Source) (known more : Known) (h : Extends known more) where
  kept-at : (c : ℕ) → Kept (known c) (more c)
  kept-at c = kept-by (known c) (more c) (h c)

  grows-member : (n : ℕ) (x : NameId) (c : ℕ) → Grows (member_within p known n x c) (member_within p more n x c)
  grows-member zero x c = same
  grows-member (suc n) x c = grows-further same (grows-supers _ _ (kept-at c) (λ d. grows-inheritable p (grows-member n x d)))

  grows-inherited : (x : NameId) (c : ℕ) → Grows (inherited p known x c) (inherited p more x c)
  grows-inherited x c = grows-supers _ _ (kept-at c) (λ d. grows-inheritable p (grows-member (length p.sites) x d))

  grows-class : (x : NameId) (part : Part) (c : ℕ) → Grows (in_class p known x part c) (in_class p more x part c)
  grows-class x header c = same
  grows-class x member c = grows-further same (grows-further same (grows-inherited x c))
  grows-class x static_member c = grows-further same (grows-further same (grows-inherited x c))

  grows-nearest : (x : NameId) (part : Part) (c : ℕ) → Grows (nearest p known x part c) (nearest p more x part c)
  grows-nearest x part c = grows-further (grows-class x part c) same

  grows-outwards : (x : NameId) (part : Part) (c : ℕ) (ds : List ℕ) → Grows (outwards p known x part c ds) (outwards p more x part c ds)
  grows-outwards x part c [] = grows-further (grows-nearest x part c) same
  grows-outwards x part c (d ∷ ds) = grows-further (grows-nearest x part c) (grows-outwards x (part_outside part (site_at p.sites c).spot.context) d ds)

  -- ---- qualified names

  waits-on : (is : List Identifier) → qualified p known waits is ≡ waits
  waits-on [] = refl
  waits-on (i ∷ is) = waits-on is

  behind-same : (a : Look) {b c : Look} {ds es : List ℕ} → Names b ds c es → Names b (class_found a ++ ds) c (class_found a ++ es)
  behind-same a still_named = still_named
  behind-same a same_named = same_named

  grows-of : (x : NameId) (a : Look) → Grows (member_of p known x a) (member_of p more x a)
  grows-of x waits = same
  grows-of x nothing = same
  grows-of x (a_class c) = grows-member (length p.sites) x c
  grows-of x (a_variable c at) = same
  grows-of x unclear = same

  names-on : (is : List Identifier) {a b : Look} → Grows a b → Names (qualified p known a is) (named_on p known a is) (qualified p more b is) (named_on p more b is)
  names-on [] still = still_named
  names-on [] same = same_named
  names-on (i ∷ is) still = names-by _ _ _ (waits-on is)
  names-on (i ∷ is) (same {a = a}) = behind-same a (names-on is (grows-of i.name a))

  names-from : (is : List Identifier) (a : Look) → Names (qualified p known a is) (named_on p known a is) (qualified p more a is) (named_on p more a is)
  names-from is a = names-on is same

  whole-same : (parts is : List Identifier) (a : Look) → Names (or_full_name p parts a (qualified p known a is)) (or_whole p parts a (named_on p known a is))
      (or_full_name p parts a (qualified p more a is)) (or_whole p parts a (named_on p more a is))
  whole-same parts is nothing = same_named
  whole-same parts is waits = names-from is waits
  whole-same parts is (a_class c) = names-from is (a_class c)
  whole-same parts is (a_variable c at) = names-from is (a_variable c at)
  whole-same parts is unclear = names-from is unclear

  whole : (parts is : List Identifier) {a b : Look} → Grows a b → Names (or_full_name p parts a (qualified p known a is)) (or_whole p parts a (named_on p known a is))
      (or_full_name p parts b (qualified p more b is)) (or_whole p parts b (named_on p more b is))
  whole parts is still = names-by _ _ _ (waits-on is)
  whole parts is (same {a = a}) = whole-same parts is a

  names-of : (c : ℕ) (part : Part) (parts : List Identifier) → Names (meaning p known c part parts) (named p known c part parts) (meaning p more c part parts) (named p more c part parts)
  names-of c part [] = same_named
  names-of c part (i ∷ is) = whole (i ∷ is) is (grows-outwards i.name part c (site_at p.sites c).spot.round)

  kept-supers : (c : ℕ) (ts : List TypeName) → Kept (supers_in p known c ts) (supers_in p more c ts)
  kept-supers c [] = kept
  kept-supers c (t ∷ ts) = kept-also (list_all (is_accessible p c)) (names-of c header (parts_of t)) (kept-supers c ts)

  pub header-kept : Extends (header_of p known) (header_of p more)
  header-kept c = kept-some (kept-supers c (heads_of p c))
