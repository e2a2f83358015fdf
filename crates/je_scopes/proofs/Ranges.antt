-- Each class that a look-up finds is one of the program's.
use Rattle.std.proofs.Common.{◌≡◌, ℕ, zero, suc, ◌+◌, ◌<◌, ◌≤◌, List, [], ◌∷◌, ◌++◌, length, Option, Some, None, refl, arith}
use Rattle.std.specs.Prelude.{Bool, true, false, slice_get, nat_eq, nat_lt, cond, codes, if◌then◌else◌}
use Rattle.std.specs.List.{position, position_or_len, Contains}
use Rattle.std.specs.Str.{bytes_eq}
use Rattle.std.proofs.lemmas.Option.{slice_get_within}
use Rattle.je_base.specs.declared.span.NameId.{NameId}
use Rattle.je_ast.specs.declared.name.Identifier.{Identifier}
use Rattle.je_ast.specs.Types.{QualifiedName}
use Rattle.je_table.specs.Library.{Class, classes, class_number}
use Rattle.je_scopes.specs.Sites.{Site}
use Rattle.je_scopes.specs.Headers.{site_at, name_in, has_name, or_nothing}
use Rattle.je_scopes.specs.Looks.{Look, waits, nothing, a_class, a_variable, unclear, found, joined, joined_over, or_further, class_found}
use Rattle.je_scopes.specs.Source.{Source, full_text, text_in, library_class}
use Rattle.je_scopes.specs.Scope.{Known, Part, header, member, static_member, is_declared, first_declared, declared, inheritable, from_supers, member_within, inherited, variable_for, in_class, first_named, nearest, first_import, at_top, or_no_imports, outwards, in_scope, member_of, named_on, or_whole, named, part_outside}
use Rattle.je_scopes.specs.Laws.{HasLibrary}
use Rattle.je_classes.proofs.Lists.{bool_cases, contains-here, contains-later, contains-cases}
use Rattle.std.proofs.lemmas.Bool.Decides.{nat_tests}
use Rattle.je_scopes.proofs.Either.{by_either, nothing-in}

abbrev pub IsBelow : ℕ → Look → Type 0
IsBelow n look = (c : ℕ) → look ≡ a_class c → c < n

of-class : (c d : ℕ) → a_class c ≡ a_class d → c ≡ d
of-class c d e = cc

below-class : (n d : ℕ) → d < n → IsBelow n (a_class d)
below-class n d l c e = let s : d ≡ c = of-class d c e in omega (arith, s, l)

below-further : (n : ℕ) (a b : Look) → IsBelow n a → IsBelow n b → IsBelow n (or_further a b)
below-further n waits b p q = p
below-further n nothing b p q = q
below-further n (a_class c) b p q = p
below-further n (a_variable c at) b p q = p
below-further n unclear b p q = p

below-two : (n c d : ℕ) → c < n → (b : Bool) → IsBelow n (if b then a_class c else unclear)
below-two n c d l true = below-class n c l
below-two n c d l false = λ k e. absurd cc

below-joined : (n : ℕ) (a b : Look) → IsBelow n a → IsBelow n b → IsBelow n (joined a b)
below-joined n waits b p q = λ c e. absurd cc
below-joined n nothing b p q = q
below-joined n (a_class c) waits p q = λ d e. absurd cc
below-joined n (a_class c) nothing p q = p
below-joined n (a_class c) (a_class d) p q = below-two n c d (p c refl) (nat_eq c d)
below-joined n (a_class c) (a_variable d at) p q = λ k e. absurd cc
below-joined n (a_class c) unclear p q = λ k e. absurd cc
below-joined n (a_variable c at) waits p q = λ k e. absurd cc
below-joined n (a_variable c at) nothing p q = λ k e. absurd cc
below-joined n (a_variable c at) (a_class d) p q = λ k e. absurd cc
below-joined n (a_variable c at) (a_variable d to) p q = λ k e. absurd cc
below-joined n (a_variable c at) unclear p q = λ k e. absurd cc
below-joined n unclear waits p q = λ k e. absurd cc
below-joined n unclear nothing p q = λ k e. absurd cc
below-joined n unclear (a_class d) p q = λ k e. absurd cc
below-joined n unclear (a_variable d at) p q = λ k e. absurd cc
below-joined n unclear unclear p q = λ k e. absurd cc

below-over : (n : ℕ) (f : ℕ → Look) (cs : List ℕ) → ((c : ℕ) → IsBelow n (f c)) → IsBelow n (joined_over f cs)
below-over n f [] h = λ c e. absurd cc
below-over n f (c ∷ cs) h = below-joined n (f c) (joined_over f cs) (h c) (below-over n f cs h)

below-supers : (n : ℕ) (f : ℕ → Look) (ds : Option (List ℕ)) → ((c : ℕ) → IsBelow n (f c)) → IsBelow n (from_supers f ds)
below-supers n f None h = λ c e. absurd cc
below-supers n f (Some ds) h = below-over n f ds h

below-unless : (n c : ℕ) (b : Bool) → c < n → IsBelow n (if b then nothing else a_class c)
below-unless n c true l = λ d e. absurd cc
below-unless n c false l = below-class n c l

below-inheritable : (n : ℕ) (p : Source) (a : Look) → IsBelow n a → IsBelow n (inheritable p a)
below-inheritable n p waits h = h
below-inheritable n p nothing h = h
below-inheritable n p (a_class c) h = below-unless n c _ (h c refl)
below-inheritable n p (a_variable c at) h = h
below-inheritable n p unclear h = h

-- ---- places in lists

below-found : (n : ℕ) (o : Option ℕ) → ((c : ℕ) → o ≡ Some c → c < n) → IsBelow n (found o)
below-found n None h = λ c e. absurd cc
below-found n (Some d) h = below-class n d (h d refl)

first-below : (m : ℕ) (ss : List Site) (place : Option ℕ) (x : NameId) (c : ℕ) → first_declared m ss place x ≡ Some c → c < m + length ss
first-below m [] place x c e = absurd cc
first-below m (s ∷ ss) place x c e = by (is_declared place x s) (λ q. first-below (suc m) ss place x c q) e
  where
    by : (b : Bool) → (first_declared (suc m) ss place x ≡ Some c → c < suc m + length ss) → (if b then Some m else first_declared (suc m) ss place x) ≡ Some c → c < m + length (s ∷ ss)
    by true h q = let k : m ≡ c = cc in omega (arith, k)
    by false h q = let k : c < suc m + length ss = h q in omega (arith, k)

place-below : {A : Type 0} (test : A → Bool) (xs : List A) (n : ℕ) → position test xs ≡ Some n → n < length xs
place-below test xs n e = bool_cases (λ b. nat_lt (position_or_len test xs) (length xs) ≡ b → cond b (Some (position_or_len test xs)) None ≡ Some n → n < length xs) (nat_lt (position_or_len test xs) (length xs))
    (λ _ h q. let k : position_or_len test xs ≡ n = cc in let l : position_or_len test xs < length xs = grind (arith, nat_tests) in omega (arith, k, l))
    (λ _ h q. absurd cc) refl e

named-site : (ss : List Site) (c : ℕ) (x : NameId) → has_name (name_in (site_at ss c).written) x ≡ true → c < length ss
named-site ss c x e = by (slice_get ss c) refl (e)
  where
    by : (o : Option Site) → slice_get ss c ≡ o → has_name (name_in (or_nothing o).written) x ≡ true → c < length ss
    by None q h = absurd cc
    by (Some s) q h = slice_get_within ss c s q

module _ (p : Source) (whole : HasLibrary p) where
  library-below : (name : List ℕ) → IsBelow (length p.sites) (found (class_number name))
  library-below name = below-found (length p.sites) (class_number name)
      (λ c e. let l : c < length classes = place-below (λ (k : Class). bytes_eq k.name name) classes c e in let w : length classes ≤ length p.sites = whole in omega (arith, l, w))

  declared-below : (place : Option ℕ) (x : NameId) → IsBelow (length p.sites) (declared p place x)
  declared-below place x = below-found (length p.sites) (first_declared 0 p.sites place x) (λ c e. let l : c < 0 + length p.sites = first-below 0 p.sites place x c e in omega (arith, l))

  pub member-below : (known : Known) (n : ℕ) (x : NameId) (c : ℕ) → IsBelow (length p.sites) (member_within p known n x c)
  member-below known zero x c = λ d e. absurd cc
  member-below known (suc n) x c = below-further (length p.sites) _ _ (declared-below (Some c) x)
      (below-supers (length p.sites) _ (known c) (λ d. below-inheritable (length p.sites) p _ (member-below known n x d)))

  inherited-below : (known : Known) (x : NameId) (c : ℕ) → IsBelow (length p.sites) (inherited p known x c)
  inherited-below known x c = below-supers (length p.sites) _ (known c) (λ d. below-inheritable (length p.sites) p _ (member-below known (length p.sites) x d))

  for-below : (c : ℕ) (part : Part) (o : Option ℕ) → IsBelow (length p.sites) (variable_for c part o)
  for-below c header None = λ d e. absurd cc
  for-below c member None = λ d e. absurd cc
  for-below c static_member None = λ d e. absurd cc
  for-below c header (Some at) = λ d e. absurd cc
  for-below c member (Some at) = λ d e. absurd cc
  for-below c static_member (Some at) = λ d e. absurd cc

  class-below : (known : Known) (x : NameId) (part : Part) (c : ℕ) → IsBelow (length p.sites) (in_class p known x part c)
  class-below known x header c = for-below c header _
  class-below known x member c = below-further (length p.sites) _ _ (declared-below (Some c) x) (below-further (length p.sites) _ _ (for-below c member _) (inherited-below known x c))
  class-below known x static_member c = below-further (length p.sites) _ _ (declared-below (Some c) x) (below-further (length p.sites) _ _ (for-below c static_member _) (inherited-below known x c))

  local-below : (x : NameId) (cs : List ℕ) → IsBelow (length p.sites) (first_named p x cs)
  local-below x [] = λ d e. absurd cc
  local-below x (c ∷ cs) = bool_cases (λ b. has_name (name_in (site_at p.sites c).written) x ≡ b → IsBelow (length p.sites) (if b then a_class c else first_named p x cs)) (has_name (name_in (site_at p.sites c).written) x)
      (λ _ h. below-class (length p.sites) c (named-site p.sites c x h)) (λ _ h. local-below x cs) refl

  nearest-below : (known : Known) (x : NameId) (part : Part) (c : ℕ) → IsBelow (length p.sites) (nearest p known x part c)
  nearest-below known x part c = below-further (length p.sites) _ _ (class-below known x part c) (local-below x _)

  import-by : (x : NameId) (q : QualifiedName) (qs : List QualifiedName) → IsBelow (length p.sites) (first_import p.texts x qs) → (b : Bool) →
      IsBelow (length p.sites) (if b then or_further (found (library_class p.texts q.parts)) (first_import p.texts x qs) else first_import p.texts x qs)
  import-by x q qs h true = below-further (length p.sites) (found (library_class p.texts q.parts)) (first_import p.texts x qs) (library-below (full_text p.texts q.parts)) h
  import-by x q qs h false = h

  import-below : (x : NameId) (qs : List QualifiedName) → IsBelow (length p.sites) (first_import p.texts x qs)
  import-below x [] = λ d e. absurd cc
  import-below x (q ∷ qs) = import-by x q qs (import-below x qs) _

  top-below : (unit : ℕ) (x : NameId) → IsBelow (length p.sites) (at_top p unit x)
  top-below unit x = below-further (length p.sites) _ _ (import-below x (or_no_imports (slice_get p.imports unit))) (below-further (length p.sites) _ _ (declared-below None x) (library-below (codes "java.lang." ++ text_in p.texts x)))

  outwards-below : (known : Known) (x : NameId) (part : Part) (c : ℕ) (ds : List ℕ) → IsBelow (length p.sites) (outwards p known x part c ds)
  outwards-below known x part c [] = below-further (length p.sites) _ _ (nearest-below known x part c) (top-below _ x)
  outwards-below known x part c (d ∷ ds) = below-further (length p.sites) _ _ (nearest-below known x part c) (outwards-below known x (part_outside part (site_at p.sites c).spot.context) d ds)

  of-below : (known : Known) (x : NameId) (a : Look) → IsBelow (length p.sites) a → IsBelow (length p.sites) (member_of p known x a)
  of-below known x waits h = h
  of-below known x nothing h = h
  of-below known x (a_class c) h = member-below known (length p.sites) x c
  of-below known x (a_variable c at) h = λ d e. absurd cc
  of-below known x unclear h = h

  -- ---- the classes that a name names

  AreBelow : List ℕ → Type 0
  AreBelow ds = (d : ℕ) → Contains ds d → d < length p.sites

  found-are : (a : Look) → IsBelow (length p.sites) a → (d : ℕ) → Contains (class_found a) d → d < length p.sites
  found-are waits h d q = absurd (nothing-in d q)
  found-are nothing h d q = absurd (nothing-in d q)
  found-are (a_class c) h d q = by_either (λ e. let l : c < length p.sites = h c refl in omega (arith, e, l)) (λ r. absurd (nothing-in d r)) (contains-cases c d [] q)
  found-are (a_variable c at) h d q = absurd (nothing-in d q)
  found-are unclear h d q = absurd (nothing-in d q)

  both-are : (xs ys : List ℕ) → ((d : ℕ) → Contains xs d → d < length p.sites) → ((d : ℕ) → Contains ys d → d < length p.sites) → (d : ℕ) → Contains (xs ++ ys) d → d < length p.sites
  both-are [] ys f g d q = g d q
  both-are (x ∷ xs) ys f g d q = by_either (λ e. let l : x < length p.sites = f x (contains-here x xs) in omega (arith, e, l)) (λ r. both-are xs ys (λ k h. f k (contains-later x k xs h)) g d r) (contains-cases x d (xs ++ ys) q)

  on-are : (known : Known) (a : Look) (is : List Identifier) → IsBelow (length p.sites) a → (d : ℕ) → Contains (named_on p known a is) d → d < length p.sites
  on-are known a [] h d q = found-are a h d q
  on-are known a (i ∷ is) h d q = both-are (class_found a) _ (found-are a h) (on-are known (member_of p known i.name a) is (of-below known i.name a h)) d q

  whole-are : (parts is : List Identifier) (known : Known) (a : Look) → IsBelow (length p.sites) a → (d : ℕ) → Contains (or_whole p parts a (named_on p known a is)) d → d < length p.sites
  whole-are parts is known nothing h d q = found-are (found (library_class p.texts parts)) (library-below (full_text p.texts parts)) d q
  whole-are parts is known waits h d q = on-are known waits is h d q
  whole-are parts is known (a_class c) h d q = on-are known (a_class c) is h d q
  whole-are parts is known (a_variable c at) h d q = on-are known (a_variable c at) is h d q
  whole-are parts is known unclear h d q = on-are known unclear is h d q

  pub named-are : (known : Known) (c : ℕ) (part : Part) (parts : List Identifier) (d : ℕ) → Contains (named p known c part parts) d → d < length p.sites
  named-are known c part [] d q = absurd (nothing-in d q)
  named-are known c part (i ∷ is) d q = whole-are (i ∷ is) is known (in_scope p known c part i.name) (outwards-below known i.name part c (site_at p.sites c).spot.round) d q
