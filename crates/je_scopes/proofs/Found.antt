-- Where no name has a fault each header is settled, and look-ups find the sets of member classes.
use Rattle.std.proofs.Common.{◌≡◌, ℕ, zero, suc, ◌+◌, ◌<◌, List, [], ◌∷◌, ◌++◌, length, Option, Some, None, refl, sym, ap, ◌∙◌, subst, arith, inl, inr}
use Rattle.std.specs.Prelude.{Bool, true, false, not, ◌⊎◌, nat_eq, if◌then◌else◌}
use Rattle.std.specs.List.{list_all, flat_map, Contains}
use Rattle.std.proofs.lemmas.Bool.Decides.{nat_tests}
use Rattle.je_base.specs.declared.span.NameId.{NameId}
use Rattle.je_ast.specs.declared.name.Identifier.{Identifier}
use Rattle.je_ast.specs.Types.{QualifiedName, TypeName, TypeNames, primitive, class_type}
use Rattle.je_classes.proofs.Lists.{bool_cases, contains-here, contains-later, contains-cases}
use Rattle.je_scopes.specs.Headers.{site_at, is_private}
use Rattle.je_scopes.specs.Looks.{Look, waits, nothing, a_class, a_variable, unclear, found, joined, joined_over, or_further, class_found}
use Rattle.je_scopes.specs.Source.{Source, library_class}
use Rattle.je_scopes.specs.Scope.{Known, Part, header, first_declared, declared, inheritable, from_supers, member_within, in_scope, member_of, qualified, or_full_name, meaning, named_on, or_whole, named, is_accessible}
use Rattle.je_scopes.specs.Settled.{settled, heads_of, parts_of, also, supers_in, dependences}
use Rattle.je_scopes.specs.SourceTypes.{count}
use Rattle.je_scopes.specs.Faults.{Fault, unknown, not_accessible, where_so, by_meaning, of_name, of_type, of_types, of_head, cycle, name_span, first_fault}
use Rattle.je_scopes.specs.Laws.{HasLibrary, IsAcyclic}
use Rattle.je_scopes.specs.Found.{HasMember, own, from_above, IsFound, none_there, one_there, several_there, MembersAreFound}
use Rattle.je_scopes.proofs.Either.{by_either, nothing-in}
use Rattle.je_scopes.proofs.Lists.{in-left, in-right, flat-from}
use Rattle.je_scopes.proofs.Ranges.{named-are}
use Rattle.je_scopes.proofs.Rounds.{rounds_suffice}
use Rattle.je_scopes.proofs.First.{none_is_fault_free}
use Rattle.je_scopes.proofs.Dependence.{edge-within}
use Rattle.je_scopes.proofs.Acyclic.{class-faults, head-faults, with-heads, fault_free_is_acyclic}

same-refl : (c : ℕ) → nat_eq c c ≡ true
same-refl c = grind (arith, nat_tests)

same-equal : (c d : ℕ) → nat_eq c d ≡ true → c ≡ d
same-equal c d e = grind (arith, nat_tests)

-- sets by their sizes

found-same : {P Q : ℕ → Type 0} {f : Look} → ((m : ℕ) → P m → Q m) → ((m : ℕ) → Q m → P m) → IsFound P f → IsFound Q f
found-same there back (none_there n) = none_there (λ m q. n m (back m q))
found-same there back (one_there {m = m} p u) = one_there (there m p) (λ n q. u n (back n q))
found-same there back (several_there {m = m} {n = n} p q d) = several_there (there m p) (there n q) d

one-one : {P Q : ℕ → Type 0} (m k : ℕ) → P m → ((n : ℕ) → P n → n ≡ m) → Q k → ((n : ℕ) → Q n → n ≡ k) → IsFound (λ n. P n ⊎ Q n) (if nat_eq m k then a_class m else unclear)
one-one {P = P} {Q = Q} m k p u q v = bool_cases (λ b. IsFound (λ n. P n ⊎ Q n) (if b then a_class m else unclear)) (nat_eq m k)
    (λ e. one_there (inl p) (λ n x. by_either (u n) (λ y. v n y ∙ sym (same-equal m k e)) x))
    (λ e. several_there (inl p) (inr q) (λ h. absurd (let r : nat_eq m k ≡ true = rw (← h) (same-refl m) in cc)))

union : {P Q : ℕ → Type 0} {f g : Look} → IsFound P f → IsFound Q g → IsFound (λ m. P m ⊎ Q m) (joined f g)
union (none_there n) q = found-same (λ m x. inr x) (λ m x. by_either (λ p. absurd (n m p)) (λ y. y) x) q
union (one_there {m = m} p u) (none_there n) = one_there (inl p) (λ k x. by_either (u k) (λ y. absurd (n k y)) x)
union (one_there {m = m} p u) (one_there {m = k} q v) = one-one m k p u q v
union (one_there p u) (several_there {m = m} {n = n} q r d) = several_there (inr q) (inr r) d
union (several_there {m = m} {n = n} p q d) (none_there k) = several_there (inl p) (inl q) d
union (several_there {m = m} {n = n} p q d) (one_there k u) = several_there (inl p) (inl q) d
union (several_there {m = m} {n = n} p q d) (several_there k l e) = several_there (inl p) (inl q) d

-- what isn't private of a set whose own one alone may be so
record Inherits (p : Source) (P : ℕ → Type 0) (m : ℕ) : Type 0 where
  has : P m
  open_there : is_private (site_at p.sites m) ≡ false

-- some member of one of the classes
record Among (P : ℕ → ℕ → Type 0) (cs : List ℕ) (m : ℕ) : Type 0 where
  class : ℕ
  there : Contains cs class
  has : P class m

over : (P : ℕ → ℕ → Type 0) (f : ℕ → Look) (cs : List ℕ) → ((c : ℕ) → Contains cs c → IsFound (P c) (f c)) → IsFound (Among P cs) (joined_over f cs)
over P f [] k = none_there (λ m a. nothing-in a.class a.there)
over P f (c ∷ cs) k = found-same
    (λ m x. by_either (λ q. record { class = c; there = contains-here c cs; has = q }) (λ a. record { class = a.class; there = contains-later c a.class cs a.there; has = a.has }) x)
    (λ m a. by_either (λ e. inl (subst (λ d. P d m) (sym e) a.has)) (λ q. inr (record { class = a.class; there = q; has = a.has })) (contains-cases c a.class cs a.there))
    (union (k c (contains-here c cs)) (over P f cs (λ d h. k d (contains-later c d cs h))))

-- ---- headers without fault

-- the class that a name means is one that it names
found-named : (a : Look) (d : ℕ) → a ≡ a_class d → Contains (class_found a) d
found-named a d e = subst (λ (k : Look). Contains (class_found k) d) (sym e) (contains-here d [])

on-named : (p : Source) (known : Known) (a : Look) (is : List Identifier) (d : ℕ) → qualified p known a is ≡ a_class d → Contains (named_on p known a is) d
on-named p known a [] d e = found-named a d e
on-named p known a (i ∷ is) d e = in-right (class_found a) (named_on p known (member_of p known i.name a) is) d (on-named p known (member_of p known i.name a) is d e)

whole-named : (p : Source) (known : Known) (parts is : List Identifier) (a : Look) (d : ℕ) → or_full_name p parts a (qualified p known a is) ≡ a_class d → Contains (or_whole p parts a (named_on p known a is)) d
whole-named p known parts is nothing d e = found-named (found (library_class p.texts parts)) d e
whole-named p known parts is waits d e = on-named p known waits is d e
whole-named p known parts is (a_class c) d e = on-named p known (a_class c) is d e
whole-named p known parts is (a_variable c at) d e = on-named p known (a_variable c at) is d e
whole-named p known parts is unclear d e = on-named p known unclear is d e

pub meant-named : (p : Source) (known : Known) (c : ℕ) (part : Part) (parts : List Identifier) (d : ℕ) → meaning p known c part parts ≡ a_class d → Contains (named p known c part parts) d
meant-named p known c part [] d e = absurd cc
meant-named p known c part (i ∷ is) d e = whole-named p known (i ∷ is) is (in_scope p known c part i.name) d e

-- what a header that is read gives
record Supers (p : Source) (c : ℕ) (ts : List TypeName) : Type 0 where
  supers : List ℕ
  settled_so : supers_in p (settled p) c ts ≡ Some supers
  all_named : (d : ℕ) → Contains supers d → Contains (flat_map (λ t. named p (settled p) c header (parts_of t)) ts) d

record Also (look : Look) (accessible : Bool) (ds : List ℕ) : Type 0 where
  supers : List ℕ
  is_so : also accessible look (Some ds) ≡ Some supers
  from : (d : ℕ) → Contains supers d → (look ≡ a_class d) ⊎ Contains ds d

also-class : (c : ℕ) (b : Bool) (ds : List ℕ) → Also (a_class c) b ds
also-class c true ds = record { supers = c ∷ ds; is_so = refl; from = λ d q. by_either (λ e. inl (ap a_class e)) (λ r. inr r) (contains-cases c d ds q) }
also-class c false ds = record { supers = ds; is_so = refl; from = λ d q. inr q }

also-read : (look : Look) (b : Bool) (ds : List ℕ) → ¬ look ≡ waits → Also look b ds
also-read waits b ds n = absurd (n refl)
also-read nothing b ds n = record { supers = ds; is_so = refl; from = λ d q. inr q }
also-read (a_class c) b ds n = also-class c b ds
also-read (a_variable c at) b ds n = record { supers = ds; is_so = refl; from = λ d q. inr q }
also-read unclear b ds n = record { supers = ds; is_so = refl; from = λ d q. inr q }

waiting-fault : (p : Source) (look : Look) (q : QualifiedName) (n : ℕ) → look ≡ waits → Contains (by_meaning p look n q.span) (unknown q.span)
waiting-fault p look q n e = subst (λ (k : Look). Contains (by_meaning p k n q.span) (unknown q.span)) (sym e) (contains-here (unknown q.span) [])

module _ (p : Source) (free : first_fault p ≡ None) where
  none-waits : (c : ℕ) → c < length p.sites → (t : TypeName) → Contains (heads_of p c) t → ¬ meaning p (settled p) c header (parts_of t) ≡ waits
  none-waits c l (primitive word dims span) q e = absurd cc
  none-waits c l (class_type n args dims span) q e =
      let a : Contains (of_name p c header n (count args)) (unknown n.span) =
      in-right (where_so (not (list_all (is_accessible p c) (named p (settled p) c header n.parts))) (not_accessible n.span)) (by_meaning p (meaning p (settled p) c header n.parts) (count args) n.span) (unknown n.span)
      (waiting-fault p (meaning p (settled p) c header n.parts) n (count args) e) in
      let t : TypeName = class_type n args dims span in
      none_is_fault_free p free (unknown n.span) (class-faults p c (unknown n.span) l (with-heads (site_at p.sites c).written (class_type n args dims span) q)
      (head-faults p c (class_type n args dims span) (unknown n.span) q (in-right _ (of_type p c header (class_type n args dims span)) (unknown n.span) (in-left (of_name p c header n (count args)) (of_types p c header args) (unknown n.span) a))))

  names-settle : (c : ℕ) → (ts : List TypeName) → ((t : TypeName) → Contains ts t → ¬ meaning p (settled p) c header (parts_of t) ≡ waits) → Supers p c ts
  names-settle c [] k = record { supers = []; settled_so = refl; all_named = λ d q. absurd (nothing-in d q) }
  names-settle c (t ∷ ts) k =
      let r = names-settle c ts (λ u q. k u (contains-later t u ts q)) in
      let s : supers_in p (settled p) c ts ≡ Some r.supers = r.settled_so in
      let o = also-read (meaning p (settled p) c header (parts_of t)) (list_all (is_accessible p c) (named p (settled p) c header (parts_of t))) r.supers (k t (contains-here t ts)) in
      record {
        supers = o.supers;
        settled_so = ap (λ ds. also (list_all (is_accessible p c) (named p (settled p) c header (parts_of t))) (meaning p (settled p) c header (parts_of t)) ds) s ∙ o.is_so;
        all_named = λ d q. by_either
            (λ e. in-left (named p (settled p) c header (parts_of t)) (flat_map (λ u. named p (settled p) c header (parts_of u)) ts) d (meant-named p (settled p) c header (parts_of t) d e))
            (λ h. in-right (named p (settled p) c header (parts_of t)) (flat_map (λ u. named p (settled p) c header (parts_of u)) ts) d (r.all_named d h))
            (o.from d q);
      }

  record Header (c : ℕ) : Type 0 where
    supers : List ℕ
    settled_so : settled p c ≡ Some supers
    all_named : (d : ℕ) → Contains supers d → Contains (dependences p c) d

  all-settled : (c : ℕ) → c < length p.sites → Header c
  all-settled c l = let r = names-settle c (heads_of p c) (none-waits c l) in
      record { supers = r.supers; settled_so = rounds_suffice p c r.supers r.settled_so; all_named = r.all_named }

-- ---- look-ups

declared-cases : (o : Option ℕ) (P : Look → Type 0) → (found o ≡ nothing → P nothing) → ((m : ℕ) → found o ≡ a_class m → P (a_class m)) → P (found o)
declared-cases None P a b = a refl
declared-cases (Some m) P a b = b m refl

inherit : {p : Source} {P : ℕ → Type 0} {f : Look} → IsFound P f → ((m : ℕ) → f ≡ unclear → P m → is_private (site_at p.sites m) ≡ false) → IsFound (Inherits p P) (inheritable p f)
inherit {p = p} {P = P} (none_there n) k = none_there (λ m i. n m i.has)
inherit {p = p} {P = P} (one_there {m = m} q u) k = bool_cases (λ b. IsFound (Inherits p P) (if b then nothing else a_class m)) (is_private (site_at p.sites m))
    (λ e. none_there (λ n i. let s : n ≡ m = u n i.has in let o : is_private (site_at p.sites n) ≡ false = i.open_there in let t : is_private (site_at p.sites n) ≡ true = subst (λ k. is_private (site_at p.sites k) ≡ true) (sym s) e in absurd (cc)))
    (λ e. one_there (record { has = q; open_there = e }) (λ n i. u n i.has))
inherit {p = p} {P = P} (several_there {m = m} {n = n} q r d) k = several_there (record { has = q; open_there = k m refl q }) (record { has = r; open_there = k n refl r }) d

module _ (p : Source) (whole : HasLibrary p) (e : first_fault p ≡ None) (a : IsAcyclic p) (x : NameId) where
  own-several : (look other : Look) (m : ℕ) → look ≡ a_class m → or_further look other ≡ unclear → ⊥
  own-several look other m q s = let r : a_class m ≡ unclear = (let t : or_further (a_class m) other ≡ unclear = subst (λ k. or_further k other ≡ unclear) q s in t) in absurd (cc)

  not-private : (n c m : ℕ) → member_within p (settled p) n x c ≡ unclear → HasMember p (settled p) x c m → is_private (site_at p.sites m) ≡ false
  not-private zero c m s h = absurd (cc)
  not-private (suc n) c m s (own q) = absurd (own-several (declared p (Some c) x) _ m q s)
  not-private (suc n) c m s (from_above q t r h o) = o

  own-one : (c m : ℕ) → declared p (Some c) x ≡ a_class m → (k : ℕ) → HasMember p (settled p) x c k → k ≡ m
  own-one c m q k (own {m = j} r) = let f : a_class j ≡ a_class m = sym r ∙ q in same-one j m f
    where
      place : Look → ℕ
      place (a_class d) = d
      place _ = 0

      same-one : (j m : ℕ) → a_class j ≡ a_class m → j ≡ m
      same-one j m f = ap place f
  own-one c m q k (from_above r t s h o) = absurd (cc)

  above : (c : ℕ) (ds : List ℕ) → declared p (Some c) x ≡ nothing → settled p c ≡ Some ds → (m : ℕ) → HasMember p (settled p) x c m →
      Among (λ d. Inherits p (HasMember p (settled p) x d)) ds m
  above c ds q t m (own r) = absurd (cc)
  above c ds q t m (from_above {d = d} {ds = es} r s k h o) =
      let f : es ≡ ds = some-same es ds (sym s ∙ t) in
      record { class = d; there = subst (λ l. Contains l d) f k; has = record { has = h; open_there = o } }
    where
      list_in : Option (List ℕ) → List ℕ
      list_in (Some l) = l
      list_in None = []

      some-same : (es ds : List ℕ) → Some es ≡ Some ds → es ≡ ds
      some-same es ds f = ap list_in f

  range : (c d : ℕ) → Contains (dependences p c) d → d < length p.sites
  range c d q = let r = flat-from (λ t. named p (settled p) c header (parts_of t)) (heads_of p c) d q in named-are p whole (settled p) c header (parts_of r.from) d r.has

  found-within : (n c : ℕ) → c < length p.sites → a.depth c < n → IsFound (HasMember p (settled p) x c) (member_within p (settled p) n x c)
  found-within zero c l h = absurd (omega arith)
  found-within (suc n) c l h =
      let s = all-settled p e c l in
      declared-cases (first_declared 0 p.sites (Some c) x)
      (λ look. IsFound (HasMember p (settled p) x c) (or_further look (from_supers (λ d. inheritable p (member_within p (settled p) n x d)) (settled p c))))
      (λ q. subst (λ o. IsFound (HasMember p (settled p) x c) (from_supers (λ d. inheritable p (member_within p (settled p) n x d)) o)) (sym s.settled_so)
      (found-same
      (λ m t. from_above q s.settled_so t.there t.has.has t.has.open_there)
      (above c s.supers q s.settled_so)
      (over (λ d. Inherits p (HasMember p (settled p) x d)) (λ d. inheritable p (member_within p (settled p) n x d)) s.supers
      (λ d t. inherit (found-within n d (range c d (s.all_named d t)) (let f : a.depth d < a.depth c = a.falls c d (s.all_named d t) in omega arith))
      (λ m v w. not-private n d m v w)))))
      (λ m q. one_there (own q) (own-one c m q))

pub members_are_found : MembersAreFound
members_are_found p c x whole e l = let a = fault_free_is_acyclic p whole e in found-within p whole e a x (length p.sites) c l (a.within c l)
