-- A table of headers, as far as they are known.
use Rattle.std.proofs.Common.{◌≡◌, ◌≢◌, ℕ, zero, suc, ◌+◌, ◌<◌, ◌≤◌, List, [], ◌∷◌, ◌++◌, length, get_or, Option, Some, None, refl, sym, ◌∙◌, ap, subst, arith}
use Rattle.std.specs.Prelude.{false, nat_eq, slice_get, slice_set, sum_by}
use Rattle.std.specs.List.{Contains}
use Rattle.std.proofs.lemmas.Option.{slice_get_past, slice_get-get_or}
use Rattle.std.proofs.lemmas.List.Sums.{sum_by-set}
use Rattle.std.specs.declared.vec.Vec.{Vec}
use Rattle.std.specs.declared.alloc.Global.{Global}
use Rattle.je_core.specs.declared.types.ClassId.{ClassId}
use Rattle.je_scopes.specs.Source.{Source}
use Rattle.je_scopes.specs.Scope.{Known}
use Rattle.je_scopes.specs.Settled.{heads_of, supers_in, settled}
use Rattle.je_scopes.specs.Laws.{Extends, header_of, HasLibrary}
use Rattle.je_scopes.proofs.Either.{by_either, nat_split, within_or_past, nothing-in}
use Rattle.je_scopes.proofs.Rounds.{reading_settles, any_order_decides, past-settled}
use Rattle.scope_laws.proofs.Supers.{headers_are_within}
use Rattle.scope_laws.proofs.Cycles.{nat_either}
use Rattle.name_lookup.specs.declared.headers.Headers.{Headers}
use Rattle.name_lookup.specs.View.{numbers, header_view, table, known_of, one_unknown, unknown_count}
use Rattle.name_lookup.specs.Table.{AreHeadersOf, AreSettling, AllWait}

abbrev Header : Type 0
Header = Option (Vec ClassId Global)

list_in : Option (List ℕ) → List ℕ
list_in None = []
list_in (Some ds) = ds

pub same-list : (ds es : List ℕ) → Some ds ≡ Some es → ds ≡ es
unfolding list_in
same-list ds es e = ap list_in e

pub known-past : (h : Headers) (c : ℕ) → length h.supers.items ≤ c → known_of h c ≡ Some []
unfolding known_of
known-past h c l = ap header_view (slice_get_past h.supers.items c l)

-- a class whose header isn't known, or names some, is one of the program
pub unknown-within : (p : Source) (h : Headers) → AreHeadersOf p h → (c : ℕ) → known_of h c ≡ None → c < length p.sites
unknown-within p h f c e = by_either (λ l. l)
    (λ l. let w : length h.supers.items ≡ length p.sites = f.whole in let g : known_of h c ≡ Some [] = known-past h c (omega (arith, l, w)) in absurd (cc))
    (within_or_past c (length p.sites))

none-left : (cs : List ClassId) → [] ≡ numbers cs → nat_eq (length cs) 0 ≡ false → ⊥
none-left [] e f = absurd (cc)
none-left (c ∷ cs) e f = absurd (cc)

pub some-within : (p : Source) (h : Headers) → AreHeadersOf p h → (c : ℕ) (cs : List ClassId) → Some (numbers cs) ≡ known_of h c → nat_eq (length cs) 0 ≡ false → c < length p.sites
some-within p h f c cs e n = by_either (λ l. l)
    (λ l. let w : length h.supers.items ≡ length p.sites = f.whole in absurd (none-left cs (same-list [] (numbers cs) (sym (known-past h c (omega (arith, l, w))) ∙ sym e)) n))
    (within_or_past c (length p.sites))

-- ---- lists that grow

get-before : {A : Type 0} (xs : List A) (x : A) (c : ℕ) → c < length xs → slice_get (xs ++ x ∷ []) c ≡ slice_get xs c
get-before [] x c l = absurd (omega arith)
get-before (y ∷ ys) x zero l = refl
get-before (y ∷ ys) x (suc c) l = get-before ys x c (omega arith)

get-last : {A : Type 0} (xs : List A) (x : A) → slice_get (xs ++ x ∷ []) (length xs) ≡ Some x
get-last [] x = refl
get-last (y ∷ ys) x = get-last ys x

-- what holds of each place of a list, and of one more
pub push-each : {A : Type 0} (P : ℕ → Option A → Type 0) (xs : List A) (x : A) (n : ℕ) → length xs ≡ n → ((c : ℕ) → c < n → P c (slice_get xs c)) → P n (Some x) → (c : ℕ) → c < n + 1 → P c (slice_get (xs ++ x ∷ []) c)
push-each P xs x n e h k c l = by_either
    (λ (q : c ≡ n). let r : slice_get (xs ++ x ∷ []) c ≡ Some x = ap (slice_get (xs ++ x ∷ [])) (q ∙ sym e) ∙ get-last xs x in
    subst (λ o. P c o) (sym r) (subst (λ m. P m (Some x)) (sym q) k))
    (λ (q : c < n). subst (λ o. P c o) (sym (get-before xs x c (omega (arith, q, e)))) (h c q))
    (nat_split c n (omega arith))

-- ---- one more is known

get-set-here : (ts : List Header) (c : ℕ) (t : Header) → c < length ts → slice_get (slice_set ts c t) c ≡ Some t
get-set-here [] c t l = absurd (omega arith)
get-set-here (u ∷ ts) zero t l = refl
get-set-here (u ∷ ts) (suc c) t l = get-set-here ts c t (omega arith)

get-set-other : (ts : List Header) (c d : ℕ) (t : Header) → d ≢ c → slice_get (slice_set ts c t) d ≡ slice_get ts d
get-set-other [] c d t n = refl
get-set-other (u ∷ ts) zero zero t n = absurd (n refl)
get-set-other (u ∷ ts) zero (suc d) t n = refl
get-set-other (u ∷ ts) (suc c) zero t n = refl
get-set-other (u ∷ ts) (suc c) (suc d) t n = get-set-other ts c d t (λ e. n (ap suc e))

pub table-here : (ts : List Header) (c : ℕ) (ds : Vec ClassId Global) → c < length ts → table (slice_set ts c (Some ds)) c ≡ Some (numbers ds.items)
table-here ts c ds l = ap header_view (get-set-here ts c (Some ds) l)

pub table-other : (ts : List Header) (c d : ℕ) (t : Header) → d ≢ c → table (slice_set ts c t) d ≡ table ts d
table-other ts c d t n = ap header_view (get-set-other ts c d t n)

none-there : (t : Header) → header_view (Some t) ≡ None → one_unknown t ≡ 1
none-there None e = refl
none-there (Some ds) e = absurd (cc)

-- where one wasn't known, one fewer isn't
pub sum-fewer : (ts : List Header) (c : ℕ) (ds : Vec ClassId Global) → c < length ts → table ts c ≡ None → sum_by one_unknown (slice_set ts c (Some ds)) + 1 ≡ sum_by one_unknown ts
sum-fewer ts c ds l e =
    let d : Header = None in
    let a : sum_by one_unknown (slice_set ts c (Some ds)) + one_unknown (get_or ts c d) ≡ sum_by one_unknown ts + 0 = sum_by-set one_unknown ts c (Some ds) d l in
    let b : one_unknown (get_or ts c d) ≡ 1 = none-there (get_or ts c d) (ap header_view (sym (slice_get-get_or ts c d l)) ∙ e) in
    omega (arith, a, b)

-- ---- headers that are read

no-elements : (ds : List ℕ) (d : ℕ) → Some [] ≡ Some ds → Contains ds d → ⊥
no-elements ds d e q = nothing-in d (subst (λ (l : List ℕ). Contains l d) (sym (same-list [] ds e)) q)

-- headers of which none is known
pub none-settling : (p : Source) (h : Headers) → length h.supers.items ≡ length p.sites → ((c : ℕ) → c < length p.sites → known_of h c ≡ None) → AreSettling p h
unfolding settled
none-settling p h w n = record {
  fit = record {
    whole = w;
    within = λ c d ds e q. by_either
        (λ l. let f : known_of h c ≡ None = n c l in absurd (cc))
        (λ l. absurd (no-elements ds d (sym (known-past h c (omega (arith, w))) ∙ e) q))
        (within_or_past c (length p.sites));
  };
  settled_so = λ c ds e. by_either
      (λ l. let f : known_of h c ≡ None = n c l in absurd (cc))
      (λ l. past-settled p (length p.sites) c l ∙ sym (known-past h c (omega (arith, w))) ∙ e)
      (within_or_past c (length p.sites));
}

-- one more that is read over those
pub more-settling : (p : Source) (old new : Headers) (c : ℕ) (ds : List ℕ) → HasLibrary p → AreSettling p old → length new.supers.items ≡ length old.supers.items → header_of p (known_of old) c ≡ Some ds →
    known_of new c ≡ Some ds → ((d : ℕ) → d ≢ c → known_of new d ≡ known_of old d) → AreSettling p new
more-settling p old new c ds whole s w r here others = let f = s.fit in record {
  fit = record {
    whole = w ∙ f.whole;
    within = λ k d es e q. by_either
        (λ (m : k ≡ c). headers_are_within p whole (known_of old) c ds r d (subst (λ (l : List ℕ). Contains l d) (same-list es ds (sym e ∙ ap (known_of new) m ∙ here)) q))
        (λ n. f.within k d es (sym (others k n) ∙ e) q)
        (nat_either k c);
  };
  settled_so = λ k es e. by_either
      (λ (m : k ≡ c). let t : settled p c ≡ Some ds = reading_settles p (known_of old) s.settled_so c ds r in
      ap (settled p) m ∙ t ∙ sym here ∙ sym (ap (known_of new) m) ∙ e)
      (λ n. s.settled_so k es (sym (others k n) ∙ e))
      (nat_either k c);
}

-- where each that isn't known waits, all is known that ever is
settled-each : (p : Source) (h : Headers) → AreSettling p h → AllWait p (known_of h) (length p.sites) → (c : ℕ) → settled p c ≡ known_of h c
settled-each p h s w c = any_order_decides p (known_of h) s.settled_so
    (λ d e. by_either (λ l. w d l e) (λ l. let f = s.fit in let k : length h.supers.items ≡ length p.sites = f.whole in let g : known_of h d ≡ Some [] = known-past h d (omega (arith, k, l)) in absurd (cc)) (within_or_past d (length p.sites))) c

pub all-settled : (p : Source) (h : Headers) → AreSettling p h → AllWait p (known_of h) (length p.sites) → settled p ≡ known_of h
all-settled p h s w = λ i. λ c. settled-each p h s w c i
