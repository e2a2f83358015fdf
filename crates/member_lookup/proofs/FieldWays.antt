-- The fields that come by are those that the class has.
use Rattle.std.proofs.Common.{◌≡◌, ℕ, zero, suc, ◌<◌, List, [], ◌∷◌, length, Option, Some, None, refl, sym, ap, ◌∙◌, subst, inl, inr, arith}
use Rattle.std.specs.Prelude.{Bool, true, false, ◌⊎◌, ◌||◌, nat_lt}
use Rattle.std.specs.List.{Contains}
use Rattle.std.proofs.lemmas.Bool.Decides.{nat_tests}
use Rattle.std.proofs.lemmas.Option.{slice_get_within}
use Rattle.je_base.specs.declared.span.NameId.{NameId}
use Rattle.je_core.specs.declared.types.ClassId.{ClassId}
use Rattle.je_core.specs.Core.{CoreClass, CoreProgram}
use Rattle.je_classes.specs.Fields.{fields_in, place_from, declared_field, can_inherit_field, HasField, own, inherited, find_field}
use Rattle.je_classes.specs.Hierarchy.{class_at, supers_of, same_class, IsAcyclic}
use Rattle.je_classes.specs.Members.{Member, Found, nothing, one, several, IsFound, is_nothing, is_one, are_several, joined}
use Rattle.je_classes.proofs.Below.{same_class-refl, same_class-equal}
use Rattle.je_classes.proofs.FieldSets.{fields_found}
use Rattle.je_classes.proofs.Lists.{bool_cases}
use Rattle.je_classes.proofs.Paths.{supers-within}
use Rattle.je_classes.proofs.Reaching.{has-contained, contained}
use Rattle.je_classes.proofs.Sets.{found-same, union, Among, among-more, among-less, by_either}
use Rattle.class_lookup.specs.way.Walk.{reached_by}
use Rattle.class_lookup.proofs.Walking.{Leads, stays, goes, sound, complete}
use Rattle.member_lookup.specs.way.Fields.{next_if, next_field, one_if, field_if, field_in, joined_from}
use Rattle.member_lookup.proofs.Unique.{one_size}

-- ---- what some classes have, beside what was found

joined-sets : (P : Member → Type 0) (Q : ClassId → Member → Type 0) (f : ClassId → Found) (found : Found) (ds : List ClassId) → IsFound P found → ((d : ClassId) → IsFound (Q d) (f d)) → IsFound (λ m. P m ⊎ Among Q ds m) (joined_from f found ds)
joined-sets P Q f found [] h k = found-same (λ m p. inl p) (λ m x. by_either (λ p. p) (λ a. absurd (let l : a.there.0 < 0 = a.there.1 in omega arith)) x) h
joined-sets P Q f found (d ∷ ds) h k = found-same
    (λ m x. by_either (λ y. by_either (λ p. inl p) (λ q. inr (among-more Q d ds m (inl q))) y) (λ a. inr (among-more Q d ds m (inr a))) x)
    (λ m x. by_either (λ p. inl (inl p)) (λ a. by_either (λ q. inl (inr q)) (λ b. inr b) (among-less Q d ds m a)) x)
    (joined-sets (λ m. P m ⊎ Q d m) Q f (joined found (f d)) ds (union h (k d)) k)

module _ (p : CoreProgram) (x : NameId) where
  abbrev n : ℕ
  n = length p.classes

  -- the field that a class declares, where another one may have it
  record Owns (c : ClassId) (d : ClassId) (m : Member) : Type 0 where
    place : ℕ
    declares : declared_field p x d ≡ Some place
    is : m ≡ record { class = d; at = place }
    may : (d ≡ c) ⊎ (can_inherit_field p m ≡ true)

  abbrev member : ClassId → ℕ → Member
  member d at = record { class = d; at = at }

  owned : (c d : ClassId) (o : Option ℕ) → declared_field p x d ≡ o → IsFound (Owns c d) (field_if p c d o)
  owned c d None e = is_nothing (λ m w. let s = w.declares in absurd cc)
  owned c d (Some at) e = bool_cases (λ b. (same_class d c || can_inherit_field p (member d at)) ≡ b → IsFound (Owns c d) (one_if b (member d at))) (same_class d c || can_inherit_field p (member d at))
      (λ _ h. is_one (record { place = at; declares = e; is = refl; may = may (same_class d c) refl h }) (λ m w. w.is ∙ ap (member d) (let s = w.declares in let r : w.place ≡ at = cc in r)))
      (λ _ h. is_nothing (λ m w. may-not w (same_class d c) refl h)) refl
    where
      may : (b : Bool) → same_class d c ≡ b → (b || can_inherit_field p (member d at)) ≡ true → (d ≡ c) ⊎ (can_inherit_field p (member d at) ≡ true)
      may true s h = inl (same_class-equal d c s)
      may false s h = inr h

      may-not : {m : Member} → Owns c d m → (b : Bool) → same_class d c ≡ b → (b || can_inherit_field p (member d at)) ≡ false → ⊥
      may-not w true s h = cc
      may-not {m = m} w false s h = by_either (λ q. let r : same_class d c ≡ true = subst (λ (k : ClassId). same_class d k ≡ true) q (same_class-refl d) in cc)
          (λ q. let s' = w.declares in let r : w.place ≡ at = cc in let t : m ≡ member d at = w.is ∙ ap (member d) r in let g : can_inherit_field p (member d at) ≡ true = subst (λ (k : Member). can_inherit_field p k ≡ true) t q in cc) w.may

  -- ---- along ways

  past : (c : ClassId) → declared_field p x c ≡ None → (e : ClassId) → Contains (supers_of p c) e → Contains (next_field p x c) e
  past c h e q = subst (λ (o : Option ℕ). Contains (next_if o (supers_of p c)) e) (sym h) q

  record Step (c e : ClassId) : Type 0 where
    none : declared_field p x c ≡ None
    super : Contains (supers_of p c) e

  step-of : (c e : ClassId) → Contains (next_field p x c) e → Step c e
  step-of c e q = by (declared_field p x c) refl q
    where
      by : (o : Option ℕ) → declared_field p x c ≡ o → Contains (next_if o (supers_of p c)) e → Step c e
      by None h r = record { none = h; super = r }
      by (Some at) h r = absurd (let l : r.0 < 0 = r.1 in omega arith)

  record Comes (c : ClassId) (m : Member) : Type 0 where
    class : ClassId
    way : Leads (next_field p x) c class
    owns : Owns c class m

  -- what a class has comes by
  comes : {c : ClassId} {m : Member} → HasField p x c m → Comes c m
  comes (own {c = c} {at = at} e) = record { class = c; way = stays; owns = record { place = at; declares = e; is = refl; may = inl refl } }
  comes (inherited {c = c} {d = d} e q h r) = let k = comes h in record {
    class = k.class;
    way = goes (past c e d q) k.way;
    owns = record { place = k.owns.place; declares = k.owns.declares; is = k.owns.is; may = inr r };
  }

  -- and what comes by it has
  has-owned : {c d : ClassId} → Leads (next_field p x) c d → (m : Member) → Owns c d m → HasField p x c m
  has-owned (stays {c = c}) m w = subst (HasField p x c) (sym w.is) (own w.declares)
  has-owned (goes {c = c} {d = d} {e = e} q r) m w =
      let s = step-of c e q in
      by_either
      (λ same. absurd (let t : declared_field p x c ≡ Some w.place = subst (λ (k : ClassId). declared_field p x k ≡ Some w.place) same w.declares in let u = s.none in cc))
      (λ can. inherited s.none s.super (has-owned r m (record { place = w.place; declares = w.declares; is = w.is; may = inr can })) can) w.may

  declared-there : (d : ClassId) (at : ℕ) (o : Option CoreClass) → class_at p d ≡ o → place_from 0 (fields_in o) x ≡ Some at → d.0 < n
  declared-there d at None h e = absurd cc
  declared-there d at (Some k) h e = slice_get_within p.classes d.0 k h

  inside : (c e : ClassId) → Contains (next_field p x c) e → nat_lt c.0 n ≡ true
  inside c e q = let s = step-of c e q in let l : c.0 < n = supers-within p c e (class_at p c) refl s.super in grind (arith, nat_tests)

  pub found_all : (c : ClassId) → IsFound (HasField p x c) (joined_from (field_in p x c) nothing (reached_by (next_field p x) n c))
  found_all c = found-same
      (λ m k. by_either (λ w. absurd w) (λ a. has-owned (sound (next_field p x) n c a.class (has-contained (reached_by (next_field p x) n c) a.class a.there)) m a.has) k)
      (λ m h. let k = comes h in let l : k.class.0 < n = declared-there k.class k.owns.place (class_at p k.class) refl k.owns.declares in
      inr (record { class = k.class; there = contained (reached_by (next_field p x) n c) k.class (complete (next_field p x) n c inside k.class k.way (grind (arith, nat_tests))); has = k.owns }))
      (joined-sets (λ m. ⊥) (Owns c) (field_in p x c) nothing (reached_by (next_field p x) n c) (is_nothing (λ m q. q)) (λ d. owned c d (declared_field p x d) refl))

  pub field_is : (c : ClassId) → IsAcyclic p → joined_from (field_in p x c) nothing (reached_by (next_field p x) n c) ≡ find_field p c x
  field_is c a = one_size (found_all c) (fields_found p c x a)
