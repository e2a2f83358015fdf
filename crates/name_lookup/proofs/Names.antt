-- Scopes and qualified names, step by step.
use Rattle.std.proofs.Common.{◌≡◌, ℕ, zero, suc, ◌+◌, ◌<◌, ◌≤◌, List, [], ◌∷◌, ◌++◌, length, drop, get_or, Option, Some, None, refl, sym, ◌∙◌, ap, subst, arith, append_assoc, add-one, drop-cons}
use Rattle.std.specs.Prelude.{Bool, true, false, slice_get, if◌then◌else◌}
use Rattle.std.specs.List.{list_all, flat_map}
use Rattle.std.proofs.Math.ListN.{drop_of_length-le}
use Rattle.je_base.specs.declared.span.NameId.{NameId}
use Rattle.je_ast.specs.declared.name.Identifier.{Identifier}
use Rattle.je_ast.specs.Types.{TypeName}
use Rattle.je_scopes.specs.Headers.{site_at}
use Rattle.je_scopes.specs.Looks.{Look, waits, nothing, a_class, a_variable, unclear, found, or_further, class_found}
use Rattle.je_scopes.specs.Source.{Source, library_class}
use Rattle.je_scopes.specs.Scope.{Known, Part, header, in_scope, meaning, named, is_accessible, at_top, nearest, outwards, part_outside, member_of, qualified, named_on, or_full_name, or_whole}
use Rattle.name_walk.specs.View.{round_from}
use Rattle.je_core.specs.declared.types.ClassId.{ClassId}
use Rattle.name_lookup.specs.declared.look.Look.{Look as Held}
use Rattle.name_lookup.specs.declared.look.Look.TheVariants as held
use Rattle.name_lookup.specs.View.{look_view, given, after}
use Rattle.je_scopes.specs.Settled.{parts_of, also, supers_in}

found-first : (a b : Look) → (a ≡ nothing → ⊥) → a ≡ or_further a b
found-first waits b n = refl
found-first nothing b n = absurd (n refl)
found-first (a_class c) b n = refl
found-first (a_variable c at) b n = refl
found-first unclear b n = refl

module _ (p : Source) (known : Known) (x : NameId) (part : Part) (c : ℕ) where
  -- what the nearest has
  found-in : (ds : List ℕ) → (nearest p known x part c ≡ nothing → ⊥) → nearest p known x part c ≡ outwards p known x part c ds
  found-in [] n = found-first (nearest p known x part c) (at_top p (site_at p.sites c).spot.unit x) n
  found-in (d ∷ ds) n = found-first (nearest p known x part c) (outwards p known x (part_outside part (site_at p.sites c).spot.context) d ds) n

  pub found_nearest : (look whole : Look) → look ≡ nearest p known x part c → (look ≡ nothing → ⊥) → outwards p known x part c (site_at p.sites c).spot.round ≡ whole → look ≡ whole
  found_nearest look whole e n h = e ∙ found-in (site_at p.sites c).spot.round (λ q. n (e ∙ q)) ∙ h

  -- what is at the top, where no class is round
  pub found_at_top : (look whole : Look) → nothing ≡ nearest p known x part c → (site_at p.sites c).spot.round ≡ [] → look ≡ at_top p (site_at p.sites c).spot.unit x →
      outwards p known x part c (site_at p.sites c).spot.round ≡ whole → look ≡ whole
  found_at_top look whole e r t h = t ∙ ap (λ a. or_further a (at_top p (site_at p.sites c).spot.unit x)) e ∙ ap (outwards p known x part c) (sym r) ∙ h

  -- what is further out
  pub further_out : (d : ℕ) (outside : Part) (whole : Look) → nothing ≡ nearest p known x part c → (site_at p.sites c).spot.round ≡ d ∷ (site_at p.sites d).spot.round →
      outside ≡ part_outside part (site_at p.sites c).spot.context → outwards p known x part c (site_at p.sites c).spot.round ≡ whole → outwards p known x outside d (site_at p.sites d).spot.round ≡ whole
  further_out d outside whole e r o h = ap (λ k. outwards p known x k d (site_at p.sites d).spot.round) o
      ∙ ap (λ a. or_further a (outwards p known x (part_outside part (site_at p.sites c).spot.context) d (site_at p.sites d).spot.round)) e
      ∙ ap (outwards p known x part c) (sym r) ∙ h

-- ---- qualified names

module _ (p : Source) (known : Known) (is : List Identifier) (i : ℕ) (d : Identifier) (l : i < length is) (look next : Look) (e : next ≡ member_of p known (get_or is i d).name look) where
  pub qualified_next : (whole : Look) → qualified p known look (drop i is) ≡ whole → qualified p known next (drop (i + 1) is) ≡ whole
  qualified_next whole h = ap (λ a. qualified p known a (drop (i + 1) is)) e ∙ sym (rw (add-one, drop-cons is i d) refl) ∙ h

  pub named_next : (before after' whole : List ℕ) → after' ≡ before ++ class_found look → before ++ named_on p known look (drop i is) ≡ whole → after' ++ named_on p known next (drop (i + 1) is) ≡ whole
  named_next before after' whole a h =
      let step : named_on p known look (drop i is) ≡ class_found look ++ named_on p known (member_of p known (get_or is i d).name look) (drop (i + 1) is) = rw (add-one, drop-cons is i d) refl in
      ap (λ (k : List ℕ). k ++ named_on p known next (drop (i + 1) is)) a ∙ append_assoc before (class_found look) (named_on p known next (drop (i + 1) is))
      ∙ ap (λ b. before ++ (class_found look ++ named_on p known b (drop (i + 1) is))) e ∙ ap (λ (k : List ℕ). before ++ k) (sym step) ∙ h

module _ (p : Source) (known : Known) (is : List Identifier) (i : ℕ) (l : length is ≤ i) (look : Look) where
  pub qualified_end : (whole : Look) → qualified p known look (drop i is) ≡ whole → look ≡ whole
  qualified_end whole h = ap (qualified p known look) (sym (drop_of_length-le is l)) ∙ h

  pub named_end : (before all whole : List ℕ) → all ≡ before ++ class_found look → before ++ named_on p known look (drop i is) ≡ whole → all ≡ whole
  named_end before all whole a h = a ∙ ap (λ (k : List Identifier). before ++ named_on p known look k) (sym (drop_of_length-le is l)) ∙ h

pub parts_mean : (p : Source) (parts : List Identifier) (look otherwise : Look) → (look ≡ nothing → ⊥) → otherwise ≡ or_full_name p parts look otherwise
parts_mean p parts waits otherwise n = refl
parts_mean p parts nothing otherwise n = absurd (n refl)
parts_mean p parts (a_class c) otherwise n = refl
parts_mean p parts (a_variable c at) otherwise n = refl
parts_mean p parts unclear otherwise n = refl

pub parts_name : (p : Source) (parts : List Identifier) (look : Look) (otherwise : List ℕ) → (look ≡ nothing → ⊥) → otherwise ≡ or_whole p parts look otherwise
parts_name p parts waits otherwise n = refl
parts_name p parts nothing otherwise n = absurd (n refl)
parts_name p parts (a_class c) otherwise n = refl
parts_name p parts (a_variable c at) otherwise n = refl
parts_name p parts unclear otherwise n = refl

pub whole_means : (p : Source) (parts : List Identifier) (look otherwise : Look) → look ≡ nothing → found (library_class p.texts parts) ≡ or_full_name p parts look otherwise
whole_means p parts look otherwise n = ap (λ (a : Look). or_full_name p parts a otherwise) (sym n)

pub whole_names : (p : Source) (parts : List Identifier) (look : Look) (otherwise : List ℕ) → look ≡ nothing → class_found (found (library_class p.texts parts)) ≡ or_whole p parts look otherwise
whole_names p parts look otherwise n = ap (λ (a : Look). or_whole p parts a otherwise) (sym n)

-- ---- a name by its first part

module _ (p : Source) (known : Known) (c : ℕ) (part : Part) (i : Identifier) (is parts : List Identifier) (parted : parts ≡ i ∷ is) (look : Look) (e : look ≡ in_scope p known c part i.name) where
  pub means_behind : or_full_name p parts look (qualified p known look is) ≡ meaning p known c part parts
  means_behind = ap (λ (ps : List Identifier). or_full_name p ps look (qualified p known look is)) parted
      ∙ ap (λ (a : Look). or_full_name p (i ∷ is) a (qualified p known a is)) e
      ∙ ap (λ (ps : List Identifier). meaning p known c part ps) (sym parted)

  pub names_behind : or_whole p parts look (named_on p known look is) ≡ named p known c part parts
  names_behind = ap (λ (ps : List Identifier). or_whole p ps look (named_on p known look is)) parted
      ∙ ap (λ (a : Look). or_whole p (i ∷ is) a (named_on p known a is)) e
      ∙ ap (λ (ps : List Identifier). named p known c part ps) (sym parted)

-- ---- headers

pub drop-get : {A : Type 0} (xs : List A) (i : ℕ) (x : A) → slice_get xs i ≡ Some x → drop i xs ≡ x ∷ drop (i + 1) xs
drop-get {A = A} xs i x e = rw add-one (by xs i e)
  where
    some-in : Option A → A
    some-in None = x
    some-in (Some y) = y

    by : (xs : List A) (i : ℕ) → slice_get xs i ≡ Some x → drop i xs ≡ x ∷ drop (suc i) xs
    by [] i e = absurd (cc)
    by (y ∷ ys) zero e = ap (λ z. z ∷ ys) (ap some-in e)
    by (y ∷ ys) (suc i) e = by ys i e

pub drop-past : {A : Type 0} (xs : List A) (i : ℕ) → slice_get xs i ≡ None → drop i xs ≡ []
drop-past [] zero e = refl
drop-past [] (suc i) e = refl
drop-past (y ∷ ys) zero e = absurd (cc)
drop-past (y ∷ ys) (suc i) e = drop-past ys i e

append-nil : (xs : List ℕ) → xs ++ [] ≡ xs
append-nil [] = refl
append-nil (x ∷ xs) = ap (λ (l : List ℕ). x ∷ l) (append-nil xs)

after-some : (xs ys zs : List ℕ) → after (xs ++ ys) (Some zs) ≡ Some (xs ++ (ys ++ zs))
after-some xs ys zs = ap Some (append_assoc xs ys zs)

after-none : (xs ys : List ℕ) (o : Option (List ℕ)) → o ≡ None → after xs o ≡ after ys o
after-none xs ys None e = refl
after-none xs ys (Some zs) e = absurd (cc)

given-choice : (b : Bool) (d : ℕ) (ds es : List ℕ) → Some ((ds ++ (if b then d ∷ [] else [])) ++ es) ≡ Some (ds ++ (if b then d ∷ es else es))
given-choice true d ds es = after-some ds (d ∷ []) es
given-choice false d ds es = after-some ds [] es

-- a name that doesn't wait
after_also : (b : Bool) (look : Look) (ds : List ℕ) (o : Option (List ℕ)) → (look ≡ waits → ⊥) → after (ds ++ given b look) o ≡ after ds (also b look o)
after_also b waits ds o h = absurd (h refl)
after_also b nothing ds None h = refl
after_also b nothing ds (Some es) h = after-some ds [] es
after_also b (a_class d) ds None h = refl
after_also b (a_class d) ds (Some es) h = given-choice b d ds es
after_also b (a_variable c at) ds None h = refl
after_also b (a_variable c at) ds (Some es) h = after-some ds [] es
after_also b unclear ds None h = refl
after_also b unclear ds (Some es) h = after-some ds [] es

waiting : (b : Bool) (look : Look) (ds : List ℕ) (o : Option (List ℕ)) → look ≡ waits → None ≡ after ds (also b look o)
waiting b waits ds o e = refl
waiting b nothing ds o e = absurd (cc)
waiting b (a_class d) ds o e = absurd (cc)
waiting b (a_variable c at) ds o e = absurd (cc)
waiting b unclear ds o e = absurd (cc)

module _ (p : Source) (known : Known) (c : ℕ) (ts : List TypeName) (i : ℕ) (ds : List ℕ) (whole : Option (List ℕ)) (h : after ds (supers_in p known c (drop i ts)) ≡ whole) where
  pub read_next : (t : TypeName) (look : Look) (names more : List ℕ) → slice_get ts i ≡ Some t → look ≡ meaning p known c header (parts_of t) → names ≡ named p known c header (parts_of t) →
      (look ≡ waits → ⊥) → more ≡ ds ++ given (list_all (is_accessible p c) names) look → after more (supers_in p known c (drop (i + 1) ts)) ≡ whole
  read_next t look names more g e n w m =
      ap (λ (k : List ℕ). after k (supers_in p known c (drop (i + 1) ts))) m
      ∙ after_also (list_all (is_accessible p c) names) look ds (supers_in p known c (drop (i + 1) ts)) w
      ∙ ap (λ a. after ds (also (list_all (is_accessible p c) names) a (supers_in p known c (drop (i + 1) ts)))) e
      ∙ ap (λ (k : List ℕ). after ds (also (list_all (is_accessible p c) k) (meaning p known c header (parts_of t)) (supers_in p known c (drop (i + 1) ts)))) n
      ∙ ap (λ (k : List TypeName). after ds (supers_in p known c k)) (sym (drop-get ts i t g)) ∙ h

  pub read_waits : (t : TypeName) (look : Look) → slice_get ts i ≡ Some t → look ≡ meaning p known c header (parts_of t) → look ≡ waits → None ≡ whole
  read_waits t look g e w =
      waiting (list_all (is_accessible p c) (named p known c header (parts_of t))) (meaning p known c header (parts_of t)) ds (supers_in p known c (drop (i + 1) ts)) (sym e ∙ w)
      ∙ ap (λ (k : List TypeName). after ds (supers_in p known c k)) (sym (drop-get ts i t g)) ∙ h

  pub read_end : slice_get ts i ≡ None → Some ds ≡ whole
  read_end g = ap Some (sym (append-nil ds)) ∙ ap (λ (k : List TypeName). after ds (supers_in p known c k)) (sym (drop-past ts i g)) ∙ h

module _ (f : TypeName → List ℕ) (ts : List TypeName) (i : ℕ) (ds whole : List ℕ) (h : ds ++ flat_map f (drop i ts) ≡ whole) where
  pub flat_next : (t : TypeName) (names more : List ℕ) → slice_get ts i ≡ Some t → names ≡ f t → more ≡ ds ++ names → more ++ flat_map f (drop (i + 1) ts) ≡ whole
  flat_next t names more g n m =
      ap (λ (k : List ℕ). k ++ flat_map f (drop (i + 1) ts)) m ∙ append_assoc ds names (flat_map f (drop (i + 1) ts))
      ∙ ap (λ (k : List ℕ). ds ++ (k ++ flat_map f (drop (i + 1) ts))) n
      ∙ ap (λ (k : List TypeName). ds ++ flat_map f k) (sym (drop-get ts i t g)) ∙ h

  pub flat_end : slice_get ts i ≡ None → ds ≡ whole
  flat_end g = sym (append-nil ds) ∙ ap (λ (k : List TypeName). ds ++ flat_map f k) (sym (drop-past ts i g)) ∙ h

pub after_nothing : (ds : List ℕ) → ds ≡ [] → (o : Option (List ℕ)) → after ds o ≡ o
after_nothing ds e o = ap (λ (k : List ℕ). after k o) e ∙ by o
  where
    by : (o : Option (List ℕ)) → after [] o ≡ o
    by None = refl
    by (Some es) = refl

pub not-waiting : (look : Held) → ((c : ClassId) → look ≡ held.Waits c → ⊥) → look_view look ≡ waits → ⊥
not-waiting (held.Waits c) n e = n c refl
not-waiting held.Nothing n e = absurd (cc)
not-waiting (held.Class c) n e = absurd (cc)
not-waiting (held.Variable c at) n e = absurd (cc)
not-waiting held.Unclear n e = absurd (cc)
