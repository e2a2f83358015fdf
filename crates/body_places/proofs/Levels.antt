-- What is inherited from some types, by what is inherited from those directly above them.
use Rattle.std.proofs.Common.{◌≡◌, ℕ, suc, List, [], ◌∷◌, ◌++◌, Option, Some, None, refl, sym, ap, ◌∙◌}
use Rattle.std.specs.Prelude.{Bool, true, ◌||◌, if◌then◌else◌}
use Rattle.je_base.specs.declared.span.NameId.{NameId}
use Rattle.je_classes.specs.Members.{Member, same_member, Found, nothing, one, several, joined}
use Rattle.je_classes.proofs.Lists.{bool_cases}
use Rattle.je_scopes.specs.SourceTypes.{SourceType, same_source_type}
use Rattle.source_types.specs.Heads.{ClassHead}
use Rattle.source_types.specs.Supertypes.{directly_above, has_type, most_steps}
use Rattle.source_types.specs.way.Reaching.{with_type, with_types}
use Rattle.source_types.proofs.Same.{same-equal}
use Rattle.declarations.specs.Declarations.{DeclaredClass}
use Rattle.name_typing.specs.Fields.{can_inherit, field_within, find_field, inheriting, joined_over, own_field, own_or_inherited}
use Rattle.body_places.specs.way.Walk.{all_within, inherited_by}
use Rattle.body_places.proofs.Joining.{joined-nothing, joined-assoc, joined-comm, joined-same, joined-past}

-- ---- over lists, of any function

module _ (f : SourceType → Found) where
  over-append : (ts us : List SourceType) → joined_over f (ts ++ us) ≡ joined (joined_over f ts) (joined_over f us)
  over-append [] us = refl
  over-append (t ∷ ts) us = ap (joined (f t)) (over-append ts us) ∙ sym (joined-assoc (f t) (joined_over f ts) (joined_over f us))

  -- what is there adds nothing
  there : (ts : List SourceType) (t : SourceType) → has_type ts t ≡ true → joined (joined_over f ts) (f t) ≡ joined_over f ts
  there [] t e = absurd cc
  there (u ∷ us) t e = bool_cases (λ b. same_source_type u t ≡ b → (b || has_type us t) ≡ true → joined (joined (f u) (joined_over f us)) (f t) ≡ joined (f u) (joined_over f us)) (same_source_type u t)
      (λ _ s _. let k : f t ≡ f u = ap f (sym (same-equal u t s)) in
      ap (joined (joined (f u) (joined_over f us))) k ∙ joined-comm (joined (f u) (joined_over f us)) (f u)
      ∙ sym (joined-assoc (f u) (f u) (joined_over f us)) ∙ ap (λ (k : Found). joined k (joined_over f us)) (joined-same (f u)))
      (λ _ _ h. joined-assoc (f u) (joined_over f us) (f t) ∙ ap (joined (f u)) (there us t h)) refl e

  over-with : (ts : List SourceType) (t : SourceType) → joined_over f (with_type ts t) ≡ joined (joined_over f ts) (f t)
  over-with ts t = bool_cases (λ b. has_type ts t ≡ b → joined_over f (if b then ts else ts ++ t ∷ []) ≡ joined (joined_over f ts) (f t)) (has_type ts t)
      (λ _ e. sym (there ts t e))
      (λ _ e. over-append ts (t ∷ []) ∙ ap (joined (joined_over f ts)) (joined-nothing (f t))) refl

  pub over_with_types : (ts us : List SourceType) → joined_over f (with_types ts us) ≡ joined (joined_over f ts) (joined_over f us)
  over_with_types ts [] = sym (joined-nothing (joined_over f ts))
  over_with_types ts (u ∷ us) = over_with_types (with_type ts u) us ∙ ap (λ (k : Found). joined k (joined_over f us)) (over-with ts u) ∙ joined-assoc (joined_over f ts) (f u) (joined_over f us)

-- ---- what is inherited once is inherited on

module _ (heads : List ClassHead) (classes : List DeclaredClass) (x : NameId) where
  inherited-twice : (f : Found) → inheriting classes (inheriting classes f) ≡ inheriting classes f
  inherited-twice nothing = refl
  inherited-twice several = refl
  inherited-twice (one m) = bool_cases (λ b. can_inherit classes m ≡ b → inheriting classes (if b then one m else nothing) ≡ (if b then one m else nothing)) (can_inherit classes m)
      (λ _ e. ap (λ (b : Bool). if b then one m else nothing) e) (λ _ e. refl) refl

  -- both are inherited, so their union is
  kept-both : (f g : Found) → inheriting classes f ≡ f → inheriting classes g ≡ g → inheriting classes (joined f g) ≡ joined f g
  kept-both nothing g p q = q
  kept-both several g p q = refl
  kept-both (one m) nothing p q = p
  kept-both (one m) several p q = refl
  kept-both (one m) (one n) p q = bool_cases (λ b. inheriting classes (if b then one m else several) ≡ (if b then one m else several)) (same_member m n) (λ _. p) (λ _. refl)

  all-kept : (n : ℕ) (ts : List SourceType) → inheriting classes (all_within heads classes n x ts) ≡ all_within heads classes n x ts
  all-kept n [] = refl
  all-kept n (t ∷ ts) = kept-both (inherited_by heads classes n x t) (all_within heads classes n x ts) (inherited-twice (field_within heads classes n x t)) (all-kept n ts)

  pub none_within : (ts : List SourceType) → all_within heads classes 0 x ts ≡ nothing
  none_within [] = refl
  none_within (t ∷ ts) = none_within ts

  -- ---- one type

  by-own : (n : ℕ) (t : SourceType) (m : Member) → own_field classes x t ≡ Some m → inherited_by heads classes (suc n) x t ≡ inheriting classes (one m)
  by-own n t m e = ap (λ (o : Option Member). inheriting classes (own_or_inherited o (all_within heads classes n x (directly_above heads t)))) e

  by-above : (n : ℕ) (t : SourceType) → own_field classes x t ≡ None → inherited_by heads classes (suc n) x t ≡ all_within heads classes n x (directly_above heads t)
  by-above n t e = ap (λ (o : Option Member). inheriting classes (own_or_inherited o (all_within heads classes n x (directly_above heads t)))) e ∙ all-kept n (directly_above heads t)

  -- what a type's class declares is found
  pub visited_own : (f g own : Found) (ts : List SourceType) (t : SourceType) (m : Member) → Some m ≡ own_field classes x t →
      own ≡ inheriting classes (one m) → g ≡ joined f own → (n : ℕ) (rest : Found) →
      joined g (joined (all_within heads classes n x ts) rest) ≡ joined f (joined (all_within heads classes n x ts) (joined (inherited_by heads classes (suc n) x t) rest))
  visited_own f g own ts t m e o h n rest =
      let next : Found = all_within heads classes n x ts in
      ap (λ (k : Found). joined k (joined next rest)) h ∙ joined-assoc f own (joined next rest) ∙ ap (joined f) (joined-past own next rest)
      ∙ ap (λ (k : Found). joined f (joined next (joined k rest))) (o ∙ sym (by-own n t m (sym e)))

  -- or else the types above it are next
  pub visited_above : (f : Found) (ts above new : List SourceType) (t : SourceType) → None ≡ own_field classes x t →
      above ≡ directly_above heads t → new ≡ with_types ts above → (n : ℕ) (rest : Found) →
      joined f (joined (all_within heads classes n x new) rest) ≡ joined f (joined (all_within heads classes n x ts) (joined (inherited_by heads classes (suc n) x t) rest))
  visited_above f ts above new t e o h n rest =
      let next : Found = all_within heads classes n x ts in
      let further : Found = all_within heads classes n x above in
      ap (λ (us : List SourceType). joined f (joined (all_within heads classes n x us) rest)) h
      ∙ ap (λ (k : Found). joined f (joined k rest)) (over_with_types (inherited_by heads classes n x) ts above)
      ∙ ap (joined f) (joined-assoc next further rest)
      ∙ ap (λ (k : Found). joined f (joined next (joined k rest))) (ap (all_within heads classes n x) o ∙ sym (by-above n t (sym e)))

  -- ---- all types, and the whole way up

  pub all_visited : (f : Found) (n : ℕ) (ts : List SourceType) (r : Found) → joined f (joined (all_within heads classes n x ts) nothing) ≡ r →
      joined f (all_within heads classes n x ts) ≡ r
  all_visited f n ts r e = ap (joined f) (sym (joined-nothing (all_within heads classes n x ts))) ∙ e

  pub no_more : (f r : Found) (n : ℕ) (ts : List SourceType) → ts ≡ [] → joined f (all_within heads classes n x ts) ≡ r → f ≡ r
  no_more f r n ts e h = sym (joined-nothing f) ∙ ap (λ (us : List SourceType). joined f (all_within heads classes n x us)) (sym e) ∙ h

  pub at_top : (f r : Found) (n : ℕ) (ts : List SourceType) → n ≡ 0 → joined f (all_within heads classes n x ts) ≡ r → f ≡ r
  at_top f r n ts e h = sym (joined-nothing f) ∙ ap (joined f) (sym (none_within ts)) ∙ ap (λ (k : ℕ). joined f (all_within heads classes k x ts)) (sym e) ∙ h

  pub found_own : (t : SourceType) (m : Member) → Some m ≡ own_field classes x t → one m ≡ find_field heads classes t x
  unfolding find_field
  found_own t m e = ap (λ (o : Option Member). own_or_inherited o (all_within heads classes (most_steps heads) x (directly_above heads t))) e

  pub found_above : (t : SourceType) (above : List SourceType) (f : Found) → None ≡ own_field classes x t → above ≡ directly_above heads t →
      f ≡ all_within heads classes (most_steps heads) x above → f ≡ find_field heads classes t x
  unfolding find_field
  found_above t above f e o h = h ∙ ap (all_within heads classes (most_steps heads) x) o
      ∙ ap (λ (p : Option Member). own_or_inherited p (all_within heads classes (most_steps heads) x (directly_above heads t))) e

pub ruleset visits = (visited_own, visited_above)

pub ruleset found_fields = (found_own, found_above)
