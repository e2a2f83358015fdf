-- A field's name finds nothing, one or several.
use Rattle.std.proofs.Common.{◌≡◌, ℕ, zero, suc, ◌<◌, ◌≤◌, List, [], ◌∷◌, Option, Some, None, refl, sym, subst, inl, inr, arith}
use Rattle.std.specs.Prelude.{true, ◌⊎◌, if◌then◌else◌}
use Rattle.std.specs.List.{Contains}
use Rattle.je_base.specs.declared.span.NameId.{NameId}
use Rattle.je_classes.specs.Members.{Member, Found, nothing, one, IsFound, is_nothing, is_one, are_several}
use Rattle.je_classes.proofs.Lists.{bool_cases, contains-here, contains-later, contains-cases}
use Rattle.je_classes.proofs.Sets.{by_either, found-same, union}
use Rattle.je_scopes.specs.SourceTypes.{SourceType}
use Rattle.source_types.specs.Heads.{ClassHead}
use Rattle.source_types.specs.Laws.{IsAcyclic}
use Rattle.source_types.specs.Supertypes.{directly_above, most_steps}
use Rattle.declarations.specs.Declarations.{DeclaredClass}
use Rattle.name_typing.specs.Fields.{own_field, can_inherit, HasField, own, inherited, inheriting, own_or_inherited, joined_over, field_within, find_field, FieldsAreFound}

-- ---- some member of one of the types

record Among (P : SourceType → Member → Type 0) (ts : List SourceType) (m : Member) : Type 0 where
  type : SourceType
  there : Contains ts type
  has : P type m

among-more : (P : SourceType → Member → Type 0) (t : SourceType) (ts : List SourceType) (m : Member) → P t m ⊎ Among P ts m → Among P (t ∷ ts) m
among-more P t ts m (inl p) = record { type = t; there = contains-here t ts; has = p }
among-more P t ts m (inr a) = record { type = a.type; there = contains-later t a.type ts a.there; has = a.has }

among-less : (P : SourceType → Member → Type 0) (t : SourceType) (ts : List SourceType) (m : Member) → Among P (t ∷ ts) m → P t m ⊎ Among P ts m
among-less P t ts m a = by_either (λ e. inl (subst (λ (u : SourceType). P u m) (sym e) a.has)) (λ q. inr (record { type = a.type; there = q; has = a.has })) (contains-cases t a.type ts a.there)

over : (P : SourceType → Member → Type 0) (f : SourceType → Found) (ts : List SourceType) → ((t : SourceType) → Contains ts t → IsFound (P t) (f t)) → IsFound (Among P ts) (joined_over f ts)
over P f [] k = is_nothing (λ m a. absurd (let h : a.there.0 < 0 = a.there.1 in omega arith))
over P f (t ∷ ts) k = found-same (among-more P t ts) (among-less P t ts) (union (k t (contains-here t ts)) (over P f ts (λ u h. k u (contains-later t u ts h))))

-- ---- what a type inherits

module _ (heads : List ClassHead) (classes : List DeclaredClass) (x : NameId) where
  -- the fields of a type that another one below it can inherit
  record Inherited (t : SourceType) (m : Member) : Type 0 where
    has : HasField heads classes x t m
    can : can_inherit classes m ≡ true

  -- Where a type has several, its class declares none of them, so that they are inherited already.
  several-inherited : {t : SourceType} {m n : Member} → HasField heads classes x t m → HasField heads classes x t n → ¬ m ≡ n → can_inherit classes m ≡ true
  several-inherited {m = m} {n = n} (own e) (own f) d = absurd (let s : m ≡ n = cc in d s)
  several-inherited (own e) (inherited f q h r) d = absurd cc
  several-inherited (inherited e q h r) k d = r

  inherit : (t : SourceType) (f : Found) → IsFound (HasField heads classes x t) f → IsFound (Inherited t) (inheriting classes f)
  inherit t _ (is_nothing n) = is_nothing (λ m q. n m q.has)
  inherit t _ (is_one {m = m} h u) = bool_cases (λ b. can_inherit classes m ≡ b → IsFound (Inherited t) (if b then one m else nothing)) (can_inherit classes m)
      (λ e g. is_one (record { has = h; can = g }) (λ n q. u n q.has))
      (λ e g. is_nothing (λ n q. let k : n ≡ m = u n q.has in absurd (let s : can_inherit classes m ≡ true = subst (λ (z : Member). can_inherit classes z ≡ true) k q.can in cc))) refl
  inherit t _ (are_several {m = m} {n = n} h k d) =
      are_several (record { has = h; can = several-inherited h k d }) (record { has = k; can = several-inherited k h (λ e. d (sym e)) }) d

  own-unique : (t : SourceType) (o : Member) → own_field classes x t ≡ Some o → (m : Member) → HasField heads classes x t m → m ≡ o
  own-unique t o e m (own q) = cc
  own-unique t o e m (inherited q h r i) = absurd cc

  from-above : (t : SourceType) → own_field classes x t ≡ None → (m : Member) → Among Inherited (directly_above heads t) m → HasField heads classes x t m
  from-above t e m a = inherited e a.there a.has.has a.has.can

  to-above : (t : SourceType) → own_field classes x t ≡ None → (m : Member) → HasField heads classes x t m → Among Inherited (directly_above heads t) m
  to-above t e m (own q) = absurd cc
  to-above t e m (inherited {u = u} q h r i) = record { type = u; there = h; has = record { has = r; can = i } }

  by-place : (t : SourceType) (f : Found) (o : Option Member) → own_field classes x t ≡ o → IsFound (Among Inherited (directly_above heads t)) f →
      IsFound (HasField heads classes x t) (own_or_inherited o f)
  by-place t f (Some m) e g = is_one (own e) (own-unique t m e)
  by-place t f None e g = found-same (from-above t e) (to-above t e) g

  found-within : (a : IsAcyclic heads) (n : ℕ) (t : SourceType) → a.depth t < n → IsFound (HasField heads classes x t) (field_within heads classes n x t)
  found-within a zero t h = absurd (omega arith)
  found-within a (suc n) t h = by-place t _ (own_field classes x t) refl
      (over Inherited (λ u. inheriting classes (field_within heads classes n x u)) (directly_above heads t)
      (λ u q. inherit u (field_within heads classes n x u) (found-within a n u (let f : a.depth u < a.depth t = a.falls t u q in omega arith))))

pub fields_found : FieldsAreFound
unfolding find_field
fields_found heads classes t x a = found-within heads classes x a (suc (most_steps heads)) t (let h : a.depth t ≤ most_steps heads = a.within t in omega arith)
