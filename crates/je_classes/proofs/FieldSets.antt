-- A field's name finds nothing, one or several.
use Rattle.std.proofs.Common.{◌≡◌, ℕ, zero, suc, ◌<◌, length, Option, Some, None, refl, sym, ap, subst, arith}
use Rattle.std.specs.Prelude.{true, if◌then◌else◌}
use Rattle.je_base.specs.declared.span.NameId.{NameId}
use Rattle.je_core.specs.declared.types.ClassId.{ClassId}
use Rattle.je_core.specs.Core.{CoreProgram}
use Rattle.je_classes.specs.Hierarchy.{supers_of, IsAcyclic}
use Rattle.je_classes.specs.Members.{Member, Found, nothing, one, IsFound, is_nothing, is_one, are_several}
use Rattle.je_classes.specs.Fields.{declared_field, can_inherit_field, HasField, own, inherited, inheriting, own_or_inherited, field_within, find_field, FieldsAreFound}
use Rattle.je_classes.proofs.Lists.{bool_cases}
use Rattle.je_classes.proofs.Sets.{Among, found-same, over}

-- the fields of a class that another one below it can inherit
record Inherited (p : CoreProgram) (x : NameId) (c : ClassId) (m : Member) : Type 0 where
  has : HasField p x c m
  can : can_inherit_field p m ≡ true

-- Where a class has several, it declares none of them, so that they are inherited already.
several-inherited : (p : CoreProgram) (x : NameId) {c : ClassId} {m n : Member} → HasField p x c m → HasField p x c n → ¬ m ≡ n → can_inherit_field p m ≡ true
several-inherited p x (own {c = c} {at = k} e) (own {at = l} f) d = absurd (let s : k ≡ l = cc in d (ap (λ (i : ℕ). record { class = c; at = i }) s))
several-inherited p x (own e) (inherited f q h r) d = absurd cc
several-inherited p x (inherited e q h r) k d = r

inherit : (p : CoreProgram) (x : NameId) (c : ClassId) (f : Found) → IsFound (HasField p x c) f → IsFound (Inherited p x c) (inheriting p f)
inherit p x c _ (is_nothing n) = is_nothing (λ m q. n m q.has)
inherit p x c _ (is_one {m = m} h u) = bool_cases (λ b. can_inherit_field p m ≡ b → IsFound (Inherited p x c) (if b then one m else nothing)) (can_inherit_field p m)
    (λ e g. is_one (record { has = h; can = g }) (λ n q. u n q.has))
    (λ e g. is_nothing (λ n q. let s : can_inherit_field p n ≡ true = q.can in let k : n ≡ m = u n q.has in absurd (let t : can_inherit_field p m ≡ true = subst (λ (z : Member). can_inherit_field p z ≡ true) k s in cc))) refl
inherit p x c _ (are_several {m = m} {n = n} h k d) =
    are_several (record { has = h; can = several-inherited p x h k d }) (record { has = k; can = several-inherited p x k h (λ e. d (sym e)) }) d

own-unique : (p : CoreProgram) (x : NameId) (c : ClassId) (at : ℕ) → declared_field p x c ≡ Some at → (m : Member) → HasField p x c m → m ≡ record { class = c; at = at }
own-unique p x c at e m (own {at = k} q) = let r : k ≡ at = cc in ap (λ (n : ℕ). record { class = c; at = n }) r
own-unique p x c at e m (inherited q h r i) = absurd (cc)

from_supers : (p : CoreProgram) (x : NameId) (c : ClassId) → declared_field p x c ≡ None → (m : Member) → Among (Inherited p x) (supers_of p c) m → HasField p x c m
from_supers p x c e m a = inherited e a.there a.has.has a.has.can

to_supers : (p : CoreProgram) (x : NameId) (c : ClassId) → declared_field p x c ≡ None → (m : Member) → HasField p x c m → Among (Inherited p x) (supers_of p c) m
to_supers p x c e m (own q) = absurd (cc)
to_supers p x c e m (inherited {d = d} q h r i) = record { class = d; there = h; has = record { has = r; can = i } }

by_place : (p : CoreProgram) (x : NameId) (c : ClassId) (f : Found) (o : Option ℕ) → declared_field p x c ≡ o → IsFound (Among (Inherited p x) (supers_of p c)) f →
    IsFound (HasField p x c) (own_or_inherited c o f)
by_place p x c f (Some at) e g = is_one (own e) (own-unique p x c at e)
by_place p x c f None e g = found-same (from_supers p x c e) (to_supers p x c e) g

found-within : (p : CoreProgram) (a : IsAcyclic p) (n : ℕ) (x : NameId) (c : ClassId) → a.depth c < n → IsFound (HasField p x c) (field_within p n x c)
found-within p a zero x c h = absurd (omega arith)
found-within p a (suc n) x c h = by_place p x c _ (declared_field p x c) refl
    (over (Inherited p x) (λ d. inheriting p (field_within p n x d)) (supers_of p c)
    (λ d q. inherit p x d (field_within p n x d) (found-within p a n x d (let f : a.depth d < a.depth c = a.falls c d q in omega arith))))

pub fields_found : FieldsAreFound
unfolding find_field
fields_found p c x a = found-within p a (length p.classes) x c (a.within c)
