-- Tests of the table, which are computed: of each class's row, of the rows of its members, and of each two of these that stand in classes
-- of which one is above the other.
use Rattle.std.proofs.Common.{◌≡◌, ℕ, zero, suc, ◌+◌, List, [], ◌∷◌, map, length, Option, Some, None, unwrap_or, refl, subst, arith}
use Rattle.std.specs.Prelude.{Bool, true, false, not, ◌&&◌, ◌||◌, filter, slice_get, nat_lt, nat_eq, is_none, is_some, codes, if◌then◌else◌}
use Rattle.std.specs.List.{flat_map, list_all, list_any}
use Rattle.std.specs.Str.{bytes_eq}
use Rattle.std.proofs.lemmas.Option.{same_Some}
use Rattle.je_base.specs.declared.span.NameId.{NameId}
use Rattle.je_core.specs.declared.types.Base.{Base}
use Rattle.je_core.specs.declared.types.Base.TheVariants as base
use Rattle.je_core.specs.declared.types.ClassId.{ClassId}
use Rattle.je_core.specs.declared.types.Ty.{Ty}
use Rattle.je_core.specs.Core.{CoreField}
use Rattle.je_table.specs.Library.{Class, classes}
use Rattle.je_table.specs.Rows.{Row}
use Rattle.je_classes.specs.Hierarchy.{library_class, object_class, same_class, with_superclass}
use Rattle.je_classes.specs.Subtypes.{same_type, same_types}
use Rattle.je_fitting.specs.Types.{holds_something, is_void, type_of_value}
use Rattle.je_fitting.proofs.Booleans.{two}
use Rattle.library_classes.specs.Library.{all_due, erased, erased_base, hidden_fields, interfaces_due, is_field_of, is_method_of, limit, rows, superclass_due}
use Rattle.class_names.specs.Words.{class_words, further_words, library_words, member_words}
use Rattle.library_fits.proofs.Rounds.{IsRound, is_within}

-- ---- tests of rows

abbrev pub implies : Bool → Bool → Bool
implies a b = not a || b

abbrev pub all_from : (ClassId → Class → Bool) → ℕ → List Class → Bool
all_from test n [] = true
all_from test n (c ∷ cs) = test (record { 0 = n }) c && all_from test (suc n) cs

pub passes-at : (test : ClassId → Class → Bool) (n : ℕ) (cs : List Class) → all_from test n cs ≡ true → (at : ℕ) (c : Class) → slice_get cs at ≡ Some c → test (record { 0 = at + n }) c ≡ true
passes-at test n [] h at c e = absurd cc
passes-at test n (d ∷ cs) h zero c e = let p : n ≡ 0 + n = omega arith in
    subst (λ i. test (record { 0 = i }) c ≡ true) p (subst (λ x. test (record { 0 = n }) x ≡ true) (same_Some d c e) (two {a = test (record { 0 = n }) d} {b = all_from test (suc n) cs} h).0)
passes-at test n (d ∷ cs) h (suc at) c e = let p : at + suc n ≡ suc at + n = omega arith in
    subst (λ i. test (record { 0 = i }) c ≡ true) p (passes-at test (suc n) cs (two {a = test (record { 0 = n }) d} {b = all_from test (suc n) cs} h).1 at c e)

pub each-row : (test : ClassId → Class → Bool) → all_from test 0 classes ≡ true → (k : ClassId) (c : Class) → slice_get classes k.0 ≡ Some c → test k c ≡ true
each-row test h k c e = let p : k.0 + 0 ≡ k.0 = omega arith in subst (λ i. test (record { 0 = i }) c ≡ true) p (passes-at test 0 classes h k.0 c e)

-- ---- what stands above a class

abbrev pub supers_by : Option Class → List ClassId
supers_by None = []
supers_by (Some c) = with_superclass (superclass_due c) (interfaces_due c)

abbrev pub climb : ℕ → ClassId → List ClassId
climb zero k = k ∷ []
climb (suc n) k = k ∷ flat_map (climb n) (supers_by (slice_get classes k.0))

-- it, and all classes above it
unfoldable pub round_of : ClassId → List ClassId
round_of k = climb 5 k

abbrev is_closed : (List ℕ → NameId) → ClassId → Class → Bool
is_closed number k c = list_all (is_within number (round_of k)) (round_of k) && list_any (same_class k) (round_of k)

closed-rounds : (number : List ℕ → NameId) → all_from (is_closed number) 0 classes ≡ true
unfolding round_of library_class all_due
closed-rounds number = refl

pub is-round : (number : List ℕ → NameId) (k : ClassId) (c : Class) → slice_get classes k.0 ≡ Some c → IsRound number k (round_of k)
is-round number k c e = let h = two {a = list_all (is_within number (round_of k)) (round_of k)} (each-row (is_closed number) (closed-rounds number) k c e) in record { closed = h.0; among = h.1 }

pub rounds-there : all_from (λ k c. list_all (λ (d : ClassId). is_some (slice_get classes d.0)) (round_of k)) 0 classes ≡ true
unfolding round_of library_class
rounds-there = refl

-- no class is above itself
abbrev pub is_below_none : ClassId → Class → Bool
is_below_none k c = list_all (λ s. not (list_any (same_class k) (round_of s))) (supers_by (Some c))

pub none-below : all_from is_below_none 0 classes ≡ true
unfolding round_of library_class
none-below = refl

-- ---- types

abbrev pub is_variable_base : Base → Bool
is_variable_base (base.Class k) = nat_lt k.0 (length classes)
is_variable_base b = holds_something b

abbrev pub is_variable : Ty → Bool
is_variable t = is_variable_base t.base

-- ---- members

abbrev pub methods_by : Class → List Row
methods_by c = filter (is_method_of c) rows

abbrev pub params_by : Class → Row → List Ty
params_by c r = map (erased c) (unwrap_or r.parameters [])

abbrev pub is_maker : Row → Bool
is_maker r = bytes_eq (codes "new") r.name

abbrev pub is_method_right : Class → Row → Bool
is_method_right c r =
    list_all is_variable (params_by c r) && ((is_void (erased c r.returns) || is_variable (erased c r.returns)) &&
    implies (is_maker r) (not r.is_static && (not c.is_interface && is_void (erased c r.returns))))

pub methods-right : all_from (λ k c. list_all (is_method_right c) (methods_by c)) 0 classes ≡ true
unfolding rows library_class
methods-right = refl

abbrev pub is_constant_right : Option Ty → Ty → Bool
is_constant_right None t = false
is_constant_right (Some s) t = same_type s t

abbrev pub is_field_right : Class → Row → Bool
is_field_right c r =
    is_variable (erased c r.returns) && (r.is_static && (is_constant_right (type_of_value (limit r.name (erased_base c r.returns.base))) (erased c r.returns) && same_type (erased c r.returns) (erased c r.returns)))

pub fields-right : all_from (λ k c. list_all (is_field_right c) (filter (is_field_of c) rows)) 0 classes ≡ true
unfolding rows library_class
fields-right = refl

-- no interface has a hidden field, and each such field holds something
abbrev pub is_hidden_right : (List ℕ → NameId) → ClassId → Class → Bool
is_hidden_right number k c = list_all (λ (f : CoreField). not c.is_interface && (is_variable f.ty && is_none f.constant)) (hidden_fields number c)

pub hidden-right : (number : List ℕ → NameId) → all_from (is_hidden_right number) 0 classes ≡ true
unfolding library_class
hidden-right number = refl

-- the names of members are words of the library
pub names-there : list_all (λ (r : Row). list_any (bytes_eq r.name) library_words) rows ≡ true
unfolding rows library_words class_words member_words further_words
names-there = refl

-- ---- two methods, the first in a class and the second in one above it, or the other way round

abbrev pub is_alike : Class → Row → Class → Row → Bool
is_alike c r d q = bytes_eq r.name q.name && same_types (params_by c r) (params_by d q)

-- where the one may stand for the other, neither is static, and their results are of one type
abbrev pub are_right : Class → Row → Class → Row → Bool
are_right c r d q =
    implies (is_alike c r d q && (not (r.is_static && q.is_static) && not (is_maker q))) (not r.is_static && (not q.is_static && same_type (erased c r.returns) (erased d q.returns)))

abbrev pub each_in : (Class → Row → Bool) → Option Class → Bool
each_in test None = true
each_in test (Some d) = list_all (test d) (methods_by d)

abbrev pub each_method_in : List ClassId → (Class → Row → Bool) → Bool
each_method_in ks test = list_all (λ (k : ClassId). each_in test (slice_get classes k.0)) ks

abbrev pub pairs_right : ClassId → Class → Bool
pairs_right k c = each_method_in (round_of k) (λ d r. each_method_in (round_of k) (λ e q. are_right d r e q))

pub pairs-right : all_from pairs_right 0 classes ≡ true
unfolding rows round_of library_class
pairs-right = refl

-- ---- classes

abbrev pub is_row : (Class → Bool) → Option Class → Bool
is_row test None = false
is_row test (Some c) = test c

abbrev pub is_extensible : Option ClassId → Bool
is_extensible None = false
is_extensible (Some s) = is_row (λ (c : Class). not c.is_interface && not c.is_final) (slice_get classes s.0)

-- Object and the interfaces have no superclass, every other class has one that may be extended, and what stands behind are interfaces
abbrev pub are_supers_right : ClassId → Class → Bool
are_supers_right k c =
    (if same_class k object_class || c.is_interface then is_none (superclass_due c) else is_extensible (superclass_due c)) &&
    list_all (λ (i : ClassId). is_row (λ (d : Class). d.is_interface) (slice_get classes i.0)) (interfaces_due c)

pub supers-right : all_from are_supers_right 0 classes ≡ true
unfolding library_class object_class
supers-right = refl

-- an interface has no methods but its own
abbrev pub is_alone : ClassId → Class → Bool
is_alone k c = implies c.is_interface (list_all (λ (d : ClassId). same_class d k || is_row (λ (e : Class). nat_eq (length (methods_by e)) 0) (slice_get classes d.0)) (round_of k))

pub interfaces-alone : all_from is_alone 0 classes ≡ true
unfolding rows round_of library_class
interfaces-alone = refl

abbrev pub superclass_by : Option Class → Option ClassId
superclass_by None = None
superclass_by (Some c) = superclass_due c

-- by so many superclasses at most
abbrev pub by_super : (ClassId → Bool) → Option ClassId → Bool
by_super test None = false
by_super test (Some s) = test s

abbrev pub is_up : ℕ → ClassId → ClassId → Bool
is_up zero k d = same_class k d
is_up (suc n) k d = same_class k d || by_super (λ s. is_up n s d) (superclass_by (slice_get classes k.0))

abbrev pub comparable : ClassId
comparable = library_class (codes "java.lang.Comparable")

-- A class has each method of the classes above it; and of the interfaces above it, but for String's of Comparable, none has any.
abbrev pub is_implementing : ClassId → Class → Bool
is_implementing k c = c.is_interface || list_all (λ (d : ClassId). is_row (λ (e : Class).
    if e.is_interface then nat_eq (length (methods_by e)) 0 || (nat_eq k.0 1 && nat_eq d.0 7) else is_up 5 k d) (slice_get classes d.0)) (round_of k)

pub implementing : all_from is_implementing 0 classes ≡ true
unfolding rows round_of library_class
implementing = refl

-- bridges are String's alone
abbrev pub is_bridging : ClassId → Class → Bool
is_bridging k c = implies (bytes_eq c.name (codes "java.lang.String")) (nat_eq k.0 1)

pub bridging : all_from is_bridging 0 classes ≡ true
bridging = refl
