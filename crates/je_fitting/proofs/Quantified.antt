-- A test of every method passes exactly where it passes for each.
use Rattle.std.proofs.Common.{◌≡◌, ℕ, zero, suc, ◌<◌, [], ◌∷◌, length, Some, None, refl, sym, ◌∙◌, subst, arith}
use Rattle.std.specs.Prelude.{Bool, true, false, Option, slice_get, nat_eq}
use Rattle.std.specs.List.{list_all}
use Rattle.std.proofs.lemmas.List.Folds.{list_all-append}
use Rattle.std.proofs.lemmas.Option.{slice_get_within}
use Rattle.std.proofs.lemmas.Bool.Decides.{nat_tests}
use Rattle.je_core.specs.declared.types.ClassId.{ClassId}
use Rattle.je_core.specs.Core.{CoreMethod, CoreClass, CoreProgram}
use Rattle.je_classes.specs.Hierarchy.{class_at}
use Rattle.je_classes.specs.Members.{methods_in, methods_of}
use Rattle.je_classes.proofs.Lists.{bool_cases}
use Rattle.je_fitting.specs.Expressions.{method_at, places_up_to}
use Rattle.je_fitting.specs.way.Quantifying.{implies, if_there, each_method_of, each_method}
use Rattle.je_fitting.proofs.Booleans.{two, both}

pub implied : {a b : Bool} → implies a b ≡ true → a ≡ true → b ≡ true
implied {a = true} {b = b} e f = e
implied {a = false} {b = b} e f = absurd cc

pub implying : (a b : Bool) → (a ≡ true → b ≡ true) → implies a b ≡ true
implying true b f = f refl
implying false b f = refl

pub on-there : {A : Type 0} (test : A → Bool) (o : Option A) → if_there test o ≡ true → (x : A) → o ≡ Some x → test x ≡ true
on-there test None e x q = absurd cc
on-there test (Some y) e x q = let r : y ≡ x = cc in subst (λ z. test z ≡ true) r e

pub if-there : {A : Type 0} (test : A → Bool) (o : Option A) → ((x : A) → o ≡ Some x → test x ≡ true) → if_there test o ≡ true
if-there test None f = refl
if-there test (Some y) f = f y refl

pub each-place : (test : ℕ → Bool) (n : ℕ) → list_all test (places_up_to n) ≡ true → (i : ℕ) → i < n → test i ≡ true
each-place test zero e i lt = absurd (omega arith)
each-place test (suc n) e i lt =
    let q = two {a = list_all test (places_up_to n)} {b = list_all test (n ∷ [])} (sym (list_all-append test (places_up_to n) (n ∷ [])) ∙ e) in
    let r = two {a = test n} {b = true} q.1 in
    bool_cases (λ k. nat_eq i n ≡ k → test i ≡ true) (nat_eq i n)
    (λ _ h. let s : n ≡ i = grind (arith, nat_tests) in subst (λ j. test j ≡ true) s r.0)
    (λ _ h. each-place test n q.0 i (let s : ¬ i ≡ n = grind (arith, nat_tests) in omega (arith, s))) refl

pub places-pass : (test : ℕ → Bool) (n : ℕ) → ((i : ℕ) → i < n → test i ≡ true) → list_all test (places_up_to n) ≡ true
places-pass test zero f = refl
places-pass test (suc n) f = list_all-append test (places_up_to n) (n ∷ []) ∙ both (places-pass test n (λ i lt. f i (omega arith))) (both (f n (omega arith)) refl)

pub method-within : (p : CoreProgram) (c : ClassId) (n : ℕ) (k : CoreMethod) → method_at p c n ≡ Some k → n < length (methods_of p c)
method-within p c n k e = slice_get_within (methods_of p c) n k e

pub class-within : (p : CoreProgram) (c : ClassId) (n : ℕ) (k : CoreMethod) (o : Option CoreClass) → class_at p c ≡ o → slice_get (methods_in o) n ≡ Some k → c.0 < length p.classes
class-within p c n k None q e = absurd (let z : n < 0 = slice_get_within [] n k e in omega arith)
class-within p c n k (Some x) q e = slice_get_within p.classes c.0 x q

pub each-tested : (p : CoreProgram) (test : ClassId → ℕ → CoreMethod → Bool) → each_method p test ≡ true → (c : ClassId) (n : ℕ) (k : CoreMethod) → method_at p c n ≡ Some k → test c n k ≡ true
each-tested p test e c n k q =
    let of_class = each-place (λ i. each_method_of p (record { 0 = i }) (test (record { 0 = i }))) (length p.classes) e c.0 (class-within p c n k (class_at p c) refl q) in
    let at_place = each-place (λ i. if_there (test c i) (method_at p c i)) (length (methods_of p c)) of_class n (method-within p c n k q) in
    on-there (test c n) (method_at p c n) at_place k q

pub all-tested : (p : CoreProgram) (test : ClassId → ℕ → CoreMethod → Bool) → ((c : ClassId) (n : ℕ) (k : CoreMethod) → method_at p c n ≡ Some k → test c n k ≡ true) → each_method p test ≡ true
all-tested p test f = places-pass (λ i. each_method_of p (record { 0 = i }) (test (record { 0 = i }))) (length p.classes)
    (λ i lt. places-pass (λ n. if_there (test (record { 0 = i }) n) (method_at p (record { 0 = i }) n)) (length (methods_of p (record { 0 = i })))
    (λ n lt'. if-there (test (record { 0 = i }) n) (method_at p (record { 0 = i }) n) (λ k q. f (record { 0 = i }) n k q)))
