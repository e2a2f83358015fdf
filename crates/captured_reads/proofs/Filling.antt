-- How the lists of the classes directly inside each class are filled.
use Rattle.std.proofs.Common.{inl, inr, ◌⊎◌, ◌≡◌, ℕ, zero, suc, ◌+◌, ◌<◌, ◌≤◌, List, [], ◌∷◌, ◌++◌, length, get_or, map, drop, refl, sym, ap, ◌∙◌, append_assoc, arith}
use Rattle.std.specs.Prelude.{Bool, true, false, nat_eq, Vec, Some, None, slice_get, slice_set, if◌then◌else◌}
use Rattle.std.specs.declared.alloc.Global.{Global}
use Rattle.std.proofs.lemmas.List.{append-nil, drop_all, length-map, map-append, map-set}
use Rattle.std.proofs.lemmas.Bool.{eqb-false, eqb-true}
use Rattle.std.proofs.lemmas.Grind.{get_or-set_at}
use Rattle.std.proofs.lemmas.List.{get_or-set_other}
use Rattle.std.proofs.Math.ListN.{get_or-map}
use Rattle.std.proofs.Math.Seq.{drop-cons}
use Rattle.std.proofs.lemmas.Option.{slice_get-get_or, slice_get_cases, slice_get_past}
use Rattle.je_core.specs.declared.types.ClassId.{ClassId}
use Rattle.je_core.specs.declared.program.Class.{Class}
use Rattle.je_core.specs.Core.{CoreClass, CoreProgram}
use Rattle.je_core.specs.View.{class_view}
use Rattle.captured_reads.specs.Nesting.{IsNested, classes_inside, inside_from, inside_if_there, is_in_class, listed}
use Rattle.captured_reads.specs.way.Filling.{AreEmpty, AreFilled, HasOneMore, contents, list_at}

-- ---- empty lists

empty-behind : (lists : List (List ClassId)) (n : ℕ) → get_or (lists ++ [] ∷ []) n [] ≡ get_or lists n []
empty-behind [] zero = refl
empty-behind [] (suc n) = refl
empty-behind (xs ∷ lists) zero = refl
empty-behind (xs ∷ lists) (suc n) = empty-behind lists n

pub one_empty_more : (lists : List (Vec ClassId Global)) (list : Vec ClassId Global) → list.items ≡ [] → AreEmpty lists → AreEmpty (lists ++ list ∷ [])
one_empty_more lists list e empty class =
    ap (λ xs. get_or xs class.0 []) (map-append (λ (v : Vec ClassId Global). v.items) lists (list ∷ []))
    ∙ ap (λ xs. get_or (contents lists ++ xs ∷ []) class.0 []) e
    ∙ empty-behind (contents lists) class.0
    ∙ empty class

-- ---- one class more

pub list-there : (lists : List (Vec ClassId Global)) (n : ℕ) → listed (slice_get lists n) ≡ get_or (contents lists) n []
list-there [] n = refl
list-there (list ∷ lists) zero = refl
list-there (list ∷ lists) (suc n) = list-there lists n

pub one_class_more : (lists : List (Vec ClassId Global)) (within id : ClassId) (old new : Vec ClassId Global) → within.0 < length lists →
    old ≡ get_or lists within.0 old →
    new.items ≡ old.items ++ id ∷ [] → HasOneMore (Some within) id lists (slice_set lists within.0 new)
one_class_more lists within id old new fits there more class l = by (nat_eq class.0 within.0) refl
  where
    before : get_or (contents lists) within.0 [] ≡ old.items
    before = sym (list-there lists within.0) ∙ ap listed (slice_get-get_or lists within.0 old fits ∙ ap Some (sym there))

    count : length (contents lists) ≡ length lists
    count = length-map lists (λ (v : Vec ClassId Global). v.items)

    by : (b : Bool) → nat_eq class.0 within.0 ≡ b → list_at (slice_set lists within.0 new) class ≡ list_at lists class ++ (if b then id ∷ [] else [])
    by true e =
        let same : class.0 ≡ within.0 = eqb-true class.0 within.0 e in
        ap (λ xs. get_or xs class.0 []) (map-set (λ (v : Vec ClassId Global). v.items) lists within.0 new)
        ∙ get_or-set_at (contents lists) within.0 class.0 new.items [] same (omega (arith, l, same, count))
        ∙ more
        ∙ ap (λ xs. xs ++ id ∷ []) (sym before ∙ ap (λ n. get_or (contents lists) n []) (sym same))
    by false e =
        ap (λ xs. get_or xs class.0 []) (map-set (λ (v : Vec ClassId Global). v.items) lists within.0 new)
        ∙ get_or-set_other (contents lists) within.0 class.0 new.items [] (eqb-false class.0 within.0 e)
        ∙ sym (append-nil (list_at lists class))

pub one_class_further : (classes : List CoreClass) (n : ℕ) (c : CoreClass) (old new : List (Vec ClassId Global)) → drop n classes ≡ c ∷ drop (n + 1) classes →
    length new ≡ length old → HasOneMore c.within (record { 0 = n }) old new → AreFilled classes n old → AreFilled classes (n + 1) new
one_class_further classes n c old new here count more filled class l =
    ap (λ xs. xs ++ inside_from class (n + 1) (drop (n + 1) classes)) (more class within)
    ∙ by (is_in_class class c.within)
    ∙ ap (λ cs. list_at old class ++ inside_from class n cs) (sym here)
    ∙ filled class within
  where
    within : class.0 < length old
    within = omega (arith, l, count)

    further : n + 1 ≡ suc n
    further = omega arith

    by : (b : Bool) →
        (list_at old class ++ (if b then record { 0 = n } ∷ [] else [])) ++ inside_from class (n + 1) (drop (n + 1) classes)
        ≡ list_at old class ++ (if b then record { 0 = n } ∷ inside_from class (suc n) (drop (n + 1) classes) else inside_from class (suc n) (drop (n + 1) classes))
    by true =
        append_assoc (list_at old class) (record { 0 = n } ∷ []) (inside_from class (n + 1) (drop (n + 1) classes))
        ∙ ap (λ k. list_at old class ++ record { 0 = n } ∷ inside_from class k (drop (n + 1) classes)) further
    by false =
        ap (λ xs. xs ++ inside_from class (n + 1) (drop (n + 1) classes)) (append-nil (list_at old class))
        ∙ ap (λ k. list_at old class ++ inside_from class k (drop (n + 1) classes)) further

pub next_class : (classes : List Class) (n : ℕ) (c : Class) → n < length classes → c ≡ get_or classes n c →
    drop n (map class_view classes) ≡ class_view c ∷ drop (n + 1) (map class_view classes)
next_class classes n c fits e =
    let count : length (map class_view classes) ≡ length classes = length-map classes class_view in
    let further : suc n ≡ n + 1 = omega arith in
    drop-cons (map class_view classes) n (class_view c) (omega (arith, fits, count))
    ∙ ap (λ d. d ∷ drop (suc n) (map class_view classes)) (get_or-map class_view classes n c ∙ ap class_view (sym e))
    ∙ ap (λ k. class_view c ∷ drop k (map class_view classes)) further

-- ---- all classes

pub all_classes : (p : CoreProgram) (n : ℕ) (lists : List (Vec ClassId Global)) → length p.classes ≤ n → length lists ≡ length p.classes →
    AreFilled p.classes n lists → IsNested p lists
unfolding classes_inside
all_classes p n lists all count filled class = by (slice_get_cases p.classes class.0).1
  where
    none : drop n p.classes ≡ []
    none = drop_all n p.classes all

    by : ((x : CoreClass) × (class.0 < length p.classes) × (slice_get p.classes class.0 ≡ Some x) × (get_or p.classes class.0 x ≡ x))
        ⊎ ((length p.classes ≤ class.0) × (slice_get p.classes class.0 ≡ None)) → listed (slice_get lists class.0) ≡ classes_inside p class
    by (inl w) =
        list-there lists class.0
        ∙ sym (append-nil (list_at lists class))
        ∙ ap (λ cs. list_at lists class ++ inside_from class n cs) (sym none)
        ∙ filled class (let there = w.1 in omega (arith, there, count))
        ∙ ap (inside_if_there p class) (sym w.2)
    by (inr w) =
        ap listed (slice_get_past lists class.0 (let past = w.0 in omega (arith, count, past)))
        ∙ ap (inside_if_there p class) (sym w.1)
