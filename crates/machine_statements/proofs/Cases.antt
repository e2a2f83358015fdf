-- The statements of the groups of a `switch`, from a place on.
use Rattle.std.proofs.Common.{◌≡◌, ◌<◌, ℕ, suc, ◌+◌, List, [], ◌∷◌, ◌++◌, length, map, drop, get_or, Some, refl, sym, ap, ◌∙◌, add-one}
use Rattle.std.proofs.Math.Seq.{drop-cons}
use Rattle.std.proofs.lemmas.List.{drop-map}
use Rattle.std.specs.Prelude.{ℤ, Bool, is_none, if◌then◌else◌}
use Rattle.std.specs.List.{list_any}
use Rattle.je_core.specs.declared.stmt.Group.{Group, out-Group}
use Rattle.je_core.specs.Core.{CoreStmt, CoreLabel, CoreGroup}
use Rattle.je_core.specs.View.{group_view, label_view, stmt_views}
use Rattle.je_core.proofs.Views.{group_view_is, stmt_list_of_core_stmts}
use Rattle.je_arith.specs.Conversion.{number_of}
use Rattle.je_core.specs.declared.value.Value.{Value}
use Rattle.je_java.specs.Steps.{State, on_some, need, bind, broken_by}
use Rattle.je_java.specs.Meaning.{Meanings, block, is_number, has_number, is_default, groups_from, selected, parts_in, fallen_through, switched}
use Rattle.machine_parts.specs.Ways.{Ways, ended, broken, rest_in, rest_of}

pub from_start : (gs : List CoreGroup) → rest_in gs 0 ≡ fallen_through gs
from_start [] = refl
from_start (g ∷ gs) = refl

-- the group at a place
pub group_here : (gs : List Group) (i : ℕ) (x : Group) → i < length gs → x ≡ get_or gs i x → drop i (map group_view gs) ≡ group_view x ∷ drop (i + 1) (map group_view gs)
group_here gs i x below e =
    let here : drop i gs ≡ x ∷ drop (suc i) gs = drop-cons gs i x below ∙ (λ j. sym e j ∷ drop (suc i) gs) in
    rw add-one (drop-map group_view i gs ∙ ap (map group_view) here ∙ ap (λ xs. group_view x ∷ xs) (sym (drop-map group_view (suc i) gs)))

-- a group that is at its end
pub case_skips : (gs : List CoreGroup) (at next : ℕ) (g : CoreGroup) → drop at gs ≡ g ∷ drop (at + 1) gs → drop next (parts_in g) ≡ [] → rest_of gs at next ≡ rest_of gs (at + 1) 0
case_skips gs at next g e f = ap (λ xs. rest_in xs next) e ∙ ap (λ ps. ps ++ fallen_through (drop (at + 1) gs)) f ∙ sym (from_start (drop (at + 1) gs))

-- a statement of a group
pub case_takes : (gs : List CoreGroup) (at next : ℕ) (g : CoreGroup) (s : CoreStmt) → drop at gs ≡ g ∷ drop (at + 1) gs → drop next (parts_in g) ≡ s ∷ drop (next + 1) (parts_in g) →
    rest_of gs at next ≡ s ∷ rest_of gs at (next + 1)
case_takes gs at next g s e f =
    ap (λ xs. rest_in xs next) e ∙ ap (λ ps. ps ++ fallen_through (drop (at + 1) gs)) f ∙ ap (λ xs. s ∷ xs) (sym (ap (λ xs. rest_in xs (next + 1)) e))

-- the statements of the groups that a number selects
pub switch_begins : (m : Meanings) (groups : List CoreGroup) (value : Value) (n : ℤ) (at : ℕ) (k : Ways) (s : State) → Some n ≡ number_of value → selected n groups ≡ drop at groups →
    ended (block m (rest_of groups at 0)) (broken k) s ≡ ended (switched m groups value) k s
unfolding need bind broken_by
switch_begins m groups value n at k s h e =
    ap (λ ps. ended (block m ps) (broken k) s) (from_start (drop at groups) ∙ ap fallen_through (sym e))
    ∙ ap (λ o. on_some o (λ x. broken_by (block m (fallen_through (selected x groups))) k.next k.out s)) h

-- a group in memory

pub number_seen : (n : ℤ) (g : Group) → has_number n (group_view g) ≡ list_any (λ (label : CoreLabel). is_number n label.value) (map label_view (out-Group g).labels.items)
number_seen n g = ap (has_number n) (group_view_is g)

pub default_seen : (g : Group) → is_default (group_view g) ≡ list_any (λ (label : CoreLabel). is_none label.value) (map label_view (out-Group g).labels.items)
default_seen g = ap is_default (group_view_is g)

pub parts_seen : (g : Group) → parts_in (group_view g) ≡ stmt_views (out-Group g).parts.items
parts_seen g = ap parts_in (group_view_is g) ∙ stmt_list_of_core_stmts _

-- the groups from the first that passes a test, from a place on
pub groups_step : (test : CoreGroup → Bool) (gs : List Group) (i : ℕ) (x : Group) → i < length gs → x ≡ get_or gs i x →
    groups_from test (map group_view (drop i gs)) ≡
    (if test (group_view x) then Some (drop i (map group_view gs)) else groups_from test (map group_view (drop (i + 1) gs)))
groups_step test gs i x below e =
    let here : drop i gs ≡ x ∷ drop (suc i) gs = drop-cons gs i x below ∙ (λ j. sym e j ∷ drop (suc i) gs) in
    rw add-one
    (ap (λ xs. groups_from test (map group_view xs)) here
    ∙ ap (λ xs. if test (group_view x) then Some xs else groups_from test (map group_view (drop (suc i) gs))) (sym (drop-map group_view i gs ∙ ap (map group_view) here)))
