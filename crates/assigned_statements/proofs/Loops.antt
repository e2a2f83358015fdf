-- What a loop leaves from any set is picked from what it leaves from everything and from nothing.
use Rattle.std.specs.Prelude.{Result, Ok, Err, IfOk}
use Rattle.std.proofs.Common.{◌≡◌, ℕ, Bool, true, false, ◌||◌, Option, if◌then◌else◌, List, refl, sym, ◌∙◌}
use Rattle.je_base.specs.declared.span.NameId.{NameId}
use Rattle.je_core.specs.Core.{Core, CoreStmt}
use Rattle.je_core.specs.Core as core
use Rattle.flow_base.specs.declared.jumps.Way.{Way}
use Rattle.variable_sets.specs.Sets.{Set, everything, nothing, pick}
use Rattle.variable_sets.specs.ExitSets.{picked}
use Rattle.assignment_rules.specs.Rules.{Follow, entry}
use Rattle.assignment_rules.specs.Ends.{Ends}
use Rattle.assigned_statements.specs.Statements.{form_ends, loop_from, loop_turn, do_from, do_turn}
use Rattle.assignment_rules.specs.way.Picked.{pick_ends}
use Rattle.assignment_rules.proofs.Agree.{Agree, AgreeEnds}
use Rattle.assigned_statements.proofs.OneVariable.{loop_from_agree, do_from_agree}

module _ (s : Set → Set) (h : (G : Type 0) (v : ℕ) (a b : Set) → Agree G v a b → Agree G v (s a) (s b)) (x : Set) where
  at_one : (v : ℕ) (t : Bool) → x.has v ≡ t → (s x).has v ≡ (if t then (s everything).has v else (s nothing).has v)
  unfolding everything nothing
  at_one v true e = (h (Unit {0}) v x everything (record { at = λ g. e })).at tt
  at_one v false e = (h (Unit {0}) v x nothing (record { at = λ g. e })).at tt

  set_by_one : s x ≡ pick x (s everything) (s nothing)
  unfolding pick
  set_by_one = λ i. record { has = λ v. at_one v (x.has v) refl i }

or_same : (s t : Bool) → s ≡ t → s ≡ (s || t)
or_same true t e = refl
or_same false t e = e

module _ (s : Set → Ends) (h : (G : Type 0) (v : ℕ) (a b : Set) → Agree G v a b → AgreeEnds G v (s a) (s b)) (x : Set) where
  there_by_one : (w : Way) → (s x).exits.is_there w ≡ ((s everything).exits.is_there w || (s nothing).exits.is_there w)
  there_by_one w =
      (h ⊥ 0 x everything (record { at = λ g. absurd g })).exits.there w
      ∙ or_same ((s everything).exits.is_there w) ((s nothing).exits.is_there w) ((h ⊥ 0 everything nothing (record { at = λ g. absurd g })).exits.there w)

  exits_by_one : (s x).exits ≡ picked x (s everything).exits (s nothing).exits
  unfolding picked
  exits_by_one = λ i. record {
    by = λ w. set_by_one (λ a. (s a).exits.by w) (λ G v a b p. (h G v a b p).exits.by w) x i;
    is_there = λ w. there_by_one w i;
  }

  by_one : s x ≡ pick_ends x (s everything) (s nothing)
  by_one = λ i. record {
    after = set_by_one (λ a. (s a).after) (λ G v a b p. (h G v a b p).after) x i;
    exits = exits_by_one i;
  }

loop_by_one : (f : Follow) (label : Option NameId) (c : Core) (body : CoreStmt) (e : Set) →
    loop_from f label c body e ≡ pick_ends e (loop_from f label c body everything) (loop_from f label c body nothing)
loop_by_one f label c body e = by_one (loop_from f label c body) (λ G v a b p. loop_from_agree f label c body p) e

do_by_one : (f : Follow) (label : Option NameId) (body : CoreStmt) (c : Core) (e : Set) →
    do_from f label body c e ≡ pick_ends e (do_from f label body c everything) (do_from f label body c nothing)
do_by_one f label body c e = by_one (do_from f label body c) (λ G v a b p. do_from_agree f label body c p) e

-- What a loop leaves is picked by the set where its turns begin.
pub loop_ended : (f : Follow) (label : Option NameId) (c : Core) (steps : List Core) (body : CoreStmt) (b turn : Set) (all none : Ends) →
    turn ≡ loop_turn f label c steps body → all ≡ loop_from f label c body everything → none ≡ loop_from f label c body nothing →
    pick_ends (entry f.rule b turn) all none ≡ form_ends f label b (core.Loop c steps body)
loop_ended f label c steps body b turn all none p q r =
    (λ i. pick_ends (entry f.rule b (p i)) (q i) (r i)) ∙ sym (loop_by_one f label c body (entry f.rule b (loop_turn f label c steps body)))

pub do_ended : (f : Follow) (label : Option NameId) (body : CoreStmt) (c : Core) (b turn : Set) (all none : Ends) →
    turn ≡ do_turn f label body c → all ≡ do_from f label body c everything → none ≡ do_from f label body c nothing →
    pick_ends (entry f.rule b turn) all none ≡ form_ends f label b (core.DoLoop body c)
do_ended f label body c b turn all none p q r =
    (λ i. pick_ends (entry f.rule b (p i)) (q i) (r i)) ∙ sym (do_by_one f label body c (entry f.rule b (do_turn f label body c)))

-- A result that ends in one way ends in what that comes to.
pub IfOk-ends : {A E : Type 0} (r : Result A E) (g : A → Ends) (x y : Ends) → IfOk r (λ e. g e ≡ x) → x ≡ y → IfOk r (λ e. g e ≡ y)
IfOk-ends (Ok e) g x y h p = h ∙ p
IfOk-ends (Err m) g x y h p = tt
