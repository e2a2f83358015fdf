-- One initializer more among some: it is kept or passed over.
use Rattle.std.proofs.Common.{◌≡◌, ◌<◌, ℕ, ◌+◌, List, ◌∷◌, length, map, drop, get_or, refl, sym, ap, ◌∙◌, subst}
use Rattle.std.specs.Prelude.{Bool, true, false, not, filter, if◌then◌else◌, Option}
use Rattle.std.proofs.Math.Bool.{beq}
use Rattle.je_core.specs.declared.program.Initializer.{Initializer}
use Rattle.je_core.specs.Core.{CoreInitializer, CoreClass}
use Rattle.je_core.specs.View.{initializer_view}
use Rattle.je_java.specs.Constructors.{initializers_in, is_of_instance}
use Rattle.je_java.specs.Meaning.{is_static}
use Rattle.machine_parts.specs.way.Clauses.{from_first, is_of_kind}
use Rattle.machine_parts.proofs.Lists.{drop-seen}

-- with the test of an initializer's kind
one_more : (kind b : Bool) (i : CoreInitializer) (is : List CoreInitializer) → i.is_static ≡ b →
    filter (is_of_kind kind) (i ∷ is) ≡ (if beq b kind then i ∷ filter (is_of_kind kind) is else filter (is_of_kind kind) is)
one_more true true i is e = ap (λ (c : Bool). if c then i ∷ filter is_static is else filter is_static is) e
one_more true false i is e = ap (λ (c : Bool). if c then i ∷ filter is_static is else filter is_static is) e
one_more false true i is e = ap (λ (c : Bool). if not c then i ∷ filter is_of_instance is else filter is_of_instance is) e
one_more false false i is e = ap (λ (c : Bool). if not c then i ∷ filter is_of_instance is else filter is_of_instance is) e

by_test : (kind b c : Bool) (i : CoreInitializer) (is : List CoreInitializer) → i.is_static ≡ b → beq b kind ≡ c →
    filter (is_of_kind kind) (i ∷ is) ≡ (if c then i ∷ filter (is_of_kind kind) is else filter (is_of_kind kind) is)
by_test kind b c i is e h = one_more kind b i is e ∙ ap (λ (t : Bool). if t then i ∷ filter (is_of_kind kind) is else filter (is_of_kind kind) is) h

module _ (is : List Initializer) (at : ℕ) (i : Initializer) (below : at < length is) (e : i ≡ get_or is at i) (kind : Bool) where
  there : drop at (map initializer_view is) ≡ initializer_view i ∷ drop (at + 1) (map initializer_view is)
  there = drop-seen initializer_view is (map initializer_view is) at i refl below e

  tested : (c : Bool) → beq (get_or is at i).is_static kind ≡ c →
      filter (is_of_kind kind) (initializer_view i ∷ drop (at + 1) (map initializer_view is)) ≡
      (if c then initializer_view i ∷ filter (is_of_kind kind) (drop (at + 1) (map initializer_view is)) else filter (is_of_kind kind) (drop (at + 1) (map initializer_view is)))
  tested c h = by_test kind (get_or is at i).is_static c (initializer_view i) (drop (at + 1) (map initializer_view is)) (ap (λ (j : Initializer). j.is_static) e) h

  pub first_kept : beq (get_or is at i).is_static kind ≡ true → filter (is_of_kind kind) (drop at (map initializer_view is)) ≡ from_first kind (drop at (map initializer_view is))
  first_kept h = rw there (tested true h)

  pub first_passed : beq (get_or is at i).is_static kind ≡ false → filter (is_of_kind kind) (drop (at + 1) (map initializer_view is)) ≡ filter (is_of_kind kind) (drop at (map initializer_view is))
  first_passed h = rw there (sym (tested false h))

-- the next of a class's initializers of a kind, where the list of them is in memory
pub next_is : (class : Option CoreClass) (kind : Bool) (is : List Initializer) (at place : ℕ) (i : Initializer) → map initializer_view is ≡ initializers_in class →
    filter (is_of_kind kind) (drop at (map initializer_view is)) ≡ from_first kind (drop place (map initializer_view is)) → place < length is → i ≡ get_or is place i →
    filter (is_of_kind kind) (drop at (initializers_in class)) ≡ initializer_view i ∷ filter (is_of_kind kind) (drop (place + 1) (initializers_in class))
next_is class kind is at place i whole found below e =
    subst (λ (all : List CoreInitializer). filter (is_of_kind kind) (drop at all) ≡ initializer_view i ∷ filter (is_of_kind kind) (drop (place + 1) all)) whole
    (found ∙ ap (from_first kind) (drop-seen initializer_view is (map initializer_view is) place i refl below e))
