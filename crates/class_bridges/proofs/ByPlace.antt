-- The bridges of a class, by the places of the methods above it.
use Rattle.std.proofs.Common.{◌≡◌, ℕ, List, [], ◌∷◌, map, Bool, true, false, Option, Some, None, refl, sym, ap, ◌∙◌}
use Rattle.std.specs.Prelude.{◌&&◌, ◌||◌, flat_map, option_map}
use Rattle.std.specs.BTreeMap.{BTreeMap, IsOrdered, get}
use Rattle.std.specs.List.{find, list_any}
use Rattle.source_types.specs.Heads.{ClassHead}
use Rattle.declarations.specs.Declarations.{DeclaredClass}
use Rattle.overriding.specs.Methods.{Method, methods_above}
use Rattle.overriding.specs.Overrides.{has_methods}
use Rattle.class_typing.specs.Bridges as words
use Rattle.class_typing.specs.Bridges.{bridges, is_same_place, place_of, sorted}
use Rattle.class_methods.specs.Above.{HasSame}
use Rattle.class_methods.proofs.Lists.{any-filter}
use Rattle.class_bridges.specs.way.Found.{bridge_of, by_at, is_run_for, place_order, runs_at}
use Rattle.class_bridges.proofs.Entries.{made_at, made_if, made_in_order}
use Rattle.class_bridges.proofs.Orders.{Place}

find-none : {X : Type 0} (xs : List X) → find (λ x. false) xs ≡ None
find-none [] = refl
find-none (x ∷ xs) = find-none xs

second-first : (a b c : Bool) → (a && (b && c)) ≡ (b && (a && c))
second-first true true c = refl
second-first true false c = refl
second-first false true c = refl
second-first false false c = refl

module _ (heads : List ClassHead) (classes : List DeclaredClass) (c : ℕ) where
  abbrev is-at : Place → Method → Bool
  is-at at n = is_same_place at (place_of n)

  abbrev is-instance : Method → Bool
  is-instance n = words.is_instance_method heads classes c n

  abbrev runs : Method → Method → Bool
  runs m n = words.runs_for heads classes c n m

  abbrev all-instance : List Method
  all-instance = words.instance_methods heads classes c

  abbrev first-for : Place → List Method → Option Method
  first-for at ms = find (words.runs_for_place heads classes c at) ms

  -- no method runs for a place where none of these is declared
  no-runs : (at : Place) (m : Method) (ns : List Method) → list_any (is_same_place at) (map place_of ns) ≡ false →
      list_any (λ n. is-at at n && runs m n) ns ≡ false
  no-runs at m [] e = refl
  no-runs at m (n ∷ ns) e = by (is-at at n) e (no-runs at m ns)
    where
      by : (b : Bool) → (b || list_any (is_same_place at) (map place_of ns)) ≡ false →
          (list_any (is_same_place at) (map place_of ns) ≡ false → list_any (λ n. is-at at n && runs m n) ns ≡ false) →
          ((b && runs m n) || list_any (λ n. is-at at n && runs m n) ns) ≡ false
      by true e h = absurd (cc)
      by false e h = h e

  made-bridge : (at : Place) (o : Option Method) → made_if bridge_of at (option_map place_of o) ≡ words.bridge_to heads classes c at o
  made-bridge at None = refl
  made-bridge at (Some m) = refl

  -- in whatever order the methods above come
  module _ (above : List Method) (same : HasSame above (methods_above heads classes c)) where
    same-runs : (at : Place) (m : Method) →
        runs_at heads classes above at m ≡ words.runs_for_place heads classes c at m
    same-runs at m =
        same.each (λ n. is-at at n && is_run_for heads classes n m)
        ∙ (λ i. list_any (λ n. second-first (is-at at n) (is-instance n) (runs m n) i) (methods_above heads classes c))
        ∙ sym (any-filter (λ n. is-at at n && runs m n) is-instance (methods_above heads classes c))

    found-for : (at : Place) (ms : List Method) →
        by_at heads classes above ms at ≡ option_map place_of (first-for at ms)
    found-for at ms = λ i. option_map place_of (find (λ m. same-runs at m i) ms)

    nothing-for : (ms : List Method) (at : Place) → list_any (is_same_place at) (map place_of all-instance) ≡ false →
        by_at heads classes above ms at ≡ None
    nothing-for ms at e =
        found-for at ms
        ∙ (λ i. option_map place_of (find (λ m. no-runs at m all-instance e i) ms))
        ∙ ap (option_map place_of) (find-none ms)

    pub all_bridges : (ms : List Method) (found : BTreeMap Place Place) → ms ≡ has_methods heads classes c →
        IsOrdered place_order found → ((at : Place) → get place_order found at ≡ by_at heads classes above ms at) →
        map bridge_of found.entries ≡ bridges heads classes c
    unfolding bridges
    all_bridges ms found e ordered finds =
        made_in_order bridge_of (by_at heads classes above ms) found (map place_of all-instance) ordered finds
        (nothing-for ms)
        ∙ (λ i. flat_map (λ at. made-here at i) (sorted (map place_of all-instance)))
      where
        made-here : (at : Place) →
            made_at bridge_of (by_at heads classes above ms) at ≡ words.bridge_from heads classes c at
        made-here at =
            ap (made_if bridge_of at) (found-for at ms ∙ ap (λ ns. option_map place_of (first-for at ns)) e)
            ∙ made-bridge at (first-for at (has_methods heads classes c))
