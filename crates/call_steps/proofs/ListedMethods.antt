-- The methods of all classes, by what is listed for each number.
use Rattle.std.proofs.Common.{◌≡◌, ℕ, ◌<◌, ◌≤◌, List, [], length, refl, sym, ap, ◌∙◌, arith}
use Rattle.std.specs.Prelude.{◌⊎◌, zero, suc, slice_get}
use Rattle.std.proofs.Common.{inl, inr}
use Rattle.std.proofs.lemmas.Option.{slice_get_past}
use Rattle.declarations.specs.Declarations.{DeclaredClass}
use Rattle.source_types.specs.Heads.{ClassHead}
use Rattle.overriding.specs.Methods.{Method, inherited}
use Rattle.overriding.specs.Overrides.{has_methods}
use Rattle.class_methods.specs.View.{table_seen}
use Rattle.class_methods.specs.way.Parts.{or_none}
use Rattle.class_methods.specs.way.Rounds.{list_to}
use Rattle.class_methods.proofs.Rounds.{in-list_to, past-list_to}
use Rattle.call_steps.specs.declared.table.MethodTable.{MethodTable}
use Rattle.call_steps.specs.TableView.{HasMethods, methods_at}

order : (c n : ℕ) → (c < n) ⊎ (n ≤ c)
order c zero = inr (omega arith)
order zero (suc n) = inl (omega arith)
order (suc c) (suc n) = elim (order c n) [ inl h ↦ inl (omega (arith, h)) | inr h ↦ inr (omega (arith, h)) ]

module _ (heads : List ClassHead) (classes : List DeclaredClass) where
  -- a class that isn't there has none
  beyond : (c : ℕ) → length heads ≤ c → length classes ≤ c → has_methods heads classes c ≡ []
  unfolding inherited
  beyond c l k = rw (slice_get_past heads c l, slice_get_past classes c k) refl

  pub has_them : (t : MethodTable) (count : ℕ) → length heads ≤ count → length classes ≤ count → table_seen t.rows.items ≡ list_to (has_methods heads classes) count → HasMethods heads classes t
  unfolding methods_at
  has_them t count few fewer e = record {
    each = λ c. elim (order c count) [
      | inl l ↦ ap or_none (slice-of c ∙ in-list_to (has_methods heads classes) count c l)
      | inr l ↦ ap or_none (slice-of c ∙ past-list_to (has_methods heads classes) count c l) ∙ sym (beyond c (omega (arith, l, few)) (omega (arith, l, fewer)))
    ];
  }
    where
      slice-of : (c : ℕ) → slice_get (table_seen t.rows.items) c ≡ slice_get (list_to (has_methods heads classes) count) c
      slice-of c = ap (λ (rows : List (List Method)). slice_get rows c) e
