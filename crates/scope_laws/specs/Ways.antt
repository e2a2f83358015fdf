-- Ways from class to class, by the classes to which each leads.
use Rattle.std.specs.Prelude.{ℕ, ◌<◌, List, slice_index}
use Rattle.std.specs.List.{Contains}

-- one class leads to another, in one step or more
pub data Leads (edges : ℕ → List ℕ) : ℕ → ℕ → Type 0 where
  at_once : {c d : ℕ} → Contains (edges c) d → Leads edges c d
  further : {c d e : ℕ} → Contains (edges c) d → Leads edges d e → Leads edges c e

-- Each class that has a rank leads to classes of lower ranks alone; 0 is none.
pub record IsGrounding (edges : ℕ → List ℕ) (ranks : List ℕ) : Type 0 where
  pub has : (c d : ℕ) → 0 < slice_index ranks c → Contains (edges c) d → 0 < slice_index ranks d
  pub falls : (c d : ℕ) → 0 < slice_index ranks c → Contains (edges c) d → slice_index ranks d < slice_index ranks c
