-- What is found for a hidden field, and then what is done with it.
use Rattle.std.proofs.Common.{◌≡◌, ◌<◌, ◌+◌, ℕ, suc, List, ◌∷◌, length, map, drop, get_or, sym, ap, ◌∙◌, add-one}
use Rattle.std.proofs.Math.Seq.{drop-cons}
use Rattle.je_core.specs.declared.expr.Capture.{Capture}
use Rattle.je_core.specs.declared.types.ClassId.{ClassId}
use Rattle.je_core.specs.declared.value.Value.{Value}
use Rattle.je_core.specs.Core.{CoreProgram}
use Rattle.je_core.specs.View.{capture_view}
use Rattle.je_java.specs.Steps.{State, Run, Exits, Computation, ret, bind, seq, raise, throw, wrong}
use Rattle.machine_parts.specs.declared.frame.Fetched.{Fetched}
use Rattle.machine_parts.specs.declared.frame.Fetched.TheVariants.{Value as Found, Null, Outside, Wrong}
use Rattle.machine_parts.specs.way.Clauses.{fetched_ways}

-- it was found in one state, and is looked for in another
module _ (p : CoreProgram) (m : Computation Value) (s t : State) where
  abbrev pub Finds : Fetched → Type 0
  Finds found = (go : Value → Run) (exits : Exits) → fetched_ways p found go exits s ≡ m go exits t

  pub value_then : (v : Value) (n : Value → Computation Value) → Finds (Found v) → (go : Value → Run) (exits : Exits) → n v go exits s ≡ bind m n go exits t
  unfolding bind ret
  value_then v n h go exits = h (λ a. n a go exits) exits

  pub null_then : (n : Value → Computation Value) → Finds Null → (go : Value → Run) (exits : Exits) → fetched_ways p Null go exits s ≡ bind m n go exits t
  unfolding bind raise throw
  null_then n h go exits = h (λ a. n a go exits) exits

  pub outside_then : (n : Value → Computation Value) → Finds Outside → (go : Value → Run) (exits : Exits) → fetched_ways p Outside go exits s ≡ bind m n go exits t
  unfolding bind raise throw
  outside_then n h go exits = h (λ a. n a go exits) exits

  pub wrong_then : (n : Value → Computation Value) → Finds Wrong → (go : Value → Run) (exits : Exits) → fetched_ways p Wrong go exits s ≡ bind m n go exits t
  unfolding bind wrong
  wrong_then n h go exits = h (λ a. n a go exits) exits

  -- where the value is dropped

  pub value_and : (v : Value) (n : Computation Value) → Finds (Found v) → (go : Value → Run) (exits : Exits) → n go exits s ≡ seq m n go exits t
  unfolding seq ret
  value_and v n h go exits = h (λ a. n go exits) exits

  pub null_and : (n n' : Computation Value) → Finds Null → (go : Value → Run) (exits : Exits) → seq (fetched_ways p Null) n' go exits s ≡ seq m n go exits t
  unfolding seq bind raise throw
  null_and n n' h go exits = h (λ a. n go exits) exits

  pub outside_and : (n n' : Computation Value) → Finds Outside → (go : Value → Run) (exits : Exits) → seq (fetched_ways p Outside) n' go exits s ≡ seq m n go exits t
  unfolding seq bind raise throw
  outside_and n n' h go exits = h (λ a. n go exits) exits

  pub wrong_and : (n n' : Computation Value) → Finds Wrong → (go : Value → Run) (exits : Exits) → seq (fetched_ways p Wrong) n' go exits s ≡ seq m n go exits t
  unfolding seq wrong
  wrong_and n n' h go exits = h (λ a. n go exits) exits

pub captures_from : (cs : List Capture) (at : ℕ) (c : Capture) → at < length cs → c ≡ get_or cs at c → map capture_view (drop at cs) ≡ capture_view c ∷ map capture_view (drop (at + 1) cs)
captures_from cs at c below e = rw add-one (ap (map capture_view) (drop-cons cs at c below ∙ (λ i. sym e i ∷ drop (suc at) cs)))

pub path_from : (path : List (ClassId × ℕ)) (at : ℕ) (default : ClassId × ℕ) → at < length path → drop at path ≡ get_or path at default ∷ drop (at + 1) path
path_from path at default below = rw add-one (drop-cons path at default below)
