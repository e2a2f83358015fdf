-- When an expression of the core program that has a type in the source fits where it stands. Constant strings of a
-- program are known only when all of it is elaborated, so that is said for any, among which those of the node stand once.
use Rattle.std.specs.Prelude.{◌≡◌, Bool, true, ℕ, List, count_by, nat_eq}
use Rattle.std.specs.Str.{bytes_eq}
use Rattle.je_core.specs.Core.{CoreForm, CoreProgram, ty_of}
use Rattle.je_core.specs.Core as core
use Rattle.je_fitting.specs.Expressions.{Body, Fits, are_there}
use Rattle.je_fitting.specs.Types.{agrees}
use Rattle.plain_programs.specs.Nodes.{every}
use Rattle.source_types.specs.Erasure.{erased}
use Rattle.source_types.specs.Heads.{ClassHead, bound_of}
use Rattle.source_types.specs.Laws.{is_class_or_variable}
use Rattle.je_typing.specs.Constants.{uses_of}
use Rattle.je_typing.specs.Judged.{Judged, gives, faulty}
use Rattle.je_typing.specs.Typed.{TypedNode}

-- the units of a constant string stand once among texts
abbrev pub stands_once : List (List ℕ) → CoreForm → Bool
stands_once texts (core.Text units uses) = nat_eq (count_by (λ t. bytes_eq t units) texts) 1
stands_once texts _ = true

abbrev pub with_texts : CoreProgram → List (List ℕ) → CoreProgram
with_texts program texts = record program { texts = texts }

-- The node fits, the library fields that it names as a constant are there, and its type is the erasure of its type in
-- the source.
pub record FitsAs (program : CoreProgram) (body : Body) (heads : List ClassHead) (t : TypedNode) : Type 0 where
  pub node : (texts : List (List ℕ)) → every (stands_once texts) t.node ≡ true →
      Fits (with_texts program texts) body t.node
  pub uses : are_there program (uses_of t.node)
  pub type : ty_of t.node ≡ erased heads t.type

-- A variable fits where it stands, and takes what has the erasure of its type in the source: it may be declared of a
-- type above that one (JLS 4.6).
pub record FitsAsVariable (program : CoreProgram) (body : Body) (heads : List ClassHead) (t : TypedNode) : Type 0 where
  pub node : (texts : List (List ℕ)) → every (stands_once texts) t.node ≡ true →
      Fits (with_texts program texts) body t.node
  pub takes : (texts : List (List ℕ)) →
      agrees (with_texts program texts) (erased heads t.type) (ty_of t.node) ≡ true

-- what a step gives has a property, if it gives something
abbrev pub Gives : {A : Type 0} → (A → Type 0) → Judged A → Type 0
Gives P (gives a) = P a
Gives P (faulty fault) = Unit {0}

-- the bound of a type variable is a class or a type variable (JLS 4.4)
abbrev pub BoundsFit : List ClassHead → Type 0
BoundsFit heads = (c at : ℕ) → is_class_or_variable (bound_of heads c at) ≡ true
