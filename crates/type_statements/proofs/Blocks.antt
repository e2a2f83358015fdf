-- The statements of a block, one after the other.
use Rattle.std.proofs.Common.{◌≡◌, ℕ, ◌+◌, ◌<◌, ◌≤◌, List, length, drop, get_or, refl, ap, sym, ◌∙◌}
use Rattle.std.specs.Prelude.{None}
use Rattle.je_ast.specs.declared.stmt.Stmt.{Stmt}
use Rattle.je_ast.specs.View.{statement_view, statement_views_of}
use Rattle.je_fitting.specs.Statements.{Targets}
use Rattle.je_typing.specs.declared.fault.Refusal.{Refusal}
use Rattle.je_typing.specs.Answers.{IsFault}
use Rattle.je_typing.specs.Judged.{Judged, gives}
use Rattle.body_typing.specs.Bodies.{Done, followed, nothing_done}
use Rattle.statement_forms.specs.declared.walk.Walk.{Walk}
use Rattle.type_statements.proofs.Gathering.{gathered}
use Rattle.type_statements.proofs.Gathered.{At, behind_it, done_all, done_fails, done_on, nothing_gathered}
use Rattle.type_statements.specs.Walk.{statements_by}
use Rattle.type_statements.specs.way.Written.{statement_by}

module _ (w : Walk) (j : Targets) (bs : List Stmt) where
  abbrev block_at : At → List Stmt → Judged Done
  block_at at xs = statements_by w j at.scope at.progress (statement_views_of xs)

  abbrev one_at : At → Stmt → Judged Done
  one_at at b = statement_by w j None at.scope at.progress (statement_view b)

  -- behind so many statements
  abbrev pub block_left : Judged Done → Done → ℕ → Type 0
  block_left whole a i = whole ≡ gathered (followed a) (block_at (behind_it a) (drop i bs))

  pub block_begin : (a : Done) → a ≡ nothing_done a.scope a.progress → block_left (block_at (behind_it a) bs) a 0
  block_begin a none =
      nothing_gathered a.scope a.progress (block_at (behind_it a) bs)
      ∙ ap (λ (d : Done). gathered (followed d) (block_at (behind_it a) bs)) (sym none)

  module _ (whole : Judged Done) (i : ℕ) (a : Done) where
    pub block_on : (b : Stmt) (d c : Done) → i < length bs → b ≡ get_or bs i b → block_left whole a i → one_at (behind_it a) b ≡ gives d →
        c ≡ followed a d → block_left whole c (i + 1)
    block_on = done_on block_at one_at (λ at. refl) (λ at x xs. refl) bs i whole a

    pub block_fail : (b : Stmt) (r : Refusal) → i < length bs → b ≡ get_or bs i b → block_left whole a i → IsFault (one_at (behind_it a) b) r → IsFault whole r
    block_fail = done_fails block_at one_at (λ at. refl) (λ at x xs. refl) bs i whole a

    pub block_end : length bs ≤ i → block_left whole a i → whole ≡ gives a
    block_end = done_all block_at one_at (λ at. refl) (λ at x xs. refl) bs i whole a
