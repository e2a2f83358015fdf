-- The variables of a declaration, one after the other.
use Rattle.std.proofs.Common.{◌≡◌, ℕ, ◌+◌, ◌<◌, ◌≤◌, List, length, drop, get_or, refl, ap, sym, ◌∙◌}
use Rattle.std.specs.Prelude.{Bool}
use Rattle.je_base.specs.declared.span.Span.{Span}
use Rattle.je_ast.specs.declared.stmt.Var.{Var}
use Rattle.je_ast.specs.Types.{TypeName}
use Rattle.je_ast.specs.View.{variable_views_of, view_of_option}
use Rattle.je_scopes.specs.SourceTypes.{SourceType}
use Rattle.je_typing.specs.declared.fault.Refusal.{Refusal}
use Rattle.je_typing.specs.Answers.{IsFault}
use Rattle.je_typing.specs.Judged.{Judged, gives}
use Rattle.body_typing.specs.Bodies.{Done, followed, nothing_done}
use Rattle.body_typing.specs.LocalVariables.{variable, variables}
use Rattle.statement_forms.specs.declared.walk.Walk.{Walk}
use Rattle.statement_forms.specs.Seen.{known_of, program_of}
use Rattle.type_statements.proofs.Gathering.{gathered}
use Rattle.type_statements.proofs.Gathered.{At, behind_it, done_all, done_fails, done_on, nothing_gathered}

module _ (w : Walk) (is_final : Bool) (start : Span) (t : TypeName) (of : SourceType) (vs : List Var) where
  abbrev variables_at : At → List Var → Judged Done
  variables_at at xs = variables (program_of w) (known_of w) is_final start t of at.scope at.progress (variable_views_of xs)

  abbrev one_at : At → Var → Judged Done
  one_at at v = variable (program_of w) (known_of w) is_final start t of at.scope at.progress v.name v.dims (view_of_option v.init)

  -- behind so many variables
  abbrev pub variables_left : Judged Done → Done → ℕ → Type 0
  variables_left whole a i = whole ≡ gathered (followed a) (variables_at (behind_it a) (drop i vs))

  pub variables_begin : (a : Done) → a ≡ nothing_done a.scope a.progress → variables_left (variables_at (behind_it a) vs) a 0
  variables_begin a none =
      nothing_gathered a.scope a.progress (variables_at (behind_it a) vs)
      ∙ ap (λ (d : Done). gathered (followed d) (variables_at (behind_it a) vs)) (sym none)

  module _ (whole : Judged Done) (i : ℕ) (a : Done) where
    pub variables_on : (v : Var) (b c : Done) → i < length vs → v ≡ get_or vs i v → variables_left whole a i → one_at (behind_it a) v ≡ gives b →
        c ≡ followed a b → variables_left whole c (i + 1)
    variables_on = done_on variables_at one_at (λ at. refl) (λ at x xs. refl) vs i whole a

    pub variables_fail : (v : Var) (r : Refusal) → i < length vs → v ≡ get_or vs i v → variables_left whole a i → IsFault (one_at (behind_it a) v) r →
        IsFault whole r
    variables_fail = done_fails variables_at one_at (λ at. refl) (λ at x xs. refl) vs i whole a

    pub variables_end : length vs ≤ i → variables_left whole a i → whole ≡ gives a
    variables_end = done_all variables_at one_at (λ at. refl) (λ at x xs. refl) vs i whole a

pub ruleset variable_lists = (variables_begin, variables_on, variables_fail, variables_end)
