-- Type arguments that are written, one after the other.
use Rattle.std.proofs.Common.{◌≡◌, ℕ, ◌+◌, ◌<◌, List, ◌∷◌, length, drop, get_or, sym, add-one}
use Rattle.std.specs.Prelude.{Bool}
use Rattle.je_base.specs.declared.span.Span.{Span}
use Rattle.je_ast.specs.declared.ty_name.TyName.{TyName}
use Rattle.je_ast.specs.Types.{type_view, type_views_of}
use Rattle.je_scopes.specs.SourceTypes.{SourceTypes}
use Rattle.source_types.specs.Heads.{ClassHead}
use Rattle.source_types.specs.Substitution.{argument_at}
use Rattle.je_typing.specs.declared.fault.Refusal.{Refusal}
use Rattle.je_typing.specs.declared.fault.TypeRule.TheVariants.{BadBound}
use Rattle.je_typing.specs.Answers.{IsFault}
use Rattle.je_typing.specs.Judged.{Judged, gives, bind, check}
use Rattle.header_typing.specs.WrittenTypes.{bounded_from, bound_if, is_in_bound, span_of}
use Rattle.written_types.proofs.Walking.{walk_on, walk_fails}

module _ (heads : List ClassHead) (c : ℕ) (args : SourceTypes) (ts : List TyName) (at : ℕ) (whole : Judged (Unit {0})) (t : TyName) (span : Span) (below : Bool)
    (within : at < length ts) (is : t ≡ get_or ts at t) (met : whole ≡ bounded_from heads c args at (type_views_of (drop at ts)))
    (place : span ≡ span_of (type_view t)) (holds : below ≡ is_in_bound heads c args (bound_if heads c at) (argument_at args at)) where
  asked : check BadBound span below ≡ check BadBound (span_of (type_view t)) (is_in_bound heads c args (bound_if heads c at) (argument_at args at))
  asked = λ i. check BadBound (place i) (holds i)

  law : (us : List TyName) → bounded_from heads c args at (type_views_of (t ∷ us)) ≡ bind (check BadBound span below) (λ (done : Unit {0}). bounded_from heads c args (at + 1) (type_views_of us))
  law us = λ i. bind (sym asked i) (λ (done : Unit {0}). bounded_from heads c args (sym (add-one at) i) (type_views_of us))

  pub next_in_bound : (done : Unit {0}) → check BadBound span below ≡ gives done → whole ≡ bounded_from heads c args (at + 1) (type_views_of (drop (at + 1) ts))
  next_in_bound done g =
      walk_on (λ n us. bounded_from heads c args n (type_views_of us)) ts at at whole t (check BadBound span below) (at + 1) law within is met done g

  pub next_out_of_bound : (r : Refusal) → IsFault (check BadBound span below) r → IsFault whole r
  next_out_of_bound r f =
      walk_fails (λ n us. bounded_from heads c args n (type_views_of us)) ts at at whole t (check BadBound span below) (at + 1) law within is met r f
