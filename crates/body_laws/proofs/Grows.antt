-- How a walk goes on over a body: locals stay at their numbers, and what is met stays.
use Rattle.std.proofs.Common.{◌≡◌, ℕ, List, [], Some, ◌∙◌}
use Rattle.std.specs.Prelude.{Bool, slice_get}
use Rattle.std.proofs.lemmas.Option.{slice_get_within}
use Rattle.je_base.specs.declared.span.NameId.{NameId}
use Rattle.je_base.specs.declared.span.Span.{Span}
use Rattle.je_core.specs.declared.program.Local.{Local as LocalOf}
use Rattle.je_classes.proofs.Sets.{in-left, in-right}
use Rattle.je_fitting.specs.Expressions.{Body}
use Rattle.je_scopes.specs.SourceTypes.{SourceType}
use Rattle.source_types.specs.Erasure.{erased}
use Rattle.source_types.specs.Heads.{ClassHead}
use Rattle.name_walk.proofs.Standing.{slice_get-append, slice_get-seam}
use Rattle.body_typing.specs.Bodies.{Met, Progress, next_number, with_met, with_number}
use Rattle.body_laws.specs.Bodies.{HasLocals, IsAmong}

pub record Grows (pr further : Progress) : Type 0 where
  pub locals : (n : ℕ) (l : LocalOf) → slice_get pr.locals n ≡ Some l → slice_get further.locals n ≡ Some l
  pub met : IsAmong pr.met further.met

pub grows-not : (pr : Progress) → Grows pr pr
grows-not pr = record { locals = λ n l e. e; met = λ m i. i }

pub on : {a b c : Progress} → Grows a b → Grows b c → Grows a c
on g h = record { locals = λ n l e. h.locals n l (g.locals n l e); met = λ m i. h.met m (g.met m i) }

pub grows-met : (ms : List Met) (pr : Progress) → Grows pr (with_met ms pr)
grows-met ms pr = record { locals = λ n l e. e; met = λ m i. in-left ms i }

pub grows-number : (heads : List ClassHead) (x : NameId) (t : SourceType) (is_final : Bool) (span : Span) (pr : Progress) → Grows pr (with_number heads x t is_final span pr)
grows-number heads x t is_final span pr = record {
  locals = λ n l e. slice_get-append pr.locals _ n (slice_get_within pr.locals n l e) ∙ e;
  met = λ m i. i;
}

-- the body has the locals so far, and all that was met has what was met so far
pub record Knows (body : Body) (all : List Met) (pr : Progress) : Type 0 where
  pub locals : HasLocals body pr
  pub met : IsAmong pr.met all

pub before : {body : Body} {all : List Met} {a b : Progress} → Grows a b → Knows body all b → Knows body all a
before g k = record { locals = λ n l e. k.locals n l (g.locals n l e); met = λ m i. k.met m (g.met m i) }

pub met-there : {body : Body} {all : List Met} (ms : List Met) (pr : Progress) → Knows body all (with_met ms pr) → IsAmong ms all
met-there ms pr k m i = k.met m (in-right pr.met i)

pub number-there : {body : Body} {all : List Met} (heads : List ClassHead) (x : NameId) (t : SourceType) (is_final : Bool) (span : Span) (pr : Progress) → Knows body all (with_number heads x t is_final span pr)
    → slice_get body.locals (next_number pr) ≡ Some (erased heads t)
number-there heads x t is_final span pr k = k.locals (next_number pr) _ (slice_get-seam pr.locals _ [])
