use Rattle.std.proofs.Common.{map, sym, ap, ◌∙◌, List}
use Rattle.je_core.specs.declared.types.Base.TheVariants as base
use Rattle.je_core.specs.Core.{Core, a_core}
use Rattle.je_typing.specs.Judged.{gives}
use Rattle.je_typing.specs.Typed.{typed_as}
use Rattle.overloads.specs.View.{candidate_seen}
use Rattle.typed_nodes.specs.Seen.{seen}
use Rattle.call_typing.specs.Calls.{exactly}
use Rattle.call_typing.specs.Creations.{own_constructor_call}
use Rattle.typed_nodes.specs.declared.typed.TypedExpr.{TypedExpr}
use Rattle.body_places.specs.View.{program_seen}
use Rattle.call_typing.specs.Constructors.{constructor_for}
use Rattle.header_typing.specs.Supers.{own_type}
use Rattle.source_subtypes.specs.View.{heads_of}
use Rattle.call_steps.proofs.Steps.{then_gives}
use Rattle.creation_steps.proofs.heads.own_constructor_call.Goals as goal

pub returns-clause-ok : goal.returns-clause-ok
unfolding own_constructor_call
returns-clause-ok c =
    then_gives _ _ _ _ (ap (λ (args : List TypedExpr). constructor_for (program_seen c.args.calls.program) c.args.place.here.now.class.0 (own_type (heads_of c.args.calls.program.heads.now) c.args.place.here.now.class.0) c.args.word (map seen args)) (sym c.deref.ensures.value) ∙ c.in_ok-method.ensures.ok)
    (ap (λ (o : Core). gives (typed_as base.Void (exactly (a_core o) (candidate_seen c.in_ok-method.method) (map seen c.args.arguments.items)) c.args.span c.args.word)) (sym c.this_node-object.ensures)
    ∙ ap gives (sym c.in_ok-call.ensures))
