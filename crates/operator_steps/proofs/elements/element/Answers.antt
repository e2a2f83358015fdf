use Rattle.std.proofs.Common.{rules, sym, ap, ◌∙◌}
use Rattle.je_core.specs.Core.{Core}
use Rattle.je_core.specs.View.{view}
use Rattle.je_scopes.specs.SourceTypes.{SourceType}
use Rattle.name_types.specs.View.{shown}
use Rattle.je_typing.specs.declared.fault.TypeRule.TheVariants.{BadIndex}
use Rattle.je_typing.specs.Arrays.{element, element_node, int_index}
use Rattle.je_typing.specs.Judged.{bind, gives, need}
use Rattle.je_typing.specs.Typed.{element_type}
use Rattle.je_typing.proofs.Walks.{bind_gives}
use Rattle.source_subtypes.specs.View.{heads_of}
use Rattle.typed_nodes.specs.Seen.{seen}
use Rattle.operator_steps.proofs.IndexFaults.{index_faults}
use Rattle.operator_steps.proofs.elements.element.Goals as goal

pub returns-clause-ok : goal.returns-clause-ok
unfolding element
returns-clause-ok c =
    let hs = heads_of c.args.heads.now in
    bind_gives (need BadIndex c.args.array_span (element_type (shown c.args.array.ty)))
    (λ (t : SourceType). bind (int_index c.args.index_span (seen c.args.index)) (λ (i : Core). gives (element_node hs t c.args.span (view c.args.array.node) i))) (shown c.in_ok-ty.ty) c.in_ok-ty.ensures.ok
    ∙ bind_gives (int_index c.args.index_span (seen c.args.index)) (λ (i : Core). gives (element_node hs (shown c.in_ok-ty.ty) c.args.span (view c.args.array.node) i)) (view c.in_ok-index.index) c.in_ok-index.ensures.ok
    ∙ ap gives (sym c.in_ok-whole.ensures)

pub returns-in_err-index-clause-err : goal.returns-in_err-index-clause-err
returns-in_err-index-clause-err c =
    search (rules, index_faults (heads_of c.args.heads.now) c.args.array_span c.args.index_span c.args.span (seen c.args.array) (seen c.args.index) (shown c.in_ok-ty.ty) _ c.in_ok-ty.ensures.ok c.in_err-index.ensures.err)
