use Rattle.std.proofs.Common.{List, map, sym, ap, ◌∙◌}
use Rattle.std.specs.Prelude.{option_map}
use Rattle.je_core.specs.Core.{Core}
use Rattle.je_core.specs.View.{views}
use Rattle.je_scopes.specs.SourceTypes.{SourceType}
use Rattle.name_types.specs.View.{shown}
use Rattle.je_typing.specs.declared.fault.TypeRule.TheVariants.{BadArray}
use Rattle.je_typing.specs.Arrays.{elements_if, elements_node, initialized}
use Rattle.je_typing.specs.Judged.{bind, gives, need}
use Rattle.je_typing.proofs.Walks.{bind_gives}
use Rattle.source_subtypes.specs.View.{heads_of}
use Rattle.operator_steps.specs.Parts.{part_seen}
use Rattle.operator_steps.specs.way.Elements.{array_by}
use Rattle.operator_steps.proofs.making.array_by.Goals as goal

pub returns-clause-ok : goal.returns-clause-ok
unfolding array_by
returns-clause-ok c =
    let hs = heads_of c.args.heads.now in
    let of = option_map shown c.args.element in
    bind_gives (elements_if hs of (map part_seen c.args.parts.items))
    (λ (es : List Core). bind (need BadArray c.args.span (initialized hs (shown c.args.ty) of)) (λ (t : SourceType). gives (elements_node hs (shown c.args.ty) c.args.span es))) (views c.in_ok-values.values.items) c.in_ok-values.ensures.ok
    ∙ bind_gives (need BadArray c.args.span (initialized hs (shown c.args.ty) of)) (λ (t : SourceType). gives (elements_node hs (shown c.args.ty) c.args.span (views c.in_ok-values.values.items))) _ c.in_ok-needed_element.ensures.ok
    ∙ ap gives (sym c.typed_elements-whole.ensures)
