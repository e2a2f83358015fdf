use Rattle.std.proofs.Common.{rules, ◌≡◌, List, map, sym, ap, ◌∙◌}
use Rattle.std.specs.Prelude.{min}
use Rattle.je_core.specs.Core.{Core}
use Rattle.je_core.specs.View.{views}
use Rattle.je_scopes.specs.SourceTypes.{SourceType, with_dims}
use Rattle.name_types.specs.View.{base_shown, shown}
use Rattle.je_typing.specs.Arrays.{array_type, elements_if, elements_node}
use Rattle.je_typing.specs.Judged.{bind, gives}
use Rattle.je_typing.specs.Typed.{element_type}
use Rattle.je_typing.proofs.Walks.{bind_gives}
use Rattle.source_subtypes.specs.View.{heads_of}
use Rattle.operator_steps.specs.Parts.{part_seen}
use Rattle.operator_steps.proofs.making.new_array_of.Goals as goal

pub returns-clause-ok : goal.returns-clause-ok
returns-clause-ok c =
    let hs = heads_of c.args.heads.now in
    let of = base_shown c.args.element 0 in
    let parts = map part_seen c.args.parts.items in
    let values = views c.in_ok-values.values.items in
    let written : shown c.sized-ty.result ≡ with_dims of (min 255 c.args.dims) = search rules in
    let made : array_type hs of c.args.dims c.args.element_span ≡ gives (shown c.in_ok-made.made) = search rules in
    bind_gives (elements_if hs (element_type (with_dims of (min 255 c.args.dims))) parts)
    (λ (es : List Core). bind (array_type hs of c.args.dims c.args.element_span) (λ (t : SourceType). gives (elements_node hs t c.args.span es))) values
    (ap (λ (t : SourceType). elements_if hs (element_type t) parts) (sym written) ∙ c.in_ok-values.ensures.ok)
    ∙ bind_gives (array_type hs of c.args.dims c.args.element_span) (λ (t : SourceType). gives (elements_node hs t c.args.span values)) (shown c.in_ok-made.made) made
    ∙ ap gives (sym c.typed_elements-whole.ensures)
