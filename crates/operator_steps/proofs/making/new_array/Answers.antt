use Rattle.std.proofs.Common.{ℕ, List, [], ◌+◌, length, map, sym, ap, ◌∙◌}
use Rattle.je_core.specs.Core.{Core}
use Rattle.je_core.specs.View.{views}
use Rattle.je_scopes.specs.SourceTypes.{SourceType}
use Rattle.name_types.specs.View.{base_shown, shown}
use Rattle.je_typing.specs.Arrays.{array_node, array_type, lengths_from, new_array}
use Rattle.je_typing.specs.Judged.{bind, gives}
use Rattle.je_typing.proofs.Walks.{bind_gives}
use Rattle.source_subtypes.specs.View.{heads_of}
use Rattle.operator_steps.specs.Parts.{part_seen}
use Rattle.operator_steps.proofs.making.new_array.Goals as goal

pub returns-clause-ok : goal.returns-clause-ok
unfolding new_array
returns-clause-ok c =
    let hs = heads_of c.args.heads.now in
    let of = base_shown c.args.element 0 in
    let parts = map part_seen c.args.parts.items in
    bind_gives (lengths_from [] parts)
    (λ (ls : List Core). bind (array_type hs of (length parts + c.args.dims) c.args.element_span) (λ (t : SourceType). gives (array_node hs t c.args.span ls))) (views c.in_ok-lengths.lengths.items) c.in_ok-lengths.ensures.ok
    ∙ bind_gives (array_type hs of (length parts + c.args.dims) c.args.element_span) (λ (t : SourceType). gives (array_node hs t c.args.span (views c.in_ok-lengths.lengths.items))) (shown c.in_ok-ty.ty)
    (ap (λ (n : ℕ). array_type hs of (n + c.args.dims) c.args.element_span) (sym c.count_of-count.ensures) ∙ c.in_ok-ty.ensures.ok)
    ∙ ap gives (sym c.typed_new_array-whole.ensures)
