use Rattle.std.proofs.Common.{List, map, sym, ap, ◌∙◌}
use Rattle.je_scopes.specs.SourceTypes.{SourceType, of_class, source_types}
use Rattle.name_types.specs.View.{shown}
use Rattle.name_types.proofs.Bases.{made_base}
use Rattle.source_subtypes.proofs.Equal.{made-shape}
use Rattle.source_subtypes.proofs.copying.+copying.Goals as goal

pub copied_base-returns-in_ok-all_copied-in-Made : goal.copied_base-returns-in_ok-all_copied-in-Made
copied_base-returns-in_ok-all_copied-in-Made t c = λ n. made_base c.in-Made.class c.in_ok-all_copied-in-Made.field-0 n
    ∙ ap (λ (ts : List SourceType). of_class c.in-Made.class.0 (source_types ts) n) (c.in_ok-all_copied-in-Made.ensures ∙ ap (map shown) c.deref.ensures.value)
    ∙ sym (made-shape c.args.base.now c.in-Made.class c.in-Made.args n c.in-Made.is)
