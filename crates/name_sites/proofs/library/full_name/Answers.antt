use Rattle.std.proofs.Common.{ℕ, List, ◌∙◌, ap}
use Rattle.je_table.specs.Library.{class_number}
use Rattle.name_sites.proofs.library.full_name.Goals as goal

pub returns : goal.returns
returns c = c.class_named.ensures ∙ ap (λ (text : List ℕ). class_number text) (c.as_str.ensures.value ∙ c.in_ok-text.ensures)
