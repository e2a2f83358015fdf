-- Some fields of a list in memory, as contracts see them.
use Rattle.std.proofs.Common.{◌≡◌, ℕ, List, map, take, drop, sym, ap, ◌∙◌}
use Rattle.std.proofs.lemmas.List.{take-map, drop-map}
use Rattle.je_core.specs.declared.program.Field.{Field}
use Rattle.je_core.specs.View.{field_view}

pub seen : (n k : ℕ) (fields : List Field) → map field_view (take k (drop n fields)) ≡ take k (drop n (map field_view fields))
seen n k fields = sym (take-map field_view k (drop n fields)) ∙ ap (take k) (sym (drop-map field_view n fields))
