-- Classes in memory, of their numbers.
use Rattle.std.proofs.Common.{◌≡◌, ℕ, Option, Some, None, refl, ap, ◌∙◌}
use Rattle.std.specs.Prelude.{option_map}
use Rattle.je_core.specs.declared.types.ClassId.{ClassId}
use Rattle.name_sites.specs.Number.{number_in}
use Rattle.source_types.specs.Erasure.{class_numbered}

same : (o : Option ClassId) → o ≡ option_map class_numbered (number_in o)
same None = refl
same (Some d) = refl

pub numbered : (o : Option ClassId) (n : Option ℕ) → number_in o ≡ n → o ≡ option_map class_numbered n
numbered o n e = same o ∙ ap (option_map class_numbered) e
