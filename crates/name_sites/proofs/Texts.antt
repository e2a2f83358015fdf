-- Parts with points between them.
use Rattle.std.proofs.Common.{◌≡◌, ℕ, List, [], ◌∷◌, ◌++◌, ap}
use Rattle.std.specs.List.{join_with_byte}
use Rattle.std.proofs.lemmas.List.{append-nil}
use Rattle.name_sites.specs.Library.{further_text}

pub joined_is : (part : List ℕ) (parts : List (List ℕ)) → part ++ further_text parts ≡ join_with_byte 46 (part ∷ parts)
joined_is part [] = append-nil part
joined_is part (next ∷ parts) = ap (λ (x : List ℕ). part ++ (46 ∷ x)) (joined_is next parts)
