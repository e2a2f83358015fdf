-- The keys of a table beside those of its members.
use Rattle.std.proofs.Common.{◌≡◌, ℕ, List, [], ◌∷◌, Bool, ◌&&◌, String, Global, string_bytes, refl, ap}
use Rattle.std.specs.List.{list_all}
use Rattle.std.specs.Map.{keys_of}
use Rattle.toml.specs.declared.value.Value.{Value}
use Rattle.toml.specs.View.{members_view}
use Rattle.taming_db.specs.Shape.{has_only}

pub keys_pass : (p : List ℕ → Bool) (es : List (String Global × Value)) → list_all (λ k. p (string_bytes k)) (keys_of es) ≡ has_only p (members_view es)
keys_pass p [] = refl
keys_pass p (e ∷ es) = ap (λ b. p (string_bytes e.0) && b) (keys_pass p es)
