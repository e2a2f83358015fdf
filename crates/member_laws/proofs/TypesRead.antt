-- Names, brackets and references inside expressions are read right, as the laws of types say.
use Rattle.std.proofs.Common.{◌≡◌, ℕ, Bool, true, false, ◌||◌}
use Rattle.je_token.specs.declared.symbol.Symbol.TheVariants as symbol
use Rattle.parse_laws.specs.way.Tokens.{is_some, is_symbol}
use Rattle.parse_laws.specs.way.Types.{part_at, reference_at}
use Rattle.type_laws.proofs.Names.{name_sound, dims_sound, dims_exact}
use Rattle.type_laws.proofs.Public.{names_exact_law, references_sound_law, references_complete_law}
use Rattle.expression_laws.specs.way.Parts.{IsReferenceRead, ReadTypes}
use Rattle.parse_laws.proofs.Rules.{weaken}

neither : (a b : Bool) → a ≡ false → b ≡ false → (a || b) ≡ false
neither true b e f = e
neither false b e f = f

pub types_are_read : (most : ℕ) → ReadTypes most
types_are_read most = record {
  name_sound = name_sound;
  name_exact = names_exact_law;
  dims_sound = dims_sound;
  dims_exact = λ n s e ts rest d. dims_exact d;
  reference_sound = λ ts. weaken (reference_at most ts) _ (IsReferenceRead most ts) (references_sound_law most ts) (λ x r. record { spelled = r.0; within = r.1 });
  reference_exact = λ t ts rest d low a b. references_complete_law most t ts rest (d, low) (neither (is_some (part_at rest)) (is_symbol symbol.Less rest) a b);
}
