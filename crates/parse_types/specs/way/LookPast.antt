-- What is behind the parts of types: the loops that look past them.
use Rattle.std.specs.Prelude.{ℕ, List, [], Option, option_map}
use Rattle.je_token.specs.declared.token.Token.{Token}
use Rattle.je_grammar.specs.Tokens.{first_span}
use Rattle.parse_laws.specs.way.Types.{parts_at, more_dims_at, type_argument_at, type_arguments_at, type_at}

unfoldable pub past_parts_at : ℕ → List Token → List Token
past_parts_at n ts = (parts_at n [] (first_span ts) ts).1

unfoldable pub past_pairs_at : ℕ → List Token → List Token
past_pairs_at n ts = (more_dims_at n 0 (first_span ts) ts).2

unfoldable pub past_argument_at : ℕ → List Token → Option (List Token)
past_argument_at h ts = option_map (λ x. x.1) (type_argument_at (type_at h) ts)

unfoldable pub past_arguments_at : ℕ → ℕ → List Token → Option (List Token)
past_arguments_at h n ts = option_map (λ x. x.2) (type_arguments_at (type_at h) n [] ts)
