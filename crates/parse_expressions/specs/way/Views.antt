-- What is known of the parts of a creation, and which operators go on.
use Rattle.std.specs.Prelude.{◌≡◌, ℕ, max, Bool, ◌||◌, nat_lt}
use Rattle.je_ast.specs.Types.{type_view, type_height}
use Rattle.je_ast.specs.View.{views_of}
use Rattle.je_ast.specs.Height.{heights}
use Rattle.parse_expressions.specs.declared.creations.Made.{Made}

-- the height is that of the class or of the highest argument
abbrev pub IsMadeRight : Made → Type 0
IsMadeRight m = m.height ≡ max (type_height (type_view m.class)) (heights (views_of m.args.items))

-- no operator of this level goes on where the levels are from least to most
unfoldable pub is_outside : ℕ → ℕ → ℕ → Bool
is_outside level least most = nat_lt level least || nat_lt most level
