-- What the productions of expressions give, without where it lies in memory.
use Rattle.std.specs.Prelude.{◌≡◌, ℕ, ◌+◌, ◌≤◌, max, List, Option, option_map, IfSome}
use Rattle.je_token.specs.declared.token.Token.{Token}
use Rattle.je_ast.specs.declared.expr.Expr.{Expr}
use Rattle.je_ast.specs.Trees.{Expression}
use Rattle.je_ast.specs.View.{view}
use Rattle.je_ast.specs.Height.{height}
use Rattle.parse_laws.specs.way.Expressions as reading
use Rattle.parse_types.specs.declared.found.Found.{Found}
use Rattle.parse_operators.specs.declared.conditionals.Alternatives.{Alternatives}
use Rattle.parse_operators.specs.declared.length_list.Inside.{Inside}

-- an expression in brackets
abbrev pub seen_inside : Option Inside → reading.Inside
seen_inside o = option_map (λ x. (view x.tree, x.close, x.rest.now)) o

abbrev pub InsideHasHeight : ℕ → Option Inside → Type 0
InsideHasHeight limit o = IfSome o (λ x. (x.height ≡ height (view x.tree)) × (x.height ≤ limit))

-- the height of what was read is right, and one above this one
abbrev pub IsAbove : ℕ → Found Expr → Type 0
IsAbove n x = (x.height ≡ height (view x.tree)) × (x.height ≡ n + 1)

-- the two choices of a conditional expression
abbrev pub seen_choices : Option Alternatives → Option (Expression × Expression × List Token)
seen_choices o = option_map (λ x. (view x.yes, view x.no, x.rest.now)) o

abbrev pub ChoicesHaveHeight : ℕ → Option Alternatives → Type 0
ChoicesHaveHeight limit o = IfSome o (λ x. (x.height ≡ max (height (view x.yes)) (height (view x.no))) × (x.height ≤ limit))
