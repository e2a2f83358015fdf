-- What the functions of the recursion give, in a setting: each what the reading function of its name reads, and its height.
use Rattle.std.specs.Prelude.{◌≡◌, List, Option, option_map}
use Rattle.je_token.specs.declared.token.Token.{Token}
use Rattle.je_ast.specs.declared.expr.Expr.{Expr}
use Rattle.je_ast.specs.declared.stmt.Stmt.{Stmt}
use Rattle.je_ast.specs.declared.stmt.Block.{Block}
use Rattle.je_ast.specs.declared.decl.Member as node
use Rattle.je_ast.specs.declared.decl.Decl.{Decl}
use Rattle.je_ast.specs.Trees.{Statement, Declaration}
use Rattle.je_ast.specs.Trees as tree
use Rattle.je_ast.specs.View.{view, statement_view, member_view, declaration_view}
use Rattle.parse_laws.specs.way.Tokens.{Read}
use Rattle.parse_laws.specs.way.Knot.{declaration_at}
use Rattle.parse_types.specs.declared.found.Found.{Found}
use Rattle.parse_types.specs.declared.found.Closed.{Closed}
use Rattle.parse_types.specs.declared.found.Place.{Place}
use Rattle.parse_types.specs.way.Views.{seen}
use Rattle.parse_below.specs.declared.settings.Setting.{Setting}
use Rattle.parse_below.specs.way.Readings.{below_at, body_at}
use Rattle.parse_below.specs.way.Views.{HasHeights, StatementHasHeight, BlockHasHeight, MemberHasHeight, DeclarationHasHeight, block_tree, seen_members, MembersHaveHeights}

abbrev pub IsExpression : Setting → Place → Option (Found Expr) → Type 0
IsExpression s place o = (seen view o ≡ (below_at s).expression place.least place.tokens.now) × HasHeights s.below o

abbrev pub IsInitializer : Setting → List Token → Option (Found Expr) → Type 0
IsInitializer s ts o = (seen view o ≡ (below_at s).initializer ts) × HasHeights s.below o

abbrev pub IsStatement : Setting → List Token → Option (Found Stmt) → Type 0
IsStatement s ts o = (seen statement_view o ≡ (below_at s).statement ts) × StatementHasHeight s.below o

abbrev pub IsBlockStatement : Setting → List Token → Option (Found Stmt) → Type 0
IsBlockStatement s ts o = (seen statement_view o ≡ (below_at s).block_statement ts) × StatementHasHeight s.below o

abbrev pub IsBlock : Setting → List Token → Option (Found Block) → Type 0
IsBlock s ts o = (seen block_tree o ≡ (below_at s).block ts) × BlockHasHeight s.below o

abbrev pub IsMember : Setting → List Token → Option (Found node.Member) → Type 0
IsMember s ts o = (seen member_view o ≡ (below_at s).member ts) × MemberHasHeight s.below o

-- a class body, whose members are of the setting's height
abbrev pub IsBody : Setting → List Token → Option (Closed node.Member) → Type 0
IsBody s ts o = (seen_members o ≡ body_at s ts) × MembersHaveHeights s.below o

abbrev pub IsDeclaration : Setting → List Token → Option (Found Decl) → Type 0
IsDeclaration s ts o = (seen declaration_view o ≡ declaration_at s.names.now s.texts.now s.below ts) × DeclarationHasHeight s.below o

-- local classes as statements
abbrev pub as_statements : Read Declaration → Read Statement
as_statements o = option_map (λ d. (tree.local_class d.0, d.1)) o
