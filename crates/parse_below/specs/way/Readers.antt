-- What is called reads the height below.
use Rattle.std.specs.Prelude.{◌≡◌, List, Option, Result, IfOk}
use denote.Ref.{Bor}
use Rattle.je_base.specs.declared.memory.Memory.{Memory}
use Rattle.je_token.specs.declared.token.Token.{Token}
use Rattle.je_ast.specs.declared.expr.Expr.{Expr}
use Rattle.je_ast.specs.declared.stmt.Stmt.{Stmt}
use Rattle.je_ast.specs.declared.stmt.Block.{Block}
use Rattle.je_ast.specs.declared.decl.Member.{Member}
use Rattle.je_ast.specs.View.{view, statement_view, member_view}
use Rattle.parse_types.specs.declared.found.Found.{Found}
use Rattle.parse_types.specs.declared.found.Closed.{Closed}
use Rattle.parse_types.specs.declared.found.Place.{Place}
use Rattle.parse_types.specs.way.Views.{seen}
use Rattle.parse_below.specs.declared.settings.Setting.{Setting}
use Rattle.parse_below.specs.way.Views.{HasHeights, StatementHasHeight, BlockHasHeight, MemberHasHeight, block_tree, seen_members, MembersHaveHeights}
use Rattle.parse_below.specs.way.Readings.{below_at, body_at}

-- an expression of at least the place's level
abbrev pub Reads : Setting → (Place → Result (Option (Found Expr)) Memory → Type 0) → Type 0
Reads s post = (place : Place) (r : Result (Option (Found Expr)) Memory) → post place r →
    IfOk r (λ o. (seen view o ≡ (below_at s).expression place.least place.tokens.now) × HasHeights s.below o)

-- an initializer
abbrev pub ReadsInitializers : Setting → (Bor (List Token) → Result (Option (Found Expr)) Memory → Type 0) → Type 0
ReadsInitializers s post = (tokens : Bor (List Token)) (r : Result (Option (Found Expr)) Memory) → post tokens r →
    IfOk r (λ o. (seen view o ≡ (below_at s).initializer tokens.now) × HasHeights s.below o)

-- a statement
abbrev pub ReadsStatements : Setting → (Bor (List Token) → Result (Option (Found Stmt)) Memory → Type 0) → Type 0
ReadsStatements s post = (tokens : Bor (List Token)) (r : Result (Option (Found Stmt)) Memory) → post tokens r →
    IfOk r (λ o. (seen statement_view o ≡ (below_at s).statement tokens.now) × StatementHasHeight s.below o)

-- a block statement
abbrev pub ReadsBlockStatements : Setting → (Bor (List Token) → Result (Option (Found Stmt)) Memory → Type 0) → Type 0
ReadsBlockStatements s post = (tokens : Bor (List Token)) (r : Result (Option (Found Stmt)) Memory) → post tokens r →
    IfOk r (λ o. (seen statement_view o ≡ (below_at s).block_statement tokens.now) × StatementHasHeight s.below o)

-- a block
abbrev pub ReadsBlocks : Setting → (Bor (List Token) → Result (Option (Found Block)) Memory → Type 0) → Type 0
ReadsBlocks s post = (tokens : Bor (List Token)) (r : Result (Option (Found Block)) Memory) → post tokens r →
    IfOk r (λ o. (seen block_tree o ≡ (below_at s).block tokens.now) × BlockHasHeight s.below o)

-- a member
abbrev pub ReadsMembers : Setting → (Bor (List Token) → Result (Option (Found Member)) Memory → Type 0) → Type 0
ReadsMembers s post = (tokens : Bor (List Token)) (r : Result (Option (Found Member)) Memory) → post tokens r →
    IfOk r (λ o. (seen member_view o ≡ (below_at s).member tokens.now) × MemberHasHeight s.below o)

-- a class body
abbrev pub ReadsBodies : Setting → (Bor (List Token) → Result (Option (Closed Member)) Memory → Type 0) → Type 0
ReadsBodies s post = (tokens : Bor (List Token)) (r : Result (Option (Closed Member)) Memory) → post tokens r →
    IfOk r (λ o. (seen_members o ≡ body_at s tokens.now) × MembersHaveHeights s.below o)
