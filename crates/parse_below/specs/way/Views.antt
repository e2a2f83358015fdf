-- What the productions give, without where it lies in memory.
use Rattle.std.specs.Prelude.{◌≡◌, ℕ, ◌≤◌, List, Option, IfSome, option_map}
use Rattle.je_base.specs.declared.span.Span.{Span}
use Rattle.je_token.specs.declared.token.Token.{Token}
use Rattle.je_ast.specs.declared.expr.Expr.{Expr}
use Rattle.je_ast.specs.declared.stmt.Stmt.{Stmt}
use Rattle.je_ast.specs.declared.stmt.Block.{Block}
use Rattle.je_ast.specs.declared.decl.Member.{Member}
use Rattle.je_ast.specs.declared.decl.Decl.{Decl}
use Rattle.je_ast.specs.Trees.{Expression, Expressions, Statements, Members}
use Rattle.je_ast.specs.View.{view, views_of, statement_view, statement_views_of, member_view, member_views_of, declaration_view}
use Rattle.je_ast.specs.Height.{height, heights, statement_height, statements_height, member_height, members_height, declaration_height}
use Rattle.parse_types.specs.declared.found.Found.{Found}
use Rattle.parse_types.specs.declared.found.Closed as found
use Rattle.parse_types.specs.way.Views.{HasHeight}
use Rattle.parse_laws.specs.way.Below.{BlockTree}
use Rattle.parse_laws.specs.way.Readers.{block_tree_height}
use Rattle.parse_laws.specs.way.Expressions.{Closed}

-- The height of what was read is right and within the limit.
abbrev pub HasHeights : ℕ → Option (Found Expr) → Type 0
HasHeights limit o = HasHeight (λ e. height (view e)) limit o

abbrev pub StatementHasHeight : ℕ → Option (Found Stmt) → Type 0
StatementHasHeight limit o = HasHeight (λ b. statement_height (statement_view b)) limit o

abbrev pub block_tree : Block → BlockTree
block_tree b = record { opening = b.opening; statements = statement_views_of b.stmts.items; closing = b.closing }

abbrev pub BlockHasHeight : ℕ → Option (Found Block) → Type 0
BlockHasHeight limit o = HasHeight (λ b. block_tree_height (block_tree b)) limit o

abbrev pub MemberHasHeight : ℕ → Option (Found Member) → Type 0
MemberHasHeight limit o = HasHeight (λ m. member_height (member_view m)) limit o

abbrev pub DeclarationHasHeight : ℕ → Option (Found Decl) → Type 0
DeclarationHasHeight limit o = HasHeight (λ d. declaration_height (declaration_view d)) limit o

abbrev pub seen_found : Found Expr → Expression × List Token
seen_found x = (view x.tree, x.rest.now)

abbrev pub IsRight : ℕ → Found Expr → Type 0
IsRight limit x = (x.height ≡ height (view x.tree)) × (x.height ≤ limit)

-- items up to their closing bracket
abbrev pub seen_items : Option (found.Closed Expr) → Closed Expressions
seen_items o = option_map (λ x. (views_of x.items.items, x.close, x.rest.now)) o

abbrev pub HaveHeights : ℕ → Option (found.Closed Expr) → Type 0
HaveHeights limit o = IfSome o (λ x. (x.height ≡ heights (views_of x.items.items)) × (x.height ≤ limit))

abbrev pub seen_statements : Option (found.Closed Stmt) → Closed Statements
seen_statements o = option_map (λ x. (statement_views_of x.items.items, x.close, x.rest.now)) o

abbrev pub StatementsHaveHeights : ℕ → Option (found.Closed Stmt) → Type 0
StatementsHaveHeights limit o = IfSome o (λ x. (x.height ≡ statements_height (statement_views_of x.items.items)) × (x.height ≤ limit))

abbrev pub seen_members : Option (found.Closed Member) → Closed Members
seen_members o = option_map (λ x. (member_views_of x.items.items, x.close, x.rest.now)) o

abbrev pub MembersHaveHeights : ℕ → Option (found.Closed Member) → Type 0
MembersHaveHeights limit o = IfSome o (λ x. (x.height ≡ members_height (member_views_of x.items.items)) × (x.height ≤ limit))
