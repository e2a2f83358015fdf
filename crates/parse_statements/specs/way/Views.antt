-- What the functions give, without where it lies in memory.
use Rattle.std.specs.Prelude.{◌≡◌, ◌≤◌, ℕ, suc, max, map, List, Vec, Option, IfSome, option_map}
use Rattle.std.specs.declared.alloc.Global.{Global}
use denote.Ref.{Bor}
use Rattle.je_base.specs.declared.span.Span.{Span}
use Rattle.je_token.specs.declared.token.Token.{Token}
use Rattle.je_ast.specs.declared.name.Identifier.{Identifier}
use Rattle.je_ast.specs.declared.expr.Expr.{Expr}
use Rattle.je_ast.specs.declared.stmt.Catch.{Catch}
use Rattle.je_ast.specs.declared.stmt.Group.{Group}
use Rattle.je_ast.specs.declared.stmt.Label.{Label}
use Rattle.je_ast.specs.declared.stmt.Stmt.{Stmt}
use Rattle.je_ast.specs.declared.stmt.Var.{Var}
use Rattle.je_ast.specs.Parts.{LabelPart, case_part, default_part}
use Rattle.je_ast.specs.Trees.{Expressions, Statements, Variables, Groups, Labels, Catches}
use Rattle.je_ast.specs.Types.{name_view}
use Rattle.je_ast.specs.Height.{height, height_if, labels_height, statements_height, groups_height, catches_height}
use Rattle.je_ast.specs.View.{views_of, view_of_option, statement_views_of, variable_views_of, label_view, label_views_of, group_views_of, catch_views_of}
use Rattle.parse_laws.specs.way.Lists.{VariableTree}
use Rattle.parse_laws.specs.way.Expressions.{Closed}
use Rattle.parse_laws.specs.way.Readers.{block_tree_height}
use Rattle.parse_laws.specs.way.Statements.{CatchTree, LabelTree, case_label, default_label, GroupTree}
use Rattle.parse_types.specs.declared.found.Closed as found
use Rattle.parse_below.specs.way.Views.{block_tree}

abbrev pub variable_tree : Var → VariableTree
variable_tree v = record { name = v.name; dims = v.dims; init = view_of_option v.init }

-- the height of a variable's initializer
unfoldable pub variable_height : Var → ℕ
variable_height v = height_if (variable_tree v).init

abbrev pub variables_view : Vec Var Global → Variables
variables_view vs = variable_views_of vs.items

abbrev pub expressions_view : Vec Expr Global → Expressions
expressions_view es = views_of es.items

abbrev pub statements_view : Vec Stmt Global → Statements
statements_view bs = statement_views_of bs.items

-- the label of a jump, and the tokens behind it
abbrev pub seen_label : Option Identifier × Bor (List Token) → Option Identifier × List Token
seen_label x = (x.0, x.1.now)

abbrev pub label_of_part : LabelPart → LabelTree
label_of_part (case_part e) = case_label e
label_of_part (default_part s) = default_label s

abbrev pub label_tree : Label → LabelTree
label_tree l = label_of_part (label_view l)

abbrev pub height_of_label : LabelTree → ℕ
height_of_label (case_label e) = height e
height_of_label (default_label s) = 0

unfoldable pub label_height : Label → ℕ
label_height l = height_of_label (label_tree l)

abbrev pub labels_view : Vec Label Global → Labels
labels_view ls = label_views_of ls.items

abbrev pub group_tree : Group → GroupTree
group_tree g = record { labels = labels_view g.labels; statements = statements_view g.stmts }

abbrev pub group_height : Group → ℕ
group_height g = max (labels_height (labels_view g.labels)) (statements_height (statements_view g.stmts))

abbrev pub seen_groups : Option (found.Closed Group) → Closed Groups
seen_groups o = option_map (λ x. (group_views_of x.items.items, x.close, x.rest.now)) o

abbrev pub GroupsHaveHeights : ℕ → Option (found.Closed Group) → Type 0
GroupsHaveHeights limit o = IfSome o (λ x. (x.height ≡ groups_height (group_views_of x.items.items)) × (x.height ≤ limit))

abbrev pub catch_tree : Catch → CatchTree
catch_tree c = record { is_final = c.is_final; class = name_view c.class; name = c.name; block = block_tree c.block }

abbrev pub catch_height : Catch → ℕ
catch_height c = block_tree_height (block_tree c.block)

abbrev pub seen_catches : found.Closed Catch → Catches × Span × List Token
seen_catches x = (catch_views_of x.items.items, x.close, x.rest.now)

abbrev pub CatchesHaveHeights : ℕ → found.Closed Catch → Type 0
CatchesHaveHeights limit x = (x.height ≡ catches_height (catch_views_of x.items.items)) × (x.height ≤ limit)
