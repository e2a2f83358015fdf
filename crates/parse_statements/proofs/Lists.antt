-- Lists of trees in memory: as the trees have them, and as they grow.
use Rattle.std.proofs.Common.{◌≡◌, suc, Bool, true, false, not, ◌==◌, List, [], ◌∷◌, ◌++◌, length, map, max, refl, arith}
use Rattle.std.proofs.lemmas.List.{map_push}
use Rattle.std.proofs.lemmas.Grind.{common_steps}
use Rattle.je_ast.specs.declared.expr.Expr.{Expr}
use Rattle.je_ast.specs.declared.stmt.Catch.{Catch}
use Rattle.je_ast.specs.declared.stmt.Group.{Group}
use Rattle.je_ast.specs.declared.stmt.Label.{Label}
use Rattle.je_ast.specs.declared.stmt.Stmt.{Stmt}
use Rattle.je_ast.specs.declared.stmt.Var.{Var}
use Rattle.je_ast.specs.Trees.{Expression, Statement}
use Rattle.je_ast.specs.Parts as parts
use Rattle.je_ast.specs.Parts.{LabelPart, case_part, default_part}
use Rattle.je_ast.specs.View.{view, views_of, statement_view, statement_views_of, variable_views_of, label_view, label_views_of, group_view, group_views_of, catch_view, catch_views_of}
use Rattle.je_ast.specs.Height.{height, heights, variables_height, statement_height, statements_height, labels_height, groups_height, catches_height}
use Rattle.je_grammar.specs.Context.{has_catch}
use Rattle.parse_laws.specs.way.Lists.{variables, statements, expressions}
use Rattle.parse_laws.specs.way.Statements.{labels, groups, catches}
use Rattle.parse_statements.specs.way.Views.{variable_tree, variable_height, label_tree, label_of_part, label_height, height_of_label, group_tree, group_height, catch_tree, catch_height}

pub variables_same : (vs : List Var) → variable_views_of vs ≡ variables (map variable_tree vs)
variables_same [] = refl
variables_same (v ∷ vs) = rw (variables_same vs) refl

pub variables_push : (vs : List Var) (v : Var) → map variable_tree (vs ++ v ∷ []) ≡ map variable_tree vs ++ variable_tree v ∷ []
variables_push vs v = map_push variable_tree vs v

pushed_variables : (vs : List Var) (v : Var) → variables_height (variable_views_of (vs ++ v ∷ [])) ≡ max (variables_height (variable_views_of vs)) (variable_height v)
unfolding variable_height
pushed_variables [] v = omega arith
pushed_variables (w ∷ vs) v = omega (arith, pushed_variables vs v)

pub variables_height_push : (vs ws : List Var) (v : Var) → ws ≡ vs ++ v ∷ [] →
    variables_height (variable_views_of ws) ≡ max (variables_height (variable_views_of vs)) (variable_height v)
variables_height_push vs ws v pushed = rw pushed (pushed_variables vs v)

pub statements_same : (bs : List Statement) → parts.statements bs ≡ statements bs
statements_same [] = refl
statements_same (b ∷ bs) = rw (statements_same bs) refl

pub statements_push : (bs : List Stmt) (b : Stmt) → map statement_view (bs ++ b ∷ []) ≡ map statement_view bs ++ statement_view b ∷ []
statements_push bs b = map_push statement_view bs b

pushed_statements : (bs : List Stmt) (b : Stmt) → statements_height (statement_views_of (bs ++ b ∷ [])) ≡ max (statements_height (statement_views_of bs)) (statement_height (statement_view b))
pushed_statements [] b = omega arith
pushed_statements (c ∷ bs) b = omega (arith, pushed_statements bs b)

pub statements_height_push : (bs cs : List Stmt) (b : Stmt) → cs ≡ bs ++ b ∷ [] →
    statements_height (statement_views_of cs) ≡ max (statements_height (statement_views_of bs)) (statement_height (statement_view b))
statements_height_push bs cs b pushed = rw pushed (pushed_statements bs b)

pub expressions_same : (es : List Expression) → parts.expressions es ≡ expressions es
expressions_same [] = refl
expressions_same (e ∷ es) = rw (expressions_same es) refl

pub expressions_push : (es : List Expr) (e : Expr) → map view (es ++ e ∷ []) ≡ map view es ++ view e ∷ []
expressions_push es e = map_push view es e

pushed_expressions : (es : List Expr) (e : Expr) → heights (views_of (es ++ e ∷ [])) ≡ max (heights (views_of es)) (height (view e))
pushed_expressions [] e = omega arith
pushed_expressions (d ∷ es) e = omega (arith, pushed_expressions es e)

pub expressions_height_push : (es ds : List Expr) (e : Expr) → ds ≡ es ++ e ∷ [] → heights (views_of ds) ≡ max (heights (views_of es)) (height (view e))
expressions_height_push es ds e pushed = rw pushed (pushed_expressions es e)

part_labels : (ls : List LabelPart) → parts.labels ls ≡ labels (map label_of_part ls)
part_labels [] = refl
part_labels (case_part e ∷ ls) = rw (part_labels ls) refl
part_labels (default_part s ∷ ls) = rw (part_labels ls) refl

mapped_labels : (ls : List Label) → map label_of_part (map label_view ls) ≡ map label_tree ls
mapped_labels [] = refl
mapped_labels (l ∷ ls) = rw (mapped_labels ls) refl

pub labels_same : (ls : List Label) → label_views_of ls ≡ labels (map label_tree ls)
labels_same ls = rw (← (mapped_labels ls)) (part_labels (map label_view ls))

pub labels_push : (ls : List Label) (l : Label) → map label_tree (ls ++ l ∷ []) ≡ map label_tree ls ++ label_tree l ∷ []
labels_push ls l = map_push label_tree ls l

first_label : (l : LabelPart) (ls : List LabelPart) → labels_height (parts.labels (l ∷ ls)) ≡ max (height_of_label (label_of_part l)) (labels_height (parts.labels ls))
first_label (case_part e) ls = refl
first_label (default_part s) ls = omega arith

pushed_labels : (ls : List Label) (l : Label) → labels_height (label_views_of (ls ++ l ∷ [])) ≡ max (labels_height (label_views_of ls)) (label_height l)
unfolding label_height
pushed_labels [] l = omega (arith, first_label (label_view l) [])
pushed_labels (k ∷ ls) l = omega (arith, pushed_labels ls l, first_label (label_view k) (map label_view ls), first_label (label_view k) (map label_view (ls ++ l ∷ [])))

pub labels_height_push : (ls ks : List Label) (l : Label) → ks ≡ ls ++ l ∷ [] → labels_height (label_views_of ks) ≡ max (labels_height (label_views_of ls)) (label_height l)
labels_height_push ls ks l pushed = rw pushed (pushed_labels ls l)

pub groups_same : (gs : List Group) → group_views_of gs ≡ groups (map group_tree gs)
groups_same [] = refl
groups_same (g ∷ gs) = rw (groups_same gs) refl

pub groups_push : (gs : List Group) (g : Group) → map group_tree (gs ++ g ∷ []) ≡ map group_tree gs ++ group_tree g ∷ []
groups_push gs g = map_push group_tree gs g

pushed_groups : (gs : List Group) (g : Group) → groups_height (group_views_of (gs ++ g ∷ [])) ≡ max (groups_height (group_views_of gs)) (group_height g)
pushed_groups [] g = omega arith
pushed_groups (k ∷ gs) g = omega (arith, pushed_groups gs g)

pub groups_height_push : (gs ks : List Group) (g : Group) → ks ≡ gs ++ g ∷ [] → groups_height (group_views_of ks) ≡ max (groups_height (group_views_of gs)) (group_height g)
groups_height_push gs ks g pushed = rw pushed (pushed_groups gs g)

pub catches_same : (cs : List Catch) → catch_views_of cs ≡ catches (map catch_tree cs)
catches_same [] = refl
catches_same (c ∷ cs) = rw (catches_same cs) refl

pub catches_push : (cs : List Catch) (c : Catch) → map catch_tree (cs ++ c ∷ []) ≡ map catch_tree cs ++ catch_tree c ∷ []
catches_push cs c = map_push catch_tree cs c

pushed_catches : (cs : List Catch) (c : Catch) → catches_height (catch_views_of (cs ++ c ∷ [])) ≡ max (catches_height (catch_views_of cs)) (catch_height c)
pushed_catches [] c = omega arith
pushed_catches (k ∷ cs) c = omega (arith, pushed_catches cs c)

pub catches_height_push : (cs ks : List Catch) (c : Catch) → ks ≡ cs ++ c ∷ [] → catches_height (catch_views_of ks) ≡ max (catches_height (catch_views_of cs)) (catch_height c)
catches_height_push cs ks c pushed = rw pushed (pushed_catches cs c)

-- a catch is there where the list isn't empty
pub catch_there : (cs : List Catch) → has_catch (catch_views_of cs) ≡ not (length cs == 0)
catch_there [] = refl
catch_there (c ∷ cs) = grind (arith, common_steps)
