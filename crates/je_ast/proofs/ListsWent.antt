-- Lists in memory whose elements a walk has renumbered, each in its turn.
use Rattle.std.proofs.Common.{◌≡◌, ℕ, ◌≤◌, List, [], ◌∷◌, length, map, option_map, refl, ◌∙◌, arith}
use Rattle.je_base.specs.declared.span.NameId.{NameId}
use Rattle.je_ast.specs.declared.name.Identifier.{Identifier}
use Rattle.je_ast.specs.declared.name.Name.{Name}
use Rattle.je_ast.specs.declared.ty_name.TyName.{TyName}
use Rattle.je_ast.specs.declared.expr.Expr.{Expr}
use Rattle.je_ast.specs.declared.stmt.Stmt.{Stmt}
use Rattle.je_ast.specs.declared.stmt.Label.{Label}
use Rattle.je_ast.specs.declared.stmt.Var.{Var}
use Rattle.je_ast.specs.declared.stmt.Group.{Group}
use Rattle.je_ast.specs.declared.stmt.Catch.{Catch}
use Rattle.je_ast.specs.declared.decl.Member.{Member}
use Rattle.je_ast.specs.declared.decl.Decl.{Decl}
use Rattle.je_ast.specs.declared.decl.TypeParam.{TypeParam}
use Rattle.je_ast.specs.declared.decl.Formal.{Formal}
use Rattle.je_ast.specs.Types.{type_view, name_view, type_views_of, type_view_of_option, parameter_view, formal_view}
use Rattle.je_ast.specs.Trees.{Labels, no_labels, case_label, default_label}
use Rattle.je_ast.specs.View.{view, statement_view, member_view, label_view, views_of, view_of_option, statement_views_of, variable_views_of, label_views_of, group_views_of, catch_views_of, member_views_of, declaration_view}
use Rattle.je_ast.specs.Renumbering.{renumbered_identifier, renumbered_name, renumbered_type, renumbered_types, renumbered_parameter, renumbered_formal, renumbered_expression, renumbered_expressions, renumbered_expression_if, renumbered_statement, renumbered_statements, renumbered_variables, renumbered_labels, renumbered_groups, renumbered_catches, renumbered_member, renumbered_members, renumbered_declaration}
use Rattle.je_ast.specs.Parts.{LabelPart, case_part, default_part, labels}
use Rattle.je_ast.proofs.Went.{Went, yet, more}

abbrev pub IdentifierBecame : List NameId → Identifier → Identifier → Type 0
IdentifierBecame to x y = y ≡ renumbered_identifier to x

pub identifiers_went : (to : List NameId) (n : ℕ) (before now : List Identifier) → Went (IdentifierBecame to) n before now → length before ≤ n → now ≡ map (renumbered_identifier to) before
identifiers_went to _ [] _ yet le = refl
identifiers_went to _ (x ∷ xs) _ yet le = elim le [ ]
identifiers_went to _ _ _ (more a w) le = rw (a, identifiers_went to _ _ _ w (omega arith))

abbrev pub NameBecame : List NameId → Name → Name → Type 0
NameBecame to x y = name_view y ≡ renumbered_name to (name_view x)

pub names_went : (to : List NameId) (n : ℕ) (before now : List Name) → Went (NameBecame to) n before now → length before ≤ n → map name_view now ≡ map (renumbered_name to) (map name_view before)
names_went to _ [] _ yet le = refl
names_went to _ (x ∷ xs) _ yet le = elim le [ ]
names_went to _ _ _ (more a w) le = rw (a, names_went to _ _ _ w (omega arith))

abbrev pub TypeBecame : List NameId → TyName → TyName → Type 0
TypeBecame to x y = type_view y ≡ renumbered_type to (type_view x)

pub types_went : (to : List NameId) (n : ℕ) (before now : List TyName) → Went (TypeBecame to) n before now → length before ≤ n → type_views_of now ≡ renumbered_types to (type_views_of before)
types_went to _ [] _ yet le = refl
types_went to _ (x ∷ xs) _ yet le = elim le [ ]
types_went to _ _ _ (more a w) le = rw (a, types_went to _ _ _ w (omega arith))

abbrev pub ParamBecame : List NameId → TypeParam → TypeParam → Type 0
ParamBecame to x y = (y.name ≡ renumbered_identifier to x.name) × (type_view_of_option y.bound ≡ option_map (renumbered_type to) (type_view_of_option x.bound))

pub params_went : (to : List NameId) (n : ℕ) (before now : List TypeParam) → Went (ParamBecame to) n before now → length before ≤ n → map parameter_view now ≡ map (renumbered_parameter to) (map parameter_view before)
params_went to _ [] _ yet le = refl
params_went to _ (x ∷ xs) _ yet le = elim le [ ]
params_went to _ _ _ (more a w) le = rw (a.0, a.1, params_went to _ _ _ w (omega arith))

abbrev pub FormalBecame : List NameId → Formal → Formal → Type 0
FormalBecame to x y = (y.is_final ≡ x.is_final) × (type_view y.ty ≡ renumbered_type to (type_view x.ty)) × (y.name ≡ renumbered_identifier to x.name) × (y.dims ≡ x.dims)

pub formals_went : (to : List NameId) (n : ℕ) (before now : List Formal) → Went (FormalBecame to) n before now → length before ≤ n → map formal_view now ≡ map (renumbered_formal to) (map formal_view before)
formals_went to _ [] _ yet le = refl
formals_went to _ (x ∷ xs) _ yet le = elim le [ ]
formals_went to _ _ _ (more a w) le = rw (a.0, a.1, a.2, a.3, formals_went to _ _ _ w (omega arith))

abbrev pub ExpressionBecame : List NameId → Expr → Expr → Type 0
ExpressionBecame to x y = view y ≡ renumbered_expression to (view x)

pub expressions_went : (to : List NameId) (n : ℕ) (before now : List Expr) → Went (ExpressionBecame to) n before now → length before ≤ n → views_of now ≡ renumbered_expressions to (views_of before)
expressions_went to _ [] _ yet le = refl
expressions_went to _ (x ∷ xs) _ yet le = elim le [ ]
expressions_went to _ _ _ (more a w) le = rw (a, expressions_went to _ _ _ w (omega arith))

abbrev pub VariableBecame : List NameId → Var → Var → Type 0
VariableBecame to x y = (y.name ≡ renumbered_identifier to x.name) × (y.dims ≡ x.dims) × (view_of_option y.init ≡ renumbered_expression_if to (view_of_option x.init))

pub variables_went : (to : List NameId) (n : ℕ) (before now : List Var) → Went (VariableBecame to) n before now → length before ≤ n → variable_views_of now ≡ renumbered_variables to (variable_views_of before)
variables_went to _ [] _ yet le = refl
variables_went to _ (x ∷ xs) _ yet le = elim le [ ]
variables_went to _ _ _ (more a w) le = rw (a.0, a.1, a.2, variables_went to _ _ _ w (omega arith))

abbrev pub StatementBecame : List NameId → Stmt → Stmt → Type 0
StatementBecame to x y = statement_view y ≡ renumbered_statement to (statement_view x)

pub statements_went : (to : List NameId) (n : ℕ) (before now : List Stmt) → Went (StatementBecame to) n before now → length before ≤ n → statement_views_of now ≡ renumbered_statements to (statement_views_of before)
statements_went to _ [] _ yet le = refl
statements_went to _ (x ∷ xs) _ yet le = elim le [ ]
statements_went to _ _ _ (more a w) le = rw (a, statements_went to _ _ _ w (omega arith))

abbrev pub GroupBecame : List NameId → Group → Group → Type 0
GroupBecame to x y = (label_views_of y.labels.items ≡ renumbered_labels to (label_views_of x.labels.items)) × (statement_views_of y.stmts.items ≡ renumbered_statements to (statement_views_of x.stmts.items))

pub groups_went : (to : List NameId) (n : ℕ) (before now : List Group) → Went (GroupBecame to) n before now → length before ≤ n → group_views_of now ≡ renumbered_groups to (group_views_of before)
groups_went to _ [] _ yet le = refl
groups_went to _ (x ∷ xs) _ yet le = elim le [ ]
groups_went to _ _ _ (more a w) le = rw (a.0, a.1, groups_went to _ _ _ w (omega arith))

abbrev pub CatchBecame : List NameId → Catch → Catch → Type 0
CatchBecame to x y = (y.is_final ≡ x.is_final) × (name_view y.class ≡ renumbered_name to (name_view x.class)) × (y.name ≡ renumbered_identifier to x.name) × (y.block.opening ≡ x.block.opening) × (statement_views_of y.block.stmts.items ≡ renumbered_statements to (statement_views_of x.block.stmts.items)) × (y.block.closing ≡ x.block.closing)

pub catches_went : (to : List NameId) (n : ℕ) (before now : List Catch) → Went (CatchBecame to) n before now → length before ≤ n → catch_views_of now ≡ renumbered_catches to (catch_views_of before)
catches_went to _ [] _ yet le = refl
catches_went to _ (x ∷ xs) _ yet le = elim le [ ]
catches_went to _ _ _ (more a w) le = rw (a.0, a.1, a.2, a.3, a.4, a.5, catches_went to _ _ _ w (omega arith))

abbrev pub MemberBecame : List NameId → Member → Member → Type 0
MemberBecame to x y = member_view y ≡ renumbered_member to (member_view x)

pub members_went : (to : List NameId) (n : ℕ) (before now : List Member) → Went (MemberBecame to) n before now → length before ≤ n → member_views_of now ≡ renumbered_members to (member_views_of before)
members_went to _ [] _ yet le = refl
members_went to _ (x ∷ xs) _ yet le = elim le [ ]
members_went to _ _ _ (more a w) le = rw (a, members_went to _ _ _ w (omega arith))

abbrev pub DeclarationBecame : List NameId → Decl → Decl → Type 0
DeclarationBecame to x y = declaration_view y ≡ renumbered_declaration to (declaration_view x)

pub declarations_went : (to : List NameId) (n : ℕ) (before now : List Decl) → Went (DeclarationBecame to) n before now → length before ≤ n → map declaration_view now ≡ map (renumbered_declaration to) (map declaration_view before)
declarations_went to _ [] _ yet le = refl
declarations_went to _ (x ∷ xs) _ yet le = elim le [ ]
declarations_went to _ _ _ (more a w) le = rw (a, declarations_went to _ _ _ w (omega arith))

abbrev pub LabelBecame : List NameId → Label → Label → Type 0
LabelBecame to x y = labels (label_view y ∷ []) ≡ renumbered_labels to (labels (label_view x ∷ []))

abbrev joined : Labels → Labels → Labels
joined no_labels rest = rest
joined (case_label e ls) rest = case_label e (joined ls rest)
joined (default_label s ls) rest = default_label s (joined ls rest)

first_apart : (p : LabelPart) (ls : List LabelPart) → labels (p ∷ ls) ≡ joined (labels (p ∷ [])) (labels ls)
first_apart (case_part e) ls = refl
first_apart (default_part s) ls = refl

renumbered_apart : (to : List NameId) (p : LabelPart) (ls : List LabelPart) →
    joined (renumbered_labels to (labels (p ∷ []))) (renumbered_labels to (labels ls)) ≡ renumbered_labels to (labels (p ∷ ls))
renumbered_apart to (case_part e) ls = refl
renumbered_apart to (default_part s) ls = refl

pub labels_went : (to : List NameId) (n : ℕ) (before now : List Label) → Went (LabelBecame to) n before now → length before ≤ n → label_views_of now ≡ renumbered_labels to (label_views_of before)
labels_went to _ [] _ yet le = refl
labels_went to _ (x ∷ xs) _ yet le = elim le [ ]
labels_went to _ _ _ (more {x = x} {y = y} {xs = xs} {ys = ys} a w) le =
    first_apart (label_view y) (map label_view ys) ∙ rw (a, labels_went to _ xs ys w (omega arith)) (renumbered_apart to (label_view x) (map label_view xs))
