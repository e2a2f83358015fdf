-- A node is seen as its layer.
use Rattle.std.proofs.Common.{◌≡◌, List, [], ◌∷◌, map, Option, Some, None, option_map, refl, ap, ◌∙◌}
use Rattle.je_ast.specs.declared.ty_name.TyName.{TyName, out-TyName, map-TyName, fold_out-TyName}
use Rattle.je_ast.specs.declared.ty_name.TyName.TheOpen as type_node
use Rattle.je_ast.specs.declared.decl.ConstructorCall.TheOpen as node
use Rattle.je_ast.specs.declared.decl.ConstructorCall.TheShapes as shape
use Rattle.je_ast.specs.declared.decl.ConstructorCall.{ConstructorCall, out-ConstructorCall, map-ConstructorCall, fold_out-ConstructorCall}
use Rattle.je_ast.specs.declared.decl.Decl.{Decl, out-Decl, map-Decl, fold_out-Decl}
use Rattle.je_ast.specs.declared.decl.Member.{Member, out-Member, map-Member, fold_out-Member}
use Rattle.je_ast.specs.declared.expr.Expr.{Expr, out-Expr, map-Expr, fold_out-Expr}
use Rattle.je_ast.specs.declared.stmt.ForInit.{ForInit, out-ForInit, map-ForInit, fold_out-ForInit}
use Rattle.je_ast.specs.declared.stmt.Stmt.{Stmt, out-Stmt, map-Stmt, fold_out-Stmt}
use Rattle.je_ast.specs.declared.stmt.Label.{Label, out-Label, map-Label, fold_out-Label}
use Rattle.je_ast.specs.declared.stmt.Block.{Block, out-Block, fold_out-Block}
use Rattle.je_ast.specs.declared.stmt.Catch.{Catch, out-Catch, fold_out-Catch}
use Rattle.je_ast.specs.declared.stmt.Group.{Group, out-Group, fold_out-Group}
use Rattle.je_ast.specs.declared.stmt.Var.{Var, out-Var, fold_out-Var}
use Rattle.je_ast.specs.Types.{TypeName, class_type, name_view, type_view, type_node_view, type_views_of, type_view_of_option, type_layer, type_names, parameter_view, formal_view}
use Rattle.je_ast.specs.Trees.{Expression, Statement, ForInitializer, ConstructorInvocation, Declaration}
use Rattle.je_ast.specs.Trees as tree
use Rattle.je_ast.specs.Parts.{BlockPart, VariablePart, LabelPart, GroupPart, CatchPart, expressions, maybe_expression, statements, variables, labels, groups, catches, members, maybe_block}
use Rattle.je_ast.specs.View.{same, by_views, layer, statement_layer, for_initializer_layer, label_layer, block_layer, variable_layer, group_layer, catch_layer, member_layer, constructor_invocation_layer, declaration_layer, view, statement_view, for_initializer_view, member_view, constructor_invocation_view, declaration_view, node_view, statement_node_view, for_initializer_node_view, member_node_view, constructor_invocation_node_view, declaration_node_view, block_view, variable_view, label_view, group_view, catch_view}
use Rattle.je_ast.specs.way.Folds.{label_fold, block_fold, variable_fold, group_fold, catch_fold}

-- a list that a fold has gone through
went : {A B : Type 0} (see shown : A → B) → ((x : A) → see x ≡ shown x) → (xs : List A) → map (λ x. x) (map see xs) ≡ map shown xs
went see shown h [] = refl
went see shown h (x ∷ xs) = rw (h x, went see shown h xs)

gone : {A B : Type 0} (see : A → B) (xs : List A) → map (λ x. x) (map see xs) ≡ map see xs
gone see xs = went see see (λ x. refl) xs

type_layered : (f : type_node.TyName-F TyName) → type_layer (λ t. t) (map-TyName TyName TypeName type_view f) ≡ type_layer type_view f
type_layered (type_node.Primitive p dims s) = refl
type_layered (type_node.Class n args dims s) = λ i. class_type (name_view n) (type_names (gone type_view args.items i)) dims s

pub type_is : (t : TyName) → type_view t ≡ type_node_view t
unfolding type_view
type_is t = fold_out-TyName TypeName (type_layer (λ t. t)) t ∙ type_layered (out-TyName t)

init_gone : (x : Option Expr) → option_map (λ x. x) (shape.former-Stmt-For-2.map Expr Expression view x) ≡ option_map view x
init_gone None = refl
init_gone (Some x) = refl

pub block_is : (x : Block) → block_fold x ≡ block_view x
unfolding constructor_invocation_view declaration_view member_view view for_initializer_view label_fold statement_view block_fold catch_fold group_fold variable_fold
block_is x = fold_out-Block ConstructorInvocation Declaration tree.Member Expression ForInitializer LabelPart Statement BlockPart CatchPart GroupPart VariablePart (constructor_invocation_layer same) (declaration_layer same) (member_layer same) (layer same) (for_initializer_layer same) (label_layer (λ e. e)) (statement_layer same) (block_layer same) (catch_layer same) (group_layer same) (variable_layer same) x
    ∙ (λ i. record { opening = (out-Block x).opening; stmts = statements (gone statement_view (out-Block x).stmts.items i); closing = (out-Block x).closing })

pub variable_is : (x : Var) → variable_fold x ≡ variable_view x
unfolding constructor_invocation_view declaration_view member_view view for_initializer_view label_fold statement_view block_fold catch_fold group_fold variable_fold
variable_is x = fold_out-Var ConstructorInvocation Declaration tree.Member Expression ForInitializer LabelPart Statement BlockPart CatchPart GroupPart VariablePart (constructor_invocation_layer same) (declaration_layer same) (member_layer same) (layer same) (for_initializer_layer same) (label_layer (λ e. e)) (statement_layer same) (block_layer same) (catch_layer same) (group_layer same) (variable_layer same) x
    ∙ (λ i. record { name = (out-Var x).name; dims = (out-Var x).dims; init = maybe_expression (init_gone (out-Var x).init i) })

label_layered : (f : node.Label-F ConstructorCall Decl Member Expr ForInit Label Stmt Block Catch Group Var) → label_layer (λ e. e) (map-Label ConstructorCall Decl Member Expr ForInit Label Stmt Block Catch Group Var ConstructorInvocation Declaration tree.Member Expression ForInitializer LabelPart Statement BlockPart CatchPart GroupPart VariablePart constructor_invocation_view declaration_view member_view view for_initializer_view label_fold statement_view block_fold catch_fold group_fold variable_fold f) ≡ label_layer view f
label_layered (node.Case e) = refl
label_layered (node.Default s) = refl

pub label_is : (x : Label) → label_fold x ≡ label_view x
unfolding constructor_invocation_view declaration_view member_view view for_initializer_view label_fold statement_view block_fold catch_fold group_fold variable_fold
label_is x = fold_out-Label ConstructorInvocation Declaration tree.Member Expression ForInitializer LabelPart Statement BlockPart CatchPart GroupPart VariablePart (constructor_invocation_layer same) (declaration_layer same) (member_layer same) (layer same) (for_initializer_layer same) (label_layer (λ e. e)) (statement_layer same) (block_layer same) (catch_layer same) (group_layer same) (variable_layer same) x ∙ label_layered (out-Label x)

pub group_is : (x : Group) → group_fold x ≡ group_view x
unfolding constructor_invocation_view declaration_view member_view view for_initializer_view label_fold statement_view block_fold catch_fold group_fold variable_fold
group_is x = fold_out-Group ConstructorInvocation Declaration tree.Member Expression ForInitializer LabelPart Statement BlockPart CatchPart GroupPart VariablePart (constructor_invocation_layer same) (declaration_layer same) (member_layer same) (layer same) (for_initializer_layer same) (label_layer (λ e. e)) (statement_layer same) (block_layer same) (catch_layer same) (group_layer same) (variable_layer same) x
    ∙ (λ i. record { labels = labels (went label_fold label_view label_is (out-Group x).labels.items i); stmts = statements (gone statement_view (out-Group x).stmts.items i) })

pub catch_is : (x : Catch) → catch_fold x ≡ catch_view x
unfolding constructor_invocation_view declaration_view member_view view for_initializer_view label_fold statement_view block_fold catch_fold group_fold variable_fold
catch_is x = fold_out-Catch ConstructorInvocation Declaration tree.Member Expression ForInitializer LabelPart Statement BlockPart CatchPart GroupPart VariablePart (constructor_invocation_layer same) (declaration_layer same) (member_layer same) (layer same) (for_initializer_layer same) (label_layer (λ e. e)) (statement_layer same) (block_layer same) (catch_layer same) (group_layer same) (variable_layer same) x
    ∙ (λ i. record { is_final = (out-Catch x).is_final; class = name_view (out-Catch x).class; name = (out-Catch x).name; block = block_is (out-Catch x).block i })

block_gone : (x : Option Block) → option_map (λ x. x) (shape.former-Member-Method-5.map Block BlockPart block_fold x) ≡ option_map block_view x
block_gone None = refl
block_gone (Some b) = ap Some (block_is b)

layered : (f : node.Expr-F ConstructorCall Decl Member Expr ForInit Label Stmt Block Catch Group Var) → layer same (map-Expr ConstructorCall Decl Member Expr ForInit Label Stmt Block Catch Group Var ConstructorInvocation Declaration tree.Member Expression ForInitializer LabelPart Statement BlockPart CatchPart GroupPart VariablePart constructor_invocation_view declaration_view member_view view for_initializer_view label_fold statement_view block_fold catch_fold group_fold variable_fold f) ≡ layer by_views f
layered (node.Literal l s) = refl
layered (node.Name n) = refl
layered (node.This s) = refl
layered (node.OuterThis n t s) = refl
layered (node.Parens e s) = refl
layered (node.Select e n s) = refl
layered (node.SuperSelect w n s) = refl
layered (node.Call n es s) = λ i. tree.call n (expressions (gone view es.items i)) s
layered (node.CallOn e n es s) = λ i. tree.call_on (view e.value) n (expressions (gone view es.items i)) s
layered (node.SuperCall w n es s) = λ i. tree.super_call w n (expressions (gone view es.items i)) s
layered (node.Index a x s) = refl
layered (node.New w t es s) = λ i. tree.new_object w (type_view t) (expressions (gone view es.items i)) s
layered (node.NewAnonymous w t es ms s) = λ i. tree.new_anonymous w (type_view t) (expressions (gone view es.items i)) (members (gone member_view ms.items i)) s
layered (node.NewArray t es dims s) = λ i. tree.new_array (type_view t) (expressions (gone view es.items i)) dims s
layered (node.NewArrayOf t dims e s) = refl
layered (node.ArrayInit es s) = λ i. tree.array_init (expressions (gone view es.items i)) s
layered (node.Cast t e s) = refl
layered (node.Prefix op a e s) = refl
layered (node.Postfix op a e s) = refl
layered (node.Binary op a l r s) = refl
layered (node.InstanceOf a e t s) = refl
layered (node.Conditional a c x y s) = refl
layered (node.Assign op a l r s) = refl

statement_layered : (f : node.Stmt-F ConstructorCall Decl Member Expr ForInit Label Stmt Block Catch Group Var) → statement_layer same (map-Stmt ConstructorCall Decl Member Expr ForInit Label Stmt Block Catch Group Var ConstructorInvocation Declaration tree.Member Expression ForInitializer LabelPart Statement BlockPart CatchPart GroupPart VariablePart constructor_invocation_view declaration_view member_view view for_initializer_view label_fold statement_view block_fold catch_fold group_fold variable_fold f) ≡ statement_layer by_views f
statement_layered (node.Block b) = λ i. tree.block (block_is b i).opening (block_is b i).stmts (block_is b i).closing
statement_layered (node.Local f m t vs s) = λ i. tree.local f m (type_view t) (variables (went variable_fold variable_view variable_is vs.items i)) s
statement_layered (node.«Stmt::Class» d) = refl
statement_layered (node.Empty s) = refl
statement_layered (node.Labelled n b s) = refl
statement_layered (node.If f c x s) = refl
statement_layered (node.IfElse f c x y s) = refl
statement_layered (node.While f c b s) = refl
statement_layered (node.Do f b c s) = refl
statement_layered (node.For f h c es b s) = λ i. tree.for f (for_initializer_view h) (maybe_expression (init_gone c i)) (expressions (gone view es.items i)) (statement_view b.value) s
statement_layered (node.ForEach f m t n e b s) = refl
statement_layered (node.Switch f e gs s) = λ i. tree.switch f (view e) (groups (went group_fold group_view group_is gs.items i)) s
statement_layered (node.Break f n s) = refl
statement_layered (node.Continue f n s) = refl
statement_layered (node.Return f e s) = λ i. tree.return f (maybe_expression (init_gone e i)) s
statement_layered (node.Throw f e s) = refl
statement_layered (node.Try f b cs s) = λ i. tree.try f (block_is b i).opening (block_is b i).stmts (block_is b i).closing (catches (went catch_fold catch_view catch_is cs.items i)) s
statement_layered (node.TryFinally f b cs w l s) = λ i. tree.try_finally f (block_is b i).opening (block_is b i).stmts (block_is b i).closing (catches (went catch_fold catch_view catch_is cs.items i)) w (block_is l i).opening (block_is l i).stmts (block_is l i).closing s
statement_layered (node.ExpressionStatement f e s) = refl

for_initializer_layered : (f : node.ForInit-F ConstructorCall Decl Member Expr ForInit Label Stmt Block Catch Group Var) → for_initializer_layer same (map-ForInit ConstructorCall Decl Member Expr ForInit Label Stmt Block Catch Group Var ConstructorInvocation Declaration tree.Member Expression ForInitializer LabelPart Statement BlockPart CatchPart GroupPart VariablePart constructor_invocation_view declaration_view member_view view for_initializer_view label_fold statement_view block_fold catch_fold group_fold variable_fold f) ≡ for_initializer_layer by_views f
for_initializer_layered (node.Locals m t vs) = λ i. tree.locals m (type_view t) (variables (went variable_fold variable_view variable_is vs.items i))
for_initializer_layered (node.Steps es) = λ i. tree.steps (expressions (gone view es.items i))

member_layered : (f : node.Member-F ConstructorCall Decl Member Expr ForInit Label Stmt Block Catch Group Var) → member_layer same (map-Member ConstructorCall Decl Member Expr ForInit Label Stmt Block Catch Group Var ConstructorInvocation Declaration tree.Member Expression ForInitializer LabelPart Statement BlockPart CatchPart GroupPart VariablePart constructor_invocation_view declaration_view member_view view for_initializer_view label_fold statement_view block_fold catch_fold group_fold variable_fold f) ≡ member_layer by_views f
member_layered (node.«Type» d) = refl
member_layered (node.Field ms t vs s) = λ i. tree.field ms.items (type_view t) (variables (went variable_fold variable_view variable_is vs.items i)) s
member_layered (node.Method ms t n fs ts b s) = λ i. tree.method ms.items (type_view_of_option t) n (map formal_view fs.items) (map name_view ts.items) (maybe_block (block_gone b i)) s
member_layered (node.Constructor ms n fs ts f b s) = λ i. tree.constructor ms.items n (map formal_view fs.items) (map name_view ts.items) (constructor_invocation_view f) (block_is b i).opening (block_is b i).stmts (block_is b i).closing s
member_layered (node.Initializer m b s) = λ i. tree.initializer m (block_is b i).opening (block_is b i).stmts (block_is b i).closing s

constructor_invocation_layered : (f : node.ConstructorCall-F ConstructorCall Decl Member Expr ForInit Label Stmt Block Catch Group Var) → constructor_invocation_layer same (map-ConstructorCall ConstructorCall Decl Member Expr ForInit Label Stmt Block Catch Group Var ConstructorInvocation Declaration tree.Member Expression ForInitializer LabelPart Statement BlockPart CatchPart GroupPart VariablePart constructor_invocation_view declaration_view member_view view for_initializer_view label_fold statement_view block_fold catch_fold group_fold variable_fold f) ≡ constructor_invocation_layer by_views f
constructor_invocation_layered node.Implicit = refl
constructor_invocation_layered (node.Explicit m w es) = λ i. tree.explicit m w (expressions (gone view es.items i))

declaration_layered : (f : node.Decl-F ConstructorCall Decl Member Expr ForInit Label Stmt Block Catch Group Var) → declaration_layer same (map-Decl ConstructorCall Decl Member Expr ForInit Label Stmt Block Catch Group Var ConstructorInvocation Declaration tree.Member Expression ForInitializer LabelPart Statement BlockPart CatchPart GroupPart VariablePart constructor_invocation_view declaration_view member_view view for_initializer_view label_fold statement_view block_fold catch_fold group_fold variable_fold f) ≡ declaration_layer by_views f
declaration_layered (node.«Decl::Class» ms n ps e is body s) = λ i. tree.class_declaration ms.items n (map parameter_view ps.items) (type_view_of_option e) (type_views_of is.items) (members (gone member_view body.items i)) s
declaration_layered (node.Interface ms n ps es body s) = λ i. tree.interface_declaration ms.items n (map parameter_view ps.items) (type_views_of es.items) (members (gone member_view body.items i)) s
declaration_layered (node.Enum ms n cs s) = refl

pub view_is : (x : Expr) → view x ≡ node_view x
unfolding constructor_invocation_view declaration_view member_view view for_initializer_view label_fold statement_view block_fold catch_fold group_fold variable_fold
view_is x = fold_out-Expr ConstructorInvocation Declaration tree.Member Expression ForInitializer LabelPart Statement BlockPart CatchPart GroupPart VariablePart (constructor_invocation_layer same) (declaration_layer same) (member_layer same) (layer same) (for_initializer_layer same) (label_layer (λ e. e)) (statement_layer same) (block_layer same) (catch_layer same) (group_layer same) (variable_layer same) x ∙ layered (out-Expr x)

pub statement_is : (x : Stmt) → statement_view x ≡ statement_node_view x
unfolding constructor_invocation_view declaration_view member_view view for_initializer_view label_fold statement_view block_fold catch_fold group_fold variable_fold
statement_is x = fold_out-Stmt ConstructorInvocation Declaration tree.Member Expression ForInitializer LabelPart Statement BlockPart CatchPart GroupPart VariablePart (constructor_invocation_layer same) (declaration_layer same) (member_layer same) (layer same) (for_initializer_layer same) (label_layer (λ e. e)) (statement_layer same) (block_layer same) (catch_layer same) (group_layer same) (variable_layer same) x ∙ statement_layered (out-Stmt x)

pub for_initializer_is : (x : ForInit) → for_initializer_view x ≡ for_initializer_node_view x
unfolding constructor_invocation_view declaration_view member_view view for_initializer_view label_fold statement_view block_fold catch_fold group_fold variable_fold
for_initializer_is x = fold_out-ForInit ConstructorInvocation Declaration tree.Member Expression ForInitializer LabelPart Statement BlockPart CatchPart GroupPart VariablePart (constructor_invocation_layer same) (declaration_layer same) (member_layer same) (layer same) (for_initializer_layer same) (label_layer (λ e. e)) (statement_layer same) (block_layer same) (catch_layer same) (group_layer same) (variable_layer same) x ∙ for_initializer_layered (out-ForInit x)

pub member_is : (x : Member) → member_view x ≡ member_node_view x
unfolding constructor_invocation_view declaration_view member_view view for_initializer_view label_fold statement_view block_fold catch_fold group_fold variable_fold
member_is x = fold_out-Member ConstructorInvocation Declaration tree.Member Expression ForInitializer LabelPart Statement BlockPart CatchPart GroupPart VariablePart (constructor_invocation_layer same) (declaration_layer same) (member_layer same) (layer same) (for_initializer_layer same) (label_layer (λ e. e)) (statement_layer same) (block_layer same) (catch_layer same) (group_layer same) (variable_layer same) x ∙ member_layered (out-Member x)

pub constructor_invocation_is : (x : ConstructorCall) → constructor_invocation_view x ≡ constructor_invocation_node_view x
unfolding constructor_invocation_view declaration_view member_view view for_initializer_view label_fold statement_view block_fold catch_fold group_fold variable_fold
constructor_invocation_is x = fold_out-ConstructorCall ConstructorInvocation Declaration tree.Member Expression ForInitializer LabelPart Statement BlockPart CatchPart GroupPart VariablePart (constructor_invocation_layer same) (declaration_layer same) (member_layer same) (layer same) (for_initializer_layer same) (label_layer (λ e. e)) (statement_layer same) (block_layer same) (catch_layer same) (group_layer same) (variable_layer same) x ∙ constructor_invocation_layered (out-ConstructorCall x)

pub declaration_is : (x : Decl) → declaration_view x ≡ declaration_node_view x
unfolding constructor_invocation_view declaration_view member_view view for_initializer_view label_fold statement_view block_fold catch_fold group_fold variable_fold
declaration_is x = fold_out-Decl ConstructorInvocation Declaration tree.Member Expression ForInitializer LabelPart Statement BlockPart CatchPart GroupPart VariablePart (constructor_invocation_layer same) (declaration_layer same) (member_layer same) (layer same) (for_initializer_layer same) (label_layer (λ e. e)) (statement_layer same) (block_layer same) (catch_layer same) (group_layer same) (variable_layer same) x ∙ declaration_layered (out-Decl x)
