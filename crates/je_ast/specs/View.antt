-- What contracts see of the trees in memory.
use Rattle.std.specs.Prelude.{List, map, Option, option_map}
use Rattle.je_ast.specs.declared.decl.ConstructorCall.TheOpen as node
use Rattle.je_ast.specs.declared.decl.ConstructorCall.{ConstructorCall, fold-ConstructorCall, out-ConstructorCall}
use Rattle.je_ast.specs.declared.decl.Decl.{Decl, fold-Decl, out-Decl}
use Rattle.je_ast.specs.declared.decl.Member as in_member
use Rattle.je_ast.specs.declared.expr.Expr.{Expr, fold-Expr, out-Expr}
use Rattle.je_ast.specs.declared.stmt.ForInit.{ForInit, fold-ForInit, out-ForInit}
use Rattle.je_ast.specs.declared.stmt.Label.{Label, out-Label}
use Rattle.je_ast.specs.declared.stmt.Stmt.{Stmt, fold-Stmt, out-Stmt}
use Rattle.je_ast.specs.declared.stmt.Block.{Block}
use Rattle.je_ast.specs.declared.stmt.Catch.{Catch}
use Rattle.je_ast.specs.declared.stmt.Group.{Group}
use Rattle.je_ast.specs.declared.stmt.Var.{Var}
use Rattle.je_ast.specs.declared.decl.Unit.{Unit}
use Rattle.je_ast.specs.Types.{name_view, type_view, type_views_of, type_view_of_option, parameter_view, formal_view}
use Rattle.je_ast.specs.Trees.{Expression, Expressions, MaybeExpression, Statement, Statements, ForInitializer, Variables, Groups, Labels, Catches, Member, Members, MaybeBlock, ConstructorInvocation, Declaration, CompilationUnit}
use Rattle.je_ast.specs.Trees as tree
use Rattle.je_ast.specs.Parts.{BlockPart, VariablePart, LabelPart, case_part, default_part, GroupPart, CatchPart, expressions, maybe_expression, statements, variables, labels, groups, catches, members, maybe_block}

-- how the parts of a layer are seen
pub record PartViews (C D M E F L S B K G V : Type 0) : Type 0 where
  pub constructor_invocation : C → ConstructorInvocation
  pub declaration : D → Declaration
  pub member : M → Member
  pub expression : E → Expression
  pub for_initializer : F → ForInitializer
  pub label : L → LabelPart
  pub statement : S → Statement
  pub block : B → BlockPart
  pub catch : K → CatchPart
  pub group : G → GroupPart
  pub variable : V → VariablePart

-- one layer of each type
abbrev pub layer : {C D M E F L S B K G V : Type 0} → PartViews C D M E F L S B K G V → node.Expr-F C D M E F L S B K G V → Expression
layer see (node.Literal l s) = tree.literal l s
layer see (node.Name n) = tree.name n
layer see (node.This s) = tree.this s
layer see (node.OuterThis n t s) = tree.outer_this (name_view n) t s
layer see (node.Parens e s) = tree.parens (see.expression e.value) s
layer see (node.Select e n s) = tree.select (see.expression e.value) n s
layer see (node.SuperSelect w n s) = tree.super_select w n s
layer see (node.Call n es s) = tree.call n (expressions (map see.expression es.items)) s
layer see (node.CallOn e n es s) = tree.call_on (see.expression e.value) n (expressions (map see.expression es.items)) s
layer see (node.SuperCall w n es s) = tree.super_call w n (expressions (map see.expression es.items)) s
layer see (node.Index a i s) = tree.index (see.expression a.value) (see.expression i.value) s
layer see (node.New w t es s) = tree.new_object w (type_view t) (expressions (map see.expression es.items)) s
layer see (node.NewAnonymous w t es ms s) = tree.new_anonymous w (type_view t) (expressions (map see.expression es.items)) (members (map see.member ms.items)) s
layer see (node.NewArray t es dims s) = tree.new_array (type_view t) (expressions (map see.expression es.items)) dims s
layer see (node.NewArrayOf t dims e s) = tree.new_array_of (type_view t) dims (see.expression e.value) s
layer see (node.ArrayInit es s) = tree.array_init (expressions (map see.expression es.items)) s
layer see (node.Cast t e s) = tree.cast (type_view t) (see.expression e.value) s
layer see (node.Prefix op a e s) = tree.prefix op a (see.expression e.value) s
layer see (node.Postfix op a e s) = tree.postfix op a (see.expression e.value) s
layer see (node.Binary op a l r s) = tree.binary op a (see.expression l.value) (see.expression r.value) s
layer see (node.InstanceOf a e t s) = tree.instance_of a (see.expression e.value) (type_view t) s
layer see (node.Conditional a c x y s) = tree.conditional a (see.expression c.value) (see.expression x.value) (see.expression y.value) s
layer see (node.Assign op a l r s) = tree.assign op a (see.expression l.value) (see.expression r.value) s

abbrev pub statement_layer : {C D M E F L S B K G V : Type 0} → PartViews C D M E F L S B K G V → node.Stmt-F C D M E F L S B K G V → Statement
statement_layer see (node.Block b) = tree.block (see.block b).opening (see.block b).stmts (see.block b).closing
statement_layer see (node.Local f m t vs s) = tree.local f m (type_view t) (variables (map see.variable vs.items)) s
statement_layer see (node.«Stmt::Class» d) = tree.local_class (see.declaration d)
statement_layer see (node.Empty s) = tree.empty s
statement_layer see (node.Labelled n b s) = tree.labelled n (see.statement b.value) s
statement_layer see (node.If f c x s) = tree.if_only f (see.expression c) (see.statement x.value) s
statement_layer see (node.IfElse f c x y s) = tree.if_else f (see.expression c) (see.statement x.value) (see.statement y.value) s
statement_layer see (node.While f c b s) = tree.while f (see.expression c) (see.statement b.value) s
statement_layer see (node.Do f b c s) = tree.do_while f (see.statement b.value) (see.expression c) s
statement_layer see (node.For f i c es b s) = tree.for f (see.for_initializer i) (maybe_expression (option_map see.expression c)) (expressions (map see.expression es.items)) (see.statement b.value) s
statement_layer see (node.ForEach f m t n e b s) = tree.for_each f m (type_view t) n (see.expression e) (see.statement b.value) s
statement_layer see (node.Switch f e gs s) = tree.switch f (see.expression e) (groups (map see.group gs.items)) s
statement_layer see (node.Break f n s) = tree.break f n s
statement_layer see (node.Continue f n s) = tree.continue f n s
statement_layer see (node.Return f e s) = tree.return f (maybe_expression (option_map see.expression e)) s
statement_layer see (node.Throw f e s) = tree.throw f (see.expression e) s
statement_layer see (node.Try f b cs s) = tree.try f (see.block b).opening (see.block b).stmts (see.block b).closing (catches (map see.catch cs.items)) s
statement_layer see (node.TryFinally f b cs w l s) = tree.try_finally f (see.block b).opening (see.block b).stmts (see.block b).closing (catches (map see.catch cs.items)) w (see.block l).opening (see.block l).stmts (see.block l).closing s
statement_layer see (node.ExpressionStatement f e s) = tree.expression_statement f (see.expression e) s

abbrev pub for_initializer_layer : {C D M E F L S B K G V : Type 0} → PartViews C D M E F L S B K G V → node.ForInit-F C D M E F L S B K G V → ForInitializer
for_initializer_layer see (node.Locals m t vs) = tree.locals m (type_view t) (variables (map see.variable vs.items))
for_initializer_layer see (node.Steps es) = tree.steps (expressions (map see.expression es.items))

abbrev pub label_layer : {C D M E F L S B K G V : Type 0} → (E → Expression) → node.Label-F C D M E F L S B K G V → LabelPart
label_layer see (node.Case e) = case_part (see e)
label_layer see (node.Default s) = default_part s

abbrev pub block_layer : {C D M E F L S B K G V : Type 0} → PartViews C D M E F L S B K G V → node.Block-F C D M E F L S B K G V → BlockPart
block_layer see b = record { opening = b.opening; stmts = statements (map see.statement b.stmts.items); closing = b.closing }

abbrev pub variable_layer : {C D M E F L S B K G V : Type 0} → PartViews C D M E F L S B K G V → node.Var-F C D M E F L S B K G V → VariablePart
variable_layer see v = record { name = v.name; dims = v.dims; init = maybe_expression (option_map see.expression v.init) }

abbrev pub group_layer : {C D M E F L S B K G V : Type 0} → PartViews C D M E F L S B K G V → node.Group-F C D M E F L S B K G V → GroupPart
group_layer see g = record { labels = labels (map see.label g.labels.items); stmts = statements (map see.statement g.stmts.items) }

abbrev pub catch_layer : {C D M E F L S B K G V : Type 0} → PartViews C D M E F L S B K G V → node.Catch-F C D M E F L S B K G V → CatchPart
catch_layer see c = record { is_final = c.is_final; class = name_view c.class; name = c.name; block = see.block c.block }

abbrev pub member_layer : {C D M E F L S B K G V : Type 0} → PartViews C D M E F L S B K G V → node.Member-F C D M E F L S B K G V → Member
member_layer see (node.«Type» d) = tree.member_type (see.declaration d)
member_layer see (node.Field ms t vs s) = tree.field ms.items (type_view t) (variables (map see.variable vs.items)) s
member_layer see (node.Method ms t n fs ts b s) = tree.method ms.items (type_view_of_option t) n (map formal_view fs.items) (map name_view ts.items) (maybe_block (option_map see.block b)) s
member_layer see (node.Constructor ms n fs ts f b s) = tree.constructor ms.items n (map formal_view fs.items) (map name_view ts.items) (see.constructor_invocation f) (see.block b).opening (see.block b).stmts (see.block b).closing s
member_layer see (node.Initializer m b s) = tree.initializer m (see.block b).opening (see.block b).stmts (see.block b).closing s

abbrev pub constructor_invocation_layer : {C D M E F L S B K G V : Type 0} → PartViews C D M E F L S B K G V → node.ConstructorCall-F C D M E F L S B K G V → ConstructorInvocation
constructor_invocation_layer see node.Implicit = tree.implicit
constructor_invocation_layer see (node.Explicit m w es) = tree.explicit m w (expressions (map see.expression es.items))

abbrev pub declaration_layer : {C D M E F L S B K G V : Type 0} → PartViews C D M E F L S B K G V → node.Decl-F C D M E F L S B K G V → Declaration
declaration_layer see (node.«Decl::Class» ms n ps e is body s) = tree.class_declaration ms.items n (map parameter_view ps.items) (type_view_of_option e) (type_views_of is.items) (members (map see.member body.items)) s
declaration_layer see (node.Interface ms n ps es body s) = tree.interface_declaration ms.items n (map parameter_view ps.items) (type_views_of es.items) (members (map see.member body.items)) s
declaration_layer see (node.Enum ms n cs s) = tree.enum_declaration ms.items n cs.items s

abbrev pub same : PartViews ConstructorInvocation Declaration Member Expression ForInitializer LabelPart Statement BlockPart CatchPart GroupPart VariablePart
same = record { constructor_invocation = λ x. x; declaration = λ x. x; member = λ x. x; expression = λ x. x; for_initializer = λ x. x; label = λ x. x; statement = λ x. x; block = λ x. x; catch = λ x. x; group = λ x. x; variable = λ x. x }

unfoldable pub view : Expr → Expression
view x = fold-Expr ConstructorInvocation Declaration Member Expression ForInitializer LabelPart Statement BlockPart CatchPart GroupPart VariablePart (constructor_invocation_layer same) (declaration_layer same) (member_layer same) (layer same) (for_initializer_layer same) (label_layer (λ e. e)) (statement_layer same) (block_layer same) (catch_layer same) (group_layer same) (variable_layer same) x

unfoldable pub statement_view : Stmt → Statement
statement_view x = fold-Stmt ConstructorInvocation Declaration Member Expression ForInitializer LabelPart Statement BlockPart CatchPart GroupPart VariablePart (constructor_invocation_layer same) (declaration_layer same) (member_layer same) (layer same) (for_initializer_layer same) (label_layer (λ e. e)) (statement_layer same) (block_layer same) (catch_layer same) (group_layer same) (variable_layer same) x

unfoldable pub for_initializer_view : ForInit → ForInitializer
for_initializer_view x = fold-ForInit ConstructorInvocation Declaration Member Expression ForInitializer LabelPart Statement BlockPart CatchPart GroupPart VariablePart (constructor_invocation_layer same) (declaration_layer same) (member_layer same) (layer same) (for_initializer_layer same) (label_layer (λ e. e)) (statement_layer same) (block_layer same) (catch_layer same) (group_layer same) (variable_layer same) x

unfoldable pub member_view : in_member.Member → Member
member_view x = in_member.fold-Member ConstructorInvocation Declaration Member Expression ForInitializer LabelPart Statement BlockPart CatchPart GroupPart VariablePart (constructor_invocation_layer same) (declaration_layer same) (member_layer same) (layer same) (for_initializer_layer same) (label_layer (λ e. e)) (statement_layer same) (block_layer same) (catch_layer same) (group_layer same) (variable_layer same) x

unfoldable pub constructor_invocation_view : ConstructorCall → ConstructorInvocation
constructor_invocation_view x = fold-ConstructorCall ConstructorInvocation Declaration Member Expression ForInitializer LabelPart Statement BlockPart CatchPart GroupPart VariablePart (constructor_invocation_layer same) (declaration_layer same) (member_layer same) (layer same) (for_initializer_layer same) (label_layer (λ e. e)) (statement_layer same) (block_layer same) (catch_layer same) (group_layer same) (variable_layer same) x

unfoldable pub declaration_view : Decl → Declaration
declaration_view x = fold-Decl ConstructorInvocation Declaration Member Expression ForInitializer LabelPart Statement BlockPart CatchPart GroupPart VariablePart (constructor_invocation_layer same) (declaration_layer same) (member_layer same) (layer same) (for_initializer_layer same) (label_layer (λ e. e)) (statement_layer same) (block_layer same) (catch_layer same) (group_layer same) (variable_layer same) x

-- the same, one layer opened. Blocks, variables, labels, groups and catches are always seen open
abbrev pub block_view : Block → BlockPart
block_view b = record { opening = b.opening; stmts = statements (map statement_view b.stmts.items); closing = b.closing }

abbrev pub variable_view : Var → VariablePart
variable_view v = record { name = v.name; dims = v.dims; init = maybe_expression (option_map view v.init) }

abbrev pub label_view : Label → LabelPart
label_view l = label_layer view (out-Label l)

abbrev pub group_view : Group → GroupPart
group_view g = record { labels = labels (map label_view g.labels.items); stmts = statements (map statement_view g.stmts.items) }

abbrev pub catch_view : Catch → CatchPart
catch_view c = record { is_final = c.is_final; class = name_view c.class; name = c.name; block = block_view c.block }

abbrev pub by_views : PartViews ConstructorCall Decl in_member.Member Expr ForInit Label Stmt Block Catch Group Var
by_views = record { constructor_invocation = constructor_invocation_view; declaration = declaration_view; member = member_view; expression = view; for_initializer = for_initializer_view; label = label_view; statement = statement_view; block = block_view; catch = catch_view; group = group_view; variable = variable_view }

abbrev pub node_view : Expr → Expression
node_view e = layer by_views (out-Expr e)

abbrev pub statement_node_view : Stmt → Statement
statement_node_view b = statement_layer by_views (out-Stmt b)

abbrev pub for_initializer_node_view : ForInit → ForInitializer
for_initializer_node_view i = for_initializer_layer by_views (out-ForInit i)

abbrev pub member_node_view : in_member.Member → Member
member_node_view m = member_layer by_views (in_member.out-Member m)

abbrev pub constructor_invocation_node_view : ConstructorCall → ConstructorInvocation
constructor_invocation_node_view f = constructor_invocation_layer by_views (out-ConstructorCall f)

abbrev pub declaration_node_view : Decl → Declaration
declaration_node_view d = declaration_layer by_views (out-Decl d)

-- lists in memory
abbrev pub views_of : List Expr → Expressions
views_of es = expressions (map view es)

abbrev pub view_of_option : Option Expr → MaybeExpression
view_of_option e = maybe_expression (option_map view e)

abbrev pub statement_views_of : List Stmt → Statements
statement_views_of bs = statements (map statement_view bs)

abbrev pub variable_views_of : List Var → Variables
variable_views_of vs = variables (map variable_view vs)

abbrev pub label_views_of : List Label → Labels
label_views_of ls = labels (map label_view ls)

abbrev pub group_views_of : List Group → Groups
group_views_of gs = groups (map group_view gs)

abbrev pub catch_views_of : List Catch → Catches
catch_views_of cs = catches (map catch_view cs)

abbrev pub member_views_of : List in_member.Member → Members
member_views_of ms = members (map member_view ms)

abbrev pub block_view_of_option : Option Block → MaybeBlock
block_view_of_option b = maybe_block (option_map block_view b)

abbrev pub unit_view : Unit → CompilationUnit
unit_view u = record { imports = map name_view u.imports.items; declarations = map declaration_view u.decls.items }
