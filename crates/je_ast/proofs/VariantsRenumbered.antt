-- A variant in memory is renumbered where its parts are. A list or block in it keeps its place in memory.
use Rattle.std.proofs.Common.{◌≡◌, ℕ, Bool, List, Option, map, option_map, length, Vec, Box, Global}
use Rattle.std.proofs.lemmas.List.{with_items_is}
use Rattle.std.specs.Vec.{with_items}
use Rattle.je_base.specs.declared.span.NameId.{NameId}
use Rattle.je_base.specs.declared.span.Span.{Span}
use Rattle.je_ast.specs.declared.name.Identifier.{Identifier}
use Rattle.je_ast.specs.declared.name.Name.{Name}
use Rattle.je_ast.specs.declared.operator.BinaryOp.{BinaryOp}
use Rattle.je_ast.specs.declared.operator.PrefixOp.{PrefixOp}
use Rattle.je_ast.specs.declared.operator.PostfixOp.{PostfixOp}
use Rattle.je_ast.specs.declared.ty_name.TyName
use Rattle.je_ast.specs.declared.ty_name.TyName.{TyName}
use Rattle.je_ast.specs.declared.expr.Literal.{Literal}
use Rattle.je_ast.specs.declared.expr.Expr
use Rattle.je_ast.specs.declared.expr.Expr.{Expr}
use Rattle.je_ast.specs.declared.stmt.Stmt
use Rattle.je_ast.specs.declared.stmt.Stmt.{Stmt}
use Rattle.je_ast.specs.declared.stmt.ForInit
use Rattle.je_ast.specs.declared.stmt.ForInit.{ForInit}
use Rattle.je_ast.specs.declared.stmt.Var.{Var}
use Rattle.je_ast.specs.declared.stmt.Group.{Group}
use Rattle.je_ast.specs.declared.stmt.Catch.{Catch}
use Rattle.je_ast.specs.declared.stmt.Block.{Block}
use Rattle.je_ast.specs.declared.decl.Member as MemberNode
use Rattle.je_ast.specs.declared.decl.Decl
use Rattle.je_ast.specs.declared.decl.Decl.{Decl}
use Rattle.je_ast.specs.declared.decl.ConstructorCall
use Rattle.je_ast.specs.declared.decl.ConstructorCall.{ConstructorCall}
use Rattle.je_ast.specs.declared.decl.Modifier.{Modifier}
use Rattle.je_ast.specs.declared.decl.TypeParam.{TypeParam}
use Rattle.je_ast.specs.declared.decl.Formal.{Formal}
use Rattle.je_ast.specs.Types.{type_view, name_view, type_views_of, type_view_of_option, parameter_view, formal_view}
use Rattle.je_ast.specs.View.{view, statement_view, for_initializer_view, member_view, constructor_invocation_view, declaration_view, views_of, view_of_option, statement_views_of, variable_views_of, group_views_of, catch_views_of, member_views_of, block_view_of_option}
use Rattle.je_ast.specs.Renumbering.{renumbered_identifier, renumbered_name, renumbered_type, renumbered_types, renumbered_parameter, renumbered_formal, renumbered_expression, renumbered_expressions, renumbered_expression_if, renumbered_statement, renumbered_statements, renumbered_for_initializer, renumbered_variables, renumbered_groups, renumbered_catches, renumbered_member, renumbered_members, renumbered_block_if, renumbered_constructor_invocation, renumbered_declaration}
use Rattle.je_ast.specs.declared.ty_name.TyName.TheVariants as ty
use Rattle.je_ast.specs.declared.expr.Expr.TheVariants as expr
use Rattle.je_ast.specs.declared.stmt.Stmt.TheVariants as stmt
use Rattle.je_ast.specs.declared.stmt.ForInit.TheVariants as for_init
use Rattle.je_ast.specs.declared.decl.Member.TheVariants as member
use Rattle.je_ast.specs.declared.decl.Decl.TheVariants as decl
use Rattle.je_ast.specs.declared.decl.ConstructorCall.TheVariants as call
use Rattle.je_ast.proofs.Views.{type_is, view_is, statement_is, for_initializer_is, constructor_invocation_is, member_is, declaration_is}

pub renumbered_type-Class : (to : List NameId) (n n' : Name) (args : Vec TyName Global) (args' : List TyName) (dims : ℕ) (s : Span) →
    name_view n' ≡ renumbered_name to (name_view n) → length args' ≡ args.len → type_views_of args' ≡ renumbered_types to (type_views_of args.items) →
    type_view (TyName.Class n' (with_items args args') dims s) ≡ renumbered_type to (type_view (TyName.Class n args dims s))
renumbered_type-Class to n n' args args' dims s qn kargs qargs = rw (type_is (TyName.Class n' (with_items args args') dims s), ty.outs-Class n' (with_items args args') dims s, type_is (TyName.Class n args dims s), ty.outs-Class n args dims s, qn, with_items_is args args' kargs, qargs)

pub renumbered_expression-Name : (to : List NameId) (n n' : Identifier) →
    n' ≡ renumbered_identifier to n →
    view (Expr.Name n') ≡ renumbered_expression to (view (Expr.Name n))
renumbered_expression-Name to n n' qn = rw (view_is (Expr.Name n'), expr.outs-Name n', view_is (Expr.Name n), expr.outs-Name n, qn)

pub renumbered_expression-OuterThis : (to : List NameId) (n n' : Name) (t s : Span) →
    name_view n' ≡ renumbered_name to (name_view n) →
    view (Expr.OuterThis n' t s) ≡ renumbered_expression to (view (Expr.OuterThis n t s))
renumbered_expression-OuterThis to n n' t s qn = rw (view_is (Expr.OuterThis n' t s), expr.outs-OuterThis n' t s, view_is (Expr.OuterThis n t s), expr.outs-OuterThis n t s, qn)

pub renumbered_expression-Parens : (to : List NameId) (e : Box Expr Global) (e' : Expr) (s : Span) →
    view e' ≡ renumbered_expression to (view e.value) →
    view (Expr.Parens (record { ptr = e.ptr; alloc = e.alloc; value = e' }) s) ≡ renumbered_expression to (view (Expr.Parens e s))
renumbered_expression-Parens to e e' s qe = rw (view_is (Expr.Parens (record { ptr = e.ptr; alloc = e.alloc; value = e' }) s), expr.outs-Parens (record { ptr = e.ptr; alloc = e.alloc; value = e' }) s, view_is (Expr.Parens e s), expr.outs-Parens e s, qe)

pub renumbered_expression-Select : (to : List NameId) (e : Box Expr Global) (e' : Expr) (n n' : Identifier) (s : Span) →
    view e' ≡ renumbered_expression to (view e.value) → n' ≡ renumbered_identifier to n →
    view (Expr.Select (record { ptr = e.ptr; alloc = e.alloc; value = e' }) n' s) ≡ renumbered_expression to (view (Expr.Select e n s))
renumbered_expression-Select to e e' n n' s qe qn = rw (view_is (Expr.Select (record { ptr = e.ptr; alloc = e.alloc; value = e' }) n' s), expr.outs-Select (record { ptr = e.ptr; alloc = e.alloc; value = e' }) n' s, view_is (Expr.Select e n s), expr.outs-Select e n s, qe, qn)

pub renumbered_expression-SuperSelect : (to : List NameId) (w : Span) (n n' : Identifier) (s : Span) →
    n' ≡ renumbered_identifier to n →
    view (Expr.SuperSelect w n' s) ≡ renumbered_expression to (view (Expr.SuperSelect w n s))
renumbered_expression-SuperSelect to w n n' s qn = rw (view_is (Expr.SuperSelect w n' s), expr.outs-SuperSelect w n' s, view_is (Expr.SuperSelect w n s), expr.outs-SuperSelect w n s, qn)

pub renumbered_expression-Call : (to : List NameId) (n n' : Identifier) (es : Vec Expr Global) (es' : List Expr) (s : Span) →
    n' ≡ renumbered_identifier to n → length es' ≡ es.len → views_of es' ≡ renumbered_expressions to (views_of es.items) →
    view (Expr.Call n' (with_items es es') s) ≡ renumbered_expression to (view (Expr.Call n es s))
renumbered_expression-Call to n n' es es' s qn kes qes = rw (view_is (Expr.Call n' (with_items es es') s), expr.outs-Call n' (with_items es es') s, view_is (Expr.Call n es s), expr.outs-Call n es s, qn, with_items_is es es' kes, qes)

pub renumbered_expression-CallOn : (to : List NameId) (e : Box Expr Global) (e' : Expr) (n n' : Identifier) (es : Vec Expr Global) (es' : List Expr) (s : Span) →
    view e' ≡ renumbered_expression to (view e.value) → n' ≡ renumbered_identifier to n → length es' ≡ es.len → views_of es' ≡ renumbered_expressions to (views_of es.items) →
    view (Expr.CallOn (record { ptr = e.ptr; alloc = e.alloc; value = e' }) n' (with_items es es') s) ≡ renumbered_expression to (view (Expr.CallOn e n es s))
renumbered_expression-CallOn to e e' n n' es es' s qe qn kes qes = rw (view_is (Expr.CallOn (record { ptr = e.ptr; alloc = e.alloc; value = e' }) n' (with_items es es') s), expr.outs-CallOn (record { ptr = e.ptr; alloc = e.alloc; value = e' }) n' (with_items es es') s, view_is (Expr.CallOn e n es s), expr.outs-CallOn e n es s, qe, qn, with_items_is es es' kes, qes)

pub renumbered_expression-SuperCall : (to : List NameId) (w : Span) (n n' : Identifier) (es : Vec Expr Global) (es' : List Expr) (s : Span) →
    n' ≡ renumbered_identifier to n → length es' ≡ es.len → views_of es' ≡ renumbered_expressions to (views_of es.items) →
    view (Expr.SuperCall w n' (with_items es es') s) ≡ renumbered_expression to (view (Expr.SuperCall w n es s))
renumbered_expression-SuperCall to w n n' es es' s qn kes qes = rw (view_is (Expr.SuperCall w n' (with_items es es') s), expr.outs-SuperCall w n' (with_items es es') s, view_is (Expr.SuperCall w n es s), expr.outs-SuperCall w n es s, qn, with_items_is es es' kes, qes)

pub renumbered_expression-Index : (to : List NameId) (a : Box Expr Global) (a' : Expr) (i : Box Expr Global) (i' : Expr) (s : Span) →
    view a' ≡ renumbered_expression to (view a.value) → view i' ≡ renumbered_expression to (view i.value) →
    view (Expr.Index (record { ptr = a.ptr; alloc = a.alloc; value = a' }) (record { ptr = i.ptr; alloc = i.alloc; value = i' }) s) ≡ renumbered_expression to (view (Expr.Index a i s))
renumbered_expression-Index to a a' i i' s qa qi = rw (view_is (Expr.Index (record { ptr = a.ptr; alloc = a.alloc; value = a' }) (record { ptr = i.ptr; alloc = i.alloc; value = i' }) s), expr.outs-Index (record { ptr = a.ptr; alloc = a.alloc; value = a' }) (record { ptr = i.ptr; alloc = i.alloc; value = i' }) s, view_is (Expr.Index a i s), expr.outs-Index a i s, qa, qi)

pub renumbered_expression-New : (to : List NameId) (w : Span) (t t' : TyName) (es : Vec Expr Global) (es' : List Expr) (s : Span) →
    type_view t' ≡ renumbered_type to (type_view t) → length es' ≡ es.len → views_of es' ≡ renumbered_expressions to (views_of es.items) →
    view (Expr.New w t' (with_items es es') s) ≡ renumbered_expression to (view (Expr.New w t es s))
renumbered_expression-New to w t t' es es' s qt kes qes = rw (view_is (Expr.New w t' (with_items es es') s), expr.outs-New w t' (with_items es es') s, view_is (Expr.New w t es s), expr.outs-New w t es s, qt, with_items_is es es' kes, qes)

pub renumbered_expression-NewAnonymous : (to : List NameId) (w : Span) (t t' : TyName) (es : Vec Expr Global) (es' : List Expr) (ms : Vec MemberNode.Member Global) (ms' : List MemberNode.Member) (s : Span) →
    type_view t' ≡ renumbered_type to (type_view t) → length es' ≡ es.len → views_of es' ≡ renumbered_expressions to (views_of es.items) → length ms' ≡ ms.len → member_views_of ms' ≡ renumbered_members to (member_views_of ms.items) →
    view (Expr.NewAnonymous w t' (with_items es es') (with_items ms ms') s) ≡ renumbered_expression to (view (Expr.NewAnonymous w t es ms s))
renumbered_expression-NewAnonymous to w t t' es es' ms ms' s qt kes qes kms qms = rw (view_is (Expr.NewAnonymous w t' (with_items es es') (with_items ms ms') s), expr.outs-NewAnonymous w t' (with_items es es') (with_items ms ms') s, view_is (Expr.NewAnonymous w t es ms s), expr.outs-NewAnonymous w t es ms s, qt, with_items_is es es' kes, qes, with_items_is ms ms' kms, qms)

pub renumbered_expression-NewArray : (to : List NameId) (t t' : TyName) (es : Vec Expr Global) (es' : List Expr) (dims : ℕ) (s : Span) →
    type_view t' ≡ renumbered_type to (type_view t) → length es' ≡ es.len → views_of es' ≡ renumbered_expressions to (views_of es.items) →
    view (Expr.NewArray t' (with_items es es') dims s) ≡ renumbered_expression to (view (Expr.NewArray t es dims s))
renumbered_expression-NewArray to t t' es es' dims s qt kes qes = rw (view_is (Expr.NewArray t' (with_items es es') dims s), expr.outs-NewArray t' (with_items es es') dims s, view_is (Expr.NewArray t es dims s), expr.outs-NewArray t es dims s, qt, with_items_is es es' kes, qes)

pub renumbered_expression-NewArrayOf : (to : List NameId) (t t' : TyName) (dims : ℕ) (e : Box Expr Global) (e' : Expr) (s : Span) →
    type_view t' ≡ renumbered_type to (type_view t) → view e' ≡ renumbered_expression to (view e.value) →
    view (Expr.NewArrayOf t' dims (record { ptr = e.ptr; alloc = e.alloc; value = e' }) s) ≡ renumbered_expression to (view (Expr.NewArrayOf t dims e s))
renumbered_expression-NewArrayOf to t t' dims e e' s qt qe = rw (view_is (Expr.NewArrayOf t' dims (record { ptr = e.ptr; alloc = e.alloc; value = e' }) s), expr.outs-NewArrayOf t' dims (record { ptr = e.ptr; alloc = e.alloc; value = e' }) s, view_is (Expr.NewArrayOf t dims e s), expr.outs-NewArrayOf t dims e s, qt, qe)

pub renumbered_expression-ArrayInit : (to : List NameId) (es : Vec Expr Global) (es' : List Expr) (s : Span) →
    length es' ≡ es.len → views_of es' ≡ renumbered_expressions to (views_of es.items) →
    view (Expr.ArrayInit (with_items es es') s) ≡ renumbered_expression to (view (Expr.ArrayInit es s))
renumbered_expression-ArrayInit to es es' s kes qes = rw (view_is (Expr.ArrayInit (with_items es es') s), expr.outs-ArrayInit (with_items es es') s, view_is (Expr.ArrayInit es s), expr.outs-ArrayInit es s, with_items_is es es' kes, qes)

pub renumbered_expression-Cast : (to : List NameId) (t t' : TyName) (e : Box Expr Global) (e' : Expr) (s : Span) →
    type_view t' ≡ renumbered_type to (type_view t) → view e' ≡ renumbered_expression to (view e.value) →
    view (Expr.Cast t' (record { ptr = e.ptr; alloc = e.alloc; value = e' }) s) ≡ renumbered_expression to (view (Expr.Cast t e s))
renumbered_expression-Cast to t t' e e' s qt qe = rw (view_is (Expr.Cast t' (record { ptr = e.ptr; alloc = e.alloc; value = e' }) s), expr.outs-Cast t' (record { ptr = e.ptr; alloc = e.alloc; value = e' }) s, view_is (Expr.Cast t e s), expr.outs-Cast t e s, qt, qe)

pub renumbered_expression-Prefix : (to : List NameId) (op : PrefixOp) (a : Span) (e : Box Expr Global) (e' : Expr) (s : Span) →
    view e' ≡ renumbered_expression to (view e.value) →
    view (Expr.Prefix op a (record { ptr = e.ptr; alloc = e.alloc; value = e' }) s) ≡ renumbered_expression to (view (Expr.Prefix op a e s))
renumbered_expression-Prefix to op a e e' s qe = rw (view_is (Expr.Prefix op a (record { ptr = e.ptr; alloc = e.alloc; value = e' }) s), expr.outs-Prefix op a (record { ptr = e.ptr; alloc = e.alloc; value = e' }) s, view_is (Expr.Prefix op a e s), expr.outs-Prefix op a e s, qe)

pub renumbered_expression-Postfix : (to : List NameId) (op : PostfixOp) (a : Span) (e : Box Expr Global) (e' : Expr) (s : Span) →
    view e' ≡ renumbered_expression to (view e.value) →
    view (Expr.Postfix op a (record { ptr = e.ptr; alloc = e.alloc; value = e' }) s) ≡ renumbered_expression to (view (Expr.Postfix op a e s))
renumbered_expression-Postfix to op a e e' s qe = rw (view_is (Expr.Postfix op a (record { ptr = e.ptr; alloc = e.alloc; value = e' }) s), expr.outs-Postfix op a (record { ptr = e.ptr; alloc = e.alloc; value = e' }) s, view_is (Expr.Postfix op a e s), expr.outs-Postfix op a e s, qe)

pub renumbered_expression-Binary : (to : List NameId) (op : BinaryOp) (a : Span) (l : Box Expr Global) (l' : Expr) (r : Box Expr Global) (r' : Expr) (s : Span) →
    view l' ≡ renumbered_expression to (view l.value) → view r' ≡ renumbered_expression to (view r.value) →
    view (Expr.Binary op a (record { ptr = l.ptr; alloc = l.alloc; value = l' }) (record { ptr = r.ptr; alloc = r.alloc; value = r' }) s) ≡ renumbered_expression to (view (Expr.Binary op a l r s))
renumbered_expression-Binary to op a l l' r r' s ql qr = rw (view_is (Expr.Binary op a (record { ptr = l.ptr; alloc = l.alloc; value = l' }) (record { ptr = r.ptr; alloc = r.alloc; value = r' }) s), expr.outs-Binary op a (record { ptr = l.ptr; alloc = l.alloc; value = l' }) (record { ptr = r.ptr; alloc = r.alloc; value = r' }) s, view_is (Expr.Binary op a l r s), expr.outs-Binary op a l r s, ql, qr)

pub renumbered_expression-InstanceOf : (to : List NameId) (a : Span) (e : Box Expr Global) (e' : Expr) (t t' : TyName) (s : Span) →
    view e' ≡ renumbered_expression to (view e.value) → type_view t' ≡ renumbered_type to (type_view t) →
    view (Expr.InstanceOf a (record { ptr = e.ptr; alloc = e.alloc; value = e' }) t' s) ≡ renumbered_expression to (view (Expr.InstanceOf a e t s))
renumbered_expression-InstanceOf to a e e' t t' s qe qt = rw (view_is (Expr.InstanceOf a (record { ptr = e.ptr; alloc = e.alloc; value = e' }) t' s), expr.outs-InstanceOf a (record { ptr = e.ptr; alloc = e.alloc; value = e' }) t' s, view_is (Expr.InstanceOf a e t s), expr.outs-InstanceOf a e t s, qe, qt)

pub renumbered_expression-Conditional : (to : List NameId) (a : Span) (c : Box Expr Global) (c' : Expr) (x : Box Expr Global) (x' : Expr) (y : Box Expr Global) (y' : Expr) (s : Span) →
    view c' ≡ renumbered_expression to (view c.value) → view x' ≡ renumbered_expression to (view x.value) → view y' ≡ renumbered_expression to (view y.value) →
    view (Expr.Conditional a (record { ptr = c.ptr; alloc = c.alloc; value = c' }) (record { ptr = x.ptr; alloc = x.alloc; value = x' }) (record { ptr = y.ptr; alloc = y.alloc; value = y' }) s) ≡ renumbered_expression to (view (Expr.Conditional a c x y s))
renumbered_expression-Conditional to a c c' x x' y y' s qc qx qy = rw (view_is (Expr.Conditional a (record { ptr = c.ptr; alloc = c.alloc; value = c' }) (record { ptr = x.ptr; alloc = x.alloc; value = x' }) (record { ptr = y.ptr; alloc = y.alloc; value = y' }) s), expr.outs-Conditional a (record { ptr = c.ptr; alloc = c.alloc; value = c' }) (record { ptr = x.ptr; alloc = x.alloc; value = x' }) (record { ptr = y.ptr; alloc = y.alloc; value = y' }) s, view_is (Expr.Conditional a c x y s), expr.outs-Conditional a c x y s, qc, qx, qy)

pub renumbered_expression-Assign : (to : List NameId) (op : Option BinaryOp) (a : Span) (l : Box Expr Global) (l' : Expr) (r : Box Expr Global) (r' : Expr) (s : Span) →
    view l' ≡ renumbered_expression to (view l.value) → view r' ≡ renumbered_expression to (view r.value) →
    view (Expr.Assign op a (record { ptr = l.ptr; alloc = l.alloc; value = l' }) (record { ptr = r.ptr; alloc = r.alloc; value = r' }) s) ≡ renumbered_expression to (view (Expr.Assign op a l r s))
renumbered_expression-Assign to op a l l' r r' s ql qr = rw (view_is (Expr.Assign op a (record { ptr = l.ptr; alloc = l.alloc; value = l' }) (record { ptr = r.ptr; alloc = r.alloc; value = r' }) s), expr.outs-Assign op a (record { ptr = l.ptr; alloc = l.alloc; value = l' }) (record { ptr = r.ptr; alloc = r.alloc; value = r' }) s, view_is (Expr.Assign op a l r s), expr.outs-Assign op a l r s, ql, qr)

pub renumbered_for_initializer-Locals : (to : List NameId) (m : Bool) (t t' : TyName) (vs : Vec Var Global) (vs' : List Var) →
    type_view t' ≡ renumbered_type to (type_view t) → length vs' ≡ vs.len → variable_views_of vs' ≡ renumbered_variables to (variable_views_of vs.items) →
    for_initializer_view (ForInit.Locals m t' (with_items vs vs')) ≡ renumbered_for_initializer to (for_initializer_view (ForInit.Locals m t vs))
renumbered_for_initializer-Locals to m t t' vs vs' qt kvs qvs = rw (for_initializer_is (ForInit.Locals m t' (with_items vs vs')), for_init.outs-Locals m t' (with_items vs vs'), for_initializer_is (ForInit.Locals m t vs), for_init.outs-Locals m t vs, qt, with_items_is vs vs' kvs, qvs)

pub renumbered_for_initializer-Steps : (to : List NameId) (es : Vec Expr Global) (es' : List Expr) →
    length es' ≡ es.len → views_of es' ≡ renumbered_expressions to (views_of es.items) →
    for_initializer_view (ForInit.Steps (with_items es es')) ≡ renumbered_for_initializer to (for_initializer_view (ForInit.Steps es))
renumbered_for_initializer-Steps to es es' kes qes = rw (for_initializer_is (ForInit.Steps (with_items es es')), for_init.outs-Steps (with_items es es'), for_initializer_is (ForInit.Steps es), for_init.outs-Steps es, with_items_is es es' kes, qes)

pub renumbered_statement-Block : (to : List NameId) (b : Block) (b' : List Stmt) →
    length b' ≡ b.stmts.len → statement_views_of b' ≡ renumbered_statements to (statement_views_of b.stmts.items) →
    statement_view (Stmt.Block (record { opening = b.opening; stmts = with_items b.stmts b'; closing = b.closing })) ≡ renumbered_statement to (statement_view (Stmt.Block b))
renumbered_statement-Block to b b' kb qb = rw (statement_is (Stmt.Block (record { opening = b.opening; stmts = with_items b.stmts b'; closing = b.closing })), stmt.outs-Block (record { opening = b.opening; stmts = with_items b.stmts b'; closing = b.closing }), statement_is (Stmt.Block b), stmt.outs-Block b, with_items_is b.stmts b' kb, qb)

pub renumbered_statement-Local : (to : List NameId) (f : Span) (m : Bool) (t t' : TyName) (vs : Vec Var Global) (vs' : List Var) (s : Span) →
    type_view t' ≡ renumbered_type to (type_view t) → length vs' ≡ vs.len → variable_views_of vs' ≡ renumbered_variables to (variable_views_of vs.items) →
    statement_view (Stmt.Local f m t' (with_items vs vs') s) ≡ renumbered_statement to (statement_view (Stmt.Local f m t vs s))
renumbered_statement-Local to f m t t' vs vs' s qt kvs qvs = rw (statement_is (Stmt.Local f m t' (with_items vs vs') s), stmt.outs-Local f m t' (with_items vs vs') s, statement_is (Stmt.Local f m t vs s), stmt.outs-Local f m t vs s, qt, with_items_is vs vs' kvs, qvs)

pub renumbered_statement-Class : (to : List NameId) (d d' : Decl) →
    declaration_view d' ≡ renumbered_declaration to (declaration_view d) →
    statement_view (Stmt.Class d') ≡ renumbered_statement to (statement_view (Stmt.Class d))
renumbered_statement-Class to d d' qd = rw (statement_is (Stmt.Class d'), stmt.outs-Class d', statement_is (Stmt.Class d), stmt.outs-Class d, qd)

pub renumbered_statement-Labelled : (to : List NameId) (n n' : Identifier) (b : Box Stmt Global) (b' : Stmt) (s : Span) →
    n' ≡ renumbered_identifier to n → statement_view b' ≡ renumbered_statement to (statement_view b.value) →
    statement_view (Stmt.Labelled n' (record { ptr = b.ptr; alloc = b.alloc; value = b' }) s) ≡ renumbered_statement to (statement_view (Stmt.Labelled n b s))
renumbered_statement-Labelled to n n' b b' s qn qb = rw (statement_is (Stmt.Labelled n' (record { ptr = b.ptr; alloc = b.alloc; value = b' }) s), stmt.outs-Labelled n' (record { ptr = b.ptr; alloc = b.alloc; value = b' }) s, statement_is (Stmt.Labelled n b s), stmt.outs-Labelled n b s, qn, qb)

pub renumbered_statement-If : (to : List NameId) (f : Span) (c c' : Expr) (x : Box Stmt Global) (x' : Stmt) (s : Span) →
    view c' ≡ renumbered_expression to (view c) → statement_view x' ≡ renumbered_statement to (statement_view x.value) →
    statement_view (Stmt.If f c' (record { ptr = x.ptr; alloc = x.alloc; value = x' }) s) ≡ renumbered_statement to (statement_view (Stmt.If f c x s))
renumbered_statement-If to f c c' x x' s qc qx = rw (statement_is (Stmt.If f c' (record { ptr = x.ptr; alloc = x.alloc; value = x' }) s), stmt.outs-If f c' (record { ptr = x.ptr; alloc = x.alloc; value = x' }) s, statement_is (Stmt.If f c x s), stmt.outs-If f c x s, qc, qx)

pub renumbered_statement-IfElse : (to : List NameId) (f : Span) (c c' : Expr) (x : Box Stmt Global) (x' : Stmt) (y : Box Stmt Global) (y' : Stmt) (s : Span) →
    view c' ≡ renumbered_expression to (view c) → statement_view x' ≡ renumbered_statement to (statement_view x.value) → statement_view y' ≡ renumbered_statement to (statement_view y.value) →
    statement_view (Stmt.IfElse f c' (record { ptr = x.ptr; alloc = x.alloc; value = x' }) (record { ptr = y.ptr; alloc = y.alloc; value = y' }) s) ≡ renumbered_statement to (statement_view (Stmt.IfElse f c x y s))
renumbered_statement-IfElse to f c c' x x' y y' s qc qx qy = rw (statement_is (Stmt.IfElse f c' (record { ptr = x.ptr; alloc = x.alloc; value = x' }) (record { ptr = y.ptr; alloc = y.alloc; value = y' }) s), stmt.outs-IfElse f c' (record { ptr = x.ptr; alloc = x.alloc; value = x' }) (record { ptr = y.ptr; alloc = y.alloc; value = y' }) s, statement_is (Stmt.IfElse f c x y s), stmt.outs-IfElse f c x y s, qc, qx, qy)

pub renumbered_statement-While : (to : List NameId) (f : Span) (c c' : Expr) (b : Box Stmt Global) (b' : Stmt) (s : Span) →
    view c' ≡ renumbered_expression to (view c) → statement_view b' ≡ renumbered_statement to (statement_view b.value) →
    statement_view (Stmt.While f c' (record { ptr = b.ptr; alloc = b.alloc; value = b' }) s) ≡ renumbered_statement to (statement_view (Stmt.While f c b s))
renumbered_statement-While to f c c' b b' s qc qb = rw (statement_is (Stmt.While f c' (record { ptr = b.ptr; alloc = b.alloc; value = b' }) s), stmt.outs-While f c' (record { ptr = b.ptr; alloc = b.alloc; value = b' }) s, statement_is (Stmt.While f c b s), stmt.outs-While f c b s, qc, qb)

pub renumbered_statement-Do : (to : List NameId) (f : Span) (b : Box Stmt Global) (b' : Stmt) (c c' : Expr) (s : Span) →
    statement_view b' ≡ renumbered_statement to (statement_view b.value) → view c' ≡ renumbered_expression to (view c) →
    statement_view (Stmt.Do f (record { ptr = b.ptr; alloc = b.alloc; value = b' }) c' s) ≡ renumbered_statement to (statement_view (Stmt.Do f b c s))
renumbered_statement-Do to f b b' c c' s qb qc = rw (statement_is (Stmt.Do f (record { ptr = b.ptr; alloc = b.alloc; value = b' }) c' s), stmt.outs-Do f (record { ptr = b.ptr; alloc = b.alloc; value = b' }) c' s, statement_is (Stmt.Do f b c s), stmt.outs-Do f b c s, qb, qc)

pub renumbered_statement-For : (to : List NameId) (f : Span) (i i' : ForInit) (c c' : Option Expr) (es : Vec Expr Global) (es' : List Expr) (b : Box Stmt Global) (b' : Stmt) (s : Span) →
    for_initializer_view i' ≡ renumbered_for_initializer to (for_initializer_view i) → view_of_option c' ≡ renumbered_expression_if to (view_of_option c) → length es' ≡ es.len → views_of es' ≡ renumbered_expressions to (views_of es.items) → statement_view b' ≡ renumbered_statement to (statement_view b.value) →
    statement_view (Stmt.For f i' c' (with_items es es') (record { ptr = b.ptr; alloc = b.alloc; value = b' }) s) ≡ renumbered_statement to (statement_view (Stmt.For f i c es b s))
renumbered_statement-For to f i i' c c' es es' b b' s qi qc kes qes qb = rw (statement_is (Stmt.For f i' c' (with_items es es') (record { ptr = b.ptr; alloc = b.alloc; value = b' }) s), stmt.outs-For f i' c' (with_items es es') (record { ptr = b.ptr; alloc = b.alloc; value = b' }) s, statement_is (Stmt.For f i c es b s), stmt.outs-For f i c es b s, qi, qc, with_items_is es es' kes, qes, qb)

pub renumbered_statement-ForEach : (to : List NameId) (f : Span) (m : Bool) (t t' : TyName) (n n' : Identifier) (e e' : Expr) (b : Box Stmt Global) (b' : Stmt) (s : Span) →
    type_view t' ≡ renumbered_type to (type_view t) → n' ≡ renumbered_identifier to n → view e' ≡ renumbered_expression to (view e) → statement_view b' ≡ renumbered_statement to (statement_view b.value) →
    statement_view (Stmt.ForEach f m t' n' e' (record { ptr = b.ptr; alloc = b.alloc; value = b' }) s) ≡ renumbered_statement to (statement_view (Stmt.ForEach f m t n e b s))
renumbered_statement-ForEach to f m t t' n n' e e' b b' s qt qn qe qb = rw (statement_is (Stmt.ForEach f m t' n' e' (record { ptr = b.ptr; alloc = b.alloc; value = b' }) s), stmt.outs-ForEach f m t' n' e' (record { ptr = b.ptr; alloc = b.alloc; value = b' }) s, statement_is (Stmt.ForEach f m t n e b s), stmt.outs-ForEach f m t n e b s, qt, qn, qe, qb)

pub renumbered_statement-Switch : (to : List NameId) (f : Span) (e e' : Expr) (gs : Vec Group Global) (gs' : List Group) (s : Span) →
    view e' ≡ renumbered_expression to (view e) → length gs' ≡ gs.len → group_views_of gs' ≡ renumbered_groups to (group_views_of gs.items) →
    statement_view (Stmt.Switch f e' (with_items gs gs') s) ≡ renumbered_statement to (statement_view (Stmt.Switch f e gs s))
renumbered_statement-Switch to f e e' gs gs' s qe kgs qgs = rw (statement_is (Stmt.Switch f e' (with_items gs gs') s), stmt.outs-Switch f e' (with_items gs gs') s, statement_is (Stmt.Switch f e gs s), stmt.outs-Switch f e gs s, qe, with_items_is gs gs' kgs, qgs)

pub renumbered_statement-Break : (to : List NameId) (f : Span) (n n' : Option Identifier) (s : Span) →
    n' ≡ option_map (renumbered_identifier to) n →
    statement_view (Stmt.Break f n' s) ≡ renumbered_statement to (statement_view (Stmt.Break f n s))
renumbered_statement-Break to f n n' s qn = rw (statement_is (Stmt.Break f n' s), stmt.outs-Break f n' s, statement_is (Stmt.Break f n s), stmt.outs-Break f n s, qn)

pub renumbered_statement-Continue : (to : List NameId) (f : Span) (n n' : Option Identifier) (s : Span) →
    n' ≡ option_map (renumbered_identifier to) n →
    statement_view (Stmt.Continue f n' s) ≡ renumbered_statement to (statement_view (Stmt.Continue f n s))
renumbered_statement-Continue to f n n' s qn = rw (statement_is (Stmt.Continue f n' s), stmt.outs-Continue f n' s, statement_is (Stmt.Continue f n s), stmt.outs-Continue f n s, qn)

pub renumbered_statement-Return : (to : List NameId) (f : Span) (e e' : Option Expr) (s : Span) →
    view_of_option e' ≡ renumbered_expression_if to (view_of_option e) →
    statement_view (Stmt.Return f e' s) ≡ renumbered_statement to (statement_view (Stmt.Return f e s))
renumbered_statement-Return to f e e' s qe = rw (statement_is (Stmt.Return f e' s), stmt.outs-Return f e' s, statement_is (Stmt.Return f e s), stmt.outs-Return f e s, qe)

pub renumbered_statement-Throw : (to : List NameId) (f : Span) (e e' : Expr) (s : Span) →
    view e' ≡ renumbered_expression to (view e) →
    statement_view (Stmt.Throw f e' s) ≡ renumbered_statement to (statement_view (Stmt.Throw f e s))
renumbered_statement-Throw to f e e' s qe = rw (statement_is (Stmt.Throw f e' s), stmt.outs-Throw f e' s, statement_is (Stmt.Throw f e s), stmt.outs-Throw f e s, qe)

pub renumbered_statement-Try : (to : List NameId) (f : Span) (b : Block) (b' : List Stmt) (cs : Vec Catch Global) (cs' : List Catch) (s : Span) →
    length b' ≡ b.stmts.len → statement_views_of b' ≡ renumbered_statements to (statement_views_of b.stmts.items) → length cs' ≡ cs.len → catch_views_of cs' ≡ renumbered_catches to (catch_views_of cs.items) →
    statement_view (Stmt.Try f (record { opening = b.opening; stmts = with_items b.stmts b'; closing = b.closing }) (with_items cs cs') s) ≡ renumbered_statement to (statement_view (Stmt.Try f b cs s))
renumbered_statement-Try to f b b' cs cs' s kb qb kcs qcs = rw (statement_is (Stmt.Try f (record { opening = b.opening; stmts = with_items b.stmts b'; closing = b.closing }) (with_items cs cs') s), stmt.outs-Try f (record { opening = b.opening; stmts = with_items b.stmts b'; closing = b.closing }) (with_items cs cs') s, statement_is (Stmt.Try f b cs s), stmt.outs-Try f b cs s, with_items_is b.stmts b' kb, qb, with_items_is cs cs' kcs, qcs)

pub renumbered_statement-TryFinally : (to : List NameId) (f : Span) (b : Block) (b' : List Stmt) (cs : Vec Catch Global) (cs' : List Catch) (w : Span) (l : Block) (l' : List Stmt) (s : Span) →
    length b' ≡ b.stmts.len → statement_views_of b' ≡ renumbered_statements to (statement_views_of b.stmts.items) → length cs' ≡ cs.len → catch_views_of cs' ≡ renumbered_catches to (catch_views_of cs.items) → length l' ≡ l.stmts.len → statement_views_of l' ≡ renumbered_statements to (statement_views_of l.stmts.items) →
    statement_view (Stmt.TryFinally f (record { opening = b.opening; stmts = with_items b.stmts b'; closing = b.closing }) (with_items cs cs') w (record { opening = l.opening; stmts = with_items l.stmts l'; closing = l.closing }) s) ≡ renumbered_statement to (statement_view (Stmt.TryFinally f b cs w l s))
renumbered_statement-TryFinally to f b b' cs cs' w l l' s kb qb kcs qcs kl ql = rw (statement_is (Stmt.TryFinally f (record { opening = b.opening; stmts = with_items b.stmts b'; closing = b.closing }) (with_items cs cs') w (record { opening = l.opening; stmts = with_items l.stmts l'; closing = l.closing }) s), stmt.outs-TryFinally f (record { opening = b.opening; stmts = with_items b.stmts b'; closing = b.closing }) (with_items cs cs') w (record { opening = l.opening; stmts = with_items l.stmts l'; closing = l.closing }) s, statement_is (Stmt.TryFinally f b cs w l s), stmt.outs-TryFinally f b cs w l s, with_items_is b.stmts b' kb, qb, with_items_is cs cs' kcs, qcs, with_items_is l.stmts l' kl, ql)

pub renumbered_statement-ExpressionStatement : (to : List NameId) (f : Span) (e e' : Expr) (s : Span) →
    view e' ≡ renumbered_expression to (view e) →
    statement_view (Stmt.ExpressionStatement f e' s) ≡ renumbered_statement to (statement_view (Stmt.ExpressionStatement f e s))
renumbered_statement-ExpressionStatement to f e e' s qe = rw (statement_is (Stmt.ExpressionStatement f e' s), stmt.outs-ExpressionStatement f e' s, statement_is (Stmt.ExpressionStatement f e s), stmt.outs-ExpressionStatement f e s, qe)

pub renumbered_constructor_invocation-Explicit : (to : List NameId) (m : Bool) (w : Span) (es : Vec Expr Global) (es' : List Expr) →
    length es' ≡ es.len → views_of es' ≡ renumbered_expressions to (views_of es.items) →
    constructor_invocation_view (ConstructorCall.Explicit m w (with_items es es')) ≡ renumbered_constructor_invocation to (constructor_invocation_view (ConstructorCall.Explicit m w es))
renumbered_constructor_invocation-Explicit to m w es es' kes qes = rw (constructor_invocation_is (ConstructorCall.Explicit m w (with_items es es')), call.outs-Explicit m w (with_items es es'), constructor_invocation_is (ConstructorCall.Explicit m w es), call.outs-Explicit m w es, with_items_is es es' kes, qes)

pub renumbered_member-Type : (to : List NameId) (d d' : Decl) →
    declaration_view d' ≡ renumbered_declaration to (declaration_view d) →
    member_view (MemberNode.«Type» d') ≡ renumbered_member to (member_view (MemberNode.«Type» d))
renumbered_member-Type to d d' qd = rw (member_is (MemberNode.«Type» d'), member.outs-Type d', member_is (MemberNode.«Type» d), member.outs-Type d, qd)

pub renumbered_member-Field : (to : List NameId) (ms : Vec Modifier Global) (t t' : TyName) (vs : Vec Var Global) (vs' : List Var) (s : Span) →
    type_view t' ≡ renumbered_type to (type_view t) → length vs' ≡ vs.len → variable_views_of vs' ≡ renumbered_variables to (variable_views_of vs.items) →
    member_view (MemberNode.Field ms t' (with_items vs vs') s) ≡ renumbered_member to (member_view (MemberNode.Field ms t vs s))
renumbered_member-Field to ms t t' vs vs' s qt kvs qvs = rw (member_is (MemberNode.Field ms t' (with_items vs vs') s), member.outs-Field ms t' (with_items vs vs') s, member_is (MemberNode.Field ms t vs s), member.outs-Field ms t vs s, qt, with_items_is vs vs' kvs, qvs)

pub renumbered_member-Method : (to : List NameId) (ms : Vec Modifier Global) (t t' : Option TyName) (n n' : Identifier) (fs : Vec Formal Global) (fs' : List Formal) (ts : Vec Name Global) (ts' : List Name) (b b' : Option Block) (s : Span) →
    type_view_of_option t' ≡ option_map (renumbered_type to) (type_view_of_option t) → n' ≡ renumbered_identifier to n → length fs' ≡ fs.len → map formal_view fs' ≡ map (renumbered_formal to) (map formal_view fs.items) → length ts' ≡ ts.len → map name_view ts' ≡ map (renumbered_name to) (map name_view ts.items) → block_view_of_option b' ≡ renumbered_block_if to (block_view_of_option b) →
    member_view (MemberNode.Method ms t' n' (with_items fs fs') (with_items ts ts') b' s) ≡ renumbered_member to (member_view (MemberNode.Method ms t n fs ts b s))
renumbered_member-Method to ms t t' n n' fs fs' ts ts' b b' s qt qn kfs qfs kts qts qb = rw (member_is (MemberNode.Method ms t' n' (with_items fs fs') (with_items ts ts') b' s), member.outs-Method ms t' n' (with_items fs fs') (with_items ts ts') b' s, member_is (MemberNode.Method ms t n fs ts b s), member.outs-Method ms t n fs ts b s, qt, qn, with_items_is fs fs' kfs, qfs, with_items_is ts ts' kts, qts, qb)

pub renumbered_member-Constructor : (to : List NameId) (ms : Vec Modifier Global) (n n' : Identifier) (fs : Vec Formal Global) (fs' : List Formal) (ts : Vec Name Global) (ts' : List Name) (f f' : ConstructorCall) (b : Block) (b' : List Stmt) (s : Span) →
    n' ≡ renumbered_identifier to n → length fs' ≡ fs.len → map formal_view fs' ≡ map (renumbered_formal to) (map formal_view fs.items) → length ts' ≡ ts.len → map name_view ts' ≡ map (renumbered_name to) (map name_view ts.items) → constructor_invocation_view f' ≡ renumbered_constructor_invocation to (constructor_invocation_view f) → length b' ≡ b.stmts.len → statement_views_of b' ≡ renumbered_statements to (statement_views_of b.stmts.items) →
    member_view (MemberNode.Constructor ms n' (with_items fs fs') (with_items ts ts') f' (record { opening = b.opening; stmts = with_items b.stmts b'; closing = b.closing }) s) ≡ renumbered_member to (member_view (MemberNode.Constructor ms n fs ts f b s))
renumbered_member-Constructor to ms n n' fs fs' ts ts' f f' b b' s qn kfs qfs kts qts qf kb qb = rw (member_is (MemberNode.Constructor ms n' (with_items fs fs') (with_items ts ts') f' (record { opening = b.opening; stmts = with_items b.stmts b'; closing = b.closing }) s), member.outs-Constructor ms n' (with_items fs fs') (with_items ts ts') f' (record { opening = b.opening; stmts = with_items b.stmts b'; closing = b.closing }) s, member_is (MemberNode.Constructor ms n fs ts f b s), member.outs-Constructor ms n fs ts f b s, qn, with_items_is fs fs' kfs, qfs, with_items_is ts ts' kts, qts, qf, with_items_is b.stmts b' kb, qb)

pub renumbered_member-Initializer : (to : List NameId) (m : Option Span) (b : Block) (b' : List Stmt) (s : Span) →
    length b' ≡ b.stmts.len → statement_views_of b' ≡ renumbered_statements to (statement_views_of b.stmts.items) →
    member_view (MemberNode.Initializer m (record { opening = b.opening; stmts = with_items b.stmts b'; closing = b.closing }) s) ≡ renumbered_member to (member_view (MemberNode.Initializer m b s))
renumbered_member-Initializer to m b b' s kb qb = rw (member_is (MemberNode.Initializer m (record { opening = b.opening; stmts = with_items b.stmts b'; closing = b.closing }) s), member.outs-Initializer m (record { opening = b.opening; stmts = with_items b.stmts b'; closing = b.closing }) s, member_is (MemberNode.Initializer m b s), member.outs-Initializer m b s, with_items_is b.stmts b' kb, qb)

pub renumbered_declaration-Class : (to : List NameId) (ms : Vec Modifier Global) (n n' : Identifier) (ps : Vec TypeParam Global) (ps' : List TypeParam) (e e' : Option TyName) (is : Vec TyName Global) (is' : List TyName) (body : Vec MemberNode.Member Global) (body' : List MemberNode.Member) (s : Span) →
    n' ≡ renumbered_identifier to n → length ps' ≡ ps.len → map parameter_view ps' ≡ map (renumbered_parameter to) (map parameter_view ps.items) → type_view_of_option e' ≡ option_map (renumbered_type to) (type_view_of_option e) → length is' ≡ is.len → type_views_of is' ≡ renumbered_types to (type_views_of is.items) → length body' ≡ body.len → member_views_of body' ≡ renumbered_members to (member_views_of body.items) →
    declaration_view (Decl.Class ms n' (with_items ps ps') e' (with_items is is') (with_items body body') s) ≡ renumbered_declaration to (declaration_view (Decl.Class ms n ps e is body s))
renumbered_declaration-Class to ms n n' ps ps' e e' is is' body body' s qn kps qps qe kis qis kbody qbody = rw (declaration_is (Decl.Class ms n' (with_items ps ps') e' (with_items is is') (with_items body body') s), decl.outs-Class ms n' (with_items ps ps') e' (with_items is is') (with_items body body') s, declaration_is (Decl.Class ms n ps e is body s), decl.outs-Class ms n ps e is body s, qn, with_items_is ps ps' kps, qps, qe, with_items_is is is' kis, qis, with_items_is body body' kbody, qbody)

pub renumbered_declaration-Interface : (to : List NameId) (ms : Vec Modifier Global) (n n' : Identifier) (ps : Vec TypeParam Global) (ps' : List TypeParam) (es : Vec TyName Global) (es' : List TyName) (body : Vec MemberNode.Member Global) (body' : List MemberNode.Member) (s : Span) →
    n' ≡ renumbered_identifier to n → length ps' ≡ ps.len → map parameter_view ps' ≡ map (renumbered_parameter to) (map parameter_view ps.items) → length es' ≡ es.len → type_views_of es' ≡ renumbered_types to (type_views_of es.items) → length body' ≡ body.len → member_views_of body' ≡ renumbered_members to (member_views_of body.items) →
    declaration_view (Decl.Interface ms n' (with_items ps ps') (with_items es es') (with_items body body') s) ≡ renumbered_declaration to (declaration_view (Decl.Interface ms n ps es body s))
renumbered_declaration-Interface to ms n n' ps ps' es es' body body' s qn kps qps kes qes kbody qbody = rw (declaration_is (Decl.Interface ms n' (with_items ps ps') (with_items es es') (with_items body body') s), decl.outs-Interface ms n' (with_items ps ps') (with_items es es') (with_items body body') s, declaration_is (Decl.Interface ms n ps es body s), decl.outs-Interface ms n ps es body s, qn, with_items_is ps ps' kps, qps, with_items_is es es' kes, qes, with_items_is body body' kbody, qbody)

pub renumbered_declaration-Enum : (to : List NameId) (ms : Vec Modifier Global) (n n' : Identifier) (cs : Vec Identifier Global) (cs' : List Identifier) (s : Span) →
    n' ≡ renumbered_identifier to n → length cs' ≡ cs.len → cs' ≡ map (renumbered_identifier to) cs.items →
    declaration_view (Decl.Enum ms n' (with_items cs cs') s) ≡ renumbered_declaration to (declaration_view (Decl.Enum ms n cs s))
renumbered_declaration-Enum to ms n n' cs cs' s qn kcs qcs = rw (declaration_is (Decl.Enum ms n' (with_items cs cs') s), decl.outs-Enum ms n' (with_items cs cs') s, declaration_is (Decl.Enum ms n cs s), decl.outs-Enum ms n cs s, qn, with_items_is cs cs' kcs, qcs)

pub renumbered_expression-Literal : (to : List NameId) (l : Literal) (s : Span) → view (Expr.Literal l s) ≡ renumbered_expression to (view (Expr.Literal l s))
renumbered_expression-Literal to l s = rw (view_is (Expr.Literal l s), expr.outs-Literal l s)
