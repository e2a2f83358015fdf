-- What an expression in memory is seen as, and the call with which a body begins, if it is a block.
use Rattle.std.specs.Prelude.{Option, Some, None}
use Rattle.std.specs.declared.alloc.Global.{Global}
use Rattle.std.specs.declared.rc.Rc.{Rc}
use Rattle.je_core.specs.declared.expr.Expr.{Expr}
use Rattle.je_core.specs.Core.{CoreForm, CoreStmtForm, Block, CoreProgram, stmt_list_of}
use Rattle.je_core.specs.View.{form_view}
use Rattle.je_java.specs.Constructors.{first_call}

abbrev pub form_seen : Rc Expr Global → CoreForm
form_seen e = form_view e.value.form

abbrev pub block_call : CoreProgram → CoreStmtForm → Option (Option CoreForm)
block_call p (Block locals parts) = Some (first_call p (stmt_list_of parts))
block_call p _ = None
