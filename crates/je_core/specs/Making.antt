-- What the makers of nodes give, seen as the mirror's.
use Rattle.std.specs.Prelude.{◌≡◌, Result, IfOk}
use Rattle.je_base.specs.declared.memory.Memory.{Memory}
use Rattle.je_base.specs.declared.span.Span.{Span}
use Rattle.je_core.specs.declared.expr.Expr.{Expr}
use Rattle.je_core.specs.declared.making.Mark.{Mark}
use Rattle.je_core.specs.declared.stmt.Stmt.{Stmt}
use Rattle.je_core.specs.Core.{CoreForm, CoreStmtForm, node, stmt}
use Rattle.je_core.specs.View.{view, stmt_view}

-- an expression of this form, with the type and spans of the mark
abbrev pub IsNode : Expr → Mark → CoreForm → Type 0
IsNode e mark form = view e ≡ node form mark.ty mark.span mark.at

-- the same, unless memory was wanting
abbrev pub Makes : Result Expr Memory → Mark → CoreForm → Type 0
Makes made mark form = IfOk made (λ e. IsNode e mark form)

-- a statement of this form, with its span and the span of its word
abbrev pub IsStatement : Stmt → Span → Span → CoreStmtForm → Type 0
IsStatement s span at form = stmt_view s ≡ stmt form span at

abbrev pub MakesStatement : Result Stmt Memory → Span → Span → CoreStmtForm → Type 0
MakesStatement made span at form = IfOk made (λ s. IsStatement s span at form)
