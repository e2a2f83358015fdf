mod ExpressionRows
mod StatementRows
