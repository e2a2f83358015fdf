-- A compound assignment's operator; what becomes of a new string.
use Rattle.std.specs.Prelude.{Option, Some, None}
use Rattle.je_core.specs.declared.expr.BinOp.{BinOp}
use Rattle.je_core.specs.declared.value.Value.{Value}
use Rattle.je_core.specs.Core.{CoreForm, Update, CoreProgram}
use Rattle.je_core.specs.View.{form_view}
use Rattle.je_java.specs.Steps.{Computation, ret}
use Rattle.machine_parts.specs.Telling.{put_by}
use Rattle.machine_parts.specs.declared.frame.Sum.{Sum}
use Rattle.machine_parts.specs.declared.frame.Sum.TheVariants.{Given, Stored}

abbrev pub op_of : CoreForm → Option BinOp
op_of (Update place op operand gives_old) = Some op
op_of _ = None

-- it is the value, or it is put into a place
abbrev pub becomes : CoreProgram → Sum → Value → Computation Value
becomes program Given text = ret text
becomes program (Stored node object index old) text = put_by program (form_view node.value.form) object index old text
