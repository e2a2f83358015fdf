-- Evaluation is safe.
use Rattle.std.specs.Prelude.{◌≡◌, ◌≢◌, ℕ, true, List, Some, slice_get}
use Rattle.je_core.specs.declared.object.Obj.{Obj}
use Rattle.je_core.specs.declared.types.ClassId.{ClassId}
use Rattle.je_core.specs.declared.types.Ty.{Ty}
use Rattle.je_core.specs.declared.value.Value.{Value}
use Rattle.je_core.specs.Core.{Core, CoreStmt, CoreMethod, CoreClass, ty_of, stmt_form_of}
use Rattle.je_classes.specs.Hierarchy.{class_at}
use Rattle.je_classes.specs.Subtypes.{class_type}
use Rattle.je_fitting.specs.Expressions.{Fits, is_constructor}
use Rattle.je_fitting.specs.Members.{body_of}
use Rattle.je_fitting.specs.Types.{void}
use Rattle.je_fitting.specs.Statements.{StatementFits, is_loop_form}
use Rattle.je_java.specs.declared.call.Receiver.{Receiver}
use Rattle.je_java.specs.declared.call.Receiver.TheVariants as receiver
use Rattle.je_java.specs.Meaning.{Meanings, behind_labels, java, call}
use Rattle.je_java.specs.Steps.{Outside, Answer, Wrong}
use Rattle.je_java.specs.World.{World}
use Rattle.je_sound.specs.Calls.{CallFits}
use Rattle.je_sound.specs.Worlds.{Sound}
use Rattle.je_load.specs.Loading.{world_before, load_within}
use Rattle.load_sound.specs.Beginnings.{IsOfDevice}
use Rattle.std.specs.List.{All}
use Rattle.eval_sound.specs.Nodes.{Every, Throughout}
use Rattle.eval_sound.specs.Premises.{Premises}
use Rattle.eval_sound.specs.Safety.{Setting, Allowed, ProgramFits, Any, EndFits, ResultFits, Context, in_body, Safe}

-- Meanings are safe for each node that fits where it stands: an expression gives a value of its type, and a statement, the body of a
-- constructor and a loop that goes on give nothing.
pub record MeaningsAreSafe (setting : Setting) (m : Meanings) : Type 0 where
  pub eval : {context : Context} {e : Core} → Fits setting.program context.body e → Every (Allowed setting) e →
      (objects : List Obj) →
      Safe setting context objects (ResultFits setting.program (ty_of e)) (m.eval e)
  pub exec : {context : Context} {s : CoreStmt} → StatementFits setting.program context.body context.targets s →
      Throughout (Allowed setting) s → (objects : List Obj) →
      Safe setting context objects Any (m.exec s)
  pub build : (class : ClassId) (c : CoreClass) (at : ℕ) (constructor : CoreMethod) (body : CoreStmt) →
      class_at setting.program class ≡ Some c → slice_get c.methods at ≡ Some constructor →
      is_constructor setting.program constructor ≡ true → constructor.body ≡ Some body → (objects : List Obj) →
      Safe setting (in_body (body_of setting.program class constructor)) objects Any (m.build class body)
  pub again : {context : Context} {s : CoreStmt} → StatementFits setting.program context.body context.targets s →
      Throughout (Allowed setting) s →
      is_loop_form (behind_labels (stmt_form_of s)) ≡ true → (objects : List Obj) →
      Safe setting context objects Any (m.again s)

-- Where a program fits, and the premises hold, Java's evaluation is safe.
abbrev pub EvaluationIsSafe : Type 0
EvaluationIsSafe = (setting : Setting) → ProgramFits setting.program → Premises setting →
    MeaningsAreSafe setting (java setting.program)

-- the type of a call's reply: a start replies its object
abbrev pub reply_type : Receiver → ClassId → CoreMethod → Ty
reply_type receiver.Fresh class method = class_type class
reply_type _ class method = method.returns

-- A call that fits, from a sound world, ends in a sound world that has grown from it: with a reply of its type, an exception, or
-- without units.
abbrev pub CallsAreSafe : Type 0
CallsAreSafe = (setting : Setting) (world : World) (receiver : Receiver) (given : List Value) (units : ℕ) (outside : Outside) →
    ProgramFits setting.program → Premises setting →
    Sound setting.program world → setting.first ≡ world.objects →
    (fits : CallFits setting.program world receiver setting.called.class setting.called.at given) →
    setting.returns ≡ reply_type receiver setting.called.class fits.method →
    EndFits setting (call setting.program units receiver setting.called.class setting.called.at given world outside)

-- An end that fits isn't Wrong.
abbrev pub EndsAreNotWrong : Type 0
EndsAreNotWrong = (setting : Setting) (answer : Answer) → EndFits setting answer → answer ≢ Wrong

-- A load ends so too, from the world before the initializers (JLS 12.4); it replies nothing.
abbrev pub LoadsAreSafe : Type 0
LoadsAreSafe = (setting : Setting) (units : ℕ) (interfaces : List ClassId) → ProgramFits setting.program →
    Premises setting → All (IsOfDevice setting.program) interfaces →
    setting.first ≡ (world_before setting.program interfaces).objects → setting.returns ≡ void →
    EndFits setting (load_within units setting.program interfaces)
