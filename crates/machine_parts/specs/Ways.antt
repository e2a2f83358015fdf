-- What a machine's frames stand for: how a run goes on with what a node comes to. Each frame is the rest of one case
-- of Java's evaluation (JLS 14 and 15), behind the part that is being evaluated.
use Rattle.std.specs.Prelude.{ℕ, ◌+◌, ◌*◌, length, List, [], ◌∷◌, ◌++◌, drop, Option, Some, None, Bool, true, false}
use Rattle.je_base.specs.declared.span.NameId.{NameId}
use Rattle.je_core.specs.declared.types.ClassId.{ClassId}
use Rattle.je_core.specs.declared.value.ObjId.{ObjId}
use Rattle.je_core.specs.declared.value.Value.{Value}
use Rattle.je_core.specs.Core.{CoreForm, CoreStmt, CoreStmtForm, Switch, Try, CoreCatch, CoreGroup, MaybeStmt, no_stmt, a_stmt, CoreProgram, catch_list_of, group_list_of}
use Rattle.je_core.specs.View.{view, form_view, stmt_view, stmt_form_view}
use Rattle.je_heap.specs.Contents.{Contents}
use Rattle.je_core.specs.declared.value.Value.TheVariants.{Bool as Truth, Null}
use Rattle.je_java.specs.Steps.{State, Outside, Own, Done as DoneRun, Thrown, ThrownInStart, Spent, Wrong, Run, Exits, Computation, Nothing, ret, ◌>>=◌, ◌>>◌, leave, takes, is_label, landing, breaking, after_all, throw_value, out_of, out_of_start, with_own, put_local, binary, unary, convert, is_instance, cast, branch, read_field, write_field, read_static, write_static}
use Rattle.je_java.specs.Constructors.{parts_of, called_constructor, is_of}
use Rattle.je_java.specs.Arrays.{length_of, read_element, write_element}
use Rattle.je_java.specs.Texts.{concatenated}
use Rattle.je_java.specs.Meaning.{Meanings, block, tested, further, labels_of, caught, parts_in, fallen_through, switched, update_object, update_at, update_by, set_variable, call_from, start_call, to_string, constructor_from, initialized, completed, eval_form, call_by, ends, nobody}
use Rattle.machine_parts.specs.Telling.{told_by}
use Rattle.machine_parts.specs.Starts.{initialize_from, load_from}
use Rattle.machine_parts.specs.declared.frame.Frame.{Frame}
use Rattle.machine_parts.specs.declared.frame.Frame.TheVariants.{ReadField, SetLocal, SetObject, SetField, ReadStatic, SetBefore, SetStatic, ReadArray, ReadElement, Length as LengthFrame, SetArray, SetIndex, SetElement, UpdateObject, UpdateIndex, Update as UpdateFrame, Operand, Converted, Cast as CastFrame, InstanceOf as InstanceFrame, Left, Right, And as AndFrame, Or as OrFrame, Choose as ChooseFrame, Test, Body, Steps, Labelled as LabelledFrame, Switch as SwitchFrame, Cases, Try as TryFrame, Finally, Finishing, Thrown as ThrownFrame, Receiver, Args, Called, ConstructorArgs, Constructor as ConstructorFrame, Initializer as InitializerFrame, Starting, Parts, Ignored, Returned, ConcatLeft, ConcatRight, Telling}
use Rattle.machine_parts.specs.declared.frame.Env.{Env}
use Rattle.machine_parts.specs.declared.frame.Rest.{Rest}
use Rattle.machine_parts.specs.declared.frame.Then.{Then}
use Rattle.machine_parts.specs.declared.frame.Then.TheVariants.{Node, Classes}
use Rattle.machine_parts.specs.declared.frame.Start.{Start as StartRest}
use Rattle.machine_parts.specs.declared.frame.End.{End}
use Rattle.machine_parts.specs.declared.frame.End.TheVariants.{Next as NextEnd, Leave as LeaveEnd, Throw as ThrowEnd, Jump as JumpEnd}
use Rattle.machine_parts.specs.declared.frame.Context.{Context}
use Rattle.machine_parts.specs.declared.frame.Control.{Control}
use Rattle.machine_parts.specs.declared.frame.Control.TheVariants.{Start, Load, Eval, Exec, Build, Give, Next, Leave, Throw, Jump, Done as DoneHere, Thrown as ThrownHere, ThrownInStart as ThrownInStartHere, Spent as SpentHere, Wrong as WrongHere, Memory}

-- where a run goes on: with a value, after a statement, and the ways out
pub record Ways : Type 0 where
  pub give : Value → Run
  pub next : Nothing → Run
  pub out : Exits

-- what comes to a value, and what comes to an end, before the ways on
abbrev pub valued : Computation Value → Ways → Run
valued m k = m k.give k.out

abbrev pub ended : Computation Nothing → Ways → Run
ended m k = m k.next k.out

-- a value goes on to another value, or to a statement's end; an end goes on to another
abbrev pub giving : (Value → Computation Value) → Ways → Ways
giving f k = record { give = λ v. valued (f v) k; next = k.next; out = k.out }

abbrev pub doing : (Value → Computation Nothing) → Ways → Ways
doing f k = record { give = λ v. ended (f v) k; next = k.next; out = k.out }

abbrev pub going : Computation Nothing → Ways → Ways
going m k = record { give = k.give; next = λ u. ended m k; out = k.out }

-- what follows an explicit constructor call
abbrev pub called_behind : CoreProgram → Meanings → ClassId → CoreStmtForm → CoreForm → Computation Nothing
called_behind program m class form call = completed program m class form (is_of class (called_constructor call)) 1

-- how a body goes on behind the constructor that it begins with
abbrev pub goes_on : CoreProgram → Meanings → Rest → Computation Nothing
goes_on program m rest = completed program m rest.class (stmt_form_view rest.body.value.form) rest.is_initialized rest.next

abbrev pub own_of : Env → Own
own_of env = record { this = env.this; locals = env.locals }

-- the object that a constructor was called for, in place of what its body comes to
abbrev pub built_or : Option Value → (Value → Run) → Value → Run
built_or None go = go
built_or (Some object) go = λ dropped. go object

-- the ways on of a called body: the caller's own variables come back
abbrev pub called : Own → Value → (Value → Run) → Ways → Ways
called own result give k = record { give = λ v s. give v (with_own s own); next = λ u s. give result (with_own s own); out = out_of own give k.out }

-- those of a body whose value is dropped, and behind which another computation runs
abbrev pub followed : Own → Computation Nothing → Ways → Ways
followed own m k = called own Null (λ dropped. ended m k) k

-- a body that is done again, and to which jumps may come
abbrev pub turning : (Option NameId → Bool) → Computation Nothing → Ways → Ways
turning Lands again k = record {
  give = k.give;
  next = λ u. ended again k;
  out = landing Lands (ended again k) (k.next tt) k.out;
}

-- the statement of a label, to which jumps may come
abbrev pub landed : (Option NameId → Bool) → Computation Nothing → Ways → Ways
landed Lands again k = record k { out = landing Lands (ended again k) (k.next tt) k.out }

abbrev pub groups_of : CoreStmtForm → List CoreGroup
groups_of (Switch locals selector cases) = group_list_of cases
groups_of _ = []

-- the statements from one of a group on, with those of the groups behind it
abbrev pub rest_in : List CoreGroup → ℕ → List CoreStmt
rest_in [] next = []
rest_in (g ∷ gs) next = drop next (parts_in g) ++ fallen_through gs

abbrev pub rest_of : List CoreGroup → ℕ → ℕ → List CoreStmt
rest_of groups at next = rest_in (drop at groups) next

-- what a `break` without a label leaves
abbrev pub broken : Ways → Ways
broken k = record k { out = breaking (k.next tt) k.out }

-- what is thrown goes on in another way
abbrev pub catches : (ObjId → Computation Nothing) → Ways → Ways
catches handler k = record k { out = record k.out { throw = λ exception. ended (handler exception) k } }

-- another computation runs on each way on and out
abbrev pub finishes : MaybeStmt → Meanings → Ways → Ways
finishes no_stmt m k = k
finishes (a_stmt last) m k = record { give = k.give; next = λ u. ended (m.exec last) k; out = after_all (m.exec last) k.out }

-- the block behind `finally`
abbrev pub last_of : CoreStmtForm → MaybeStmt
last_of (Try body handlers last) = last
last_of _ = no_stmt

abbrev pub catches_of : CoreStmtForm → List CoreCatch
catches_of (Try body handlers last) = catch_list_of handlers
catches_of _ = []

-- how a run goes on after that end
abbrev pub ended_by : End → Ways → Run
ended_by NextEnd k = k.next tt
ended_by (LeaveEnd value) k = k.out.leave value
ended_by (ThrowEnd exception) k = k.out.throw exception
ended_by (JumpEnd again label) k = k.out.jump again label

-- how a run goes on behind the start of classes
abbrev pub goes_behind : CoreProgram → Meanings → Then → Ways → Run
goes_behind program m (Node e) k = valued (eval_form program m e.value.ty (form_view e.value.form)) k
goes_behind program m (Classes left) k = load_from program m left.next left.count

-- how the start of classes goes on
abbrev pub starts_on : CoreProgram → Meanings → StartRest → Ways → Run
starts_on program m start k = initialize_from program m start.class start.at start.outer start.classes (goes_behind program m start.then k)

-- what a frame does with what comes, and with the ways on behind it
abbrev pub frame_ways : CoreProgram → Meanings → Frame → Ways → Ways
frame_ways program m (ReadField class field) k = giving (λ o. read_field program class field o) k
frame_ways program m (SetLocal local) k = giving (λ v. put_local local v) k
frame_ways program m (SetObject class field value) k = giving (λ o. do
  v ← m.eval (view value.value)
  write_field program class field o v) k
frame_ways program m (SetField class field object) k = giving (λ v. write_field program class field object v) k
frame_ways program m (Left op right) k = giving (λ a. do
  b ← m.eval (view right.value)
  binary program op a b) k
frame_ways program m (Right op left) k = giving (λ b. binary program op left b) k
frame_ways program m (ReadStatic class field) k = giving (λ dropped. read_static program class field) k
frame_ways program m (SetBefore class field value) k = giving (λ dropped. set_variable program m class field (view value.value)) k
frame_ways program m (SetStatic class field) k = giving (λ v. write_static program class field v) k
frame_ways program m (ReadArray index) k = giving (λ a. do
  i ← m.eval (view index.value)
  read_element program a i) k
frame_ways program m (ReadElement array) k = giving (λ i. read_element program array i) k
frame_ways program m LengthFrame k = giving (λ a. length_of program a) k
frame_ways program m (SetArray index value) k = giving (λ a. do
  i ← m.eval (view index.value)
  v ← m.eval (view value.value)
  write_element program a i v) k
frame_ways program m (SetIndex array value) k = giving (λ i. do
  v ← m.eval (view value.value)
  write_element program array i v) k
frame_ways program m (SetElement array index) k = giving (λ v. write_element program array index v) k
frame_ways program m (UpdateObject node) k = giving (λ o. update_object program m node.value.ty (form_view node.value.form) o) k
frame_ways program m (UpdateIndex node object) k = giving (λ i. update_at program m node.value.ty (form_view node.value.form) object i) k
frame_ways program m (UpdateFrame node object index old) k = giving (λ b. update_by program m node.value.ty (form_view node.value.form) object index old b) k
frame_ways program m (Operand op) k = giving (λ a. unary op a) k
frame_ways program m (Converted ty) k = giving (λ a. convert ty a) k
frame_ways program m (CastFrame ty) k = giving (λ a. cast program ty a) k
frame_ways program m (InstanceFrame of) k = giving (λ a. is_instance program of a) k
frame_ways program m (AndFrame right) k = giving (λ held. branch held (m.eval (view right.value)) (ret (Truth false))) k
frame_ways program m (OrFrame right) k = giving (λ held. branch held (ret (Truth true)) (m.eval (view right.value))) k
frame_ways program m (ChooseFrame on_true on_false) k = giving (λ held. branch held (m.eval (view on_true.value)) (m.eval (view on_false.value))) k
frame_ways program m (Test node) k = doing (λ v. tested m (stmt_view node.value) (stmt_form_view node.value.form) v) k
frame_ways program m (Body node) k = turning (takes (labels_of (stmt_form_view node.value.form))) (m.again (stmt_view node.value)) k
frame_ways program m (Steps node next) k = doing (λ v. further m (stmt_view node.value) (stmt_form_view node.value.form) next) k
frame_ways program m (SwitchFrame node) k = doing (λ v. switched m (groups_of (stmt_form_view node.value.form)) v) k
frame_ways program m (Cases node at next) k = going (block m (rest_of (groups_of (stmt_form_view node.value.form)) at next)) (broken k)
frame_ways program m (TryFrame node) k =
    catches (caught program m (catches_of (stmt_form_view node.value.form))) (finishes (last_of (stmt_form_view node.value.form)) m k)
frame_ways program m (Finally node) k = finishes (last_of (stmt_form_view node.value.form)) m k
frame_ways program m (Finishing end) k = record { give = k.give; next = λ u. ended_by end k; out = k.out }
frame_ways program m ThrownFrame k = doing (λ v. throw_value program v) k
frame_ways program m (LabelledFrame label node) k = landed (is_label label) (m.again (stmt_view node.value)) k
frame_ways program m (Receiver call) k = giving (λ this. start_call program m call.value.ty (form_view call.value.form) this) k
frame_ways program m (Args call this next done) k = giving (λ v. call_from program m call.value.ty (form_view call.value.form) this next (done ++ v ∷ [])) k
frame_ways program m (Called caller result built) k = called (own_of caller) result (built_or built k.give) k
frame_ways program m (ConstructorArgs class body call next done) k = doing (λ v. do
  constructor_from program m (form_view call.value.form) next (done ++ v ∷ [])
  called_behind program m class (stmt_form_view body.value.form) (form_view call.value.form)) k
frame_ways program m (ConstructorFrame caller rest) k = followed (own_of caller) (goes_on program m rest) k
frame_ways program m (InitializerFrame caller class at body next) k =
    followed (own_of caller) (initialized program m class (stmt_form_view body.value.form) at next) k
frame_ways program m (Starting caller start) k =
    called (own_of caller) Null (λ dropped. starts_on program m start k) (record k { out = out_of_start start.class })
frame_ways program m (Parts node next) k = going (block m (drop next (parts_of (stmt_form_view node.value.form)))) k
frame_ways program m Ignored k = doing (λ v. ret tt) k
frame_ways program m Returned k = doing (λ v. leave v) k
frame_ways program m (ConcatLeft right) k = giving (λ front. do
  back ← m.eval (view right.value)
  concatenated (to_string program m) front back) k
frame_ways program m (ConcatRight left) k = giving (λ back. concatenated (to_string program m) left back) k
frame_ways program m (Telling caller result told) k = called (own_of caller) result (λ v. valued (told_by program m told v) k) k

-- the ways on that a stack of frames holds, before the ways on behind it
abbrev pub waits : CoreProgram → Meanings → Ways → List Frame → Ways
waits program m k [] = k
waits program m k (f ∷ fs) = frame_ways program m f (waits program m k fs)

-- what comes of a control before a stack of frames
abbrev pub resume : CoreProgram → Meanings → Ways → Control → List Frame → Run
resume program m k (Start call) fs =
    λ s. call_by program m call.receiver call.class call.method call.args DoneRun ends (with_own s nobody)
resume program m k (Load left) fs = load_from program m left.next left.count
resume program m k (Eval e) fs = valued (m.eval (view e.value)) (waits program m k fs)
resume program m k (Exec s) fs = ended (m.exec (stmt_view s.value)) (waits program m k fs)
resume program m k (Build class body) fs = ended (m.build class (stmt_view body.value)) (waits program m k fs)
resume program m k (Give v) fs = (waits program m k fs).give v
resume program m k Next fs = (waits program m k fs).next tt
resume program m k (Leave v) fs = (waits program m k fs).out.leave v
resume program m k (Throw o) fs = (waits program m k fs).out.throw o
resume program m k (Jump again label) fs = (waits program m k fs).out.jump again label
resume program m k (DoneHere reply) fs = DoneRun reply
resume program m k (ThrownHere o) fs = Thrown o
resume program m k (ThrownInStartHere class o) fs = ThrownInStart class o
resume program m k SpentHere fs = Spent
resume program m k WrongHere fs = λ s. Wrong
resume program m k Memory fs = λ s. Wrong

abbrev pub state_of : ℕ → ℕ → Contents → Outside → Own → State
state_of units begun heap outside own = record {
  world = heap.world;
  own = own;
  public = record { units = units; begun = begun };
  outside = outside;
}

-- the state of a run over a heap
abbrev pub state : Context → Contents → Outside → State
state context heap outside = state_of context.units context.begun heap outside (own_of context.env)

-- how far a run is from its end at most, beside what it does next
abbrev pub height : Context → ℕ
height context = 2 * context.units + length context.frames

-- 1 where a frame is to take what there is, and 2 where a load is to begin
abbrev pub gives : Control → ℕ
gives (Load left) = 2
gives (Give v) = 1
gives Next = 1
gives (Leave v) = 1
gives (Throw o) = 1
gives (Jump again label) = 1
gives _ = 0
