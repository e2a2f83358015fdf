-- What a control stands for, before frames and in a state: the clauses of the functions that begin a node or take what
-- comes.
use Rattle.std.specs.Prelude.{◌≡◌, ◌≢◌, ◌<◌, ◌+◌, ℕ, List, [], ◌∷◌, drop, filter, Option, Some, None, Bool, true, false, if◌then◌else◌}
use Rattle.std.specs.declared.rc.Rc.{Rc}
use Rattle.std.specs.declared.alloc.Global.{Global}
use Rattle.je_core.specs.declared.value.ObjId.{ObjId}
use Rattle.je_core.specs.declared.value.Value.{Value}
use Rattle.je_core.specs.declared.value.Value.TheVariants.{Ref}
use Rattle.je_core.specs.declared.types.ClassId.{ClassId}
use Rattle.je_core.specs.declared.types.Ty.{Ty}
use Rattle.je_core.specs.declared.program.Program.{Program}
use Rattle.je_core.specs.declared.expr.Expr.{Expr}
use Rattle.je_core.specs.declared.stmt.Stmt.{Stmt}
use Rattle.je_core.specs.Core.{Core, CoreForm, Update, CoreStmt, CoreGroup, CoreInitializer, CoreProgram, form_of, option_of}
use Rattle.je_core.specs.View.{view, stmt_view, program_view}
use Rattle.je_heap.specs.Contents.{Contents}
use Rattle.je_java.specs.Steps.{State, Outside, Own, Done, Spent, Wrong, Run, Exits, Computation, Nothing, ◌>>◌, ret, wrong, raise, throw, put_local, with_own, make}
use Rattle.je_java.specs.Raised.{null_pointer, array_index, array_store}
use Rattle.je_java.specs.Arrays.{storable}
use Rattle.je_java.specs.Constructors.{is_of_instance}
use Rattle.je_java.specs.Meaning.{Meanings, is_static, fetched, java, ends, nobody}
use Rattle.machine_parts.specs.declared.frame.Frame.{Frame}
use Rattle.machine_parts.specs.declared.frame.Env.{Env}
use Rattle.machine_parts.specs.declared.frame.Context.{Context}
use Rattle.machine_parts.specs.declared.frame.Control.{Control}
use Rattle.machine_parts.specs.declared.frame.Fetched.{Fetched}
use Rattle.machine_parts.specs.declared.frame.Fetched.TheVariants.{Value as FetchedValue, Null as FetchedNull, Outside as FetchedOutside, Wrong as FetchedWrong}
use Rattle.machine_parts.specs.declared.frame.Made.{Made}
use Rattle.machine_parts.specs.declared.frame.Made.TheVariants.{Object, Spent as SpentMade, Wrong as WrongMade}
use Rattle.machine_parts.specs.declared.frame.Reply.{Reply}
use Rattle.machine_parts.specs.declared.frame.Next.{Next}
use Rattle.machine_parts.specs.declared.frame.Next.TheVariants.{More}
use Rattle.machine_parts.specs.Ways.{Ways, rest_of, waits, resume, valued, ended, own_of, state_of, state, height, gives}
use Rattle.machine_parts.specs.Outermost.{outermost, answer_at}

-- what comes to a value
abbrev pub ToValue : Type 0
ToValue = CoreProgram → Meanings → Computation Value

-- what comes to a statement's end
abbrev pub ToEnd : Type 0
ToEnd = CoreProgram → Meanings → Computation Nothing

-- what the newest frame does with what comes, before those behind it
abbrev pub Ahead : Type 0
Ahead = CoreProgram → Meanings → Ways → Run

-- before the new frames the control is what comes to a value before the old ones
abbrev pub BeginsValue : List Frame → List Frame → ToValue → Control → Type 0
BeginsValue old new f c = (p : CoreProgram) (m : Meanings) (k : Ways) (s : State) → resume p m k c new s ≡ valued (f p m) (waits p m k old) s

abbrev pub BeginsEnd : List Frame → List Frame → ToEnd → Control → Type 0
BeginsEnd old new f c = (p : CoreProgram) (m : Meanings) (k : Ways) (s : State) → resume p m k c new s ≡ ended (f p m) (waits p m k old) s

-- the control goes on as that before the frames, in any state
abbrev pub GoesAheadOf : List Frame → List Frame → Ahead → Control → Type 0
GoesAheadOf old new f c = (p : CoreProgram) (m : Meanings) (k : Ways) (s : State) → resume p m k c new s ≡ f p m (waits p m k old) s

-- the same before any frames
abbrev pub IsAhead : Control → Ahead → Type 0
IsAhead c f = (p : CoreProgram) (m : Meanings) (k : Ways) (fs : List Frame) (s : State) → resume p m k c fs s ≡ f p m (waits p m k fs) s

-- what is done with an exception by the block of a catch, if one takes it
abbrev pub handled_by : Meanings → Option (ℕ × Rc Stmt Global) → ObjId → Computation Nothing
handled_by m None exception = throw exception
handled_by m (Some (local, block)) exception = do
  put_local local (Ref exception)
  m.exec (stmt_view block.value)

-- before any frames
abbrev pub IsValue : Control → ToValue → Type 0
IsValue c f = (p : CoreProgram) (m : Meanings) (k : Ways) (fs : List Frame) (s : State) → resume p m k c fs s ≡ valued (f p m) (waits p m k fs) s

abbrev pub IsEnd : Control → ToEnd → Type 0
IsEnd c f = (p : CoreProgram) (m : Meanings) (k : Ways) (fs : List Frame) (s : State) → resume p m k c fs s ≡ ended (f p m) (waits p m k fs) s

-- before any frames, in a body with these variables
abbrev pub IsValueIn : (Own → Type 0) → Control → ToValue → Type 0
IsValueIn Has c f = (p : CoreProgram) (m : Meanings) (k : Ways) (fs : List Frame) (s : State) → Has s.own → resume p m k c fs s ≡ valued (f p m) (waits p m k fs) s

-- the same of a program in memory, where the state may have changed too
abbrev pub GoesToValue : Program → Context → Contents → Context → Contents → ToValue → Control → Type 0
GoesToValue program old before new after f c = (m : Meanings) (k : Ways) (outside : Outside) →
    resume (program_view program) m k c new.frames (state new after outside) ≡ valued (f (program_view program) m) (waits (program_view program) m k old.frames) (state old before outside)

-- the same of a program in memory before any frames, in a body with any variables; the heap may have changed
abbrev pub IsValueOver : Program → Contents → Contents → ToValue → Control → Type 0
IsValueOver program before after f c = (m : Meanings) (k : Ways) (fs : List Frame) (units begun : ℕ) (outside : Outside) (own : Own) →
    resume (program_view program) m k c fs (state_of units begun after outside own) ≡ valued (f (program_view program) m) (waits (program_view program) m k fs) (state_of units begun before outside own)

-- the same where the program isn't looked at
abbrev pub GoesToValueIn : Context → Contents → Context → Contents → ToValue → Control → Type 0
GoesToValueIn old before new after f c = (p : CoreProgram) (m : Meanings) (k : Ways) (outside : Outside) →
    resume p m k c new.frames (state new after outside) ≡ valued (f p m) (waits p m k old.frames) (state old before outside)

-- the same of what comes to a statement's end
abbrev pub GoesToEnd : Program → Context → Contents → Context → Contents → ToEnd → Control → Type 0
GoesToEnd program old before new after f c = (m : Meanings) (k : Ways) (outside : Outside) →
    resume (program_view program) m k c new.frames (state new after outside) ≡ ended (f (program_view program) m) (waits (program_view program) m k old.frames) (state old before outside)

-- the first of these, where the heap isn't looked at
abbrev pub GoesToValueOf : Program → Context → Context → ToValue → Control → Type 0
GoesToValueOf program old new f c = (heap : Contents) → GoesToValue program old heap new heap f c

-- the control goes on as that, where neither the program nor the heap is looked at
abbrev pub GoesAhead : Context → Context → Ahead → Control → Type 0
GoesAhead old new f c = (p : CoreProgram) (m : Meanings) (k : Ways) (heap : Contents) (outside : Outside) →
    resume p m k c new.frames (state new heap outside) ≡ f p m (waits p m k old.frames) (state old heap outside)

-- the same, where the variables alone may change
abbrev pub GoesAheadIn : Env → Env → Control → Ahead → Type 0
GoesAheadIn old new c f = (p : CoreProgram) (m : Meanings) (k : Ways) (fs : List Frame) (units begun : ℕ) (heap : Contents) (outside : Outside) →
    resume p m k c fs (state_of units begun heap outside (own_of new)) ≡ f p m (waits p m k fs) (state_of units begun heap outside (own_of old))

-- the same of a program in memory, where the state may have changed too
abbrev pub GoesAheadOver : Program → Context → Contents → Context → Contents → Ahead → Control → Type 0
GoesAheadOver program old before new after f c = (m : Meanings) (k : Ways) (outside : Outside) →
    resume (program_view program) m k c new.frames (state new after outside) ≡ f (program_view program) m (waits (program_view program) m k old.frames) (state old before outside)

-- a call of a program in memory goes on to that
abbrev pub GoesToReply : Program → Context → Contents → Reply → Context → Contents →
    (CoreProgram → Meanings → Computation (Option Value)) → Control → Type 0
GoesToReply program old before r new after f c = (outside : Outside) →
    resume (program_view program) (java (program_view program)) (outermost r) c new.frames (state new after outside) ≡
    f (program_view program) (java (program_view program)) Done ends (with_own (state old before outside) nobody)

-- by Java's evaluation of a program in memory

-- what comes of a control
abbrev pub run_from : Program → Ways → Control → List Frame → Run
run_from program k c fs = resume (program_view program) (java (program_view program)) k c fs

-- the control goes on as the old one
abbrev pub GoesOn : Program → Reply → Context → Contents → Outside → Control → Reply → Context → Contents → Outside → Control → Type 0
GoesOn program reply old before outside control reply' new after outside' c =
    run_from program (outermost reply') c new.frames (state new after outside') ≡
    run_from program (outermost reply) control old.frames (state old before outside)

-- the control is what comes to a value
abbrev pub RunsToValue : Program → Context → Contents → Outside → Context → Contents → Outside → (Meanings → Computation Value) → Control → Type 0
RunsToValue program old before outside new after outside' f c = (k : Ways) →
    run_from program k c new.frames (state new after outside') ≡
    valued (f (java (program_view program))) (waits (program_view program) (java (program_view program)) k old.frames) (state old before outside)

-- the control is what comes to a statement's end
abbrev pub RunsToEnd : Program → Context → Contents → Context → Contents → (Meanings → Computation Nothing) → Control → Type 0
RunsToEnd program old before new after f c = (k : Ways) (outside : Outside) →
    run_from program k c new.frames (state new after outside) ≡ ended (f (java (program_view program))) (waits (program_view program) (java (program_view program)) k old.frames) (state old before outside)

-- the control is a body with these variables and nothing behind it
abbrev pub BeginsBody : Program → Context → Contents → Context → Contents → (Meanings → Computation Nothing) → Own → Control → Type 0
BeginsBody program old before new after body own c = (k : Ways) (outside : Outside) →
    run_from program k c new.frames (state new after outside) ≡
    ended (body (java (program_view program))) k (state_of old.units old.begun before outside own)

-- before the new frames the control is what comes to a statement's end before the old ones
abbrev pub RunsOn : List Frame → List Frame → (Meanings → Computation Nothing) → Control → Type 0
RunsOn old new f c = (p : CoreProgram) (k : Ways) (s : State) → resume p (java p) k c new s ≡ ended (f (java p)) (waits p (java p) k old) s

-- the control goes on as that, where neither the program nor the heap is looked at
abbrev pub RunsAhead : Context → Context → Ahead → Control → Type 0
RunsAhead old new f c = (p : CoreProgram) (k : Ways) (heap : Contents) (outside : Outside) →
    resume p (java p) k c new.frames (state new heap outside) ≡ f p (java p) (waits p (java p) k old.frames) (state old heap outside)

-- the same before the frames alone, in any state
abbrev pub RunsAheadOf : List Frame → List Frame → Ahead → Control → Type 0
RunsAheadOf old new f c = (p : CoreProgram) (k : Ways) (s : State) → resume p (java p) k c new s ≡ f p (java p) (waits p (java p) k old) s

-- the same of a program in memory, where the state may have changed too, and classes may have started
abbrev pub RunsAheadFrom : Program → Context → Contents → Outside → Context → Contents → Outside → Ahead → Control → Type 0
RunsAheadFrom program old before outside new after outside' f c = (k : Ways) →
    run_from program k c new.frames (state new after outside') ≡
    f (program_view program) (java (program_view program)) (waits (program_view program) (java (program_view program)) k old.frames) (state old before outside)

-- the same before what is behind the first body
abbrev pub RunsOut : Reply → Context → Context → Ahead → Control → Type 0
RunsOut reply old new f c = (p : CoreProgram) (heap : Contents) (outside : Outside) →
    resume p (java p) (outermost reply) c new.frames (state new heap outside) ≡ f p (java p) (waits p (java p) (outermost reply) old.frames) (state old heap outside)

abbrev pub RunsOutFrom : Program → Reply → Context → Contents → Outside → Context → Contents → Outside → Ahead → Control → Type 0
RunsOutFrom program reply old before outside new after outside' f c =
    run_from program (outermost reply) c new.frames (state new after outside') ≡
    f (program_view program) (java (program_view program)) (waits (program_view program) (java (program_view program)) (outermost reply) old.frames) (state old before outside)

-- a number that falls with each move that goes on, where what came before gave so much
abbrev pub FallsFrom : ℕ → Context → Context → Control → Type 0
FallsFrom gave old new c = answer_at c ≡ Some More → height new + gives c < height old + gave

abbrev pub Falls : Context → Context → Control → Type 0
Falls old new c = answer_at c ≡ Some More → height new + gives c < height old

-- an end stays as it is
abbrev pub Stays : Control → Control → Type 0
Stays old new = (last : Next) → answer_at old ≡ Some last → last ≢ More → new ≡ old

-- how a run goes on with what an instance's making came to
abbrev pub made_ways : Made → (ObjId → Run) → Run
made_ways (Object o) go = go o
made_ways SpentMade go = Spent
made_ways WrongMade go = λ s. Wrong

-- an instance's making came to that
abbrev pub Makes : Program → ClassId → Context → Contents → Context → Contents → Made → Type 0
Makes program class old before new after made = (go : ObjId → Run) (exits : Exits) (outside : Outside) →
    made_ways made go (state new after outside) ≡ make (program_view program) class go exits (state old before outside)

-- and so it does whatever variables the body has
abbrev pub MakesApart : Program → ClassId → Context → Contents → Context → Contents → Made → Type 0
MakesApart program class old before new after made = (own : Own) (go : ObjId → Run) (exits : Exits) (outside : Outside) →
    made_ways made go (state_of new.units new.begun after outside own) ≡
    make (program_view program) class go exits (state_of old.units old.begun before outside own)

-- a new exception of a class is thrown before the frames
abbrev pub Raises : Program → ClassId → Context → Contents → Context → Contents → Control → Type 0
Raises program class old before new after c = (m : Meanings) (k : Ways) (outside : Outside) →
    resume (program_view program) m k c new.frames (state new after outside) ≡
    make (program_view program) class (waits (program_view program) m k old.frames).out.throw (waits (program_view program) m k old.frames).out (state old before outside)

-- the operand of a compound assignment
abbrev pub operand_of : CoreForm → Option Core
operand_of (Update place op operand gives_old) = option_of operand
operand_of _ = None

-- the value of the place of a compound assignment, whose object and index have values
abbrev pub fetched_of : CoreProgram → CoreForm → Value → Value → Computation Value
fetched_of program (Update place op operand gives_old) object index = fetched program (form_of place) object index
fetched_of program _ object index = wrong

-- how a run goes on with what the reading of a place came to
abbrev pub fetched_ways : CoreProgram → Fetched → Computation Value
fetched_ways program (FetchedValue value) = ret value
fetched_ways program FetchedNull = raise program null_pointer
fetched_ways program FetchedOutside = raise program array_index
fetched_ways program FetchedWrong = wrong

-- a place's reading came to that, in a body with these variables
abbrev pub Fetches : Program → Contents → Env → (CoreProgram → Computation Value) → Fetched → Type 0
Fetches program heap env f found = (go : Value → Run) (exits : Exits) (units begun : ℕ) (outside : Outside) →
    fetched_ways (program_view program) found go exits (state_of units begun heap outside (own_of env)) ≡
    f (program_view program) go exits (state_of units begun heap outside (own_of env))

-- how a run goes on with what the test of a value for a place among elements came to: none where no program comes
abbrev pub stored_ways : CoreProgram → Option Bool → Computation Nothing
stored_ways program None = wrong
stored_ways program (Some holds) = if holds then ret tt else raise program array_store

-- the test came to that
abbrev pub Stores : Program → Contents → Ty → Value → Option Bool → Type 0
Stores program heap element value found = (go : Nothing → Run) (exits : Exits) (units begun : ℕ) (outside : Outside) (own : Own) →
    stored_ways (program_view program) found go exits (state_of units begun heap outside own) ≡
    storable (program_view program) element value go exits (state_of units begun heap outside own)

-- whether an initializer is one of a class itself, or of its instances
abbrev pub is_of_kind : Bool → CoreInitializer → Bool
is_of_kind true = is_static
is_of_kind false = is_of_instance

-- the first of some initializers, and those of a kind among the others
abbrev pub from_first : Bool → List CoreInitializer → List CoreInitializer
from_first kind [] = []
from_first kind (initializer ∷ initializers) = initializer ∷ filter (is_of_kind kind) initializers

-- the next statement of some groups from a place on, and the place behind it
abbrev pub NextCase : List CoreGroup → ℕ → ℕ → Option (ℕ × ℕ × Rc Stmt Global) → Type 0
NextCase groups at next None = rest_of groups at next ≡ []
NextCase groups at next (Some (at', next', part)) = rest_of groups at next ≡ stmt_view part.value ∷ rest_of groups at' next'

-- the place of the next initializer of a kind among some, or that there is none
abbrev pub NextInitializer : List CoreInitializer → Bool → ℕ → Option ℕ → Type 0
NextInitializer initializers kind at None = filter (is_of_kind kind) (drop at initializers) ≡ []
NextInitializer initializers kind at (Some next) =
    filter (is_of_kind kind) (drop at initializers) ≡ from_first kind (drop next initializers)

-- the next expression of a list, or its end
abbrev pub NextExpr : List Core → ℕ → Option (Rc Expr Global) → Type 0
NextExpr es at None = drop at es ≡ []
NextExpr es at (Some e) = drop at es ≡ view e.value ∷ drop (at + 1) es

-- the next statement of a list, or its end
abbrev pub NextStmt : List CoreStmt → ℕ → Option (Rc Stmt Global) → Type 0
NextStmt ps at None = drop at ps ≡ []
NextStmt ps at (Some p) = drop at ps ≡ stmt_view p.value ∷ drop (at + 1) ps
