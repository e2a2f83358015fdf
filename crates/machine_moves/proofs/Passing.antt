-- Ways out that a frame leaves as they are: all but those of a body, of a `try` and of a block behind `finally`.
use Rattle.std.proofs.Common.{◌≡◌, ℕ, Option, refl}
use Rattle.std.specs.declared.alloc.Global.{Global}
use Rattle.std.specs.declared.rc.Rc.{Rc}
use Rattle.je_core.specs.declared.stmt.Stmt.{Stmt}
use Rattle.je_core.specs.declared.types.ClassId.{ClassId}
use Rattle.je_core.specs.declared.value.ObjId.{ObjId}
use Rattle.je_core.specs.declared.value.Value.{Value}
use Rattle.je_core.specs.Core.{CoreProgram}
use Rattle.je_java.specs.Meaning.{Meanings}
use Rattle.machine_parts.specs.declared.frame.Env.{Env}
use Rattle.machine_parts.specs.declared.frame.Rest.{Rest}
use Rattle.machine_parts.specs.declared.frame.Start.{Start}
use Rattle.machine_parts.specs.declared.frame.Told.{Told}
use Rattle.machine_parts.specs.declared.frame.Frame.{Frame}
use Rattle.machine_parts.specs.declared.frame.Frame.TheVariants.{ReadField, SetLocal, SetObject, SetField, ReadStatic, SetBefore, SetStatic, ReadArray, ReadElement, Length, SetArray, SetIndex, SetElement, UpdateObject, UpdateIndex, Update, Operand, Converted, Cast, InstanceOf, Left, Right, And, Or, Choose, Test, Body, Steps, Labelled, Switch, Cases, Try, Finally, Finishing, Thrown, Receiver, Args, Called, ConstructorArgs, Constructor, Initializer, Starting, Parts, Ignored, Returned, ConcatLeft, ConcatRight, Telling}
use Rattle.machine_parts.specs.Ways.{Ways, frame_ways}

pub leave_passes : (p : CoreProgram) (m : Meanings) (f : Frame) (k : Ways) (v : Value) →
    ((node : Rc Stmt Global) → f ≡ Try node → ⊥) → ((node : Rc Stmt Global) → f ≡ Finally node → ⊥) →
    ((caller : Env) (result : Value) (built : Option Value) → f ≡ Called caller result built → ⊥) →
    ((caller : Env) (result : Value) (told : Told) → f ≡ Telling caller result told → ⊥) →
    ((caller : Env) (rest : Rest) → f ≡ Constructor caller rest → ⊥) →
    ((caller : Env) (class : ClassId) (at : ℕ) (body : Rc Stmt Global) (next : ℕ) → f ≡ Initializer caller class at body next → ⊥) →
    ((caller : Env) (start : Start) → f ≡ Starting caller start → ⊥) → k.out.leave v ≡ (frame_ways p m f k).out.leave v
leave_passes p m (ReadField class field) k v a b d t h i g = refl
leave_passes p m (SetLocal local) k v a b d t h i g = refl
leave_passes p m (SetObject class field value) k v a b d t h i g = refl
leave_passes p m (SetField class field object) k v a b d t h i g = refl
leave_passes p m (ReadStatic class field) k v a b d t h i g = refl
leave_passes p m (SetBefore class field value) k v a b d t h i g = refl
leave_passes p m (SetStatic class field) k v a b d t h i g = refl
leave_passes p m (ReadArray index) k v a b d t h i g = refl
leave_passes p m (ReadElement array) k v a b d t h i g = refl
leave_passes p m Length k v a b d t h i g = refl
leave_passes p m (SetArray index value) k v a b d t h i g = refl
leave_passes p m (SetIndex array value) k v a b d t h i g = refl
leave_passes p m (SetElement array index) k v a b d t h i g = refl
leave_passes p m (UpdateObject node) k v a b d t h i g = refl
leave_passes p m (UpdateIndex node object) k v a b d t h i g = refl
leave_passes p m (Update node object index old) k v a b d t h i g = refl
leave_passes p m (Operand op) k v a b d t h i g = refl
leave_passes p m (Converted ty) k v a b d t h i g = refl
leave_passes p m (Cast ty) k v a b d t h i g = refl
leave_passes p m (InstanceOf of) k v a b d t h i g = refl
leave_passes p m (Left op right) k v a b d t h i g = refl
leave_passes p m (Right op left) k v a b d t h i g = refl
leave_passes p m (And right) k v a b d t h i g = refl
leave_passes p m (Or right) k v a b d t h i g = refl
leave_passes p m (Choose on_true on_false) k v a b d t h i g = refl
leave_passes p m (Test node) k v a b d t h i g = refl
leave_passes p m (Body node) k v a b d t h i g = refl
leave_passes p m (Steps node next) k v a b d t h i g = refl
leave_passes p m (Labelled label node) k v a b d t h i g = refl
leave_passes p m (Switch node) k v a b d t h i g = refl
leave_passes p m (Cases node at next) k v a b d t h i g = refl
leave_passes p m (Try node) k v a b d t h i g = absurd (a node refl)
leave_passes p m (Finally node) k v a b d t h i g = absurd (b node refl)
leave_passes p m (Finishing end) k v a b d t h i g = refl
leave_passes p m Thrown k v a b d t h i g = refl
leave_passes p m (Receiver call) k v a b d t h i g = refl
leave_passes p m (Args call this next done) k v a b d t h i g = refl
leave_passes p m (Called caller result built) k v a b d t h i g = absurd (d caller result built refl)
leave_passes p m (ConstructorArgs class body call next done) k v a b d t h i g = refl
leave_passes p m (Constructor caller rest) k v a b d t h i g = absurd (h caller rest refl)
leave_passes p m (Initializer caller class at body next) k v a b d t h i g = absurd (i caller class at body next refl)
leave_passes p m (Starting caller start) k v a b d t h i g = absurd (g caller start refl)
leave_passes p m (Parts node next) k v a b d t h i g = refl
leave_passes p m Ignored k v a b d t h i g = refl
leave_passes p m Returned k v a b d t h i g = refl
leave_passes p m (ConcatLeft right) k v a b d t h i g = refl
leave_passes p m (ConcatRight left) k v a b d t h i g = refl
leave_passes p m (Telling caller result told) k v a b d t h i g = absurd (t caller result told refl)

pub throw_passes : (p : CoreProgram) (m : Meanings) (f : Frame) (k : Ways) (exception : ObjId) →
    ((node : Rc Stmt Global) → f ≡ Try node → ⊥) → ((node : Rc Stmt Global) → f ≡ Finally node → ⊥) →
    ((caller : Env) (result : Value) (built : Option Value) → f ≡ Called caller result built → ⊥) →
    ((caller : Env) (result : Value) (told : Told) → f ≡ Telling caller result told → ⊥) →
    ((caller : Env) (rest : Rest) → f ≡ Constructor caller rest → ⊥) →
    ((caller : Env) (class : ClassId) (at : ℕ) (body : Rc Stmt Global) (next : ℕ) → f ≡ Initializer caller class at body next → ⊥) →
    ((caller : Env) (start : Start) → f ≡ Starting caller start → ⊥) → k.out.throw exception ≡ (frame_ways p m f k).out.throw exception
throw_passes p m (ReadField class field) k exception a b d t h i g = refl
throw_passes p m (SetLocal local) k exception a b d t h i g = refl
throw_passes p m (SetObject class field value) k exception a b d t h i g = refl
throw_passes p m (SetField class field object) k exception a b d t h i g = refl
throw_passes p m (ReadStatic class field) k exception a b d t h i g = refl
throw_passes p m (SetBefore class field value) k exception a b d t h i g = refl
throw_passes p m (SetStatic class field) k exception a b d t h i g = refl
throw_passes p m (ReadArray index) k exception a b d t h i g = refl
throw_passes p m (ReadElement array) k exception a b d t h i g = refl
throw_passes p m Length k exception a b d t h i g = refl
throw_passes p m (SetArray index value) k exception a b d t h i g = refl
throw_passes p m (SetIndex array value) k exception a b d t h i g = refl
throw_passes p m (SetElement array index) k exception a b d t h i g = refl
throw_passes p m (UpdateObject node) k exception a b d t h i g = refl
throw_passes p m (UpdateIndex node object) k exception a b d t h i g = refl
throw_passes p m (Update node object index old) k exception a b d t h i g = refl
throw_passes p m (Operand op) k exception a b d t h i g = refl
throw_passes p m (Converted ty) k exception a b d t h i g = refl
throw_passes p m (Cast ty) k exception a b d t h i g = refl
throw_passes p m (InstanceOf of) k exception a b d t h i g = refl
throw_passes p m (Left op right) k exception a b d t h i g = refl
throw_passes p m (Right op left) k exception a b d t h i g = refl
throw_passes p m (And right) k exception a b d t h i g = refl
throw_passes p m (Or right) k exception a b d t h i g = refl
throw_passes p m (Choose on_true on_false) k exception a b d t h i g = refl
throw_passes p m (Test node) k exception a b d t h i g = refl
throw_passes p m (Body node) k exception a b d t h i g = refl
throw_passes p m (Steps node next) k exception a b d t h i g = refl
throw_passes p m (Labelled label node) k exception a b d t h i g = refl
throw_passes p m (Switch node) k exception a b d t h i g = refl
throw_passes p m (Cases node at next) k exception a b d t h i g = refl
throw_passes p m (Try node) k exception a b d t h i g = absurd (a node refl)
throw_passes p m (Finally node) k exception a b d t h i g = absurd (b node refl)
throw_passes p m (Finishing end) k exception a b d t h i g = refl
throw_passes p m Thrown k exception a b d t h i g = refl
throw_passes p m (Receiver call) k exception a b d t h i g = refl
throw_passes p m (Args call this next done) k exception a b d t h i g = refl
throw_passes p m (Called caller result built) k exception a b d t h i g = absurd (d caller result built refl)
throw_passes p m (ConstructorArgs class body call next done) k exception a b d t h i g = refl
throw_passes p m (Constructor caller rest) k exception a b d t h i g = absurd (h caller rest refl)
throw_passes p m (Initializer caller class at body next) k exception a b d t h i g = absurd (i caller class at body next refl)
throw_passes p m (Starting caller start) k exception a b d t h i g = absurd (g caller start refl)
throw_passes p m (Parts node next) k exception a b d t h i g = refl
throw_passes p m Ignored k exception a b d t h i g = refl
throw_passes p m Returned k exception a b d t h i g = refl
throw_passes p m (ConcatLeft right) k exception a b d t h i g = refl
throw_passes p m (ConcatRight left) k exception a b d t h i g = refl
throw_passes p m (Telling caller result told) k exception a b d t h i g = absurd (t caller result told refl)
