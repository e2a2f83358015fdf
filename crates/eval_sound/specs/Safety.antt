-- When a run is safe: from a state that fits where a node stands it never comes to a value of a wrong kind. It goes on with a value
-- that fits in a state that fits, or takes a way out that is one of that place (JLS 4.12.2, 14.1).
use Rattle.std.specs.Prelude.{◌≡◌, ℕ, Bool, true, false, List, length, Option, Some, None, slice_get}
use Rattle.je_base.specs.declared.span.NameId.{NameId}
use Rattle.je_core.specs.declared.object.Obj.{Obj}
use Rattle.je_core.specs.declared.object.Obj.TheVariants.{Cap}
use Rattle.je_core.specs.declared.types.ClassId.{ClassId}
use Rattle.je_core.specs.declared.types.Ty.{Ty}
use Rattle.je_core.specs.declared.value.ObjId.{ObjId}
use Rattle.je_core.specs.declared.value.Value.{Value}
use Rattle.je_core.specs.declared.value.Value.TheVariants.{Ref}
use Rattle.je_core.specs.Core.{Core, CoreProgram}
use Rattle.je_classes.specs.Members.{Member}
use Rattle.je_classes.specs.Subtypes.{class_type}
use Rattle.je_fitting.specs.Expressions.{Body}
use Rattle.je_fitting.specs.Statements.{Targets, no_targets, label_of}
use Rattle.je_fitting.specs.Types.{throwable, is_void}
use Rattle.je_fitting.specs.Program.{FitsProgram}
use Rattle.library_classes.specs.Library.{LibraryStands}
use Rattle.je_java.specs.Steps.{State, Own, Answer, Done, Thrown, ThrownInStart, Spent, Run, Exits, Computation}
use Rattle.je_java.specs.World.{type_in, slots_of}
use Rattle.je_sound.specs.Values.{ValueFits, ValuesFit}
use Rattle.je_sound.specs.Worlds.{Sound}

-- A call from outside, in a program: the method that it names, the objects that were there at first, the type of its reply, and a test
-- that each expression of the program passes.
pub record Setting : Type 0 where
  pub program : CoreProgram
  pub called : Member
  pub first : List Obj
  pub returns : Ty
  pub test : Core → Bool

abbrev pub Allowed : Setting → Core → Type 0
Allowed setting e = setting.test e ≡ true

-- The program fits, and its first classes are those of the library.
pub record ProgramFits (program : CoreProgram) : Type 0 where
  pub whole : FitsProgram program
  pub library : LibraryStands program

-- what of an object never changes: its type, and how many slots it has
pub record Shape : Type 0 where
  pub type : Option Ty
  pub count : ℕ

abbrev pub shape_of : Obj → Shape
shape_of object = record { type = type_in (Some object); count = length (slots_of object) }

-- an object of that shape is there
pub record HasShape (objects : List Obj) (id : ℕ) (shape : Shape) : Type 0 where
  pub object : Obj
  pub there : slice_get objects id ≡ Some object
  pub alike : shape_of object ≡ shape

-- a capability for a device
abbrev pub is_device : Obj → Bool
is_device (Cap device class) = true
is_device _ = false

-- a device is among the objects
pub record HasDevice (objects : List Obj) : Type 0 where
  pub id : ℕ
  pub object : Obj
  pub there : slice_get objects id ≡ Some object
  pub device : is_device object ≡ true

-- Objects are made and none goes, and each keeps its shape. A device is there only where one was there before.
pub record Grows (objects later : List Obj) : Type 0 where
  pub kept : (id : ℕ) (object : Obj) → slice_get objects id ≡ Some object → HasShape later id (shape_of object)
  pub devices : HasDevice later → HasDevice objects

-- what a node of a type comes to: a value that fits, but where it gives nothing, and then nothing reads it (JLS 15.1)
pub record ResultFits (program : CoreProgram) (t : Ty) (objects : List Obj) (value : Value) : Type 0 where
  pub fits : is_void t ≡ false → ValueFits program objects t value

-- what a call replies: nothing, or a value of its type
pub data ReplyFits (program : CoreProgram) (t : Ty) (objects : List Obj) : Option Value → Type 0 where
  no_reply : is_void t ≡ true → ReplyFits program t objects None
  a_reply : {value : Value} → is_void t ≡ false → ValueFits program objects t value →
      ReplyFits program t objects (Some value)

-- nothing is known of what a run gives
pub record Any {A : Type 0} (objects : List Obj) (a : A) : Type 0 where

-- a value that fits a type, and values that fit types one by one

abbrev pub Fitting : CoreProgram → Ty → List Obj → Value → Type 0
Fitting program t objects value = ValueFits program objects t value

pub record AllFitting (program : CoreProgram) (types : List Ty) (objects : List Obj) (values : List Value) : Type 0 where
  pub each : ValuesFit program objects types values

-- where a node stands: its body, and where a jump can go
pub record Context : Type 0 where
  pub body : Body
  pub targets : Targets

-- a body's own values: `this`, if it has it, and its locals
pub record OwnFits (program : CoreProgram) (body : Body) (objects : List Obj) (own : Own) : Type 0 where
  pub this : body.is_static ≡ false → ValueFits program objects (class_type body.class) own.this
  pub locals : AllFitting program body.locals objects own.locals

-- the jumps of a place (JLS 14.15, 14.16)
pub data CanJump (targets : Targets) : Bool → Option NameId → Type 0 where
  break : targets.has_break ≡ true → CanJump targets false None
  break_to : {name : NameId} {is_loop : Bool} → label_of targets.labels name ≡ Some is_loop →
      CanJump targets false (Some name)
  continue : targets.has_continue ≡ true → CanJump targets true None
  continue_to : {name : NameId} → label_of targets.labels name ≡ Some true → CanJump targets true (Some name)

-- where nothing returns and nothing jumps but what the body itself says
abbrev pub in_body : Body → Context
in_body body = record { body = body; targets = no_targets }

-- where a class's initializers begin: nothing returns from them, nor jumps
abbrev pub starting_in : Context → Context
starting_in context = in_body (record context.body { returns = None })

module _ (setting : Setting) where
  -- a sound world, grown from the first one
  pub record WorldFits (state : State) : Type 0 where
    pub sound : Sound setting.program state.world
    pub grown : Grows setting.first state.world.objects

  pub record StateFits (body : Body) (state : State) : Type 0 where
    pub world : WorldFits state
    pub own : OwnFits setting.program body state.world.objects state.own

  -- a reference to an object that may be thrown (JLS 14.18)
  abbrev pub CanBeThrown : List Obj → ObjId → Type 0
  CanBeThrown objects exception = ValueFits setting.program objects throwable (Ref exception)

  -- The end of a run leaves a sound world, and is never Wrong.
  pub data EndFits : Answer → Type 0 where
    done : {reply : Option Value} {state : State} → WorldFits state →
        ReplyFits setting.program setting.returns state.world.objects reply → EndFits (Done reply state)
    thrown : {exception : ObjId} {state : State} → WorldFits state → CanBeThrown state.world.objects exception →
        EndFits (Thrown exception state)
    thrown_in_start : {class : ClassId} {exception : ObjId} {state : State} → WorldFits state →
        CanBeThrown state.world.objects exception →
        EndFits (ThrownInStart class exception state)
    spent : {state : State} → WorldFits state → EndFits (Spent state)

  -- the run ends so from each state of a body that fits, with those objects or more
  pub record RunFits (body : Body) (objects : List Obj) (run : Run) : Type 0 where
    pub from : (state : State) → Grows objects state.world.objects → StateFits body state → EndFits (run state)

  -- the ways out of a place: each takes what the place may send there
  pub record ExitsFit (context : Context) (objects : List Obj) (exits : Exits) : Type 0 where
    pub leave : (t : Ty) → context.body.returns ≡ Some t → (later : List Obj) → Grows objects later → (value : Value) →
        ResultFits setting.program t later value → RunFits context.body later (exits.leave value)
    pub jump : (again : Bool) (label : Option NameId) → CanJump context.targets again label →
        RunFits context.body objects (exits.jump again label)
    pub throw : (later : List Obj) → Grows objects later → (exception : ObjId) → CanBeThrown later exception →
        RunFits context.body later (exits.throw exception)

  -- the way on takes each value of which something is true
  abbrev pub GoesOn : {A : Type 0} → Body → List Obj → (List Obj → A → Type 0) → (A → Run) → Type 0
  GoesOn {A = A} body objects Q go = (later : List Obj) → Grows objects later → (a : A) → Q later a →
      RunFits body later (go a)

  -- Before each way on that takes the values of which Q is true, and ways out that fit, it fits.
  pub record Safe {A : Type 0} (context : Context) (objects : List Obj) (Q : List Obj → A →
      Type 0) (m : Computation A) : Type 0 where
    pub run : (go : A → Run) (exits : Exits) → GoesOn context.body objects Q go → ExitsFit context objects exits →
        RunFits context.body objects (m go exits)
