-- What is known of a body of the core program and of the scopes of its source.
use Rattle.std.specs.Prelude.{◌≡◌, ℕ, ◌≤◌, Bool, true, false, List, Option, Some, slice_get}
use Rattle.je_core.specs.declared.program.Local.{Local as LocalOf}
use Rattle.je_core.specs.Core.{CoreField, CoreProgram}
use Rattle.je_ast.specs.Types.{TypeName}
use Rattle.je_classes.specs.Members.{In}
use Rattle.je_fitting.specs.Expressions.{Body, field_at}
use Rattle.je_fitting.specs.Types.{int, void}
use Rattle.je_scopes.specs.SourceTypes.{SourceType}
use Rattle.source_types.specs.Erasure.{class_numbered, erased}
use Rattle.source_types.specs.Heads.{ClassHead, head_at}
use Rattle.source_types.specs.Subtypes.{dims_of}
use Rattle.je_typing.specs.Judged.{gives}
use Rattle.name_typing.specs.Program.{Constant, LocalVariable, Program}
use Rattle.body_types.specs.BodyTypes.{body_type}
use Rattle.call_typing.specs.Creations.{is_enum_in}
use Rattle.statement_steps.specs.Returns.{Returning, a_value, never, no_value}
use Rattle.body_typing.specs.Bodies.{Met, Progress, met_by, stands, with_local}
use Rattle.body_typing.specs.Expressions.{Known}
use Rattle.body_typing.specs.FinalVariables.{Scope}
use Rattle.body_typing.specs.Mentions.{Mention, made, made_with_body, named}
use Rattle.body_typing.specs.Switches.{ordinal_place}
use Rattle.fitting_laws.specs.Names.{ScopeStands}
use Rattle.fitting_laws.specs.Represented.{IsThere, NameIsReached}
use Rattle.fitting_laws.specs.Sound.{IsSound}
use Rattle.fitting_laws.specs.Walk.{MadeStands, MadeWithBody}
use Rattle.body_laws.specs.Written.{IsMade}

-- the locals so far stand in the body at their numbers
abbrev pub HasLocals : Body → Progress → Type 0
HasLocals body pr = (n : ℕ) (l : LocalOf) → slice_get pr.locals n ≡ Some l → slice_get body.locals n ≡ Some l.ty

-- what was met so far is among all that was met
abbrev pub IsAmong : List Met → List Met → Type 0
IsAmong some all = (m : Met) → In some m → In all m

-- a scope in the body that begins with one
pub record IsWithin (first s : Scope) : Type 0 where
  pub class : s.place.here.class ≡ first.place.here.class
  pub context : s.place.here.context ≡ first.place.here.context
  pub initializer : s.place.here.initializer ≡ first.place.here.initializer
  pub round : s.place.round ≡ first.place.round
  pub is_constructor : s.is_constructor ≡ first.is_constructor

-- The same scope, but that the nearest local may have its constant, which it hasn't in its own initializer.
pub data IsAlike : Scope → Scope → Type 0 where
  same : {s : Scope} → IsAlike s s
  but_constant : (s : Scope) (is_given : Bool) (v : LocalVariable) (k : Option Constant) →
      IsAlike (with_local is_given (record v { constant = k }) s) (with_local is_given v s)

-- what the grammar mentions behind `new`
abbrev pub CanBeMentioned : Mention → Type 0
CanBeMentioned (made t) = IsMade t
CanBeMentioned m = Unit {0}

-- what a return gives: the value has the type, and without one the result is `void`
abbrev pub Returns : Body → List ClassHead → Returning → Type 0
Returns body heads never = Unit {0}
Returns body heads no_value = body.returns ≡ Some void
Returns body heads (a_value t) = (body.returns ≡ Some (erased heads t)) × (dims_of t ≤ 255)

-- the field in which a constant of an enum keeps its place (JLS 8.9)
pub record KeepsPlace (program : CoreProgram) (c : ℕ) : Type 0 where
  pub field : CoreField
  pub there : field_at program (class_numbered c) ordinal_place ≡ Some field
  pub type : field.ty ≡ int
  pub own : field.is_static ≡ false

module _ (p : Program) (k : Known) (program : CoreProgram) (body : Body) where
  -- what an expression mentions is there: locals further out, and classes of which objects are made
  abbrev pub MentionStands : Scope → Mention → Type 0
  MentionStands s (named id) = NameIsReached p program body s.place id.name
  MentionStands s (made t) = MadeStands p k program body s t
  MentionStands s (made_with_body word t es) = MadeWithBody p k program body s word t es

module _ (p : Program) (k : Known) (program : CoreProgram) (body : Body) (first : Scope) where
  -- a scope of the body, which stands in the core program
  pub record IsInBody (s : Scope) : Type 0 where
    pub within : IsWithin first s
    pub stands : ScopeStands p program body k.is_blank s

  -- `met` is all that was met in the class's bodies, and those round it: what they name and make is there, and so are
  -- the types that are written and the local classes.
  pub record BodyStands (met : List Met) : Type 0 where
    pub mentions : (other s : Scope) (m : Mention) → IsAlike other s → IsInBody s → CanBeMentioned m →
        IsAmong (met_by p other m) met → MentionStands p k program body s m
    pub types : (s : Scope) (t : TypeName) (u : SourceType) → IsInBody s → body_type p s.place.here t ≡ gives u →
        IsSound program p.heads 255 u
    pub classes : (c : ℕ) (s : Scope) → In met (stands c s) → IsThere program c
    pub enums : (c : ℕ) → is_enum_in (head_at p.heads c) ≡ true → KeepsPlace program c
