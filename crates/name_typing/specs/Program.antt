-- What a name in a body is judged by: the classes of the program, and what stands round the place (JLS 6.3, 8.1.3).
use Rattle.std.specs.Prelude.{ℕ, Bool, List, ◌∷◌, Option}
use Rattle.je_base.specs.declared.span.NameId.{NameId}
use Rattle.je_core.specs.declared.value.Value.{Value}
use Rattle.je_classes.specs.Members.{Member}
use Rattle.je_scopes.specs.Sites.{Context}
use Rattle.je_scopes.specs.Source.{Source}
use Rattle.je_scopes.specs.SourceTypes.{SourceType}
use Rattle.source_types.specs.Heads.{ClassHead}
use Rattle.declarations.specs.Declarations.{DeclaredClass}

-- the value of a constant variable (JLS 4.12.4): of a primitive type, or a text
pub data Constant : Type 0 where
  value_constant : Value → Constant
  text_constant : List ℕ → Constant

-- The classes: where they are written, their headers, and what they declare. `constants` has the value of each field that is a
-- constant variable. `outer` is the place of the field in which an instance of a class keeps the one round it, and
-- `captured` that of the field with the value of a local of a body of another class, by that class and the local's number.
pub record Program : Type 0 where
  pub source : Source
  pub heads : List ClassHead
  pub classes : List DeclaredClass
  pub constants : Member → Option Constant
  pub outer : ℕ → ℕ
  pub captured : ℕ → ℕ → ℕ → ℕ

-- a local variable or a parameter, by its number in its body; `constant` is there where it is a constant variable
pub record LocalVariable : Type 0 where
  pub name : NameId
  pub type : SourceType
  pub is_final : Bool
  pub number : ℕ
  pub constant : Option Constant

-- an initializer of a class or an instance, with how many fields of the class are declared before it; of a field's own
-- initializer that field isn't one
pub record Initializer : Type 0 where
  pub is_static : Bool
  pub declared : ℕ

-- a body of a class at one place of it: the locals and the local classes in scope there, the nearest first, and whether there
-- is a current object
pub record Frame : Type 0 where
  pub class : ℕ
  pub locals : List LocalVariable
  pub local_classes : List ℕ
  pub context : Context
  pub initializer : Option Initializer

-- a place in a body, and the bodies that its class stands in, the innermost first
pub record Place : Type 0 where
  pub here : Frame
  pub round : List Frame

abbrev pub frames : Place → List Frame
frames place = place.here ∷ place.round
