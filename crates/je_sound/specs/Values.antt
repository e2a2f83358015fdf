-- When a value may stand where a type is declared (JLS 4.12.2, 5.2).
use Rattle.std.specs.Prelude.{◌≡◌, true, List, Option, Some}
use Rattle.std.specs.List.{AllZip}
use Rattle.je_core.specs.declared.object.Obj.{Obj}
use Rattle.je_core.specs.declared.types.Ty.{Ty}
use Rattle.je_core.specs.declared.value.Value.{Value}
use Rattle.je_core.specs.declared.value.Value.TheVariants.{Ref}
use Rattle.je_core.specs.Core.{CoreProgram}
use Rattle.je_java.specs.World.{type_of}
use Rattle.je_fitting.specs.Types.{type_of_value, agrees}

-- the type of a value; that of a reference is the type of the object that it leads to, if there is one
abbrev pub own_type : List Obj → Value → Option Ty
own_type objects (Ref object) = type_of objects object.0
own_type objects value = type_of_value value

-- The value's own type is the declared primitive type, or a subtype of the declared one.
pub record ValueFits (program : CoreProgram) (objects : List Obj) (declared : Ty) (value : Value) : Type 0 where
  pub own : Ty
  pub has : own_type objects value ≡ Some own
  pub agree : agrees program own declared ≡ true

-- as many values as types are declared, and each fits its own
abbrev pub ValuesFit : CoreProgram → List Obj → List Ty → List Value → Type 0
ValuesFit program objects declared values = AllZip (ValueFits program objects) declared values
