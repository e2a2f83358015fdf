-- The load of a program, before any call (JLS 12.4, but that all classes are initialized at once and not at their first
-- use): the world that it begins in, the start of each class, and how it ends.
use Rattle.std.specs.Prelude.{◌≡◌, ℕ, suc, ◌+◌, false, List, [], ◌∷◌, ◌++◌, length, map, filter, flat_map, replicate, Option, Some, None, option_map, unwrap_or}
use Rattle.je_base.specs.Names.{place_of}
use Rattle.je_classes.specs.Statics.{is_static}
use Rattle.je_core.specs.Core.{CoreForm, Const, Text, CoreField, CoreClass, CoreProgram, form_of}
use Rattle.je_core.specs.Defaults.{default_of}
use Rattle.je_core.specs.declared.object.Obj.{Obj}
use Rattle.je_core.specs.declared.object.Obj.TheVariants.{Cap, Text as TextObject}
use Rattle.je_core.specs.declared.types.ClassId.{ClassId}
use Rattle.je_core.specs.declared.value.Value.{Value}
use Rattle.je_core.specs.declared.value.Value.TheVariants.{Null, Ref}
use Rattle.je_java.specs.Meaning.{Meanings, java, start, state_at}
use Rattle.je_java.specs.Steps.{Outside, Answer, Done, ThrownInStart, Spent, Wrong, Exits, Computation, Nothing, ret, ◌>>◌}
use Rattle.je_java.specs.World.{World}

-- the world before the initializers: a capability for each device, then the constant strings, and each class variable
-- at its constant or at the default of its type

-- capabilities for devices from a number on, each with the interface of its device
abbrev pub capabilities : ℕ → List ClassId → List Obj
capabilities device [] = []
capabilities device (interface ∷ interfaces) = Cap device interface ∷ capabilities (suc device) interfaces

abbrev pub reference : ℕ → Value
reference number = Ref (record { 0 = number })

-- references to the constant strings, which are the objects from a number on
abbrev pub text_references : ℕ → List (List ℕ) → List Value
text_references number [] = []
text_references number (text ∷ texts) = reference number ∷ text_references (suc number) texts

abbrev pub text_reference : ℕ → Option ℕ → Value
text_reference number None = Null
text_reference number (Some place) = reference (number + place)

-- what a constant comes to; no other form is one (JLS 15.28)
abbrev pub constant_value : List (List ℕ) → ℕ → CoreForm → Value
constant_value texts number (Const value uses) = value
constant_value texts number (Text units uses) = text_reference number (place_of texts units)
constant_value texts number _ = Null

-- JLS 4.12.5
abbrev pub first_value : List (List ℕ) → ℕ → CoreField → Value
first_value texts number field = unwrap_or (option_map (λ e. constant_value texts number (form_of e)) field.constant) (default_of field.ty)

abbrev pub variables_of : List (List ℕ) → ℕ → CoreClass → List Value
variables_of texts number class = map (first_value texts number) (filter is_static class.fields)

abbrev pub world_before : CoreProgram → List ClassId → World
world_before program interfaces = record {
  objects = capabilities 0 interfaces ++ map TextObject program.texts;
  statics = flat_map (variables_of program.texts (length interfaces)) program.classes ++ text_references (length interfaces) program.texts;
}

-- no class has been started
abbrev pub none_started : CoreProgram → Outside
none_started program = record { started = replicate (length program.classes) false; starting = None }

-- the start of classes from a number on, in the order in which they stand in the program; those of the source stand
-- there in the order of their names in the text
abbrev pub start_from : CoreProgram → Meanings → ℕ → List CoreClass → Computation Nothing
start_from program m number [] = ret tt
start_from program m number (class ∷ classes) = do
  start program m (record { 0 = number })
  start_from program m (suc number) classes

-- classes start outside of all bodies: there is nothing to return from, to jump to, or to catch
abbrev pub no_exits : Exits
no_exits = record { leave = λ value s. Wrong; jump = λ again label s. Wrong; throw = λ exception s. Wrong }

-- the load with so many units, over devices with these interfaces
abbrev pub load_within : ℕ → CoreProgram → List ClassId → Answer
load_within units program interfaces =
    start_from program (java program) 0 program.classes (λ u. Done None) no_exits (state_at units (world_before program interfaces) (none_started program))

abbrev pub load_units : ℕ
load_units = 1000000

-- how a load ends: with the world, or in a class, from whose initializers an exception came, or whose initializers
-- were the innermost when the units were spent
pub data End : Type 0 where
  Loaded : World → End
  ThrownIn : ClassId → End
  SpentIn : ClassId → End

abbrev pub end_of : Answer → Option End
end_of (Done None state) = Some (Loaded state.world)
end_of (ThrownInStart class exception state) = Some (ThrownIn class)
end_of (Spent state) = option_map SpentIn state.outside.starting
end_of _ = None

abbrev pub load : CoreProgram → List ClassId → Option End
load program interfaces = end_of (load_within load_units program interfaces)
