-- What contracts see of what a class is made of.
use Rattle.std.specs.Prelude.{◌≡◌, ℕ, List, map, option_map}
use Rattle.je_core.specs.View.{initializer_view, method_view, view}
use Rattle.je_scopes.specs.BinaryNames.{number_in}
use Rattle.declarations.specs.View.{field_shown}
use Rattle.name_typing.specs.Program.{Program}
use Rattle.class_typing.specs.Bridges.{bridges}
use Rattle.class_typing.specs.Classes.{written_fields}
use Rattle.class_typing.specs.Members.{MembersDone}
use Rattle.class_typing.specs.Programs.{CapturedLocal}
use Rattle.core_making.specs.Known.{captured_local_seen}
use Rattle.core_making.specs.declared.making.Parts.{Parts}

-- they are those of a class, of what each class captures and what the members of this one come to
pub record IsMadeOf (p : Program) (captured : ℕ → List CapturedLocal) (c : ℕ) (d : MembersDone) (parts : Parts) : Type 0 where
  pub captured_are : map captured_local_seen parts.captured.now ≡ captured c
  pub declared_are : map field_shown parts.declared.now ≡ written_fields p captured c
  pub constants_are : map (option_map view) parts.constants.items ≡ d.constants
  pub initializers_are : map initializer_view parts.initializers.items ≡ d.initializers
  pub methods_are : map method_view parts.methods.items ≡ d.methods
  pub number_is : parts.nth ≡ number_in p.source c
  pub bridges_are : parts.bridges.items ≡ bridges p.heads p.classes c
