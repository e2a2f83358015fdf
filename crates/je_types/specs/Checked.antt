-- What a check of a program answers.
use Rattle.std.specs.Prelude.{◌≡◌, Option, Some, option_map, slice_get}
use Rattle.je_base.specs.declared.span.NameId.{NameId}
use Rattle.je_core.specs.declared.types.ClassId.{ClassId}
use Rattle.je_core.specs.Core.{CoreField, CoreMethod, CoreClass, CoreProgram}
use Rattle.je_classes.specs.Fields.{fields_of}
use Rattle.je_classes.specs.Hierarchy.{class_at}
use Rattle.je_classes.specs.Members.{methods_of}
use Rattle.je_fitting.specs.Program.{Part, itself, a_field, a_method, IsFirstMisfit}
use Rattle.je_types.specs.declared.fault.CheckFault.{CheckFault}
use Rattle.je_types.specs.declared.fault.CheckFault.TheVariants.{Memory, Misfit}

-- the name of a part of a class: the class's own, or the member's
abbrev pub name_of : CoreProgram → ClassId → Part → Option NameId
name_of program class itself = option_map (λ (c : CoreClass). c.name) (class_at program class)
name_of program class (a_field at) = option_map (λ (f : CoreField). f.name) (slice_get (fields_of program class) at)
name_of program class (a_method at) = option_map (λ (m : CoreMethod). m.name) (slice_get (methods_of program class) at)

-- The first part that doesn't fit is one of this class, of this name.
pub record IsMisfit (program : CoreProgram) (class : ClassId) (name : NameId) : Type 0 where
  pub part : Part
  pub first : IsFirstMisfit program class part
  pub named : name_of program class part ≡ Some name

-- Memory may be wanting at any time.
abbrev pub IsFault : CoreProgram → CheckFault → Type 0
IsFault program Memory = Unit {0}
IsFault program (Misfit class name) = IsMisfit program class name
