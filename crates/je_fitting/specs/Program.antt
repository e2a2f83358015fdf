-- When a program fits, and the first of its parts that doesn't.
use Rattle.std.specs.Prelude.{◌≡◌, ℕ, ◌<◌, Some, slice_get}
use Rattle.je_core.specs.declared.types.ClassId.{ClassId}
use Rattle.je_core.specs.Core.{CoreField, CoreMethod, CoreClass, CoreProgram}
use Rattle.je_classes.specs.Hierarchy.{class_at}
use Rattle.je_fitting.specs.Members.{FieldFits, MethodFits}
use Rattle.je_fitting.specs.Classes.{ClassFits}

-- a part of a class: itself, a field or a method
pub data Part : Type 0 where
  itself : Part
  a_field : ℕ → Part
  a_method : ℕ → Part

-- The part of a class is there and fits.
pub data PartFits (program : CoreProgram) (class : ClassId) (c : CoreClass) : Part → Type 0 where
  itself_fits : ClassFits program class c → PartFits program class c itself
  field_fits : {at : ℕ} {f : CoreField} → slice_get c.fields at ≡ Some f → FieldFits program class f → PartFits program class c (a_field at)
  method_fits : {at : ℕ} {m : CoreMethod} → slice_get c.methods at ≡ Some m → MethodFits program class c m → PartFits program class c (a_method at)

pub data IsPart (c : CoreClass) : Part → Type 0 where
  is_itself : IsPart c itself
  is_field : {at : ℕ} {f : CoreField} → slice_get c.fields at ≡ Some f → IsPart c (a_field at)
  is_method : {at : ℕ} {m : CoreMethod} → slice_get c.methods at ≡ Some m → IsPart c (a_method at)

pub record FitsWhole (program : CoreProgram) (class : ClassId) (c : CoreClass) : Type 0 where
  pub parts : (part : Part) → IsPart c part → PartFits program class c part

-- Every part of every class fits.
abbrev pub FitsProgram : CoreProgram → Type 0
FitsProgram program = (class : ClassId) (c : CoreClass) → class_at program class ≡ Some c → FitsWhole program class c

-- the class itself before its fields, and fields before methods, each in order
pub data StandsBefore : Part → Part → Type 0 where
  before_field : {n : ℕ} → StandsBefore itself (a_field n)
  before_method : {n : ℕ} → StandsBefore itself (a_method n)
  field_by_place : {m n : ℕ} → m < n → StandsBefore (a_field m) (a_field n)
  field_before_method : {m n : ℕ} → StandsBefore (a_field m) (a_method n)
  method_by_place : {m n : ℕ} → m < n → StandsBefore (a_method m) (a_method n)

-- the first part that doesn't fit: by class, then by part
pub record IsFirstMisfit (program : CoreProgram) (class : ClassId) (part : Part) : Type 0 where
  pub the_class : CoreClass
  pub there : class_at program class ≡ Some the_class
  pub is_part : IsPart the_class part
  pub misfit : ¬ PartFits program class the_class part
  pub classes_before : (d : ClassId) (c : CoreClass) → d.0 < class.0 → class_at program d ≡ Some c → FitsWhole program d c
  pub parts_before : (other : Part) → IsPart the_class other → StandsBefore other part → PartFits program class the_class other
