-- The place of a static field in the one list of static fields: by class number, and then by place (JLS 8.3.1.1).
use Rattle.std.specs.Prelude.{ℕ, ◌+◌, Bool, count_by, take, Option, Some, None, slice_get, if◌then◌else◌}
use Rattle.std.specs.List.{sum_by}
use Rattle.je_core.specs.declared.types.ClassId.{ClassId}
use Rattle.je_core.specs.Core.{CoreField, CoreClass, CoreProgram}
use Rattle.je_classes.specs.Hierarchy.{class_at}

abbrev pub is_static : CoreField → Bool
is_static field = field.is_static

abbrev pub static_count : CoreClass → ℕ
static_count class = count_by is_static class.fields

-- how many static fields the classes before that of a number have
abbrev pub statics_before : CoreProgram → ℕ → ℕ
statics_before program n = sum_by static_count (take n program.classes)

abbrev pub static_after : Option CoreField → ℕ → Option ℕ
static_after None before = None
static_after (Some field) before = if field.is_static then Some before else None

abbrev pub static_place_in : CoreProgram → ClassId → Option CoreClass → ℕ → Option ℕ
static_place_in program class None at = None
static_place_in program class (Some c) at = static_after (slice_get c.fields at) (statics_before program class.0 + count_by is_static (take at c.fields))

-- the place of the field of a number of a class among all static fields, if it is one
abbrev pub static_place : CoreProgram → ClassId → ℕ → Option ℕ
static_place program class at = static_place_in program class (class_at program class) at
