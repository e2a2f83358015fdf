-- How a field's name is looked for upwards, from some types at once.
use Rattle.std.specs.Prelude.{ℕ, zero, List, Option, Some, None}
use Rattle.je_base.specs.declared.span.NameId.{NameId}
use Rattle.je_core.specs.declared.types.ClassId.{ClassId}
use Rattle.je_classes.specs.Members.{Member, Found}
use Rattle.je_scopes.specs.SourceTypes.{SourceType, of_class}
use Rattle.source_types.specs.Heads.{ClassHead}
use Rattle.declarations.specs.Declarations.{DeclaredClass}
use Rattle.name_typing.specs.Fields.{field_from, field_within, fields_of, inheriting, joined_over}

-- a field by its class and its place
abbrev pub member_in : ClassId × ℕ → Member
member_in p = record { class = p.0; at = p.1 }

-- the class of a type that is a class
abbrev pub object_class_in : SourceType → Option ℕ
object_class_in (of_class c args zero) = Some c
object_class_in _ = None

abbrev pub own_if : List DeclaredClass → NameId → Option ℕ → Option Member
own_if classes x None = None
own_if classes x (Some c) = field_from c 0 (fields_of classes c) x

-- what is inherited from a type, by so many steps more upwards at most
abbrev pub inherited_by : List ClassHead → List DeclaredClass → ℕ → NameId → SourceType → Found
inherited_by heads classes n x t = inheriting classes (field_within heads classes n x t)

-- and from some types
abbrev pub all_within : List ClassHead → List DeclaredClass → ℕ → NameId → List SourceType → Found
all_within heads classes n x ts = joined_over (inherited_by heads classes n x) ts
