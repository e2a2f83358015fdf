-- One round of constants, by those that the program has.
use Rattle.std.specs.Prelude.{ℕ, List, length, Option, Some, None, if◌then◌else◌}
use Rattle.je_classes.specs.Members.{Member}
use Rattle.declarations.specs.Declarations.{DeclaredClass, DeclaredField}
use Rattle.name_typing.specs.Fields.{field_at}
use Rattle.name_typing.specs.Program.{Constant, Frame, Program}
use Rattle.body_typing.specs.Expressions.{expression, initial, value}
use Rattle.class_typing.specs.ConstantFields.{FieldValue, by, if_final, in_initializer, nothing_known}
use Rattle.program_tables.specs.Known.{round_seen}
use Rattle.field_values.specs.Values.{value_at}
use Rattle.type_decl.specs.declared.judging.Fields.{Fields}
use Rattle.type_decl.specs.way.Asked.{is_asked}

abbrev pub constant_for : Program → List Frame → Member → Option DeclaredField → FieldValue → Option Constant
constant_for q frames m (Some f) (by e) =
    if_final f (value (expression q (nothing_known q) (in_initializer f.is_static m.class.0 m.at frames) (initial f.ty) e))
constant_for q frames m f v = None

-- of a field in the bodies round its class, of which that is written
abbrev pub constant_due : Program → List Frame → Member → FieldValue → Option Constant
constant_due q frames m v = constant_for q frames m (field_at q.classes m) v

-- one round further
abbrev pub next_seen : Program → Fields → (Member → Option Constant) → Member → Option Constant
next_seen p fields known m =
    if is_asked fields.asked.now m.class.0
    then constant_due (record p { constants = known }) (round_seen fields.round.now m.class.0) m (value_at fields.values.now m)
    else known m

abbrev pub fields_declared : DeclaredClass → ℕ
fields_declared d = length d.fields
