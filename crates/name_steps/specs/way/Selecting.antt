-- The node of a field that is selected from one.
use Rattle.std.specs.Prelude.{if◌then◌else◌}
use Rattle.je_core.specs.Core.{Core, CoreForm, Field, Static, a_core}
use Rattle.name_typing.specs.Accesses.{Selected}

abbrev pub form_selected : Core → Selected → CoreForm
form_selected on s = if s.declared.is_static then Static (a_core on) s.member.class s.member.at else Field on s.member.class s.member.at
