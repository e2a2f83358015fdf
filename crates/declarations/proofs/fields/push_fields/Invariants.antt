use Rattle.std.proofs.Common.{◌≡◌, ◌++◌, map, drop}
use Rattle.je_ast.specs.View.{member_views_of}
use Rattle.je_scopes.specs.Members.{field_sites}
use Rattle.type_faults.specs.Program.{source_in}
use Rattle.declarations.specs.Declarations.{declared_field}
use Rattle.declarations.specs.View.{field_shown}
use Rattle.declarations.proofs.fields.push_fields.Given as goal

abbrev pub invariant-loop-member : goal.invariant-loop-member
invariant-loop-member l = map field_shown l.fields.items ++ map (declared_field (source_in l.program) l.class.0) (field_sites (member_views_of (drop l.member-index l.members)))
    ≡ map field_shown l.initial.fields.items ++ map (declared_field (source_in l.program) l.class.0) (field_sites (member_views_of l.members))
