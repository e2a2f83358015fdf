use Rattle.std.proofs.Common.{map, sym, ap, ◌∙◌}
use Rattle.je_ast.specs.View.{view}
use Rattle.declarations.specs.View.{field_shown}
use Rattle.name_typing.specs.Fields.{field_at}
use Rattle.body_places.specs.Places.{frame_seen}
use Rattle.body_scopes.specs.View.{scope_seen}
use Rattle.member_forms.specs.Bodies.{known_in, program_in}
use Rattle.field_values.specs.Values.{value_seen}
use Rattle.type_decl.proofs.Due.{initializer_due}
use Rattle.type_decl.proofs.judging.constant_by.Goals as goal

pub returns : goal.returns
returns c =
    c.in_ok-constant.ensures
    ∙ initializer_due (program_in c.args.bodies.now) (known_in c.args.bodies.now) (map frame_seen c.args.round.now) (record { class = c.args.class; at = c.args.at })
    (field_shown c.in-Some.field.now) (field_at (program_in c.args.bodies.now).classes (record { class = c.args.class; at = c.args.at })) (view c.in-By.init.now) (value_seen c.args.value)
    (scope_seen c.in_own_initializer-scope.result) (sym c.in-Some.ensures) (ap value_seen c.in-By.is) c.requires.known c.in_own_initializer-scope.ensures
