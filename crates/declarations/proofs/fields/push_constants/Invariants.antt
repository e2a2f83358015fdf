use Rattle.std.proofs.Common.{◌≡◌, ◌++◌, map, drop}
use Rattle.je_scopes.specs.Source.{Source}
use Rattle.je_scopes.specs.Members.{constant_site}
use Rattle.declarations.specs.Declarations.{declared_field}
use Rattle.declarations.specs.View.{field_shown}
use Rattle.declarations.proofs.fields.push_constants.Given as goal

abbrev pub invariant-loop-constant : goal.invariant-loop-constant
invariant-loop-constant l = (p : Source) → map field_shown l.fields.items ++ map (declared_field p l.class.0) (map constant_site (drop l.constant-index l.constants))
    ≡ map field_shown l.initial.fields.items ++ map (declared_field p l.class.0) (map constant_site l.constants)
