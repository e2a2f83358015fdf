-- Where the name of a type is written.
use Rattle.std.proofs.Common.{◌≡◌, refl}
use Rattle.je_ast.specs.Types.{TypeName, primitive, class_type}
use Rattle.je_scopes.specs.Faults as faults
use Rattle.body_typing.specs.Expressions as expressions

pub name_spans : (t : TypeName) → faults.name_span t ≡ expressions.name_span t
name_spans (primitive word dims span) = refl
name_spans (class_type q args dims span) = refl
