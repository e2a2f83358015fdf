-- The faults of reachability of bodies, classes and whole programs.
use Rattle.std.specs.Prelude.{Bool, true, false, not, ◌&&◌, Option, Some, None}
use Rattle.je_core.specs.declared.types.Base.{Base}
use Rattle.je_core.specs.declared.types.Base.TheVariants as base
use Rattle.je_core.specs.declared.types.Ty.{Ty}
use Rattle.je_base.specs.declared.span.Span.{Span}
use Rattle.je_core.specs.Core.{CoreStmt, CoreInitializer, CoreMethod, CoreClass, CoreProgram, stmt}
use Rattle.flow_base.specs.declared.faults.FaultKind.TheVariants as kind
use Rattle.flow_base.specs.FaultSets.{Faults, none, ◌∪◌, fault_where, of_each}
use Rattle.reachability.specs.Reachable.{statement_ends, statement_faults}

abbrev pub completes : CoreStmt → Bool
completes body = (statement_ends None true body).completes

abbrev pub first_token : CoreStmt → Span
first_token (stmt form span at) = span

abbrev pub last_token : CoreStmt → Span
last_token (stmt form span at) = at

abbrev pub is_void_base : Base → Bool
is_void_base base.Void = true
is_void_base _ = false

abbrev pub must_return : Ty → Bool
must_return ty = not (is_void_base ty.base)

-- A body whose method has a result can't complete normally (JLS 8.4.7): its closing bracket.
abbrev pub body_faults : Bool → CoreStmt → Faults
body_faults must body = statement_faults true body ∪ fault_where (must && completes body) kind.MissingReturn (last_token body)

abbrev pub method_faults : CoreMethod → Faults
method_faults m = of_body m.body where
  of_body : Option CoreStmt → Faults
  of_body None = none
  of_body (Some body) = body_faults (must_return m.returns) body

-- An initializer can complete normally (JLS 8.6, 8.7): its first token.
abbrev pub initializer_body_faults : CoreStmt → Faults
initializer_body_faults body = statement_faults true body ∪ fault_where (not (completes body)) kind.Unreachable (first_token body)

abbrev pub initializer_faults : CoreInitializer → Faults
initializer_faults i = initializer_body_faults i.body

abbrev pub class_faults : CoreClass → Faults
class_faults c = of_each initializer_faults c.initializers ∪ of_each method_faults c.methods

unfoldable pub program_faults : CoreProgram → Faults
program_faults p = of_each class_faults p.classes
