use Rattle.std.proofs.Common.{◌≡◌, ◌++◌, map, drop}
use Rattle.je_ast.specs.View.{member_views_of}
use Rattle.je_scopes.specs.Members.{method_sites}
use Rattle.type_faults.specs.Program.{source_in}
use Rattle.declarations.specs.Declarations.{declared_method}
use Rattle.declarations.specs.View.{method_shown}
use Rattle.declarations.proofs.methods.methods_of.Given as goal

abbrev pub invariant-loop-member : goal.invariant-loop-member
invariant-loop-member l = map method_shown l.methods.items ++ map (declared_method (source_in l.program) l.class.0) (method_sites (member_views_of (drop l.member-index l.member-items)))
    ≡ map (declared_method (source_in l.program) l.class.0) (method_sites (member_views_of l.member-items))
