use Rattle.std.proofs.Common.{List, drop}
use Rattle.je_ast.specs.View.{member_views_of}
use Rattle.je_scopes.specs.Members.{method_sites}
use Rattle.je_scopes.specs.Faults.{Fault}
use Rattle.name_faults.specs.declared.faults.Faults.{Faults}
use Rattle.type_faults.specs.Program.{source_in}
use Rattle.name_judge.specs.way.Progress.{MethodsLeft}
use Rattle.name_judge.proofs.methods.judge_members.Given as goal

abbrev pub invariant-loop-member : goal.invariant-loop-member
invariant-loop-member l = (start : Faults) (whole : List Fault)
    → MethodsLeft (source_in l.program) l.class.0 start l.initial.faults l.initial.met (method_sites (member_views_of l.members)) whole
    → MethodsLeft (source_in l.program) l.class.0 start l.faults l.met (method_sites (member_views_of (drop l.member-index l.members))) whole
