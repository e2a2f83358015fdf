use Rattle.std.proofs.Common.{List, ◌++◌, drop}
use Rattle.std.specs.Prelude.{◌||◌}
use Rattle.je_ast.specs.Types.{type_view}
use Rattle.je_ast.specs.View.{variable_views_of}
use Rattle.je_scopes.specs.Headers.{is_interface_sort, site_at}
use Rattle.je_scopes.specs.Sites.{has_static}
use Rattle.je_scopes.specs.Members.{FieldSite, part_of, variable_sites}
use Rattle.je_scopes.specs.Faults.{Fault, of_type}
use Rattle.name_faults.specs.declared.faults.Faults.{Faults}
use Rattle.name_faults.proofs.Covers.{Covers}
use Rattle.type_faults.specs.Program.{source_in}
use Rattle.member_faults.specs.Progress.{FieldsLeft}
use Rattle.member_faults.proofs.fields.judge_variables.Given as goal

abbrev pub invariant-loop-var : goal.invariant-loop-var
invariant-loop-var l = record {
  left : (rest : List FieldSite) (start : Faults) (whole : List Fault)
      → FieldsLeft (source_in l.fn.program) l.fn.class.0 start l.initial.faults l.initial.met (variable_sites l.modifiers (type_view l.ty) (variable_views_of l.vars) ++ rest) whole
      → FieldsLeft (source_in l.fn.program) l.fn.class.0 start l.faults l.met (variable_sites l.modifiers (type_view l.ty) (variable_views_of (drop l.var-index l.vars)) ++ rest) whole;
  known : Covers l.faults (of_type (source_in l.fn.program) l.fn.class.0 (part_of (is_interface_sort (site_at (source_in l.fn.program).sites l.fn.class.0).sort || has_static l.modifiers)) (type_view l.ty));
}
