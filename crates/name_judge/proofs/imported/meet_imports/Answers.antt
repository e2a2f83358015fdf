use Rattle.std.proofs.Common.{Some, ap, ◌∙◌, arith}
use Rattle.std.specs.Prelude.{◌||◌}
use Rattle.je_ast.specs.declared.name.Name.{Name}
use Rattle.je_ast.specs.Types.{name_view}
use Rattle.je_scopes.specs.Faults.{imports_name}
use Rattle.name_sites.specs.View.{source_of}
use Rattle.name_faults.specs.Met.{is_met}
use Rattle.name_judge.proofs.Any.{any_end, any_next}
use Rattle.name_judge.proofs.imported.meet_imports.Goals as goal

pub loop-import-preserved : goal.loop-import-preserved
loop-import-preserved c = λ x. any_next (imports_name (source_of c.args.sites.now).texts (Some x)) name_view c.args.imports.now c.loop-import.import-index c.import-item.result _ _ _ (omega arith) (c.loop-import.invariant x)
    (c.in_ok-meet_import.ensures x ∙ ap (λ (n : Name). is_met c.loop-import.met x || imports_name (source_of c.args.sites.now).texts (Some x) (name_view n)) c.import-item.is)

pub returns : goal.returns
returns c = λ x. any_end (imports_name (source_of c.args.sites.now).texts (Some x)) name_view c.args.imports.now c.loop-import.import-index _ _ c.loop-import-test.false (c.loop-import.invariant x)
