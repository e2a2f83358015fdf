use Rattle.std.proofs.Common.{Option, sym, ◌∙◌, ap, subst}
use Rattle.std.specs.Prelude.{option_map}
use Rattle.std.specs.List.{flat_map}
use Rattle.je_scopes.specs.Source.{Source}
use Rattle.je_scopes.specs.Faults.{guests, of_class}
use Rattle.name_sites.specs.View.{source_of}
use Rattle.name_faults.specs.declared.faults.NameFault.{NameFault}
use Rattle.name_faults.specs.View.{Adds, fault_view}
use Rattle.name_judge.proofs.Firsts.{first_is}
use Rattle.name_judge.proofs.judging.judge.Goals as goal

pub returns-in-Some-clause-err : goal.returns-in-Some-clause-err
returns-in-Some-clause-err c =
    sym (first_is (source_of c.args.sites.now) c.none-faults.result c.judge_imports.new.faults c.judge_classes.new.faults c.none-faults.ensures c.in_ok-judge_imports.ensures
    (subst (λ (p : Source). Adds c.judge_imports.new.faults c.judge_classes.new.faults (flat_map (of_class p) (guests p))) c.new-program.ensures c.in_ok-judge_classes.ensures))
    ∙ sym c.first.ensures ∙ ap (λ (f : Option NameFault). option_map fault_view f) c.in-Some.is

pub returns-clause-ok : goal.returns-clause-ok
returns-clause-ok c =
    sym (first_is (source_of c.args.sites.now) c.none-faults.result c.judge_imports.new.faults c.judge_classes.new.faults c.none-faults.ensures c.in_ok-judge_imports.ensures
    (subst (λ (p : Source). Adds c.judge_imports.new.faults c.judge_classes.new.faults (flat_map (of_class p) (guests p))) c.new-program.ensures c.in_ok-judge_classes.ensures))
    ∙ sym c.first.ensures ∙ ap (λ (f : Option NameFault). option_map fault_view f) c.in-None.is
