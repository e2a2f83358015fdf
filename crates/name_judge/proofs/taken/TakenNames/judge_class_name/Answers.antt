use Rattle.std.proofs.Common.{List, subst, ◌∙◌, ap}
use Rattle.je_scopes.specs.Sites.{Written}
use Rattle.je_scopes.specs.Headers.{span_in}
use Rattle.je_scopes.specs.Faults.{Fault}
use Rattle.name_sites.specs.View.{source_of}
use Rattle.name_faults.specs.View.{Adds}
use Rattle.name_faults.proofs.Left.{adds_both}
use Rattle.name_judge.proofs.OwnName.{class_name_faults}
use Rattle.name_judge.proofs.taken.TakenNames.judge_class_name.Goals as goal

pub returns : goal.returns
returns c =
    subst (λ (fs : List Fault). Adds c.args.faults.now c.add_where-4.new.self fs)
    (class_name_faults (source_of c.args.self.now.sites.now) c.args.class.0 c.name_span-span.result c.is_repeated.result c.is_import_at_top.result c.is_name_round.result c.is_inner_of_generic.result
    (c.name_span-span.ensures ∙ ap (λ (w : Written). span_in w) c.written.ensures) c.is_repeated.ensures c.is_import_at_top.ensures c.is_name_round.ensures c.is_inner_of_generic.ensures)
    (adds_both _ _ (adds_both _ _ (adds_both _ _ c.add_where.ensures c.add_where-2.ensures) c.add_where-3.ensures) c.add_where-4.ensures)
