use Rattle.std.proofs.Common.{◌≡◌, length, Some, sym, ap, ◌∙◌}
use Rattle.std.proofs.lemmas.List.{length-map}
use Rattle.je_core.specs.View.{class_view, program_view}
use Rattle.je_java.specs.Subclasses.{is_among}
use Rattle.machine_parts.proofs.class.is_subclass.Goals as goal

pub loop-left-init : goal.loop-left-init
unfolding program_view
loop-left-init c =
    let e : length c.as_slice-left.result.now ≡ length (program_view c.args.program.now).classes =
    ap length c.as_slice-left.ensures.value ∙ sym (length-map c.args.program.now.classes.items class_view) in
    ap (λ n. is_among (program_view c.args.program.now) n (Some c.args.own) c.args.class) e
