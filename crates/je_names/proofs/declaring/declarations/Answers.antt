use Rattle.std.proofs.Common.{ap, ◌∙◌}
use Rattle.je_scopes.specs.Source.{Source}
use Rattle.name_sites.specs.View.{source_of}
use Rattle.declarations.specs.Declarations.{declared_class}
use Rattle.declarations.specs.View.{class_shown}
use Rattle.je_names.proofs.Below.{one_more_below}
use Rattle.je_names.proofs.declaring.declarations.Goals as goal

pub loop-at-preserved : goal.loop-at-preserved
loop-at-preserved c = one_more_below class_shown (declared_class (source_of c.args.sites.now)) c.loop-at.classes.items c.push.new.self.items c.in_ok-declaration.field-0 c.loop-at.at
    c.in_ok-push.ensures.items (c.in_ok-declaration.ensures ∙ ap (λ (p : Source). declared_class p c.loop-at.at) c.new-program.ensures) c.loop-at.invariant
