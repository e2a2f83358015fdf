use Rattle.std.proofs.Common.{sym, subst}
use Rattle.je_core.specs.Core.{CoreProgram}
use Rattle.je_classes.specs.Hierarchy.{IsAcyclic}
use Rattle.node_rules.proofs.Ordered.{never_above}
use Rattle.node_rules.proofs.texts.found_text.Goals as goal

pub find_method-requires : goal.find_method-requires
find_method-requires c = subst (λ (p : CoreProgram). IsAcyclic p) (sym c.program-in-Some.ensures) (never_above c.args.typed.now)
