use Rattle.std.proofs.Common.{sym, ◌∙◌}
use Rattle.je_core.specs.declared.types.Base.TheVariants as base
use Rattle.name_types.proofs.Bases.{plain_base}
use Rattle.type_faults.specs.Program.{source_in}
use Rattle.declarations.proofs.Shown.{counted, not_counted}
use Rattle.declarations.proofs.methods.class_named.Goals as goal

pub returns-then-arity-eq0 : goal.returns-then-arity-eq0
returns-then-arity-eq0 c = plain_base (base.Class c.args.class) 0 ∙ counted (source_in c.args.program.now) c.args.class.0 (sym c.arity.ensures ∙ c.if-arity-eq0.true)

pub returns-else-arity-eq0 : goal.returns-else-arity-eq0
returns-else-arity-eq0 c = plain_base base.Null 0 ∙ not_counted (source_in c.args.program.now) c.args.class.0 (λ e. c.if-arity-eq0.false (c.arity.ensures ∙ e))
