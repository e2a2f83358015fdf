use Rattle.declarations.proofs.Shown.{class_shown_plain, constant_shown}
use Rattle.declarations.proofs.fields.constant_decl.Goals as goal

pub returns : goal.returns
returns c = constant_shown c.args.name c.args.class _ (class_shown_plain c.args.class)
