use Rattle.je_verify.specs.Views.{typed_of, taming_of}
use Rattle.je_verify.proofs.Plain.{accepted_is_plain}
use Rattle.je_verify.proofs.accepted.Accepted.typed.Goals as goal

pub returns-clause-plain : goal.returns-clause-plain
returns-clause-plain c = accepted_is_plain (typed_of c.args.self.now) (taming_of c.args.self.now) c.args.self.now.unbroken
