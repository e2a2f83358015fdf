use Rattle.std.proofs.Common.{arith}
use Rattle.je_scopes.specs.Members.{constant_site}
use Rattle.declarations.specs.Declarations.{declared_field}
use Rattle.declarations.specs.View.{field_shown}
use Rattle.declarations.proofs.Adding.{mapped_end, mapped_next}
use Rattle.declarations.proofs.fields.push_constants.Goals as goal

pub loop-constant-preserved : goal.loop-constant-preserved
loop-constant-preserved c = λ p. mapped_next field_shown (declared_field p c.args.class.0) constant_site c.args.constants.now c.loop-constant.constant-index c.loop-constant.fields.items _
    c.push.new.self.items c.constant_decl.result _ c.in_ok-push.ensures.items (omega arith) (c.constant_decl.ensures p) (c.loop-constant.invariant p)

pub returns : goal.returns
returns c = λ p. mapped_end field_shown (declared_field p c.args.class.0) constant_site c.args.constants.now c.loop-constant.constant-index c.loop-constant.fields.items _ (omega arith) (c.loop-constant.invariant p)
