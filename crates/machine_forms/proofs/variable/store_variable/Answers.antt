use Rattle.machine_parts.specs.Ways.{own_of}
use Rattle.machine_parts.proofs.Results.{if_ok-map}
use Rattle.machine_forms.proofs.variable.store_variable.Goals as goal

pub returns-clause-goes : goal.returns-clause-goes
returns-clause-goes c = if_ok-map c.store_static.result (λ control goes m k outside.
    let before = c.args.context.now in
    goes m k before.frames before.units before.begun outside (own_of before.env)) c.store_static.ensures.goes
