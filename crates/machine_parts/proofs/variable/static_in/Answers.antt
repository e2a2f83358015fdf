use Rattle.machine_parts.proofs.Variables.{static_found, none_found}
use Rattle.machine_parts.proofs.variable.static_in.Goals as goal

pub returns-then-field : goal.returns-then-field
returns-then-field c =
    let found = c.in-Some.ensures.lookup in
    static_found c.args.fields.now c.args.at c.in-Some.field.now c.args.before c.static_count.result found.3.0 found.1 c.if-field.true c.static_count.ensures

pub returns-else-field : goal.returns-else-field
returns-else-field c =
    let found = c.in-Some.ensures.lookup in
    none_found c.args.fields.now c.args.at c.in-Some.field.now c.args.before found.3.0 found.1 c.if-field.false
