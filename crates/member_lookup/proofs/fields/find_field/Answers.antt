use Rattle.std.proofs.Common.{◌≡◌, ◌≤◌, [], drop, length, sym, ap, ◌∙◌, arith}
use Rattle.std.proofs.lemmas.Grind.{common_steps}
use Rattle.je_core.specs.View.{program_view}
use Rattle.je_classes.specs.Members.{nothing}
use Rattle.member_lookup.specs.Founds.{found_seen}
use Rattle.member_lookup.specs.way.Fields.{field_in, joined_from}
use Rattle.member_lookup.proofs.FieldWays.{field_is}
use Rattle.member_lookup.proofs.fields.find_field.Goals as goal

pub returns : goal.returns
returns c =
    let p = program_view c.args.program.now in
    let items = c.deref-owner-items.result.now in
    let f = field_in p c.args.name c.args.class in
    let past : length items ≤ c.loop-owner.owner-index = omega arith in
    let done : drop c.loop-owner.owner-index items ≡ [] = grind (arith, common_steps, past) in
    ap (joined_from f (found_seen c.loop-owner.found)) (sym done) ∙ c.loop-owner.invariant
    ∙ ap (joined_from f nothing) (c.deref-owner-items.ensures.value ∙ c.in_ok-owners.ensures) ∙ field_is p c.args.name c.args.class c.requires
