use Rattle.std.proofs.Common.{◌∙◌, arith, ap, sym}
use Rattle.je_table.specs.declared.members.MemberRow.{MemberRow}
use Rattle.class_names.specs.Words.{all_interned}
use Rattle.class_names.proofs.Interning.{turn, drop_none, member_names_said}
use Rattle.class_names.proofs.words.intern_members.Goals as goal

pub loop-row-preserved : goal.loop-row-preserved
loop-row-preserved c =
    turn (λ (r : MemberRow). r.name.now) c.member_rows-row-items.result.now c.loop-row.row-index _ c.args.names.now c.loop-row.names c.intern.new.self c.loop-row-test.true c.loop-row.invariant c.in_ok-intern.ensures.names

pub returns-clause-names : goal.returns-clause-names
returns-clause-names c =
    let none = drop_none (λ (r : MemberRow). r.name.now) c.member_rows-row-items.result.now c.loop-row.row-index c.loop-row.names (omega (arith, c.loop-row-test.false)) in
    sym none ∙ c.loop-row.invariant.0 ∙ ap (all_interned c.args.names.now) (member_names_said c.member_rows-row-items.result.now c.member_rows-row-items.ensures.rows)
