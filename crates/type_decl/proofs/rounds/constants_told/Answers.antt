use Rattle.std.proofs.Common.{◌≡◌, ℕ, suc, ◌≤◌, sym, ap, ◌∙◌, add-one, arith}
use Rattle.std.specs.Prelude.{Option}
use Rattle.std.specs.List.{sum_by}
use Rattle.je_classes.specs.Members.{Member}
use Rattle.name_typing.specs.Program.{Constant}
use Rattle.program_tables.specs.Known.{round_seen}
use Rattle.body_places.specs.Tables.{constant_at}
use Rattle.member_forms.specs.Bodies.{program_in}
use Rattle.type_decl.specs.way.Asked.{is_asked}
use Rattle.class_typing.specs.ConstantFields.{constants_of, constants_within}
use Rattle.type_decl.specs.way.Rows.{fields_declared, next_seen}
use Rattle.type_decl.proofs.Within.{one_more, told_last, told_settled}
use Rattle.type_decl.proofs.rounds.constants_told.Goals as goal

pub loop-preserved : goal.loop-preserved
loop-preserved c = record {
  whole = omega (arith, c.in_ok-next_round.ensures.whole, c.loop.invariant.whole);
  told = λ hidden shows.
      c.in_ok-next_round.ensures.next ∙ ap (next_seen (program_in c.args.bodies.now) c.args.fields) (c.loop.invariant.told hidden shows)
      ∙ one_more (program_in c.args.bodies.now) hidden c.args.fields (constant_at c.fill_up.new.constants.items) shows c.loop.counter
      ∙ ap (λ (n : ℕ). constants_within (program_in c.args.bodies.now) hidden (round_seen c.args.fields.round.now) n (is_asked c.args.fields.asked.now) (constant_at c.fill_up.new.constants.items)) (sym (add-one c.loop.counter));
}

pub returns-then-branch : goal.returns-then-branch
returns-then-branch c = λ hidden shows.
    let l : c.loop.counter ≤ suc (sum_by fields_declared (program_in c.args.bodies.now).classes) = omega (arith, c.loop-test.true, c.in_ok-end.ensures) in
    let same = c.in_ok-next_round.ensures.settled c.if-branch.true in
    told_settled (program_in c.args.bodies.now) hidden c.args.fields (constant_at c.fill_up.new.constants.items) shows (constant_at c.next_round.new.constants.items) c.loop.counter l
    (same ∙ c.loop.invariant.told hidden shows)
    (ap (next_seen (program_in c.args.bodies.now) c.args.fields) same ∙ sym c.in_ok-next_round.ensures.next)
    ∙ ap (λ (known : Member → Option Constant). constants_of (program_in c.args.bodies.now) hidden (round_seen c.args.fields.round.now) (is_asked c.args.fields.asked.now) known) c.in_ok-fill_up.ensures.same

pub returns : goal.returns
returns c = λ hidden shows.
    let n : c.loop.counter ≡ suc (sum_by fields_declared (program_in c.args.bodies.now).classes) = omega (arith, c.loop-test.false, c.loop.auto.counter-end, c.in_ok-end.ensures) in
    told_last (program_in c.args.bodies.now) hidden c.args.fields (constant_at c.fill_up.new.constants.items) shows (constant_at c.loop.constants.items)
    (c.loop.invariant.told hidden shows
    ∙ ap (λ (k : ℕ). constants_within (program_in c.args.bodies.now) hidden (round_seen c.args.fields.round.now) k (is_asked c.args.fields.asked.now) (constant_at c.fill_up.new.constants.items)) n)
    ∙ ap (λ (known : Member → Option Constant). constants_of (program_in c.args.bodies.now) hidden (round_seen c.args.fields.round.now) (is_asked c.args.fields.asked.now) known) c.in_ok-fill_up.ensures.same
