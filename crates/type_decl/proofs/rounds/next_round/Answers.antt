use Rattle.std.proofs.Common.{List, sym, ap, ◌∙◌}
use Rattle.std.specs.Prelude.{Option}
use Rattle.std.specs.declared.vec.Vec.{Vec}
use Rattle.std.specs.declared.alloc.Global.{Global}
use Rattle.body_places.specs.declared.tables.Constant.{Constant}
use Rattle.body_places.specs.Tables.{constant_at}
use Rattle.member_forms.specs.Bodies.{program_in}
use Rattle.type_decl.proofs.Within.{next_is, nothing_new}
use Rattle.type_decl.proofs.rounds.next_round.Goals as goal

pub returns-clause-next : goal.returns-clause-next
returns-clause-next c =
    next_is (program_in c.args.bodies.now) c.args.fields (constant_at c.args.constants.now.items) (constant_at c.in_ok-rows.rows.items) (constant_at c.put.new.constants.items) c.put.ensures.each
    (program_in c.judged_by.result)
    (c.judged_by.ensures.program ∙ ap (λ (cs : List (Vec (Option Constant) Global)). record (program_in c.args.bodies.now) { constants = constant_at cs }) c.deref.ensures.value)
    c.in_ok-rows.ensures.each

pub returns-clause-settled : goal.returns-clause-settled
returns-clause-settled c = λ s.
    nothing_new (program_in c.args.bodies.now) c.args.fields (constant_at c.args.constants.now.items) (constant_at c.in_ok-rows.rows.items) (constant_at c.put.new.constants.items) c.put.ensures.each
    (λ m h. (λ i. constant_at (sym c.deref-2.ensures.value i) m) ∙ c.are_settled-is_settled.ensures s m h ∙ (λ i. constant_at (c.deref-3.ensures.value i) m))
