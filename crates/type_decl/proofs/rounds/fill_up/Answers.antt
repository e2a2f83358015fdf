use Rattle.std.proofs.Common.{List, ap, ◌∙◌, arith}
use Rattle.std.specs.Prelude.{Option}
use Rattle.std.specs.declared.vec.Vec.{Vec}
use Rattle.std.specs.declared.alloc.Global.{Global}
use Rattle.std.proofs.lemmas.Grind.{common_steps}
use Rattle.body_places.specs.declared.tables.Constant.{Constant}
use Rattle.body_places.specs.Tables.{constant_at}
use Rattle.type_decl.proofs.Due.{empty_behind}
use Rattle.type_decl.proofs.rounds.fill_up.Goals as goal

pub loop-preserved : goal.loop-preserved
loop-preserved c = record {
  whole = grind (arith, common_steps, c.in_ok-push.ensures.items, c.loop.invariant.whole);
  same = ap (λ (cs : List (Vec (Option Constant) Global)). constant_at cs) c.in_ok-push.ensures.items
      ∙ empty_behind c.loop.constants.items c.new.result c.new.ensures.items
      ∙ c.loop.invariant.same;
}
