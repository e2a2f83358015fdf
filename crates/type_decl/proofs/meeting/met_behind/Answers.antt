use Rattle.std.proofs.Common.{◌≡◌, ℕ, List, ◌++◌, length, map, take, sym, ap, subst, ◌∙◌, arith}
use Rattle.std.specs.Vec.{vec_len}
use Rattle.std.proofs.Math.Seq.{take-append_seam}
use Rattle.class_places.specs.First.{AreFirst}
use Rattle.member_forms.specs.Bodies.{Met, met_seen}
use Rattle.type_decl.proofs.meeting.met_behind.Goals as goal

pub returns-clause-placed : goal.returns-clause-placed
returns-clause-placed c = λ sites h.
    let many : vec_len c.args.all.met ≡ length c.args.all.met.items = omega (arith, c.args.all.met.ok) in
    let before : take c.len-from.result c.deref.result.now ≡ c.args.all.met.items =
    ap (λ (n : ℕ). take n c.deref.result.now) (c.len-from.ensures ∙ many)
    ∙ ap (take (length c.args.all.met.items)) (c.deref.ensures.value ∙ c.in_ok-append.ensures.items)
    ∙ take-append_seam c.args.all.met.items c.args.new.items in
    subst (λ (ms : List Met). AreFirst (length sites) (map met_seen ms) c.add_all.new.self) c.deref.ensures.value
    (c.add_all.ensures (length sites)
    (subst (λ (ms : List Met). AreFirst (length sites) (map met_seen ms) c.args.all.stands) (sym before) h))
