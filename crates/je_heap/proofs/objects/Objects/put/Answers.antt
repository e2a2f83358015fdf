use Rattle.std.proofs.Common.{arith, sym, subst, List}
use Rattle.std.specs.Prelude.{IsSome}
use Rattle.je_core.specs.declared.object.Obj.{Obj}
use Rattle.je_java.specs.World.{slot_of}
use Rattle.je_heap.proofs.Laying.{there, within, with_slot_of_entry}
use Rattle.je_heap.proofs.objects.Objects.put.Goals as goal

pub index-entry-requires : goal.index-entry-requires
index-entry-requires c =
    let some = subst (λ (os : List Obj). IsSome (slot_of os c.args.id.0 c.args.at)) (sym c.self.view_is) c.requires in
    let lt = there c.self.inside.slots c.self.inside.texts.items c.self.inside.entries.items c.args.id.0 c.args.at some in
    let w = c.self.ranges in
    omega arith

pub set-requires : goal.set-requires
set-requires c =
    let some = subst (λ (os : List Obj). IsSome (slot_of os c.args.id.0 c.args.at)) (sym c.self.view_is) c.requires in
    within c.self.inside.slots c.self.inside.texts.items c.self.inside.entries.items c.args.id.0 c.args.at c.self.invariant.0 some c.index-entry.ensures

pub returns : goal.returns
returns c =
    let some = subst (λ (os : List Obj). IsSome (slot_of os c.args.id.0 c.args.at)) (sym c.self.view_is) c.requires in
    rw c.set.ensures (rw (sym c.self.view_is) (with_slot_of_entry c.self.inside.slots c.self.inside.texts.items c.self.inside.entries.items c.args.id.0 c.args.at c.args.value c.self.invariant.0 some c.index-entry.ensures))
