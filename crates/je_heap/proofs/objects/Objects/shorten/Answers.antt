use Rattle.std.proofs.Common.{◌∙◌, arith, ap, sym, subst, take, List}
use Rattle.je_core.specs.declared.object.Obj.{Obj}
use Rattle.je_java.specs.World.{units_of, with_units_at}
use Rattle.je_heap.specs.Shape.{IsBuilder}
use Rattle.je_heap.proofs.Journals.{shortened_is}
use Rattle.je_heap.proofs.Texts.{text_of_builder, units_of_builder, with_units_of_entry}
use Rattle.je_heap.proofs.objects.Objects.shorten.Goals as goal

pub index_mut-requires : goal.index_mut-requires
index_mut-requires c =
    let builder = subst (λ (os : List Obj). IsBuilder os c.args.id.0) (sym c.self.view_is) c.requires in
    let lt = text_of_builder c.self.inside.slots c.self.inside.texts.items c.self.inside.entries.items c.args.id.0 c.self.invariant.1 builder c.index-entry.ensures in
    let w = c.self.ranges in
    omega arith

pub returns : goal.returns
returns c =
    let builder = subst (λ (os : List Obj). IsBuilder os c.args.id.0) (sym c.self.view_is) c.requires in
    let own = c.index_mut.result.now in
    let there = units_of_builder c.self.inside.slots c.self.inside.texts.items c.self.inside.entries.items c.args.id.0 c.self.invariant.1 builder c.index-entry.ensures c.index_mut.ensures.value in
    rw c.shorten.ensures
    (with_units_of_entry c.self.inside.slots c.self.inside.texts.items c.self.inside.entries.items c.args.id.0 (take c.args.count own) c.self.invariant.1 builder c.index-entry.ensures ∙
    (ap (λ (os : List Obj). with_units_at os c.args.id.0 (take c.args.count own)) c.self.view_is ∙
    sym (shortened_is c.args.self.now c.args.id.0 own c.args.count (sym (there ∙ ap (λ (os : List Obj). units_of os c.args.id.0) c.self.view_is)))))
