use Rattle.std.proofs.Common.{◌∙◌, arith, ap, sym, subst, List, Some}
use Rattle.je_core.specs.declared.object.Obj.{Obj}
use Rattle.je_java.specs.World.{units_of, with_units_at}
use Rattle.je_heap.specs.Shape.{IsBuilder}
use Rattle.je_heap.proofs.Texts.{builder_there, text_of_builder, units_of_builder, with_units_of_entry}
use Rattle.je_heap.proofs.objects.Objects.put_units.Goals as goal

pub index-entry-requires : goal.index-entry-requires
index-entry-requires c =
    let builder = subst (λ (os : List Obj). IsBuilder os c.args.id.0) (sym c.self.view_is) c.requires in
    let lt = builder_there c.self.inside.slots c.self.inside.texts.items c.self.inside.entries.items c.args.id.0 builder in
    let w = c.self.ranges in
    omega arith

pub index_mut-requires : goal.index_mut-requires
index_mut-requires c =
    let builder = subst (λ (os : List Obj). IsBuilder os c.args.id.0) (sym c.self.view_is) c.requires in
    let lt = text_of_builder c.self.inside.slots c.self.inside.texts.items c.self.inside.entries.items c.args.id.0 c.self.invariant.1 builder c.index-entry.ensures in
    let w = c.self.ranges in
    omega arith

pub returns-clause-old : goal.returns-clause-old
returns-clause-old c =
    let builder = subst (λ (os : List Obj). IsBuilder os c.args.id.0) (sym c.self.view_is) c.requires in
    ap Some c.replace.ensures.value ∙
    (units_of_builder c.self.inside.slots c.self.inside.texts.items c.self.inside.entries.items c.args.id.0 c.self.invariant.1 builder c.index-entry.ensures c.index_mut.ensures.value ∙
    ap (λ (os : List Obj). units_of os c.args.id.0) c.self.view_is)

pub returns-clause-new : goal.returns-clause-new
returns-clause-new c =
    let builder = subst (λ (os : List Obj). IsBuilder os c.args.id.0) (sym c.self.view_is) c.requires in
    rw c.replace.ensures.after
    (with_units_of_entry c.self.inside.slots c.self.inside.texts.items c.self.inside.entries.items c.args.id.0 c.args.units c.self.invariant.1 builder c.index-entry.ensures ∙
    ap (λ (os : List Obj). with_units_at os c.args.id.0 c.args.units) c.self.view_is)
