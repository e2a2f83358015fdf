use Rattle.std.proofs.Common.{◌∙◌, ◌++◌, arith, ap, sym, subst, length, List, Some}
use Rattle.std.specs.Prelude.{option_map}
use Rattle.je_core.specs.declared.object.Obj.{Obj}
use Rattle.je_java.specs.World.{units_of, with_units_at}
use Rattle.je_heap.specs.Shape.{IsBuilder}
use Rattle.je_heap.proofs.Journals.{lengthened_is}
use Rattle.je_heap.proofs.Texts.{text_of_builder, units_of_builder, with_units_of_entry}
use Rattle.je_heap.proofs.objects.Objects.lengthen.Goals as goal

pub index_mut-text-requires : goal.index_mut-text-requires
index_mut-text-requires c =
    let builder = subst (λ (os : List Obj). IsBuilder os c.args.id.0) (sym c.self.view_is) c.requires in
    let lt = text_of_builder c.self.inside.slots c.self.inside.texts.items c.self.inside.entries.items c.args.id.0 c.self.invariant.1 builder c.index-entry.ensures in
    let w = c.self.ranges in
    omega arith

pub returns-clause-old : goal.returns-clause-old
returns-clause-old c =
    let builder = subst (λ (os : List Obj). IsBuilder os c.args.id.0) (sym c.self.view_is) c.requires in
    ap Some c.len-count.ensures ∙ ap (option_map length)
    (units_of_builder c.self.inside.slots c.self.inside.texts.items c.self.inside.entries.items c.args.id.0 c.self.invariant.1 builder c.index-entry.ensures c.index_mut-text.ensures.value ∙
    ap (λ (os : List Obj). units_of os c.args.id.0) c.self.view_is)

pub returns-clause-ok : goal.returns-clause-ok
returns-clause-ok c =
    let builder = subst (λ (os : List Obj). IsBuilder os c.args.id.0) (sym c.self.view_is) c.requires in
    let own = c.index_mut-text.result.now in
    let there = units_of_builder c.self.inside.slots c.self.inside.texts.items c.self.inside.entries.items c.args.id.0 c.self.invariant.1 builder c.index-entry.ensures c.index_mut-text.ensures.value in
    rw c.in_ok-lengthen.ensures.ok
    (with_units_of_entry c.self.inside.slots c.self.inside.texts.items c.self.inside.entries.items c.args.id.0 (own ++ c.args.more.now) c.self.invariant.1 builder c.index-entry.ensures ∙
    (ap (λ (os : List Obj). with_units_at os c.args.id.0 (own ++ c.args.more.now)) c.self.view_is ∙
    sym (lengthened_is c.args.self.now c.args.id.0 own c.args.more.now (sym (there ∙ ap (λ (os : List Obj). units_of os c.args.id.0) c.self.view_is)))))
