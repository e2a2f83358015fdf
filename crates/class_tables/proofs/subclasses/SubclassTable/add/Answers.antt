use Rattle.std.proofs.Common.{length, ap, ◌∙◌, subst}
use Rattle.je_core.specs.View.{program_view}
use Rattle.number_maps.specs.Maps.{family}
use Rattle.class_tables.specs.way.Above.{Has}
use Rattle.class_tables.specs.way.Slots.{known_above}
use Rattle.class_tables.proofs.ClassesAbove.{reached-few, extended-exact, known-after, own-after, others-after}
use Rattle.class_tables.proofs.subclasses.SubclassTable.add.Goals as goal

pub with_each-requires-clause-few : goal.with_each-requires-clause-few
with_each-requires-clause-few c = λ k h.
    reached-few (program_view c.args.program.now) (family c.args.self.now.maps) c.args.class c.known_above-base.result c.requires.few k
    (subst (λ xs. Has xs k) (c.deref-2.ensures.value ∙ c.in_ok-beyond.ensures) h)

pub returns-clause-known : goal.returns-clause-known
returns-clause-known c =
    let p = program_view c.args.program.now in
    let e = c.known_above-base.ensures ∙ (λ i. known_above (c.deref.ensures.value i) (c.first_super.ensures i)) in
    known-after p c.args.self.now (record { maps = c.with_each.new.maps; above = c.note.new.noted }) c.args.class c.in_ok-map.map c.requires.known c.in_ok-map.ensures.keeps
    (extended-exact p c.args.self.now (family c.with_each.new.maps) c.args.class c.known_above-base.result c.in_ok-map.map c.deref-2.result.now c.requires.few c.requires.known e
    (c.deref-2.ensures.value ∙ c.in_ok-beyond.ensures) c.in_ok-map.ensures.made) c.note.ensures

pub returns-clause-own : goal.returns-clause-own
returns-clause-own c =
    let p = program_view c.args.program.now in
    let e = c.known_above-base.ensures ∙ (λ i. known_above (c.deref.ensures.value i) (c.first_super.ensures i)) in
    own-after p c.args.self.now (record { maps = c.with_each.new.maps; above = c.note.new.noted }) c.args.class c.in_ok-map.map c.requires.known c.in_ok-map.ensures.keeps
    (extended-exact p c.args.self.now (family c.with_each.new.maps) c.args.class c.known_above-base.result c.in_ok-map.map c.deref-2.result.now c.requires.few c.requires.known e
    (c.deref-2.ensures.value ∙ c.in_ok-beyond.ensures) c.in_ok-map.ensures.made) c.note.ensures

pub returns-clause-others : goal.returns-clause-others
returns-clause-others c =
    let p = program_view c.args.program.now in
    let e = c.known_above-base.ensures ∙ (λ i. known_above (c.deref.ensures.value i) (c.first_super.ensures i)) in
    others-after p c.args.self.now (record { maps = c.with_each.new.maps; above = c.note.new.noted }) c.args.class c.in_ok-map.map c.requires.known c.in_ok-map.ensures.keeps
    (extended-exact p c.args.self.now (family c.with_each.new.maps) c.args.class c.known_above-base.result c.in_ok-map.map c.deref-2.result.now c.requires.few c.requires.known e
    (c.deref-2.ensures.value ∙ c.in_ok-beyond.ensures) c.in_ok-map.ensures.made) c.note.ensures
