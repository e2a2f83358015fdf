use Rattle.std.proofs.Common.{◌≡◌, ℕ, ◌-◌, [], ◌∷◌, length, map, ap, sym, ◌∙◌, arith}
use Rattle.std.proofs.lemmas.Result.{err_from_is_err_and}
use Rattle.std.proofs.lemmas.List.{map-append}
use Rattle.je_core.specs.View.{class_view}
use Rattle.member_forms.specs.Bodies.{met_seen}
use Rattle.name_sites.specs.View.{source_of}
use Rattle.class_typing.specs.Elaboration.{core_classes, guest_count}
use Rattle.type_decl.specs.way.Seen.{captured_of, world_of}
use Rattle.type_decl.proofs.Making.{all_made, class_fails, class_made, making_begins}
use Rattle.type_decl.proofs.code_walk.core_classes.Goals as goal

pub loop-at-init : goal.loop-at-init
loop-at-init c =
    let many : guest_count (source_of c.args.sites.now) ≡ length (source_of c.args.sites.now).sites - c.args.library
    = ap (λ (n : ℕ). length (source_of c.args.sites.now).sites - n) (sym c.requires.library) in
    making_begins (source_of c.args.sites.now) (world_of c.args.whole.now.walk) (captured_of c.args.whole.now.walk) (map met_seen c.args.all.now.met.items)
    (map class_view c.new-classes.result.items) c.args.library (guest_count (source_of c.args.sites.now)) (length (source_of c.args.sites.now).sites - c.args.library)
    (ap (map class_view) c.new-classes.ensures.items) many

pub returns-in_err-class-clause-err : goal.returns-in_err-class-clause-err
returns-in_err-class-clause-err c =
    let p = err_from_is_err_and c.from_residual.result c.from_residual.ensures.1 in
    rw (p.1, p.2)
    (class_fails (source_of c.args.sites.now) (world_of c.args.whole.now.walk) (captured_of c.args.whole.now.walk) (map met_seen c.args.all.now.met.items)
    (core_classes (source_of c.args.sites.now) (world_of c.args.whole.now.walk) (captured_of c.args.whole.now.walk) (map met_seen c.args.all.now.met.items)
    c.args.library (guest_count (source_of c.args.sites.now)))
    (map class_view c.loop-at.classes.items) c.loop-at.at (length (source_of c.args.sites.now).sites) _
    (omega (arith, c.len-at-end.ensures.count, c.loop-at-test.true)) c.loop-at.invariant c.in_err-class.ensures.err)

pub loop-at-preserved : goal.loop-at-preserved
loop-at-preserved c =
    class_made (source_of c.args.sites.now) (world_of c.args.whole.now.walk) (captured_of c.args.whole.now.walk) (map met_seen c.args.all.now.met.items)
    (core_classes (source_of c.args.sites.now) (world_of c.args.whole.now.walk) (captured_of c.args.whole.now.walk) (map met_seen c.args.all.now.met.items)
    c.args.library (guest_count (source_of c.args.sites.now)))
    (map class_view c.loop-at.classes.items) (map class_view c.push.new.self.items) (class_view c.in_ok-class.class) c.loop-at.at (length (source_of c.args.sites.now).sites)
    (omega (arith, c.len-at-end.ensures.count, c.loop-at-test.true)) c.loop-at.invariant c.in_ok-class.ensures.ok
    (ap (map class_view) c.in_ok-push.ensures.items ∙ map-append class_view c.loop-at.classes.items (c.in_ok-class.class ∷ []))

pub returns-clause-ok : goal.returns-clause-ok
returns-clause-ok c =
    all_made (source_of c.args.sites.now) (world_of c.args.whole.now.walk) (captured_of c.args.whole.now.walk) (map met_seen c.args.all.now.met.items)
    (core_classes (source_of c.args.sites.now) (world_of c.args.whole.now.walk) (captured_of c.args.whole.now.walk) (map met_seen c.args.all.now.met.items)
    c.args.library (guest_count (source_of c.args.sites.now)))
    (map class_view c.loop-at.classes.items) c.loop-at.at (length (source_of c.args.sites.now).sites - c.loop-at.at)
    (omega (arith, c.len-at-end.ensures.count, c.loop-at.auto.at-end, c.loop-at-test.false)) c.loop-at.invariant
