use Rattle.std.proofs.Common.{◌<◌, ◌+◌, length, map, sym, ap, ◌∙◌, arith}
use Rattle.std.specs.Prelude.{count_by, take, slice_get}
use Rattle.std.proofs.lemmas.List.{length-take-le}
use Rattle.je_core.specs.View.{field_view, class_view, program_view}
use Rattle.je_classes.specs.Statics.{is_static, static_after, static_place_in}
use Rattle.je_java.specs.Classes.{statics_of}
use Rattle.machine_parts.proofs.Variables.{classes_before, class_within}
use Rattle.machine_parts.proofs.variable.static_place.Goals as goal

pub slice_bounds-statics_of-end : goal.slice_bounds-statics_of-end
unfolding program_view
slice_bounds-statics_of-end c =
    let at = c.args.class.0 in
    let below : at < length c.args.program.now.classes.items = class_within c.args.program.now.classes.items at (class_view c.in-Some.found.now) c.in-Some.ensures in
    let all = ap length c.deref.ensures.value in
    sym (length-take-le at c.deref.result.now (omega (arith, below, all)))

pub returns-in-Some : goal.returns-in-Some
unfolding program_view
returns-in-Some c =
    let field = c.args.field in
    let classes = c.args.program.now.classes.items in
    let before = c.statics_of-before.result in
    let own = class_view c.in-Some.found.now in
    let counted = c.statics_of-before.ensures.value ∙ ap (λ cs. statics_of (map class_view (take c.args.class.0 cs))) c.deref.ensures.value ∙ classes_before classes c.args.class.0 in
    c.static_in.ensures
    ∙ ap (λ fs. static_after (slice_get (map field_view fs) field) (before + count_by is_static (take field (map field_view fs)))) c.deref-in-Some.ensures.value
    ∙ ap (λ n. static_after (slice_get own.fields field) (n + count_by is_static (take field own.fields))) counted
    ∙ ap (λ o. static_place_in (program_view c.args.program.now) c.args.class o field) c.in-Some.ensures
