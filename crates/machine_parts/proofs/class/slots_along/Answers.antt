use Rattle.std.proofs.Common.{◌≡◌, ◌+◌, ◌-◌, ◌++◌, map, take, get_or, sym, ap, ◌∙◌, append_assoc, arith}
use Rattle.std.specs.Prelude.{filter}
use Rattle.std.proofs.lemmas.List.{map-append}
use Rattle.je_core.specs.Core.{CoreField}
use Rattle.je_core.specs.Defaults.{default_of}
use Rattle.je_core.specs.View.{field_view, program_view}
use Rattle.je_classes.specs.Fields.{fields_in}
use Rattle.je_classes.specs.Hierarchy.{class_at}
use Rattle.je_classes.specs.Slots.{is_instance}
use Rattle.object_parts.specs.way.Slots.{instance_fields}
use Rattle.machine_parts.specs.way.Slots.{fields_along, defaults}
use Rattle.machine_parts.proofs.Slots.{along_back}
use Rattle.machine_parts.proofs.class.slots_along.Goals as goal

pub loop-left-preserved : goal.loop-left-preserved
loop-left-preserved c =
    let p = program_view c.args.program.now in
    let path = c.args.path.now in
    let i = c.loop-left.left - 1 in
    let x = get_or path i (record { 0 = 0 }) in
    let inv = c.loop-left.invariant in
    let own : map field_view c.fields.result.now ≡ fields_in (class_at p x) = c.fields.ensures in
    let rest = defaults (fields_along p (take i path)) in
    let is_left : i + 1 ≡ c.loop-left.left = omega (arith, c.loop-left-test.true) in (
      ap (λ vs. vs ++ rest) (c.in_ok-push_defaults.ensures ∙ ap (λ fs. c.loop-left.slots ++ defaults (filter is_instance fs)) own)
          ∙ append_assoc c.loop-left.slots (defaults (instance_fields p x)) rest
          ∙ ap (λ vs. c.loop-left.slots ++ vs) (sym (map-append (λ (field : CoreField). default_of field.ty) (instance_fields p x) (fields_along p (take i path)))
          ∙ ap defaults (sym (along_back p path i (record { 0 = 0 }) (omega (arith, inv.1, is_left)))))
          ∙ ap (λ n. c.loop-left.slots ++ defaults (fields_along p (take n path))) is_left
          ∙ inv.0,
      omega (arith, inv.1),
    )
