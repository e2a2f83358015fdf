use Rattle.std.proofs.Common.{◌≡◌, ◌+◌, ◌-◌, ◌<◌, Bool, true, false, length, drop, take, map, sym, ap, ◌∙◌, arith}
use Rattle.std.specs.Prelude.{◌&&◌}
use Rattle.std.specs.List.{list_all}
use Rattle.je_core.specs.View.{field_view}
use Rattle.je_fitting.specs.Classes.{is_hidden}
use Rattle.fit_classes.proofs.Steps.{begin_more}
use Rattle.fit_classes.proofs.hidden.begin_hidden.Goals as goal

pub returns-then-not-is_hidden : goal.returns-then-not-is_hidden
returns-then-not-is_hidden c =
    let fs = c.args.fields.now in
    let i = c.loop-field.field-index in
    let n = c.loop-field.left in
    let f = c.field-item.result in
    let within : i < length fs = omega arith in
    let more : 0 < n = omega arith in
    let fails : is_hidden (field_view f) ≡ false = grind (arith, c.if-not-is_hidden.true, c.is_hidden.ensures) in
    sym (sym c.loop-field.invariant ∙ begin_more fs n i f within c.field-item.is more
    ∙ ap (λ (b : Bool). b && list_all is_hidden (take (n - 1) (map field_view (drop (i + 1) fs)))) fails)

pub loop-field-preserved : goal.loop-field-preserved
loop-field-preserved c =
    let fs = c.args.fields.now in
    let i = c.loop-field.field-index in
    let n = c.loop-field.left in
    let f = c.field-item.result in
    let within : i < length fs = omega arith in
    let more : 0 < n = omega arith in
    let passes : is_hidden (field_view f) ≡ true = grind (arith, c.if-not-is_hidden.false, c.is_hidden.ensures) in
    sym (begin_more fs n i f within c.field-item.is more
    ∙ ap (λ (b : Bool). b && list_all is_hidden (take (n - 1) (map field_view (drop (i + 1) fs)))) passes)
    ∙ c.loop-field.invariant
