use Rattle.std.proofs.Common.{List, map, ap, ◌∙◌, arith}
use Rattle.std.specs.declared.vec.Vec.{Vec}
use Rattle.std.specs.declared.alloc.Global.{Global}
use Rattle.std.proofs.lemmas.List.{take_all}
use Rattle.field_values.specs.declared.values.FieldValue.{FieldValue}
use Rattle.field_values.specs.way.Blank.{flags_due}
use Rattle.field_values.proofs.Without.{blank_is}
use Rattle.field_values.proofs.blank.blank_fields.Goals as goal

pub returns : goal.returns
returns c = λ p hidden shows.
    blank_is p hidden c.loop-of_class.all.items c.args.values.now
    (c.loop-of_class.invariant ∙ ap (λ (vs : List (Vec FieldValue Global)). map flags_due vs) (take_all c.loop-of_class.of_class-index c.args.values.now (omega arith)))
    shows
