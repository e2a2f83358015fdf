use Rattle.std.proofs.Common.{◌≡◌, subst, ◌∙◌}
use Rattle.std.specs.Prelude.{Bool, IfOk}
use Rattle.name_types.specs.View.{shown}
use Rattle.source_subtypes.specs.View.{heads_of}
use Rattle.reference_tests.specs.way.Shapes.{may_be_shaped}
use Rattle.reference_tests.proofs.Shapes.{shaped_is}
use Rattle.reference_tests.proofs.castable.may_be_element.Goals as goal

pub returns-in-Some-class_in : goal.returns-in-Some-class_in
returns-in-Some-class_in c =
    let hs = heads_of c.args.heads.now in
    subst (λ (b : Bool). IfOk c.may_be_class.result (λ may. may ≡ b))
    ((λ i. may_be_shaped hs (shown c.args.ty.now) (shown c.args.other.now) (c.in-Some.ensures i) (c.in-Some-class_in.ensures i))
    ∙ shaped_is hs (shown c.args.ty.now) (shown c.args.other.now))
    c.may_be_class.ensures
