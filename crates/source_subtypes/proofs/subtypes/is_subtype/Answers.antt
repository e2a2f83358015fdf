use Rattle.std.proofs.Common.{◌∙◌, arith}
use Rattle.name_types.specs.View.{shown}
use Rattle.source_subtypes.specs.View.{heads_of}
use Rattle.source_subtypes.proofs.Deciding.{fewer-dims, more-dims, components, without-dims}
use Rattle.source_subtypes.proofs.subtypes.is_subtype.Goals as goal

pub returns-then-ty-other : goal.returns-then-ty-other
returns-then-ty-other c = c.is_null.ensures ∙ fewer-dims (heads_of c.args.heads.now) c.args.ty.now c.args.other.now (omega (arith, c.if-ty-other.true))

pub returns-then-ty-other-2 : goal.returns-then-ty-other-2
returns-then-ty-other-2 c = c.is_object.ensures ∙ more-dims (heads_of c.args.heads.now) c.args.ty.now c.args.other.now (omega (arith, c.if-ty-other-2.true))

pub returns-then-ty-gt0 : goal.returns-then-ty-gt0
returns-then-ty-gt0 c = c.in_ok-component_below.ensures
    ∙ components (heads_of c.args.heads.now) c.args.ty.now c.args.other.now (shown c.in_ok-element.element) (shown c.in_ok-above.above) c.in_ok-element.ensures.element c.in_ok-above.ensures.element
    (omega (arith, c.if-ty-other.false, c.if-ty-other-2.false)) (omega (arith, c.if-ty-gt0.true))

pub returns : goal.returns
returns c = c.in_ok-element_below.ensures
    ∙ without-dims (heads_of c.args.heads.now) c.args.ty.now c.args.other.now (shown c.in_ok-element.element) (shown c.in_ok-above.above) c.in_ok-element.ensures.element c.in_ok-above.ensures.element
    (omega (arith, c.if-ty-gt0.false)) (omega (arith, c.if-ty-gt0.false, c.if-ty-other.false, c.if-ty-other-2.false))
