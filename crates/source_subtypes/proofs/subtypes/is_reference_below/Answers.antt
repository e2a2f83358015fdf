use Rattle.std.proofs.Common.{List, map, sym, ap, ◌∙◌}
use Rattle.name_types.specs.declared.types.SrcTy.{SrcTy}
use Rattle.name_types.specs.View.{shown}
use Rattle.source_types.specs.Supertypes.{has_type}
use Rattle.source_subtypes.specs.View.{heads_of}
use Rattle.source_subtypes.proofs.Deciding.{below-object, null-below, itself-below, above-listed}
use Rattle.source_subtypes.proofs.subtypes.is_reference_below.Goals as goal

pub returns-then-is_object : goal.returns-then-is_object
returns-then-is_object c =
    below-object (heads_of c.args.heads.now) c.args.ty.now c.args.other.now c.requires.flat c.requires.other_flat c.requires.reference (sym c.is_object.ensures ∙ c.if-is_object.true)

pub returns-then-is_null_below : goal.returns-then-is_null_below
returns-then-is_null_below c =
    null-below (heads_of c.args.heads.now) c.args.ty.now c.args.other.now c.requires.flat c.requires.other_flat c.requires.reference (sym c.is_null_below.ensures ∙ c.if-is_null_below.true)

pub returns-then-is_same : goal.returns-then-is_same
returns-then-is_same c =
    itself-below (heads_of c.args.heads.now) c.args.ty.now c.args.other.now c.requires.flat c.requires.reference (sym c.is_same.ensures ∙ c.if-is_same.true)

pub returns : goal.returns
returns c = c.has-below.ensures
    ∙ ap (λ (ts : List SrcTy). has_type (map shown ts) (shown c.args.other.now)) c.deref.ensures.value
    ∙ c.in_ok-above.ensures.each (shown c.args.other.now)
    ∙ above-listed (heads_of c.args.heads.now) c.args.ty.now c.args.other.now c.requires.flat c.requires.other_flat c.requires.reference
    (sym c.is_object.ensures ∙ c.if-is_object.false) (sym c.is_null_below.ensures ∙ c.if-is_null_below.false)
