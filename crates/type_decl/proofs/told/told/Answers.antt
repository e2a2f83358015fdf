use Rattle.std.proofs.Common.{◌≡◌, map, ap, sym, ◌∙◌}
use Rattle.body_places.specs.Tables.{constant_at}
use Rattle.class_typing.specs.ConstantFields.{constants_of, field_value}
use Rattle.class_typing.specs.Elaboration.{first_program, hidden_count, nothing_captured}
use Rattle.class_typing.specs.Places.{round_met}
use Rattle.type_decl.specs.way.Asked.{is_asked}
use Rattle.program_tables.specs.Known.{round_seen}
use Rattle.member_forms.specs.Bodies.{met_seen}
use Rattle.name_sites.specs.View.{source_of}
use Rattle.type_decl.proofs.Asking.{same_constants}
use Rattle.type_decl.proofs.told.told.Goals as goal

pub returns : goal.returns
returns c =
    let source = source_of c.args.sites.now in
    let hidden = hidden_count source (nothing_captured source) in
    let known = constant_at c.args.constants.items in
    c.in_ok-told.ensures hidden
    (c.requires.begins.values_are ∙ ap (λ p. field_value p hidden) (sym c.requires.begins.program_is))
    ∙ (λ i. constants_of (c.requires.begins.program_is i) hidden (round_seen (c.deref.ensures.value i))
    (is_asked c.args.asked.now) known)
    ∙ same_constants (first_program source) hidden (round_seen c.in_ok-round.round.items)
    (round_met source.sites (map met_seen c.args.all.now.met.items)) (is_asked c.args.asked.now) known c.in_ok-round.ensures
