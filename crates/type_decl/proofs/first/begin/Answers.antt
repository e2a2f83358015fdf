use Rattle.std.proofs.Common.{◌≡◌, [], ap, sym, ◌∙◌}
use Rattle.body_places.specs.Tables.{captured_in, constant_at}
use Rattle.class_typing.specs.Elaboration.{constants_first, first_world}
use Rattle.class_typing.specs.Programs.{classes, with_hidden}
use Rattle.class_heads.specs.View.{classes_of}
use Rattle.type_faults.specs.Program.{source_in}
use Rattle.type_decl.proofs.Beginning.{first_classes}
use Rattle.type_decl.proofs.first.begin.Goals as goal

pub first_walk-requires-clause-places : goal.first_walk-requires-clause-places
first_walk-requires-clause-places c =
    ap (λ ps. captured_in ps (with_hidden (source_in c.args.ground.source) (λ d. []) 0 (classes (source_in c.args.ground.source)))) c.deref.ensures.value
    ∙ c.in_ok-places.ensures

pub returns-clause-named : goal.returns-clause-named
unfolding classes_of
returns-clause-named c =
    c.in_ok-named.ensures (source_in c.args.ground.source) (first_world (source_in c.args.ground.source) (constants_first (source_in c.args.ground.source))).program
    (first_classes (source_in c.args.ground.source) ∙ sym c.requires.classes) (sym (ap constant_at c.deref-2.ensures.value ∙ c.in_ok-constants.ensures ∙ ap constants_first c.requires.sites))
