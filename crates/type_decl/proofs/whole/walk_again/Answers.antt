use Rattle.std.proofs.Common.{◌≡◌, ◌<◌, List, length, map, refl, ap, sym, subst, ◌∙◌}
use Rattle.std.specs.Prelude.{slice_index}
use Rattle.std.proofs.lemmas.List.{length-map}
use Rattle.std.proofs.lemmas.Result.{err_from_is_err_and}
use Rattle.je_core.specs.Core.{CoreClass}
use Rattle.je_typing.specs.Answers.{IsFault}
use Rattle.je_typing.specs.Judged.{Judged}
use Rattle.body_places.specs.Tables.{constant_at}
use Rattle.body_scopes.specs.View.{blank_seen}
use Rattle.class_heads.specs.View.{behind, classes_of}
use Rattle.class_typing.specs.Elaboration.{whole_program}
use Rattle.class_typing.specs.Places.{round_met}
use Rattle.class_typing.specs.Programs.{library_count}
use Rattle.declarations.specs.View.{class_shown}
use Rattle.field_values.specs.Values.{count_at}
use Rattle.program_tables.specs.Known.{captured_seen, round_seen}
use Rattle.member_forms.specs.Bodies.{met_seen}
use Rattle.name_sites.specs.View.{source_of}
use Rattle.source_subtypes.specs.View.{heads_of}
use Rattle.type_faults.specs.Program.{source_in}
use Rattle.type_decl.proofs.Beginning.{counted_at}
use Rattle.type_decl.proofs.Worlds.{code_is, whole_is, whole_source}
use Rattle.type_decl.proofs.whole.walk_again.Goals as goal

pub core_classes-requires-clause-whole : goal.core_classes-requires-clause-whole
unfolding classes_of
core_classes-requires-clause-whole c =
    whole_is (source_in c.args.ground.source) (captured_seen c.args.told.captured.now) (constant_at c.args.told.constants.now) c.in_ok-walk.walk
    c.in_ok-walk.ensures.program (ap captured_seen c.in_ok-walk.ensures.captured) (source_of c.args.sites.now) c.requires.sites _ refl c.in_ok-walk.ensures.methods
    (ap count_at c.in_ok-walk.ensures.hidden ∙ c.requires.fields.hidden_are)
    (heads_of c.args.ground.heads.now) (behind (map class_shown c.args.ground.library.now) (map class_shown c.args.declared.now)) c.in_ok-hierarchy.ensures
    c.requires.ground.heads_are c.requires.classes
    (λ d l. counted_at c.deref-2.result.now d ∙ ap (λ ns. slice_index ns d) c.deref-2.ensures.value ∙ c.in_ok-numbers.ensures.numbers d l)

pub returns-in_err-classes-clause-err : goal.returns-in_err-classes-clause-err
returns-in_err-classes-clause-err c = λ first m k.
    let p = err_from_is_err_and c.from_residual-in_err-classes.result c.from_residual-in_err-classes.ensures.1 in
    rw (p.1, p.2)
    (subst (λ (j : Judged (List CoreClass)). IsFault j c.in_err-classes.field-0.0)
    (code_is (source_in c.args.ground.source) (captured_seen c.args.told.captured.now) (constant_at c.args.told.constants.now) c.in_ok-walk.walk
    c.in_ok-walk.ensures.program (ap captured_seen c.in_ok-walk.ensures.captured) first
    (ap round_seen c.in_ok-walk.ensures.round ∙ c.requires.rounds ∙ ap (round_met (source_in c.args.ground.source).sites) (sym m))
    (ap blank_seen c.in_ok-walk.ensures.blank ∙ c.requires.fields.blank_are (whole_program (source_in c.args.ground.source) (captured_seen c.args.told.captured.now) first)
    (whole_source (source_in c.args.ground.source) (captured_seen c.args.told.captured.now) first)) k
    (source_of c.args.sites.now) (map met_seen c.args.all.now.met.items) (length c.args.ground.library.now) c.requires.sites m
    (sym (length-map c.args.ground.library.now class_shown) ∙ ap length c.requires.ground.library_is ∙ (λ i. library_count (sym c.requires.sites i))))
    c.in_err-classes.ensures.err)

pub returns-clause-ok : goal.returns-clause-ok
returns-clause-ok c = λ first m k.
    sym (code_is (source_in c.args.ground.source) (captured_seen c.args.told.captured.now) (constant_at c.args.told.constants.now) c.in_ok-walk.walk
    c.in_ok-walk.ensures.program (ap captured_seen c.in_ok-walk.ensures.captured) first
    (ap round_seen c.in_ok-walk.ensures.round ∙ c.requires.rounds ∙ ap (round_met (source_in c.args.ground.source).sites) (sym m))
    (ap blank_seen c.in_ok-walk.ensures.blank ∙ c.requires.fields.blank_are (whole_program (source_in c.args.ground.source) (captured_seen c.args.told.captured.now) first)
    (whole_source (source_in c.args.ground.source) (captured_seen c.args.told.captured.now) first)) k
    (source_of c.args.sites.now) (map met_seen c.args.all.now.met.items) (length c.args.ground.library.now) c.requires.sites m
    (sym (length-map c.args.ground.library.now class_shown) ∙ ap length c.requires.ground.library_is ∙ (λ i. library_count (sym c.requires.sites i))))
    ∙ c.in_ok-classes.ensures.ok
