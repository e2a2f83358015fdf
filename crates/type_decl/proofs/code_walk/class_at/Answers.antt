use Rattle.std.proofs.Common.{◌≡◌, map, sym, subst, ap, ◌∙◌}
use Rattle.std.proofs.lemmas.Result.{err_from_is_err_and}
use Rattle.je_typing.specs.Answers.{IsFault}
use Rattle.je_typing.specs.Judged.{Judged, gives}
use Rattle.je_typing.proofs.Walks.{bind_faults, bind_gives}
use Rattle.member_forms.specs.Bodies.{met_seen}
use Rattle.member_forms.specs.Seen.{members_seen}
use Rattle.name_sites.specs.View.{source_of}
use Rattle.class_typing.specs.Classes.{core_class}
use Rattle.class_typing.specs.Elaboration.{members_of}
use Rattle.class_typing.specs.Members.{MembersDone}
use Rattle.type_decl.specs.way.Seen.{captured_of, world_of}
use Rattle.field_values.specs.Values.{count_at}
use Rattle.type_decl.proofs.Making.{same_members}
use Rattle.type_decl.proofs.code_walk.class_at.Goals as goal

pub returns-in_err-done-clause-err : goal.returns-in_err-done-clause-err
returns-in_err-done-clause-err c =
    let p = err_from_is_err_and c.from_residual.result c.from_residual.ensures.1 in
    rw (p.1, p.2)
    (bind_faults
    (members_of (source_of c.args.sites.now) (world_of c.args.whole.now.walk) (captured_of c.args.whole.now.walk) (map met_seen c.args.all.now.met.items) c.args.class.0)
    _ c.in_err-done.field-0.0
    (subst (λ (j : Judged MembersDone). IsFault j c.in_err-done.field-0.0)
    (same_members (source_of c.args.sites.now) (world_of c.args.whole.now.walk) (captured_of c.args.whole.now.walk) (map met_seen c.args.all.now.met.items)
    (count_at c.args.whole.now.walk.hidden.now) c.args.class.0 c.requires.whole.source_is c.requires.whole.hidden_is)
    c.in_err-done.ensures.err))

pub returns-clause-ok : goal.returns-clause-ok
returns-clause-ok c =
    bind_gives
    (members_of (source_of c.args.sites.now) (world_of c.args.whole.now.walk) (captured_of c.args.whole.now.walk) (map met_seen c.args.all.now.met.items) c.args.class.0)
    (λ d. gives (core_class (world_of c.args.whole.now.walk).program (captured_of c.args.whole.now.walk) c.args.class.0 d)) (members_seen c.in_ok-done.done)
    (sym (same_members (source_of c.args.sites.now) (world_of c.args.whole.now.walk) (captured_of c.args.whole.now.walk) (map met_seen c.args.all.now.met.items)
    (count_at c.args.whole.now.walk.hidden.now) c.args.class.0 c.requires.whole.source_is c.requires.whole.hidden_is) ∙ c.in_ok-done.ensures.ok)
    ∙ ap gives (sym c.in_ok-made.ensures)
