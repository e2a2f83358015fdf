use Rattle.std.proofs.Common.{◌≡◌, ◌++◌, map, ap, sym, subst, ◌∙◌}
use Rattle.std.proofs.lemmas.Result.{err_from_is_err_and}
use Rattle.je_typing.specs.Answers.{IsFault}
use Rattle.je_typing.specs.Judged.{Judged, gives}
use Rattle.je_typing.proofs.Walks.{bind_faults, bind_gives}
use Rattle.body_places.specs.Tables.{constant_at}
use Rattle.member_forms.specs.Bodies.{met_seen, program_in}
use Rattle.member_forms.specs.Seen.{members_seen}
use Rattle.name_sites.specs.View.{source_of}
use Rattle.class_typing.specs.Elaboration.{BodiesMet, constants_behind, first_world, members_of, nothing_captured}
use Rattle.class_typing.specs.Members.{MembersDone}
use Rattle.type_decl.specs.way.Seen.{members_at, world_of}
use Rattle.field_values.specs.Values.{count_at}
use Rattle.type_decl.proofs.Walking.{first_members, source_stays}
use Rattle.type_decl.proofs.meeting_walk.walk_class.Goals as goal

pub members-requires-clause-sites : goal.members-requires-clause-sites
members-requires-clause-sites c =
    source_stays (source_of c.args.sites.now) c.args.first.now c.requires.begins c.walk_with-walk.result (constant_at c.deref.result.now)
    c.walk_with-walk.ensures.program c.walk_with-walk.ensures.known c.walk_with-walk.ensures.hidden

pub returns-in_err-met-clause-err : goal.returns-in_err-met-clause-err
returns-in_err-met-clause-err c =
    let p = err_from_is_err_and c.from_residual.result c.from_residual.ensures.1 in
    rw (p.1, p.2)
    (bind_faults
    (members_of (source_of c.args.sites.now) (first_world (source_of c.args.sites.now) (constant_at c.args.done.constants.items))
    (nothing_captured (source_of c.args.sites.now)) (map met_seen c.args.done.all.met.items) c.args.class.0)
    _ c.in_err-met.field-0.0
    (subst (λ (j : Judged MembersDone). IsFault j c.in_err-met.field-0.0)
    (first_members (source_of c.args.sites.now) c.args.first.now c.requires.begins c.walk_with-walk.result (constant_at c.args.done.constants.items)
    (c.walk_with-walk.ensures.program ∙ (λ i. record (program_in c.args.first.now.walk.bodies) { constants = constant_at (c.deref.ensures.value i) }))
    c.walk_with-walk.ensures.known c.walk_with-walk.ensures.hidden (map met_seen c.args.done.all.met.items) c.args.class.0)
    c.in_err-met.ensures.err))

pub returns-clause-ok : goal.returns-clause-ok
returns-clause-ok c =
    bind_gives
    (members_of (source_of c.args.sites.now) (first_world (source_of c.args.sites.now) (constant_at c.args.done.constants.items))
    (nothing_captured (source_of c.args.sites.now)) (map met_seen c.args.done.all.met.items) c.args.class.0)
    (λ d. gives (record {
      met = map met_seen c.args.done.all.met.items ++ d.met;
      constants = constants_behind (source_of c.args.sites.now) (map met_seen c.args.done.all.met.items) d.met (constant_at c.args.done.constants.items);
    }))
    (members_seen c.in_ok-met.field-0)
    (sym (first_members (source_of c.args.sites.now) c.args.first.now c.requires.begins c.walk_with-walk.result (constant_at c.args.done.constants.items)
    (c.walk_with-walk.ensures.program ∙ (λ i. record (program_in c.args.first.now.walk.bodies) { constants = constant_at (c.deref.ensures.value i) }))
    c.walk_with-walk.ensures.known c.walk_with-walk.ensures.hidden (map met_seen c.args.done.all.met.items) c.args.class.0)
    ∙ c.in_ok-met.ensures.ok)
    ∙ (λ i. gives (record { met = sym c.in_ok-behind.ensures.met i; constants = sym c.in_ok-behind.ensures.constants i }))
