use Rattle.std.proofs.Common.{◌≡◌, List, map, sym, ap, ◌∙◌}
use Rattle.std.specs.Prelude.{option_map}
use Rattle.je_ast.specs.View.{member_views_of}
use Rattle.je_scopes.specs.Headers.{members_in}
use Rattle.je_typing.specs.Judged.{gives}
use Rattle.je_typing.proofs.Walks.{bind_gives}
use Rattle.class_typing.specs.Constructors.{no_cycle}
use Rattle.member_forms.specs.Calls.{own_call_seen}
use Rattle.member_forms.specs.declared.cycles.OwnCall.{OwnCall}
use Rattle.member_forms.specs.Bodies.{met_seen}
use Rattle.member_forms.specs.Seen.{members_seen}
use Rattle.type_decl.specs.way.Walks.{members_from, written_of}
use Rattle.type_decl.specs.way.Unwritten.{unwritten_for, whole_for}
use Rattle.type_decl.proofs.members.whole.Goals as goal

pub returns-clause-ok : goal.returns-clause-ok
unfolding whole_for
returns-clause-ok c =
    let listed : member_views_of c.members_of.result.now ≡ members_in (written_of c.args.walk) = c.members_of.ensures ∙ ap members_in c.requires.written in
    bind_gives _ _ (members_seen c.in_ok-done.done) (ap (members_from c.args.walk c.args.hidden 0) (sym listed) ∙ c.in_ok-done.ensures.ok)
    ∙ bind_gives _ _ (members_seen c.in_ok-further.further)
    (ap (unwritten_for c.args.walk (option_map (λ m. met_seen m.now) c.args.stands)) (sym c.requires.written) ∙ c.in_ok-further.ensures.ok)
    ∙ bind_gives _ _ tt (ap (λ (calls : List OwnCall). no_cycle (map own_call_seen calls)) (sym c.deref.ensures.value) ∙ c.in_ok-no_cycle.ensures.ok)
    ∙ ap gives (sym c.in_ok-follow.ensures)
