-- What contracts see of what the members of a class are judged by, and of what members come to.
use Rattle.std.specs.Prelude.{List, map, option_map}
use Rattle.je_core.specs.View.{initializer_view, method_view, view}
use Rattle.name_typing.specs.Program.{Frame, Program}
use Rattle.body_typing.specs.Expressions.{Known}
use Rattle.class_typing.specs.Members as words
use Rattle.body_places.specs.Places.{frame_seen}
use Rattle.statement_forms.specs.Bodies.{known_in, met_seen, program_in}
use Rattle.member_forms.specs.Calls.{own_call_seen}
use Rattle.member_forms.specs.declared.done.MembersDone.{MembersDone}
use Rattle.member_forms.specs.declared.walk.ClassWalk.{ClassWalk}

abbrev pub program_of : ClassWalk → Program
program_of w = program_in w.bodies.now

abbrev pub known_of : ClassWalk → Known
known_of w = known_in w.bodies.now

abbrev pub round_of : ClassWalk → List Frame
round_of w = map frame_seen w.round.now

abbrev pub members_seen : MembersDone → words.MembersDone
members_seen d = record {
  constants = map (option_map view) d.constants.items;
  initializers = map initializer_view d.initializers.items;
  methods = map method_view d.methods.items;
  calls = map own_call_seen d.calls.items;
  met = map met_seen d.met.items;
}
