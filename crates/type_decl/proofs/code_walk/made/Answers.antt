use Rattle.std.proofs.Common.{◌≡◌, refl, ◌∙◌}
use Rattle.member_forms.specs.Seen.{members_seen}
use Rattle.type_decl.specs.way.Seen.{captured_of}
use Rattle.type_decl.proofs.code_walk.made.Goals as goal

pub returns : goal.returns
returns c = c.in_ok-made.ensures (captured_of c.args.whole.now.walk) (members_seen c.args.done) (record {
  captured_are = c.captured_by.ensures;
  declared_are = c.written_fields.ensures;
  constants_are = refl;
  initializers_are = refl;
  methods_are = refl;
  number_is = c.in_ok-nth.ensures ∙ c.count_of.ensures ∙ c.requires.whole.numbers_are c.args.class.0 c.requires.there;
  bridges_are = c.in_ok-bridges.ensures;
})
