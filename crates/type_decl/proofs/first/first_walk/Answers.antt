use Rattle.std.proofs.Common.{◌≡◌, [], refl, ap, sym, subst, ◌∙◌}
use Rattle.std.specs.Prelude.{None}
use Rattle.body_scopes.specs.View.{blank_seen}
use Rattle.class_spots.specs.Spots.{AreSpotsOf}
use Rattle.class_heads.specs.View.{classes_of}
use Rattle.class_typing.specs.Elaboration.{first_program}
use Rattle.field_values.specs.Values.{count_at, value_at}
use Rattle.je_scopes.specs.Source.{Source}
use Rattle.source_subtypes.specs.View.{heads_of}
use Rattle.type_faults.specs.Program.{source_in}
use Rattle.type_decl.proofs.Beginning.{first_source, methods_stay, plain_is, source_is}
use Rattle.type_decl.proofs.first.first_walk.Goals as goal

pub invariant_of-bodies : goal.invariant_of-bodies
invariant_of-bodies c = record {
  spotted = subst (λ (s : Source). AreSpotsOf s.sites c.args.ground.spots.now)
      (sym (source_is (source_in c.args.ground.source) (λ d. []) (λ m. None) c.in_ok-program.program
      (c.in_ok-program.ensures ∙ plain_is (source_in c.args.ground.source) (λ d. []))))
      c.args.ground.spotted;
}

pub invariant_of-walk : goal.invariant_of-walk
invariant_of-walk c = record {
  named = c.args.ground.named
      ∙ ap (λ (s : Source). s.texts)
      (sym (source_is (source_in c.args.ground.source) (λ d. []) (λ m. None) c.in_ok-program.program
      (c.in_ok-program.ensures ∙ plain_is (source_in c.args.ground.source) (λ d. []))));
}

pub returns : goal.returns
returns c = record {
  methods_are = methods_stay (source_in c.args.ground.source) (λ d. []) (λ m. None) c.in_ok-program.program
      (c.in_ok-program.ensures ∙ plain_is (source_in c.args.ground.source) (λ d. []))
      (heads_of c.args.ground.heads.now) (classes_of c.args.classes) c.args.methods.now c.requires.ground.heads_are c.requires.classes c.requires.methods;
  program_is = c.in_ok-program.ensures;
  captured_is = refl;
  round_is = refl;
  blank_is = ap blank_seen c.deref.ensures.value
      ∙ c.requires.fields.blank_are (first_program (source_in c.args.ground.source)) (first_source (source_in c.args.ground.source));
  hidden_is = ap count_at c.deref-2.ensures.value ∙ c.requires.fields.hidden_are;
  values_are = ap value_at c.deref-3.ensures.value
      ∙ c.requires.fields.values_are (first_program (source_in c.args.ground.source)) (first_source (source_in c.args.ground.source));
}
