use Rattle.std.proofs.Common.{◌≡◌, ap, sym, subst, ◌∙◌}
use Rattle.body_places.specs.Tables.{constant_at}
use Rattle.class_spots.specs.Spots.{AreSpotsOf}
use Rattle.class_heads.specs.View.{classes_of}
use Rattle.je_scopes.specs.Source.{Source}
use Rattle.program_tables.specs.Known.{captured_seen}
use Rattle.source_subtypes.specs.View.{heads_of}
use Rattle.type_faults.specs.Program.{source_in}
use Rattle.type_decl.proofs.Beginning.{methods_stay, source_is}
use Rattle.type_decl.proofs.whole.whole_walk.Goals as goal

pub invariant_of-bodies : goal.invariant_of-bodies
invariant_of-bodies c = record {
  spotted = subst (λ (s : Source). AreSpotsOf s.sites c.args.ground.spots.now)
      (sym (source_is (source_in c.args.ground.source) (captured_seen c.args.told.captured.now) (constant_at c.args.told.constants.now) c.program_with-program.result
      (c.program_with-program.ensures ∙ (λ i. record (c.in_ok-plain.ensures i) { constants = constant_at c.args.told.constants.now }))))
      c.args.ground.spotted;
}

pub invariant_of-result : goal.invariant_of-result
invariant_of-result c = record {
  named = c.args.ground.named
      ∙ ap (λ (s : Source). s.texts)
      (sym (source_is (source_in c.args.ground.source) (captured_seen c.args.told.captured.now) (constant_at c.args.told.constants.now) c.program_with-program.result
      (c.program_with-program.ensures ∙ (λ i. record (c.in_ok-plain.ensures i) { constants = constant_at c.args.told.constants.now }))));
}

pub returns-clause-methods : goal.returns-clause-methods
returns-clause-methods c =
    methods_stay (source_in c.args.ground.source) (captured_seen c.args.told.captured.now) (constant_at c.args.told.constants.now) c.program_with-program.result
    (c.program_with-program.ensures ∙ (λ i. record (c.in_ok-plain.ensures i) { constants = constant_at c.args.told.constants.now }))
    (heads_of c.args.ground.heads.now) (classes_of c.args.classes) c.args.methods.now c.requires.ground.heads_are c.requires.classes c.requires.methods
