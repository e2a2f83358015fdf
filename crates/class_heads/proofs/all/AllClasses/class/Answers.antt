use Rattle.std.proofs.Common.{map, sym, ◌∙◌, arith}
use Rattle.std.proofs.lemmas.List.{length-map}
use Rattle.declarations.specs.View.{class_shown}
use Rattle.class_heads.specs.View.{classes_of}
use Rattle.class_heads.proofs.Behind.{in_program}
use Rattle.class_heads.proofs.all.AllClasses.class.Goals as goal

pub returns-else-at-self : goal.returns-else-at-self
unfolding classes_of
returns-else-at-self c =
    c.behind_library.ensures
    ∙ sym (in_program (map class_shown c.args.self.now.library.now) (map class_shown c.args.self.now.program.now) c.args.class.0
    (omega (arith, length-map c.args.self.now.library.now class_shown, c.if-at-self.false)))
