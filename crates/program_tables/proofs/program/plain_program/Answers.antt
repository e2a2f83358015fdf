use Rattle.std.proofs.Common.{None, ap, ◌∙◌}
use Rattle.body_places.specs.Tables.{captured_in}
use Rattle.class_typing.specs.Programs.{plain_program as the_plain_program}
use Rattle.type_faults.specs.Program.{source_in}
use Rattle.program_tables.proofs.program.plain_program.Goals as goal

pub returns : goal.returns
unfolding the_plain_program
returns c =
    let places = ap (captured_in c.args.captured.now) c.requires.classes ∙ c.requires.captured in
    (λ i. record {
      source = source_in c.args.layout.source;
      heads = c.requires.heads i;
      classes = c.requires.classes i;
      constants = λ m. None;
      outer = λ d. 0;
      captured = places i;
    })
