-- What contracts see of the classes of a program.
use Rattle.class_heads.specs.View.{classes_of}
use Rattle.type_faults.specs.Program.{source_in}
use Rattle.source_subtypes.specs.View.{heads_of}
use Rattle.name_typing.specs.Program as words
use Rattle.body_places.specs.declared.program.Program.{Program}
use Rattle.body_places.specs.Tables.{captured_in, constant_at, outer_of}

abbrev pub program_seen : Program → words.Program
program_seen p = record {
  source = source_in p.source;
  heads = heads_of p.heads.now;
  classes = classes_of p.classes;
  constants = constant_at p.constants.now;
  outer = outer_of p.outer.now;
  captured = captured_in p.captured.now (classes_of p.classes);
}
