use Rattle.std.proofs.Common.{map, sym}
use Rattle.declarations.specs.View.{class_shown}
use Rattle.program_tables.specs.way.Texts.{with_texts}
use Rattle.program_tables.proofs.EnumMethods.{are_classes, by_texts}
use Rattle.program_tables.proofs.enums.add_enum_methods.Goals as goal

pub returns-clause-program : goal.returns-clause-program
returns-clause-program c =
    λ source named. by_texts (with_texts c.args.names.now) source (sym named) (map class_shown c.args.classes.now) _
    c.args.library c.in_ok-add_to_each.ensures

pub returns-clause-all : goal.returns-clause-all
returns-clause-all c =
    λ source named count declared. are_classes source (map class_shown c.args.classes.now) _ c.args.library count declared
    (by_texts (with_texts c.args.names.now) source (sym named) (map class_shown c.args.classes.now) _ c.args.library
    c.in_ok-add_to_each.ensures)
