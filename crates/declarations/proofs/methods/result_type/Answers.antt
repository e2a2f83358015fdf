use Rattle.std.proofs.Common.{Option, sym, ap, ◌∙◌}
use Rattle.std.specs.Prelude.{option_map}
use Rattle.je_ast.specs.Types.{type_view}
use Rattle.name_lookup.specs.View.{part_view}
use Rattle.type_faults.specs.Program.{source_in}
use Rattle.declarations.specs.Declarations.{result_at}
use Rattle.declarations.proofs.Shown.{void_shown}
use Rattle.declarations.proofs.methods.result_type.Goals as goal

pub returns-in-None : goal.returns-in-None
returns-in-None c = void_shown
    ∙ ap (λ w. result_at (source_in c.args.program.now) c.args.place.class.0 (part_view c.args.place.part) (option_map (λ w. type_view w.now) w)) (sym c.in-None.is)
