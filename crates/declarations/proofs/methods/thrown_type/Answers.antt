use Rattle.std.proofs.Common.{List, sym, ap, ◌∙◌}
use Rattle.je_ast.specs.declared.name.Identifier.{Identifier}
use Rattle.je_scopes.specs.Looks.{Look}
use Rattle.je_scopes.specs.Scope.{Known, meaning}
use Rattle.je_scopes.specs.Settled.{settled}
use Rattle.je_scopes.specs.SourceTypes.{no_source_types, type_for}
use Rattle.name_lookup.specs.View.{part_view}
use Rattle.name_types.proofs.Views.{rolled_is}
use Rattle.type_faults.specs.Program.{source_in}
use Rattle.declarations.proofs.methods.thrown_type.Goals as goal

pub returns : goal.returns
returns c = rolled_is _ ∙ c.named.ensures
    ∙ ap (λ (k : Look). type_for (source_in c.args.program.now) k 0 no_source_types 0)
    (c.in_ok-meant.ensures.look
    ∙ ap (λ (k : Known). meaning (source_in c.args.program.now) k c.args.place.class.0 (part_view c.args.place.part) c.as_slice-parts.result.now) (sym c.args.program.now.settled)
    ∙ ap (λ (is : List Identifier). meaning (source_in c.args.program.now) (settled (source_in c.args.program.now)) c.args.place.class.0 (part_view c.args.place.part) is) c.as_slice-parts.ensures.value)
