use Rattle.std.proofs.Common.{map, ap, ◌∙◌}
use Rattle.std.specs.Prelude.{option_map}
use Rattle.je_ast.specs.Types.{formal_view, name_view, type_view}
use Rattle.je_scopes.specs.Scope.{Part}
use Rattle.type_faults.specs.Program.{source_in}
use Rattle.declarations.specs.Declarations.{parameter_type, result_at, thrown_type}
use Rattle.declarations.specs.way.Trees.{site_of}
use Rattle.declarations.proofs.Shown.{method_is}
use Rattle.declarations.proofs.methods.method_decl.Goals as goal

pub returns : goal.returns
returns c = method_is (source_in c.args.program.now) c.args.class.0 (site_of c.args.tree) _ _ _ _
    (c.in_ok-parameters_at.ensures ∙ ap (λ (q : Part). map (parameter_type (source_in c.args.program.now) c.args.class.0 q) (map formal_view c.args.tree.formals.now)) c.part_of.ensures)
    (c.in_ok-result_type.ensures ∙ ap (λ (q : Part). result_at (source_in c.args.program.now) c.args.class.0 q (option_map (λ w. type_view w.now) c.args.tree.result)) c.part_of.ensures)
    (c.in_ok-thrown_types.ensures ∙ ap (λ (q : Part). map (thrown_type (source_in c.args.program.now) c.args.class.0 q) (map name_view c.args.tree.throws.now)) c.part_of.ensures)
    c.flags_of.ensures
