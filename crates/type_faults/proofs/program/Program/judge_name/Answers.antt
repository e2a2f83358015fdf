use Rattle.std.proofs.Common.{List, subst, ◌∙◌, ap}
use Rattle.std.specs.List.{list_all}
use Rattle.je_core.specs.declared.types.ClassId.{ClassId}
use Rattle.je_ast.specs.declared.name.Identifier.{Identifier}
use Rattle.je_ast.specs.Types.{name_view}
use Rattle.je_scopes.specs.Scope.{is_accessible, meaning, named}
use Rattle.je_scopes.specs.Faults.{Fault}
use Rattle.name_lookup.specs.View.{known_of, look_view, numbers, part_view}
use Rattle.name_faults.specs.View.{Adds}
use Rattle.name_faults.proofs.Left.{adds_both}
use Rattle.type_faults.specs.Program.{source_in}
use Rattle.type_faults.proofs.Meanings.{name_faults}
use Rattle.type_faults.proofs.program.Program.judge_name.Goals as goal

pub returns : goal.returns
returns c =
    subst (λ (fs : List Fault). Adds c.args.faults.now c.judge_meaning.new.faults fs)
    (name_faults (source_in c.args.self.now) (known_of c.args.self.now.headers.now) c.args.place.class.0 (part_view c.args.place.part) (name_view c.args.name.now) c.args.arguments
    c.are_accessible-accessible.result (numbers c.in_ok-meant.meant.named.items) (look_view c.in_ok-meant.meant.look) c.args.self.now.settled
    (c.are_accessible-accessible.ensures ∙ ap (λ (cs : List ClassId). list_all (is_accessible (source_in c.args.self.now) c.args.place.class.0) (numbers cs)) c.as_slice.ensures.value)
    (c.in_ok-meant.ensures.named ∙ ap (λ (is : List Identifier). named (source_in c.args.self.now) (known_of c.args.self.now.headers.now) c.args.place.class.0 (part_view c.args.place.part) is) c.as_slice-parts.ensures.value)
    (c.in_ok-meant.ensures.look ∙ ap (λ (is : List Identifier). meaning (source_in c.args.self.now) (known_of c.args.self.now.headers.now) c.args.place.class.0 (part_view c.args.place.part) is) c.as_slice-parts.ensures.value))
    (adds_both _ _ c.add_where.ensures c.judge_meaning.ensures)
