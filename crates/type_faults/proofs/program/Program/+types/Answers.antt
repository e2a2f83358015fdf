use Rattle.std.proofs.Common.{◌≡◌, List, length, refl, subst, sym, arith}
use Rattle.std.proofs.lemmas.Result.{on_ok_weaker}
use Rattle.je_ast.specs.declared.ty_name.TyName.{TyName}
use Rattle.je_ast.specs.declared.ty_name.TyName.TheVariants as node
use Rattle.je_ast.specs.Types.{TypeName, class_type, name_view, type_node_view, type_views_of}
use Rattle.je_scopes.specs.Faults.{of_type, of_types}
use Rattle.name_lookup.specs.View.{part_view}
use Rattle.name_faults.specs.View.{Adds}
use Rattle.type_faults.specs.Program.{source_in}
use Rattle.type_faults.proofs.Meanings.{class_faults, types_end, types_next}
use Rattle.type_faults.proofs.program.Program.+types.Goals as goal

pub judge_type_here-returns-in_ok-judge_name-in-Class : goal.judge_type_here-returns-in_ok-judge_name-in-Class
judge_type_here-returns-in_ok-judge_name-in-Class t c =
    let e : type_node_view c.args.ty.now ≡ class_type (name_view c.in-Class.name) (type_views_of c.in-Class.args.items) c.in-Class.dims c.in-Class.span =
    rw c.in-Class.is (rw (node.outs-Class c.in-Class.name c.in-Class.args c.in-Class.dims c.in-Class.span) refl) in
    let few : c.len.result ≡ length c.in-Class.args.items = omega (arith, c.len.ensures, c.in-Class.args.ok) in
    on_ok_weaker c.judge_types.result
    (λ s. subst (λ (ty : TypeName). Adds c.args.faults.now c.judge_types.new.faults (of_type (source_in c.args.self.now) c.args.place.class.0 (part_view c.args.place.part) ty)) (sym e)
    (class_faults (source_in c.args.self.now) c.args.place.class.0 (part_view c.args.place.part) (name_view c.in-Class.name) c.in-Class.args.items c.len.result c.in-Class.dims c.in-Class.span few
    c.in_ok-judge_name-in-Class.ensures
    (subst (λ (ts : List TyName). Adds c.judge_name.new.faults c.judge_types.new.faults (of_types (source_in c.args.self.now) c.args.place.class.0 (part_view c.args.place.part) (type_views_of ts))) c.deref.ensures.value s)))
    c.judge_types.ensures

pub judge_types-loop-ty-preserved : goal.judge_types-loop-ty-preserved
judge_types-loop-ty-preserved t c =
    types_next (source_in c.args.self.now) c.args.place.class.0 (part_view c.args.place.part) c.args.types.now c.loop-ty.ty-index _ c.ty-item.result (omega arith) c.ty-item.is c.loop-ty.invariant c.in_ok-judge_type.ensures

pub judge_types-returns : goal.judge_types-returns
judge_types-returns t c = types_end (source_in c.args.self.now) c.args.place.class.0 (part_view c.args.place.part) c.args.types.now c.loop-ty.ty-index _ (omega arith) c.loop-ty.invariant
