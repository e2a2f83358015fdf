use Rattle.std.proofs.Common.{rules, ◌≡◌, ◌++◌, List, length, map, sym, ap, ◌∙◌, append-nil}
use Rattle.std.proofs.lemmas.List.{nil_from_length}
use Rattle.std.specs.Vec.Iter.{into_iter_items}
use Rattle.je_core.specs.declared.stmt.Stmt.{Stmt}
use Rattle.je_core.specs.View.{stmt_view, stmt_views}
use Rattle.statement_forms.proofs.done.parts.Goals as goal

pub returns : goal.returns
returns c =
    let none : length (into_iter_items c.loop-part.part-iterator) ≡ 0 = sym c.loop-part.invariant.1 ∙ c.in-None.ensures.steps.0 in
    let start : c.args.code.items ≡ into_iter_items c.into_iter-part-iterator.result = search rules in
    sym (append-nil (stmt_views c.loop-part.parts.items))
    ∙ ap (λ (left : List Stmt). stmt_views c.loop-part.parts.items ++ map stmt_view left) (sym (nil_from_length (into_iter_items c.loop-part.part-iterator) none))
    ∙ c.loop-part.invariant.0 ∙ ap (map stmt_view) (sym start)
