use Rattle.std.proofs.Common.{◌+◌, ◌∷◌, drop, refl, sym, ap, ◌∙◌}
use Rattle.std.specs.declared.rc.Rc.{Rc}
use Rattle.std.specs.declared.alloc.Global.{Global}
use Rattle.je_core.specs.declared.stmt.Stmt.{Stmt}
use Rattle.je_core.specs.View.{stmt_view, stmt_views}
use Rattle.machine_parts.proofs.Lists.{drop-seen}
use Rattle.machine_statements.proofs.stmt.nth.Goals as goal

pub returns-in_ok-clone-in-Some-clause-goes : goal.returns-in_ok-clone-in-Some-clause-goes
returns-in_ok-clone-in-Some-clause-goes c =
    let found = c.in-Some.ensures.lookup in
    drop-seen (λ (s : Rc Stmt Global). stmt_view s.value) c.args.parts.now _ c.args.at _ refl found.3.0 found.1
    ∙ ap (λ (s : Stmt). stmt_view s ∷ drop (c.args.at + 1) (stmt_views c.args.parts.now)) (sym c.in_ok-clone-in-Some.ensures.cases)
