-- A node begins: with a unit its form runs, and without one the run is spent.
use Rattle.std.proofs.Common.{◌≡◌, ◌<◌, suc, ◌-◌, sym, ap, ◌∙◌, arith}
use Rattle.je_core.specs.declared.types.ClassId.{ClassId}
use Rattle.je_core.specs.declared.value.Value.{Value}
use Rattle.je_core.specs.declared.expr.Expr.{Expr}
use Rattle.je_core.specs.declared.stmt.Stmt.{Stmt}
use Rattle.je_core.specs.Core.{CoreProgram}
use Rattle.je_core.specs.View.{view, stmt_view, stmt_form_view}
use Rattle.je_core.proofs.Views.{stmt_form_of_view}
use Rattle.je_java.specs.Steps.{State, Answer, Spent, Nothing, Run, Exits, tick_at, with_begun}
use Rattle.je_java.specs.Meaning.{eval_node, exec_form, build_form, java}
use Rattle.je_java.proofs.Fuel.{java-eval, java-exec, java-build}

ticks : (s : State) (go : Nothing → Run) → 0 < s.public.units → tick_at s.public.units go s ≡ go tt (with_begun s (s.public.units - 1))
ticks s go h =
    let e : s.public.units ≡ suc (s.public.units - 1) = omega arith in
    ap (λ u. tick_at u go s) e

module _ (p : CoreProgram) (s : State) (x : Exits) where
  eval-at : (e : Expr) (f : Value → Run) → (java p).eval (view e) f x s ≡ tick_at s.public.units (λ c. eval_node p (java p) (view e) f x) s
  eval-at e f = java-eval p (view e) f x s

  exec-at : (e : Stmt) (f : Nothing → Run) → (java p).exec (stmt_view e) f x s ≡ tick_at s.public.units (λ c. exec_form p (java p) (stmt_view e) (stmt_form_view e.form) f x) s
  exec-at e f = java-exec p (stmt_view e) f x s ∙ ap (λ z. tick_at s.public.units (λ c. exec_form p (java p) (stmt_view e) z f x) s) (stmt_form_of_view e)

  build-at : (class : ClassId) (e : Stmt) (f : Nothing → Run) → (java p).build class (stmt_view e) f x s ≡ tick_at s.public.units (λ c. build_form p (java p) class (stmt_form_view e.form) f x) s
  build-at class e f = java-build p class (stmt_view e) f x s ∙ ap (λ z. tick_at s.public.units (λ c. build_form p (java p) class z f x) s) (stmt_form_of_view e)

  pub eval-spent : (e : Expr) (f : Value → Run) → s.public.units ≡ 0 → Spent s ≡ (java p).eval (view e) f x s
  eval-spent e f h = sym (eval-at e f ∙ ap (λ u. tick_at u (λ c. eval_node p (java p) (view e) f x) s) h)

  pub exec-spent : (e : Stmt) (f : Nothing → Run) → s.public.units ≡ 0 → Spent s ≡ (java p).exec (stmt_view e) f x s
  exec-spent e f h = sym (exec-at e f ∙ ap (λ u. tick_at u (λ c. exec_form p (java p) (stmt_view e) (stmt_form_view e.form) f x) s) h)

  pub build-spent : (class : ClassId) (e : Stmt) (f : Nothing → Run) → s.public.units ≡ 0 → Spent s ≡ (java p).build class (stmt_view e) f x s
  build-spent class e f h = sym (build-at class e f ∙ ap (λ u. tick_at u (λ c. build_form p (java p) class (stmt_form_view e.form) f x) s) h)

  pub eval-begins : (e : Expr) (f : Value → Run) (a : Answer) → 0 < s.public.units → a ≡ eval_node p (java p) (view e) f x (with_begun s (s.public.units - 1)) → a ≡ (java p).eval (view e) f x s
  eval-begins e f a h r = r ∙ sym (eval-at e f ∙ ticks s (λ c. eval_node p (java p) (view e) f x) h)

  pub exec-begins : (e : Stmt) (f : Nothing → Run) (a : Answer) → 0 < s.public.units → a ≡ exec_form p (java p) (stmt_view e) (stmt_form_view e.form) f x (with_begun s (s.public.units - 1)) → a ≡ (java p).exec (stmt_view e) f x s
  exec-begins e f a h r = r ∙ sym (exec-at e f ∙ ticks s (λ c. exec_form p (java p) (stmt_view e) (stmt_form_view e.form) f x) h)

  pub build-begins : (class : ClassId) (e : Stmt) (f : Nothing → Run) (a : Answer) → 0 < s.public.units → a ≡ build_form p (java p) class (stmt_form_view e.form) f x (with_begun s (s.public.units - 1)) → a ≡ (java p).build class (stmt_view e) f x s
  build-begins class e f a h r = r ∙ sym (build-at class e f ∙ ticks s (λ c. build_form p (java p) class (stmt_form_view e.form) f x) h)
