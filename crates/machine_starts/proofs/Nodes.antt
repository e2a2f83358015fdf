-- A node behind its unit, by the class that it starts.
use Rattle.std.proofs.Common.{◌≡◌, Option, Some, None, refl, sym, ap, ◌∙◌}
use Rattle.std.specs.Prelude.{Bool, true, false, if◌then◌else◌}
use Rattle.je_core.specs.declared.expr.Expr.{Expr}
use Rattle.je_core.specs.declared.types.ClassId.{ClassId}
use Rattle.je_core.specs.declared.value.Value.{Value}
use Rattle.je_core.specs.Core.{CoreProgram, form_of, ty_of}
use Rattle.je_core.specs.View.{view, form_view}
use Rattle.je_core.proofs.Views.{view_is, form_of_view}
use Rattle.je_java.specs.Meaning.{Meanings, eval_form, eval_node, start, start_if, started_by}
use Rattle.je_java.specs.Steps.{State, Outside, Run, Nothing, Exits, is_started, ret, seq}
use Rattle.je_java.proofs.Starting.{start_idle}
use Rattle.machine_starts.specs.way.Starting.{unless_started}

-- what a class is that is none, or has been started, or is another
to_start : (outside : Outside) (class : Option ClassId) (b : Bool) (c : ClassId) → is_started outside c ≡ b → class ≡ Some c →
    (if b then None else Some c) ≡ unless_started outside class
to_start outside class b c e h = ap (λ t. if t then None else Some c) (sym e) ∙ ap (unless_started outside) (sym h)

module _ (p : CoreProgram) (m : Meanings) (go : Nothing → Run) (x : Exits) (s : State) where
  starts_none : (class : Option ClassId) → None ≡ unless_started s.outside class → start_if p m class go x s ≡ go tt s
  unfolding ret
  starts_none None h = refl
  starts_none (Some c) h = by (is_started s.outside c) refl
    where
      by : (b : Bool) → is_started s.outside c ≡ b → start_if p m (Some c) go x s ≡ go tt s
      by true e = start_idle p m go x s c e
      by false e = let d : None ≡ Some c = h ∙ sym (to_start s.outside (Some c) false c e refl) in absurd (cc)

  starts_one : (class : Option ClassId) (c : ClassId) → Some c ≡ unless_started s.outside class → start_if p m class go x s ≡ start p m c go x s
  starts_one None c h = absurd (cc)
  starts_one (Some d) c h = by (is_started s.outside d) refl
    where
      by : (b : Bool) → is_started s.outside d ≡ b → start_if p m (Some d) go x s ≡ start p m c go x s
      by true e = let f : Some c ≡ None = h ∙ sym (to_start s.outside (Some d) true d e refl) in absurd (cc)
      by false e = let f : Some c ≡ Some d = h ∙ sym (to_start s.outside (Some d) false d e refl) in let q : d ≡ c = cc in ap (λ (z : ClassId). start p m z go x s) q

module _ (p : CoreProgram) (m : Meanings) (e : Expr) (f : Value → Run) (x : Exits) (s : State) where
  form_at : (t : State) → eval_form p m (ty_of (view e)) (form_of (view e)) f x t ≡ eval_form p m e.ty (form_view e.form) f x t
  form_at t = ap (λ z. eval_form p m (ty_of z) (form_of z) f x t) (view_is e)

  pub node_starts_none : None ≡ unless_started s.outside (started_by p (form_view e.form)) → eval_form p m e.ty (form_view e.form) f x s ≡ eval_node p m (view e) f x s
  unfolding seq
  node_starts_none h = sym (starts_none p m (λ u. eval_form p m (ty_of (view e)) (form_of (view e)) f x) x s (started_by p (form_of (view e)))
      (h ∙ ap (λ z. unless_started s.outside (started_by p z)) (sym (form_of_view e)))
      ∙ form_at s)

  pub node_starts_one : (c : ClassId) → Some c ≡ unless_started s.outside (started_by p (form_view e.form)) →
      start p m c (λ u. eval_form p m e.ty (form_view e.form) f x) x s ≡ eval_node p m (view e) f x s
  unfolding seq
  node_starts_one c h = sym (starts_one p m (λ u. eval_form p m (ty_of (view e)) (form_of (view e)) f x) x s (started_by p (form_of (view e))) c
      (h ∙ ap (λ z. unless_started s.outside (started_by p z)) (sym (form_of_view e)))
      ∙ ap (λ z. start p m c (λ u. eval_form p m (ty_of z) (form_of z) f x) x s) (view_is e))
