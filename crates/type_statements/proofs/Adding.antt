-- A scope with one local class more has all of the earlier one.
use Rattle.std.proofs.Common.{◌≡◌, ℕ, [], ◌∷◌, map, sym, subst}
use Rattle.je_core.specs.View.{stmt_view}
use Rattle.body_typing.specs.FinalVariables.{Scope}
use Rattle.body_typing.specs.Bodies.{Progress, stands, with_local_class, with_met}
use Rattle.body_typing.specs.LocalClasses.{with_class}
use Rattle.statement_forms.specs.declared.done.Done.{Done as Made}
use Rattle.statement_forms.specs.Seen.{done_in}
use Rattle.body_scopes.specs.Extending.{Extends}
use Rattle.body_scopes.proofs.Extending.{class_extends}

pub class_added : (a b : Scope) (c : ℕ) → b ≡ with_local_class c a → Extends a b
class_added a b c e = subst (Extends a) (sym e) (class_extends c a)

-- it comes to nothing, and stands where it is in scope
pub class_stands : (made : Made) (a b : Scope) (pr later : Progress) (c : ℕ) → made.code.items ≡ [] → made.numbers.items ≡ [] → b ≡ with_local_class c a →
    later ≡ with_met (stands c (with_local_class c a) ∷ []) pr → done_in made b later ≡ with_class a pr c
class_stands made a b pr later c code numbers e f = λ i. record {
  code = map stmt_view (code i);
  numbers = numbers i;
  scope = e i;
  progress = f i;
}
