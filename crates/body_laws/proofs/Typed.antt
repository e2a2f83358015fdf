-- How a walk goes on over a body, where the locals that it adds have types of variables.
use Rattle.std.proofs.Common.{◌≡◌, ℕ, ◌+◌, List, Some, sym, ◌∙◌, subst, arith, length-append}
use Rattle.std.specs.Prelude.{Bool, true, slice_get}
use Rattle.std.proofs.lemmas.Bool.{cases_lt}
use Rattle.std.proofs.lemmas.Option.{same_Some}
use Rattle.je_base.specs.declared.span.NameId.{NameId}
use Rattle.je_base.specs.declared.span.Span.{Span}
use Rattle.je_core.specs.Core.{CoreProgram}
use Rattle.je_classes.proofs.Sets.{by_either}
use Rattle.je_fitting.specs.Expressions.{Body}
use Rattle.je_fitting.specs.Types.{is_variable_type}
use Rattle.je_scopes.specs.SourceTypes.{SourceType}
use Rattle.source_types.specs.Erasure.{erased}
use Rattle.source_types.specs.Heads.{ClassHead}
use Rattle.body_typing.specs.Bodies.{Met, Progress, next_number, with_met, with_number}
use Rattle.body_laws.specs.Fitting.{AreTyped}
use Rattle.body_laws.proofs.Grows.{Grows, Knows, number-there}
use Rattle.body_laws.proofs.Grows as plain

-- from one number on to another one, and from there on
pub typed-on : (q : CoreProgram) (body : Body) (from between to : ℕ) → AreTyped q body from between → AreTyped q body between to →
    AreTyped q body from to
typed-on q body from between to f g n t le l e =
    by_either (λ less. f n t le less e) (λ more. g n t more l e) (cases_lt n between)

-- it goes on, and where a claim holds, the further locals have types of variables
pub record Grown (q : CoreProgram) (body : Body) (all : List Met) (Claim : Type 0) (pr further : Progress) : Type 0 where
  pub grows : Grows pr further
  pub typed : Knows body all further → Claim → AreTyped q body (next_number pr) (next_number further)

module _ {q : CoreProgram} {body : Body} {all : List Met} {Claim : Type 0} where
  pub before : {a b : Progress} → Grown q body all Claim a b → Knows body all b → Knows body all a
  before g k = plain.before g.grows k

  pub on : {a b c : Progress} → Grown q body all Claim a b → Grown q body all Claim b c → Grown q body all Claim a c
  on {b = b} g h = record {
    grows = plain.on g.grows h.grows;
    typed = λ k claim. typed-on q body _ (next_number b) _ (g.typed (before h k) claim) (h.typed k claim);
  }

  -- by another claim, which gives this one
  pub under-claim : {Given : Type 0} {a b : Progress} → (Knows body all b → Given → Claim) → Grown q body all Claim a b →
      Grown q body all Given a b
  under-claim f g = record { grows = g.grows; typed = λ k given. g.typed k (f k given) }

  -- no local more
  pub grows-met : (ms : List Met) (pr : Progress) → Grown q body all Claim pr (with_met ms pr)
  grows-met ms pr = record {
    grows = plain.grows-met ms pr;
    typed = λ k claim n t from to e. absurd (omega (arith, from, to));
  }

  pub grows-not : (pr : Progress) → Grown q body all Claim pr pr
  grows-not pr = record {
    grows = plain.grows-not pr;
    typed = λ k claim n t from to e. absurd (omega (arith, from, to));
  }

  -- one local more, whose type is that of a variable
  pub grows-number : (heads : List ClassHead) (x : NameId) (t : SourceType) (is_final : Bool) (span : Span) (pr : Progress) →
      (Claim → is_variable_type q (erased heads t) ≡ true) →
      Grown q body all Claim pr (with_number heads x t is_final span pr)
  grows-number heads x t is_final span pr variable = record {
    grows = plain.grows-number heads x t is_final span pr;
    typed = λ k claim n u from to e.
        let more : next_number (with_number heads x t is_final span pr) ≡ next_number pr + 1 = length-append pr.locals _ in
        let here : next_number pr ≡ n = omega (arith, from, to, more) in
        let there = number-there heads x t is_final span pr k in
        let same = same_Some (erased heads t) u
        (sym (subst (λ i. slice_get body.locals i ≡ Some (erased heads t)) here there) ∙ e) in
        subst (λ s. is_variable_type q s ≡ true) same (variable claim);
  }
