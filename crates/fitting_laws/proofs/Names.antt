-- The laws on simple names and `this`.
use Rattle.std.proofs.Common.{◌≡◌, ℕ, suc, ◌+◌, List, [], ◌∷◌, Option, Some, None, refl, sym, ap, ◌∙◌, subst, arith}
use Rattle.std.specs.Prelude.{Bool, true, false, not, ◌&&◌, if◌then◌else◌, nat_eq}
use Rattle.std.proofs.lemmas.Bool.Decides.{nat_tests}
use Rattle.std.proofs.lemmas.Option.{none-some, same_Some}
use Rattle.je_core.specs.Core.{CoreProgram, form_of}
use Rattle.je_ast.specs.declared.name.Identifier.{Identifier}
use Rattle.je_classes.specs.Members.{Member}
use Rattle.je_classes.proofs.Lists.{bool_cases}
use Rattle.je_fitting.specs.Expressions.{Body}
use Rattle.header_typing.specs.Supers.{own_type}
use Rattle.je_typing.specs.declared.fault.TypeRule.TheVariants.{ForwardUse, StaticContext, UnknownName}
use Rattle.je_typing.specs.Judged.{Judged, bind, check, faulty, gives, need}
use Rattle.je_typing.specs.Typed.{TypedNode}
use Rattle.name_typing.specs.Instances.{has_instance, instance_node, is_instance, outer_this, steps_from, steps_to, this, typed_outer, typed_this}
use Rattle.name_typing.specs.Program.{Frame, Place, Program, frames}
use Rattle.name_typing.specs.Variables.{Variable, assigned_name, class_of_frame, is_forward, not_forward, simple_name, typed_captured, updated_name, value_of, variable_named, variable_node}
use Rattle.body_typing.specs.FinalVariables.{Scope, builds, may_assign_field, may_be_assigned}
use Rattle.typing_laws.specs.Fitting.{Gives}
use Rattle.fitting_laws.specs.Names.{AssignedNamesFit, IsTarget, OuterThisFits, ScopeStands, SimpleNamesFit, ThisFits, UpdatedNamesFit}
use Rattle.fitting_laws.specs.Represented.{NameIsReached, Represents, StandsAt, kept_at}
use Rattle.fitting_laws.specs.Values.{IsValue}
use Rattle.fitting_laws.proofs.Instances.{outer-value}
use Rattle.fitting_laws.proofs.Places.{below-target, value-target}
use Rattle.fitting_laws.proofs.Variables.{Named, named, named_constant, named_field, named_local, value-named}

-- ---- JLS 15.8.3, 15.8.4

steps-class : (c : ℕ) (fs : List Frame) (n k : ℕ) → steps_from n c fs ≡ Some k → (i : ℕ) × (k ≡ i + n) × (class_of_frame fs i ≡ c)
steps-class c [] n k e = absurd (none-some k e)
steps-class c (f ∷ fs) n k e = bool_cases (λ b. nat_eq f.class c ≡ b → (if b then Some n else steps_from (suc n) c fs) ≡ Some k → (i : ℕ) × (k ≡ i + n) × (class_of_frame (f ∷ fs) i ≡ c)) (nat_eq f.class c)
    (λ _ same h. let is : n ≡ k = same_Some n k h in (0, omega (arith, is), grind (arith, nat_tests)))
    (λ _ _ h. let r = steps-class c fs (suc n) k h in (suc r.0, omega (arith, r.1), r.2)) refl e

module _ (p : Program) (q : CoreProgram) (body : Body) where
  pub this_fits : ThisFits p q body
  unfolding this bind check
  this_fits place word represents stands = by (is_instance place.here.context) refl
    where
      by : (b : Bool) → is_instance place.here.context ≡ b → Gives (IsValue q body p.heads) (bind (check StaticContext word b) (λ u. gives (typed_this p place word)))
      by true e = outer-value p q body place stands represents word 0 e
      by false e = tt

  pub outer_this_fits : OuterThisFits p q body
  unfolding outer_this bind check need
  outer_this_fits place c name_span word represents stands = by (steps_to c place) refl
    where
      here-value : (n : ℕ) → class_of_frame (frames place) n ≡ c → has_instance n (frames place) ≡ true → IsValue q body p.heads (typed_outer p place c n word)
      here-value n is h = subst (λ (d : ℕ). IsValue q body p.heads (record { node = instance_node p place n word; type = own_type p.heads d })) is (outer-value p q body place stands represents word n h)

      further : (n : ℕ) → class_of_frame (frames place) n ≡ c → (b : Bool) → has_instance n (frames place) ≡ b
          → Gives (IsValue q body p.heads) (bind (check StaticContext word b) (λ u. gives (typed_outer p place c n word)))
      further n is true h = here-value n is h
      further n is false h = tt

      by : (o : Option ℕ) → steps_to c place ≡ o
          → Gives (IsValue q body p.heads) (bind (need UnknownName name_span o) (λ n. bind (check StaticContext word (has_instance n (frames place))) (λ u. gives (typed_outer p place c n word))))
      by None e = tt
      by (Some n) e =
          let r = steps-class c (frames place) 0 n e in
          let same : r.0 ≡ n = omega (arith, r.1) in
          further n (subst (λ (i : ℕ). class_of_frame (frames place) i ≡ c) same r.2) (has_instance n (frames place)) refl

  -- ---- JLS 6.5.6.1

  module _ (place : Place) (id : Identifier) (represents : Represents p q) (stands : StandsAt p q body place) (reach : NameIsReached p q body place id.name) where
    abbrev variable : Variable
    variable = variable_named p place id.name

    behind-forward : {A : Type 0} (P : A → Type 0) (a : A) → P a → (b : Bool) → Gives P (bind (check ForwardUse id.span b) (λ u. gives a))
    unfolding bind check
    behind-forward P a h true = h
    behind-forward P a h false = tt

    abbrev IsNamed : TypedNode → Type 0
    IsNamed t = Named p q body place represents stands id.name id.span reach variable t

    updated-named : Gives IsNamed (updated_name p place id)
    unfolding updated_name bind not_forward
    updated-named = by (variable_node p place id.span variable) (named p q body place represents stands id.name id.span reach)
      where
        by : (j : Judged TypedNode) → Gives IsNamed j → Gives IsNamed (bind j (λ t. bind (check ForwardUse id.span (not (is_forward p place.here variable))) (λ u. gives t)))
        by (faulty fault) h = tt
        by (gives t) h = behind-forward IsNamed t h (not (is_forward p place.here variable))

    simple-value : Gives (IsValue q body p.heads) (simple_name p place id)
    unfolding simple_name bind
    simple-value = by (updated_name p place id) updated-named
      where
        by : (j : Judged TypedNode) → Gives IsNamed j → Gives (IsValue q body p.heads) (bind j (λ t. gives (value_of p id.span variable t)))
        by (faulty fault) h = tt
        by (gives t) h = value-named p q body place represents stands id.name id.span reach variable t h

  pub simple_names_fit : SimpleNamesFit p q body
  simple_names_fit place id represents stands reach = simple-value place id represents stands reach

  module _ (is_blank : Member → Bool) (s : Scope) (id : Identifier) (represents : Represents p q) (stands : ScopeStands p q body is_blank s) (reach : NameIsReached p q body s.place id.name) where
    target-named : (v : Variable) (t : TypedNode) → Named p q body s.place represents stands.place id.name id.span reach v t → IsTarget p q body is_blank s t
    target-named _ t (named_local sound is value) = value-target p q body is_blank s represents stands t value
    target-named _ t (named_field there is below) = below-target p q body is_blank s represents stands t below
    target-named _ _ (named_constant {n = n} {v = v} k none sound) = λ h place. absurd (not-assigned h)
      where
        not-assigned : may_be_assigned p is_blank s (form_of (typed_captured p s.place (suc n) v id.span).node) ≡ true → ⊥
        not-assigned h = let no : false ≡ true = ap (may_assign_field p is_blank s (builds p is_blank s && true) (kept_at p s.place (suc n) v)) (sym none) ∙ h in absurd cc

    all-targets : (j : Judged TypedNode) → Gives (Named p q body s.place represents stands.place id.name id.span reach (variable_named p s.place id.name)) j → Gives (IsTarget p q body is_blank s) j
    all-targets (faulty fault) h = tt
    all-targets (gives t) h = target-named (variable_named p s.place id.name) t h

    assigned-target : Gives (IsTarget p q body is_blank s) (assigned_name p s.place id)
    unfolding assigned_name
    assigned-target = all-targets (variable_node p s.place id.span (variable_named p s.place id.name)) (named p q body s.place represents stands.place id.name id.span reach)

    updated-target : Gives (IsTarget p q body is_blank s) (updated_name p s.place id)
    updated-target = all-targets (updated_name p s.place id) (updated-named s.place id represents stands.place reach)

  pub assigned_names_fit : AssignedNamesFit p q body
  assigned_names_fit is_blank s id represents stands reach = assigned-target is_blank s id represents stands reach

  pub updated_names_fit : UpdatedNamesFit p q body
  updated_names_fit is_blank s id represents stands reach = updated-target is_blank s id represents stands reach
