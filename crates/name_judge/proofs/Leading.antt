-- Where bounds lead.
use Rattle.std.proofs.Common.{◌≡◌, ℕ, zero, suc, List, Option, Some, None, length, option_map, refl, sym, ap, ◌∙◌}
use Rattle.std.specs.Prelude.{Bool, ◌||◌, nat_eq, slice_get}
use Rattle.std.proofs.lemmas.Option.{slice_get-map}
use Rattle.std.proofs.lemmas.List.{length-map}
use Rattle.je_base.specs.declared.span.Span.{Span}
use Rattle.je_ast.specs.Types.{QualifiedName, TypeName, TypeNames, TypeParameter, class_type}
use Rattle.je_scopes.specs.Headers.{parameters_in, site_at}
use Rattle.je_scopes.specs.Looks.{Look}
use Rattle.je_scopes.specs.Source.{Source}
use Rattle.je_scopes.specs.Scope.{Known, header, meaning}
use Rattle.je_scopes.specs.Settled.{settled}
use Rattle.je_scopes.specs.SourceTypes.{SourceTypes, count, source_type, type_for, types_named}
use Rattle.je_scopes.specs.Faults.{bound_of, comes_by, next_variable, variable_in, variable_of_bound}
use Rattle.name_judge.specs.way.Bounds.{bound_variable, bound_variables, leads, next_of, or_none}

module _ (p : Source) (c : ℕ) where
  -- the variable that the type of a name is, by what the name means
  pub variable_so : (known : Known) (q : QualifiedName) (args : TypeNames) (dims : ℕ) (span : Span) (look : Look) (t : TypeName) (at : Option ℕ) →
      ((k : ℕ) (ts : SourceTypes) (n : ℕ) → at ≡ variable_in c (type_for p look k ts n)) → settled p ≡ known → look ≡ meaning p known c header q.parts → class_type q args dims span ≡ t →
      at ≡ variable_in c (source_type p (settled p) c header t)
  variable_so known q args dims span look t at is s l e =
      is (count args) (types_named p (settled p) c header args) dims
      ∙ ap (λ (k : Look). variable_in c (type_for p k (count args) (types_named p (settled p) c header args) dims)) (l ∙ ap (λ (k : Known). meaning p k c header q.parts) (sym s))
      ∙ ap (λ (u : TypeName). variable_in c (source_type p (settled p) c header u)) e

  at-place : (o : Option TypeParameter) → or_none (option_map (bound_variable p c) o) ≡ variable_of_bound p c (bound_of o)
  at-place None = refl
  at-place (Some q) = refl

  next-is : (qs : List TypeParameter) (k : ℕ) → next_of (bound_variables p c qs) k ≡ variable_of_bound p c (bound_of (slice_get qs k))
  next-is qs k = ap or_none (slice_get-map (bound_variable p c) qs k) ∙ at-place (slice_get qs k)

  leads-is : (next : List (Option ℕ)) → ((k : ℕ) → next_of next k ≡ next_variable p c k) → (n : ℕ) (o : Option ℕ) (at : ℕ) → leads next n o at ≡ comes_by p c n o at
  leads-is next same n None at = refl
  leads-is next same zero (Some k) at = refl
  leads-is next same (suc n) (Some k) at = ap (λ (b : Bool). nat_eq k at || b) (ap (λ (o : Option ℕ). leads next n o at) (same k) ∙ leads-is next same n (next_variable p c k) at)

  -- what the list says is what the class says
  pub leads_so : (qs : List TypeParameter) (next : List (Option ℕ)) (at : ℕ) → qs ≡ parameters_in (site_at p.sites c).written → next ≡ bound_variables p c qs →
      leads next (length next) (next_of next at) at ≡ comes_by p c (length qs) (next_variable p c at) at
  leads_so qs next at are is =
      let same : (k : ℕ) → next_of next k ≡ next_variable p c k =
      λ k. ap (λ (ns : List (Option ℕ)). next_of ns k) is ∙ next-is qs k ∙ ap (λ (rs : List TypeParameter). variable_of_bound p c (bound_of (slice_get rs k))) are in
      leads-is next same (length next) (next_of next at) at
      ∙ (λ i. comes_by p c (as-many i) (same at i) at)
    where
      as-many : length next ≡ length qs
      as-many = ap length is ∙ length-map qs (bound_variable p c)
