-- The laws on names before a point, and on what stands behind one (JLS 6.5.2, 6.5.6.2).
use Rattle.std.proofs.Common.{◌≡◌, ℕ, List, [], ◌∷◌, ◌++◌, Option, Some, None, refl, inl, inr}
use Rattle.std.specs.Prelude.{Bool, true, false}
use Rattle.je_base.specs.declared.span.Span.{Span}
use Rattle.je_core.specs.Core.{CoreProgram}
use Rattle.je_ast.specs.declared.name.Identifier.{Identifier}
use Rattle.je_classes.specs.Members.{Found, Member, nothing, one, several}
use Rattle.je_fitting.specs.Expressions.{Body}
use Rattle.je_scopes.specs.Looks.{Look, a_class as the_class}
use Rattle.je_scopes.specs.Looks as look
use Rattle.je_scopes.specs.Scope.{is_accessible, member_class}
use Rattle.je_scopes.specs.Settled.{settled}
use Rattle.je_scopes.specs.Source.{library_class}
use Rattle.declarations.specs.Declarations.{DeclaredField}
use Rattle.je_typing.specs.declared.fault.TypeRule.TheVariants.{NotAccessible}
use Rattle.je_typing.specs.Judged.{Judged, bind, check, faulty, gives}
use Rattle.je_typing.specs.Typed.{TypedNode}
use Rattle.name_typing.specs.Accesses.{member_of_value, static_field, static_value}
use Rattle.name_typing.specs.Fields.{field_at as declared_at}
use Rattle.name_typing.specs.Program.{Place, Program}
use Rattle.name_typing.specs.Qualified.{Qualifier, a_class, a_value, assigned_select, class_before, class_named, found_in, full_name_before, member_before, name_before, select, select_before, static_before, value_before, variable_or_class}
use Rattle.name_typing.specs.Variables.{Variable, a_field, a_local, no_variable, simple_name, taken, unclear, variable_named}
use Rattle.typing_laws.specs.Fitting.{Gives}
use Rattle.fitting_laws.specs.Names.{AssignedSelectsFit, IsVariable, MembersFit, NamesBeforeFit, QualifierFits, SelectsBeforeFit, SelectsFit, SuperFieldsFit, beginning_fits, class_there, value_fits}
use Rattle.fitting_laws.specs.Represented.{IsThere, NameIsReached, Represents, StandsAt}
use Rattle.fitting_laws.specs.Values.{IsValue}
use Rattle.fitting_laws.proofs.Accesses as accesses
use Rattle.fitting_laws.proofs.Gives.{behind}
use Rattle.fitting_laws.proofs.Accesses.{static-fields, static-values}
use Rattle.fitting_laws.proofs.Names.{simple_names_fit}
use Rattle.fitting_laws.proofs.Taken.{taken-fits, taken-value}

module _ (p : Program) (q : CoreProgram) (body : Body) (represents : Represents p q) where
  abbrev Fits : Qualifier → Type 0
  Fits = QualifierFits p q body

  variable-value : (t : TypedNode) → IsVariable p q body t → IsValue q body p.heads (taken p.heads t)
  variable-value t (inl v) = taken-value q body p.heads t v
  variable-value t (inr f) = taken-fits q body p.heads represents.heads t f

  -- ---- a simple name

  class-fits : (id : Identifier) (l : Look) → ((c : ℕ) → l ≡ the_class c → IsThere q c) → Gives Fits (class_before id l)
  class-fits id (the_class c) h = class_there (h c refl)
  class-fits id look.nothing h = beginning_fits
  class-fits id (look.a_variable c at) h = tt
  class-fits id look.unclear h = tt
  class-fits id look.waits h = tt

  value-fits : (j : Judged TypedNode) → Gives (IsValue q body p.heads) j → Gives Fits (value_before j)
  unfolding bind
  value-fits (gives t) h = value_fits h
  value-fits (faulty fault) h = tt

  names-before : (place : Place) (id : Identifier) → StandsAt p q body place → NameIsReached p q body place id.name → Gives Fits (name_before p place id)
  unfolding name_before
  names-before place id stands reach = by (variable_named p place id.name)
    where
      by : (v : Variable) → Gives Fits (variable_or_class p place id v)
      by no_variable = class-fits id (class_named p place.here id.name) (λ c e. stands.named id.name c e)
      by (a_local n v) = value-fits (simple_name p place id) (simple_names_fit p q body place id represents stands reach)
      by (a_field n m) = value-fits (simple_name p place id) (simple_names_fit p q body place id represents stands reach)
      by unclear = value-fits (simple_name p place id) (simple_names_fit p q body place id represents stands reach)

  -- ---- one name more

  member-fits : (place : Place) (id : Identifier) (l : Look) → ((c : ℕ) → l ≡ the_class c → IsThere q c) → Gives Fits (member_before p place id l)
  unfolding bind check
  member-fits place id (the_class c) h = by (is_accessible p.source place.here.class c)
    where
      by : (b : Bool) → Gives Fits (bind (check NotAccessible id.span b) (λ u. gives (a_class c)))
      by true = class_there (h c refl)
      by false = tt
  member-fits place id look.nothing h = tt
  member-fits place id (look.a_variable c at) h = tt
  member-fits place id look.unclear h = tt
  member-fits place id look.waits h = tt

  static-fits : (place : Place) (id : Identifier) (span : Span) (found : Found)
      → Gives Fits (bind (static_field p place id span found) (λ t. gives (a_value (static_value p id found t))))
  static-fits place id span found = behind _ Fits (static_field p place id span found) (λ t. gives (a_value (static_value p id found t))) (static-fields p q body represents place id span found)
      (λ t k. value_fits (static-values p q body represents id found t k.0 k.1))

  statics-before : (place : Place) (c : ℕ) (id : Identifier) (span : Span) (found : Found) → Gives Fits (static_before p place c id span found)
  statics-before place c id span nothing = member-fits place id (member_class p.source (settled p.source) id.name c) (λ d e. represents.members id.name c d e)
  statics-before place c id span (one m) = static-fits place id span (one m)
  statics-before place c id span several = static-fits place id span several

  full-name-fits : (first : Identifier) (further : List Identifier) (o : Option ℕ) → ((c : ℕ) → o ≡ Some c → IsThere q c) → Gives Fits (full_name_before first further o)
  full-name-fits first further None h = beginning_fits
  full-name-fits first further (Some c) h = class_there (h c refl)

  selects-before : (place : Place) (id : Identifier) (span : Span) (x : Qualifier) → Fits x → Gives Fits (select_before p place id span x)
  unfolding select_before
  selects-before place id span _ (value_fits {t = on} v) = behind (IsVariable p q body) Fits (member_of_value p place id span on) (λ t. gives (a_value (taken p.heads t)))
      (accesses.members_fit p q body represents place id span on v) (λ t k. value_fits (variable-value t k))
  selects-before place id span _ (class_there {c = c} h) = statics-before place c id span (found_in p c id)
  selects-before place id span _ (beginning_fits {id = first} {ids = ids}) =
      full-name-fits first (ids ++ id ∷ []) (library_class p.source.texts (first ∷ ids ++ id ∷ [])) (λ c e. represents.library (first ∷ ids ++ id ∷ []) c e)

  -- ---- the last name

  static-variable : (place : Place) (id : Identifier) (span : Span) (found : Found) → Gives (IsVariable p q body) (static_field p place id span found)
  static-variable place id span found = by (static_field p place id span found) (static-fields p q body represents place id span found)
    where
      by : (j : Judged TypedNode) → Gives (λ t. IsValue q body p.heads t × ((m : Member) → found ≡ one m → (f : DeclaredField) × (declared_at p.classes m ≡ Some f) × (t.type ≡ f.ty))) j → Gives (IsVariable p q body) j
      by (gives t) h = inl h.0
      by (faulty fault) h = tt

  assigned-selects : (place : Place) (id : Identifier) (span : Span) (x : Qualifier) → Fits x → Gives (IsVariable p q body) (assigned_select p place id span x)
  unfolding assigned_select
  assigned-selects place id span _ (value_fits {t = on} v) = accesses.members_fit p q body represents place id span on v
  assigned-selects place id span _ (class_there {c = c} h) = static-variable place id span (found_in p c id)
  assigned-selects place id span _ beginning_fits = tt

  selects : (place : Place) (id : Identifier) (span : Span) (x : Qualifier) → Fits x → Gives (IsValue q body p.heads) (select p place id span x)
  unfolding select assigned_select bind
  selects place id span _ (value_fits {t = on} v) = behind (IsVariable p q body) (IsValue q body p.heads) (member_of_value p place id span on) (λ t. gives (taken p.heads t))
      (accesses.members_fit p q body represents place id span on v) variable-value
  selects place id span _ (class_there {c = c} h) = behind _ (IsValue q body p.heads) (static_field p place id span (found_in p c id)) (λ t. gives (static_value p id (found_in p c id) t))
      (static-fields p q body represents place id span (found_in p c id)) (λ t k. static-values p q body represents id (found_in p c id) t k.0 k.1)
  selects place id span _ beginning_fits = tt

module _ (p : Program) (q : CoreProgram) (body : Body) where
  pub members_fit : MembersFit p q body
  members_fit place id span on represents v = accesses.members_fit p q body represents place id span on v

  pub super_fields_fit : SuperFieldsFit p q body
  super_fields_fit place word id span represents stands = accesses.super_fields_fit p q body represents place word id span stands

  pub names_before_fit : NamesBeforeFit p q body
  names_before_fit place id represents stands reach = names-before p q body represents place id stands reach

  pub selects_before_fit : SelectsBeforeFit p q body
  selects_before_fit place id span x represents fit = selects-before p q body represents place id span x fit

  pub assigned_selects_fit : AssignedSelectsFit p q body
  assigned_selects_fit place id span x represents fit = assigned-selects p q body represents place id span x fit

  pub selects_fit : SelectsFit p q body
  selects_fit place id span x represents fit = selects p q body represents place id span x fit
