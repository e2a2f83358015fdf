-- The laws on names (JLS 6.5, 8.3.2, 15.8, 15.11): what they give fits.
use Rattle.std.specs.Prelude.{◌≡◌, ℕ, ◌⊎◌, Bool, true, List}
use Rattle.je_base.specs.declared.span.Span.{Span}
use Rattle.je_core.specs.Core.{CoreProgram, form_of}
use Rattle.je_ast.specs.declared.name.Identifier.{Identifier}
use Rattle.je_classes.specs.Members.{Member}
use Rattle.je_fitting.specs.Expressions.{Body, IsPlace}
use Rattle.je_fitting.specs.Expressions as core
use Rattle.je_typing.specs.Assignments.{is_place}
use Rattle.je_typing.specs.Typed.{TypedNode}
use Rattle.name_typing.specs.Accesses.{member_of_value, super_field}
use Rattle.name_typing.specs.Instances.{outer_this, this}
use Rattle.name_typing.specs.Program.{Place, Program}
use Rattle.name_typing.specs.Qualified.{Qualifier, a_value, a_class, a_beginning, assigned_select, name_before, select}
use Rattle.name_typing.specs.Qualified.{select_before}
use Rattle.name_typing.specs.Variables.{assigned_name, simple_name, updated_name}
use Rattle.body_typing.specs.FinalVariables.{Scope, builds, may_be_assigned, starts}
use Rattle.typing_laws.specs.Fitting.{Gives}
use Rattle.fitting_laws.specs.Represented.{IsThere, NameIsReached, Represents, StandsAt}
use Rattle.fitting_laws.specs.Values.{FitsBelow, IsValue}

-- the body builds an object, or starts the class, where the scope says so
pub record ScopeStands (p : Program) (program : CoreProgram) (body : Body) (is_blank : Member → Bool) (s : Scope)
    : Type 0 where
  pub place : StandsAt p program body s.place
  pub builds : builds p is_blank s ≡ true → core.builds body.code ≡ true
  pub starts : starts p is_blank s ≡ true → core.starts body.code ≡ true

-- What is assigned: where it is a variable that may be assigned, it fits, and the core program may assign it there.
abbrev pub IsTarget : Program → CoreProgram → Body → (Member → Bool) → Scope → TypedNode → Type 0
IsTarget p program body is_blank s t = may_be_assigned p is_blank s (form_of t.node) ≡ true →
    is_place (form_of t.node) ≡ true →
    (IsValue program body p.heads t ⊎ FitsBelow program body p.heads t) × IsPlace program body (form_of t.node)

-- a value, or a variable of which a declared type may lie above its own
abbrev pub IsVariable : Program → CoreProgram → Body → TypedNode → Type 0
IsVariable p program body t = IsValue program body p.heads t ⊎ FitsBelow program body p.heads t

-- what stands before a point: a value that fits, or a class that is there
pub data QualifierFits (p : Program) (program : CoreProgram) (body : Body) : Qualifier → Type 0 where
  value_fits : {t : TypedNode} → IsValue program body p.heads t → QualifierFits p program body (a_value t)
  class_there : {c : ℕ} → IsThere program c → QualifierFits p program body (a_class c)
  beginning_fits : {id : Identifier} {ids : List Identifier} → QualifierFits p program body (a_beginning id ids)

module _ (p : Program) (program : CoreProgram) (body : Body) where
  -- JLS 15.8.3, 15.8.4
  abbrev pub ThisFits : Type 0
  ThisFits = (place : Place) (word : Span) → Represents p program → StandsAt p program body place →
      Gives (IsValue program body p.heads) (this p place word)

  abbrev pub OuterThisFits : Type 0
  OuterThisFits = (place : Place) (c : ℕ) (name_span word : Span) → Represents p program →
      StandsAt p program body place →
      Gives (IsValue program body p.heads) (outer_this p place c name_span word)

  -- JLS 6.5.6.1, as a value, and as what is assigned
  abbrev pub SimpleNamesFit : Type 0
  SimpleNamesFit = (place : Place) (id : Identifier) → Represents p program → StandsAt p program body place →
      NameIsReached p program body place id.name → Gives (IsValue program body p.heads) (simple_name p place id)

  abbrev pub AssignedNamesFit : Type 0
  AssignedNamesFit = (is_blank : Member → Bool) (s : Scope) (id : Identifier) → Represents p program →
      ScopeStands p program body is_blank s → NameIsReached p program body s.place id.name →
      Gives (IsTarget p program body is_blank s) (assigned_name p s.place id)

  abbrev pub UpdatedNamesFit : Type 0
  UpdatedNamesFit = (is_blank : Member → Bool) (s : Scope) (id : Identifier) → Represents p program →
      ScopeStands p program body is_blank s → NameIsReached p program body s.place id.name →
      Gives (IsTarget p program body is_blank s) (updated_name p s.place id)

  -- JLS 10.7, 15.11.1
  abbrev pub MembersFit : Type 0
  MembersFit = (place : Place) (id : Identifier) (span : Span) (on : TypedNode) → Represents p program →
      IsValue program body p.heads on → Gives (IsVariable p program body) (member_of_value p place id span on)

  -- JLS 15.11.2
  abbrev pub SuperFieldsFit : Type 0
  SuperFieldsFit = (place : Place) (word : Span) (id : Identifier) (span : Span) → Represents p program →
      StandsAt p program body place → Gives (FitsBelow program body p.heads) (super_field p place word id span)

  -- JLS 6.5.2: names before a point
  abbrev pub NamesBeforeFit : Type 0
  NamesBeforeFit = (place : Place) (id : Identifier) → Represents p program → StandsAt p program body place →
      NameIsReached p program body place id.name → Gives (QualifierFits p program body) (name_before p place id)

  abbrev pub SelectsBeforeFit : Type 0
  SelectsBeforeFit = (place : Place) (id : Identifier) (span : Span) (q : Qualifier) → Represents p program →
      QualifierFits p program body q → Gives (QualifierFits p program body) (select_before p place id span q)

  -- JLS 6.5.6.2, 15.11: the last name
  abbrev pub AssignedSelectsFit : Type 0
  AssignedSelectsFit = (place : Place) (id : Identifier) (span : Span) (q : Qualifier) → Represents p program →
      QualifierFits p program body q → Gives (IsVariable p program body) (assigned_select p place id span q)

  abbrev pub SelectsFit : Type 0
  SelectsFit = (place : Place) (id : Identifier) (span : Span) (q : Qualifier) → Represents p program →
      QualifierFits p program body q → Gives (IsValue program body p.heads) (select p place id span q)
