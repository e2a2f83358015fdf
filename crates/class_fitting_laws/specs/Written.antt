-- What is known of the members that a class writes (JLS 8.2): methods and constructors are declared as they are
-- written, and what is met in a body stands there.
use Rattle.std.specs.Prelude.{◌≡◌, ℕ, suc, ◌≤◌, Bool, true, false, length, List, [], Option, None, Some, slice_get}
use Rattle.je_core.specs.declared.types.Base.TheVariants as base
use Rattle.je_core.specs.declared.types.ClassId.{ClassId}
use Rattle.je_core.specs.Core.{CoreInitializer, CoreMethod, CoreProgram}
use Rattle.je_ast.specs.declared.name.Identifier.{Identifier}
use Rattle.je_ast.specs.Trees.{Expression, MaybeExpression, Member, Members, Variables}
use Rattle.je_ast.specs.Trees as tree
use Rattle.je_ast.specs.Types.{FormalParameter}
use Rattle.je_classes.specs.Members.{In}
use Rattle.je_fitting.specs.Expressions.{Body}
use Rattle.je_fitting.specs.Members.{body_of, initializer_body, initializer_code}
use Rattle.je_scopes.specs.Sites.{context_of, instance}
use Rattle.je_scopes.specs.SourceTypes.{plain}
use Rattle.source_types.specs.Erasure.{class_numbered}
use Rattle.source_types.specs.Subtypes.{dims_of}
use Rattle.declarations.specs.Declarations.{DeclaredField, DeclaredMethod}
use Rattle.je_typing.specs.Judged.{gives}
use Rattle.overriding.specs.Methods.{methods_in}
use Rattle.name_typing.specs.Fields.{field_at, member}
use Rattle.name_typing.specs.Program.{Frame, Program}
use Rattle.body_typing.specs.Bodies.{met_in_expression}
use Rattle.body_typing.specs.Expressions.{Known}
use Rattle.body_typing.specs.FinalVariables.{Scope}
use Rattle.class_typing.specs.Constructors.{in_arguments}
use Rattle.class_typing.specs.Members.{MembersDone, field_scope, fields_behind, initialized, initializer_scope}
use Rattle.class_typing.specs.Members.{methods_behind, one_member, scope_in}
use Rattle.body_laws.specs.Bodies.{BodyStands}
use Rattle.class_fitting_laws.specs.Classes.{HeadCallsStand}

-- where the initializer of a field runs
abbrev pub field_body : ℕ → Bool → Body
field_body c is_static = record {
  class = class_numbered c;
  code = initializer_code is_static;
  is_static = is_static;
  locals = [];
  returns = None;
}

module _ (p : Program) (k : Known) (program : CoreProgram) (c : ℕ) (round : List Frame) where
  -- ---- bodies, by what was met in each

  abbrev pub FieldBodyStands : ℕ → Expression → Bool → Type 0
  FieldBodyStands at e is_static = BodyStands p k program (field_body c is_static)
      (field_scope p k c round is_static at) (met_in_expression p (field_scope p k c round is_static at) e)

  abbrev pub InitializersStand : Scope → MembersDone → Type 0
  InitializersStand first d = (i : CoreInitializer) → In d.initializers i →
      BodyStands p k program (initializer_body (class_numbered c) i) first d.met

  abbrev pub MethodsStand : Scope → MembersDone → Type 0
  MethodsStand first d = (m : CoreMethod) → In d.methods m →
      BodyStands p k program (body_of program (class_numbered c) m) first d.met

  -- ---- fields, of which the first is at a place

  abbrev pub VariableStands : ℕ → MaybeExpression → Type 0
  VariableStands at tree.no_expression = Unit {0}
  VariableStands at (tree.an_expression e) = (f : DeclaredField) (id : Identifier) (d : MembersDone) →
      field_at p.classes (member c at) ≡ Some f → initialized p k c round at id e (Some f) ≡ gives d →
      FieldBodyStands at e f.is_static

  abbrev pub VariablesStand : ℕ → Variables → Type 0
  VariablesStand at tree.no_variables = Unit {0}
  VariablesStand at (tree.more_variables id dims e vs) = VariableStands at e × VariablesStand (suc at) vs

  -- ---- members

  -- of the method or constructor that is declared at a place of the class
  abbrev pub OfDeclared : ℕ → (DeclaredMethod → Type 0) → Type 0
  OfDeclared at P = (m : DeclaredMethod) → slice_get (methods_in (slice_get p.classes c)) at ≡ Some m → P m

  -- what a member comes to, if it has no fault
  abbrev pub OfDone : ℕ → ℕ → Member → (MembersDone → Type 0) → Type 0
  OfDone fields methods m P = (d : MembersDone) → one_member p k c round fields methods m ≡ gives d → P d

  abbrev pub MethodStands : ℕ → ℕ → Member → List FormalParameter → DeclaredMethod → Type 0
  MethodStands fields at member fs m = (length fs ≡ length m.parameters) × (dims_of m.result ≤ 255)
      × OfDone fields at member (MethodsStand (scope_in p k c round (context_of m.flags.is_static) None false))

  abbrev pub constructor_scope : Scope
  constructor_scope = scope_in p k c round instance None true

  -- a constructor alone asks of others that it may call, of its class or of the one above
  abbrev pub ConstructorStands : Option ClassId → ℕ → ℕ → Member → List FormalParameter → DeclaredMethod → Type 0
  ConstructorStands superclass fields at member fs m = (length fs ≡ length m.parameters) × (m.flags.is_static ≡ false)
      × (m.result ≡ plain base.Void 0) × HeadCallsStand p program c superclass
      × OfDone fields at member (MethodsStand constructor_scope)
      × OfDone fields at member (MethodsStand (in_arguments constructor_scope))

  -- a member, before which so many fields, and methods and constructors, stand
  abbrev pub MemberStands : Option ClassId → ℕ → ℕ → Member → Type 0
  MemberStands superclass fields at (tree.member_type d) = Unit {0}
  MemberStands superclass fields at (tree.field ms t vs span) = VariablesStand fields vs
  MemberStands superclass fields at (tree.method ms t id fs ts block span) =
      OfDeclared at (MethodStands fields at (tree.method ms t id fs ts block span) fs)
  MemberStands superclass fields at (tree.constructor ms id fs ts call opening b closing span) = OfDeclared at
      (ConstructorStands superclass fields at (tree.constructor ms id fs ts call opening b closing span) fs)
  MemberStands superclass fields at (tree.initializer word opening b closing span) =
      OfDone fields at (tree.initializer word opening b closing span)
      (InitializersStand (initializer_scope p k c round word fields))

  abbrev pub MembersStand : Option ClassId → ℕ → ℕ → Members → Type 0
  MembersStand superclass fields at tree.no_members = Unit {0}
  MembersStand superclass fields at (tree.more_members m ms) = MemberStands superclass fields at m
      × MembersStand superclass (fields_behind fields m) (methods_behind at m) ms
