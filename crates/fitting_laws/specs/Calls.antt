-- The laws on calls of methods (JLS 15.12).
use Rattle.std.specs.Prelude.{ℕ, List}
use Rattle.je_base.specs.declared.span.Span.{Span}
use Rattle.je_core.specs.Core.{CoreProgram}
use Rattle.je_ast.specs.declared.name.Identifier.{Identifier}
use Rattle.je_classes.specs.Members.{In}
use Rattle.je_fitting.specs.Expressions.{Body}
use Rattle.source_types.specs.Heads.{ClassHead}
use Rattle.je_typing.specs.Typed.{TypedNode}
use Rattle.name_typing.specs.Program.{Place, Program}
use Rattle.name_typing.specs.Qualified.{Qualifier}
use Rattle.call_typing.specs.Calls.{Receiver, call_on, on_class, on_value, receiver, simple_call, super_call}
use Rattle.typing_laws.specs.Fitting.{Gives}
use Rattle.fitting_laws.specs.Methods.{HasMethods}
use Rattle.fitting_laws.specs.Names.{QualifierFits}
use Rattle.fitting_laws.specs.Represented.{IsThere, Represents, StandsAt}
use Rattle.fitting_laws.specs.Values.{IsValue}

-- what a method is called on: a value that fits, or a class that is there
pub data ReceiverFits (p : Program) (program : CoreProgram) (body : Body) : Receiver → Type 0 where
  value_fits : {t : TypedNode} → IsValue program body p.heads t → ReceiverFits p program body (on_value t)
  class_there : {c : ℕ} → IsThere program c → ReceiverFits p program body (on_class c)

abbrev pub ArgumentsFit : CoreProgram → Body → List ClassHead → List TypedNode → Type 0
ArgumentsFit program body heads args = (t : TypedNode) → In args t → IsValue program body heads t

module _ (p : Program) (program : CoreProgram) (body : Body) where
  abbrev pub ReceiversFit : Type 0
  ReceiversFit = (q : Qualifier) → QualifierFits p program body q → Gives (ReceiverFits p program body) (receiver q)

  -- JLS 15.12.1, 15.12.3: on a value, or on a class
  abbrev pub CallsOnFit : Type 0
  CallsOnFit = (place : Place) (id : Identifier) (span : Span) (args : List TypedNode) (on : Receiver) →
      Represents p program →
      HasMethods p program → ArgumentsFit program body p.heads args → ReceiverFits p program body on →
      Gives (IsValue program body p.heads) (call_on p place id span args on)

  abbrev pub SimpleCallsFit : Type 0
  SimpleCallsFit = (place : Place) (id : Identifier) (span : Span) (args : List TypedNode) → Represents p program →
      HasMethods p program → StandsAt p program body place → ArgumentsFit program body p.heads args →
      Gives (IsValue program body p.heads) (simple_call p place id span args)

  abbrev pub SuperCallsFit : Type 0
  SuperCallsFit = (place : Place) (word : Span) (id : Identifier) (span : Span) (args : List TypedNode) →
      Represents p program →
      HasMethods p program → StandsAt p program body place → ArgumentsFit program body p.heads args →
      Gives (IsValue program body p.heads) (super_call p place word id span args)
