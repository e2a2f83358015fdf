-- The members of a class, by what they are judged by.
use Rattle.std.specs.Prelude.{ℕ, Bool, List, Option}
use Rattle.je_base.specs.declared.span.NameId.{NameId}
use Rattle.je_base.specs.declared.span.Span.{Span}
use Rattle.je_core.specs.declared.program.Local.{Local as LocalOf}
use Rattle.je_core.specs.declared.types.ClassId.{ClassId}
use Rattle.je_core.specs.Core.{Core, CoreInitializer, CoreMethod, CoreStmt}
use Rattle.je_ast.specs.declared.name.Identifier.{Identifier}
use Rattle.je_ast.specs.Spans.{span_of}
use Rattle.je_ast.specs.Trees.{ConstructorInvocation, Expression}
use Rattle.je_ast.specs.Types.{FormalParameter, TypeName}
use Rattle.je_scopes.specs.Sites.{Context}
use Rattle.je_scopes.specs.SourceTypes.{SourceType}
use Rattle.declarations.specs.Declarations.{DeclaredField, DeclaredMethod}
use Rattle.je_typing.specs.Conversions.{assigned}
use Rattle.je_typing.specs.Judged.{Judged, gives, ◌>>=◌, ◌>>◌}
use Rattle.je_typing.specs.Typed.{TypedNode}
use Rattle.name_typing.specs.Program.{Constant, Initializer}
use Rattle.call_typing.specs.Constructors.{constructor_for}
use Rattle.call_typing.specs.Creations.{made_of}
use Rattle.call_typing.specs.Overloads.{Candidate}
use Rattle.body_typing.specs.ConstantVariables.{variable_constant}
use Rattle.body_typing.specs.Expressions.{anonymous_type}
use Rattle.body_typing.specs.FinalVariables.{Scope}
use Rattle.body_typing.specs.Bodies.{Done, Progress}
use Rattle.class_typing.specs.Members as words
use Rattle.class_typing.specs.Members.{Begun, BodyDone, MembersDone}
use Rattle.member_forms.specs.declared.walk.ClassWalk.{ClassWalk}
use Rattle.member_forms.specs.Seen.{known_of, program_of, round_of}

abbrev pub class_span : ClassWalk → Span
class_span w = words.class_span (program_of w) (known_of w) w.class.0 (round_of w)

abbrev pub number : ClassWalk → List ℕ → NameId
number w = words.number (program_of w) (known_of w) w.class.0 (round_of w)

abbrev pub scope_in : ClassWalk → Context → Option Initializer → Bool → Scope
scope_in w = words.scope_in (program_of w) (known_of w) w.class.0 (round_of w)

-- ---- fields

abbrev pub field_scope : ClassWalk → Bool → ℕ → Scope
field_scope w = words.field_scope (program_of w) (known_of w) w.class.0 (round_of w)

abbrev pub field_node : ClassWalk → DeclaredField → ℕ → Span → Core
field_node w = words.field_node (program_of w) (known_of w) w.class.0 (round_of w)

abbrev pub field_initializer : ClassWalk → DeclaredField → ℕ → Span → Core → CoreInitializer
field_initializer w = words.field_initializer (program_of w) (known_of w) w.class.0 (round_of w)

abbrev pub constant_node : ClassWalk → DeclaredField → Span → Core → Constant → Core
constant_node w = words.constant_node (program_of w) (known_of w) w.class.0 (round_of w)

abbrev pub field_code : ClassWalk → DeclaredField → ℕ → Identifier → Expression → TypedNode → Core → Bool →
    Option Constant → MembersDone
field_code w = words.field_code (program_of w) (known_of w) w.class.0 (round_of w)

abbrev pub inner_static : ClassWalk → DeclaredField → Identifier → Option Constant → Judged (Unit {0})
inner_static w = words.inner_static (program_of w) (known_of w) w.class.0 (round_of w)

-- a field with an initializer, which came to a value
abbrev pub initialized_by : ClassWalk → ℕ → Identifier → Expression → DeclaredField → TypedNode → Judged MembersDone
initialized_by w at id e f from = do
  n ← assigned (program_of w).heads f.ty (span_of e) from
  inner_static w f id (variable_constant f.is_final f.ty from.node)
  gives (field_code w f at id e from n f.is_static (variable_constant f.is_final f.ty from.node))

-- ---- methods, constructors and initializers

-- behind the parameters of a body, and behind the body
abbrev pub begun : Scope → Progress → Begun
begun s pr = record { scope = s; progress = pr }

abbrev pub body_done : Option CoreStmt → Progress → BodyDone
body_done body pr = record { body = body; progress = pr }

abbrev pub parameters : ClassWalk → Scope → Progress → List FormalParameter → List SourceType → Judged Begun
parameters w = words.parameters (program_of w) (known_of w) w.class.0 (round_of w)

abbrev pub thrown_classes : ClassWalk → List SourceType → List ClassId
thrown_classes w = words.thrown_classes (program_of w) (known_of w) w.class.0 (round_of w)

abbrev pub code_of : ClassWalk → NameId → Span → DeclaredMethod → List LocalOf → Option CoreStmt → CoreMethod
code_of w = words.code_of (program_of w) (known_of w) w.class.0 (round_of w)

abbrev pub method_code : ClassWalk → Identifier → DeclaredMethod → BodyDone → MembersDone
method_code w = words.method_code (program_of w) (known_of w) w.class.0 (round_of w)

-- what statements came to, behind the calls at a head
abbrev pub with_head : ClassWalk → Span → ConstructorInvocation → List TypedNode → Done → Done
with_head w = words.with_head (program_of w) (known_of w) w.class.0 (round_of w)

abbrev pub constructor_code : ClassWalk → ℕ → Identifier → DeclaredMethod → ConstructorInvocation → List TypedNode →
    Span → Span → Done → MembersDone
constructor_code w = words.constructor_code (program_of w) (known_of w) w.class.0 (round_of w)

abbrev pub is_static_word : ClassWalk → Option Span → Bool
is_static_word w = words.is_static_word (program_of w) (known_of w) w.class.0 (round_of w)

abbrev pub initializer_scope : ClassWalk → Option Span → ℕ → Scope
initializer_scope w = words.initializer_scope (program_of w) (known_of w) w.class.0 (round_of w)

abbrev pub initializer_code : ClassWalk → Bool → Span → Span → Done → MembersDone
initializer_code w = words.initializer_code (program_of w) (known_of w) w.class.0 (round_of w)

-- ---- what no source writes

abbrev pub default_code : ClassWalk → MembersDone
default_code w = words.default_code (program_of w) (known_of w) w.class.0 (round_of w)

abbrev pub default_constructor : ClassWalk → Judged MembersDone
default_constructor w = words.default_constructor (program_of w) (known_of w) w.class.0 (round_of w)

-- the constructor that an anonymous class calls, by the arguments behind its `new`
abbrev pub chosen_by : ClassWalk → Scope → Span → TypeName → List TypedNode → Judged Candidate
chosen_by w s word t args =
    constructor_for (program_of w) s.place.here.class
    (made_of (program_of w) (anonymous_type (program_of w) word t)) word args

abbrev pub anonymous_code : ClassWalk → Candidate → MembersDone
anonymous_code w = words.anonymous_code (program_of w) (known_of w) w.class.0 (round_of w)

abbrev pub is_without_constructor : ClassWalk → Bool
is_without_constructor w = words.is_without_constructor (program_of w) (known_of w) w.class.0 (round_of w)
