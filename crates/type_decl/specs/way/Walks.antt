-- The walk over the members of a class, by what it is judged by.
use Rattle.std.specs.Prelude.{ℕ, List, Option}
use Rattle.je_base.specs.declared.span.Span.{Span}
use Rattle.je_core.specs.Core.{Core}
use Rattle.je_ast.specs.declared.name.Identifier.{Identifier}
use Rattle.je_ast.specs.Trees.{ConstructorInvocation, Expression, MaybeBlock, MaybeExpression, Member, Members, Statements, Variables}
use Rattle.je_ast.specs.Types.{FormalParameter}
use Rattle.je_fitting.specs.Statements.{no_targets}
use Rattle.je_scopes.specs.Headers.{site_at}
use Rattle.je_scopes.specs.Sites.{Written}
use Rattle.declarations.specs.Declarations.{DeclaredField, DeclaredMethod}
use Rattle.je_typing.specs.Judged.{Judged, gives, ◌>>=◌}
use Rattle.je_typing.specs.Typed.{TypedNode}
use Rattle.body_typing.specs.Expressions.{expression, initial, value}
use Rattle.statement_steps.specs.Returns.{Returning, never}
use Rattle.body_typing.specs.Bodies.{Met}
use Rattle.body_typing.specs.Statements.{statements}
use Rattle.class_typing.specs.Members as words
use Rattle.class_typing.specs.Members.{Begun, BodyDone, MembersDone, nothing_met}
use Rattle.member_forms.specs.declared.walk.ClassWalk.{ClassWalk}
use Rattle.member_forms.specs.Seen.{known_of, program_of, round_of}
use Rattle.member_forms.specs.Walks.{field_scope, initializer_code, initializer_scope, is_static_word}

-- what is written of the class
abbrev pub written_of : ClassWalk → Written
written_of w = (site_at (program_of w).source.sites w.class.0).written

-- the value of a field's initializer
abbrev pub initial_value : ClassWalk → ℕ → Expression → DeclaredField → Judged TypedNode
initial_value w at e f =
    value (expression (program_of w) (known_of w) (field_scope w f.is_static at) (initial f.ty) e)

abbrev pub initialized : ClassWalk → ℕ → Identifier → Expression → Option DeclaredField → Judged MembersDone
initialized w = words.initialized (program_of w) (known_of w) w.class.0 (round_of w)

abbrev pub variable : ClassWalk → ℕ → Identifier → MaybeExpression → Judged MembersDone
variable w = words.variable (program_of w) (known_of w) w.class.0 (round_of w)

abbrev pub variables : ClassWalk → ℕ → Variables → Judged MembersDone
variables w = words.variables (program_of w) (known_of w) w.class.0 (round_of w)

abbrev pub body_if : ClassWalk → Returning → Begun → MaybeBlock → Judged BodyDone
body_if w = words.body_if (program_of w) (known_of w) w.class.0 (round_of w)

abbrev pub method : ClassWalk → Identifier → List FormalParameter → MaybeBlock → Option DeclaredMethod →
    Judged MembersDone
method w = words.method (program_of w) (known_of w) w.class.0 (round_of w)

abbrev pub constructor : ClassWalk → ℕ → Identifier → List FormalParameter → ConstructorInvocation → Span →
    Statements → Span → Option DeclaredMethod → Judged MembersDone
constructor w = words.constructor (program_of w) (known_of w) w.class.0 (round_of w)

-- an initializer, before which so many fields stand
abbrev pub initializer : ClassWalk → ℕ → Option Span → Span → Statements → Span → Judged MembersDone
initializer w fields word opening ss closing = do
  d ← statements (program_of w) (known_of w) never no_targets (initializer_scope w word fields) nothing_met ss
  gives (initializer_code w (is_static_word w word) opening closing d)

abbrev pub one_member : ClassWalk → ℕ → ℕ → Member → Judged MembersDone
one_member w = words.one_member (program_of w) (known_of w) w.class.0 (round_of w)

abbrev pub members_from : ClassWalk → ℕ → ℕ → Members → Judged MembersDone
members_from w = words.members_from (program_of w) (known_of w) w.class.0 (round_of w)

-- ---- what no source writes

abbrev pub anonymous_constructor : ClassWalk → Option Met → Judged MembersDone
anonymous_constructor w = words.anonymous_constructor (program_of w) (known_of w) w.class.0 (round_of w)

abbrev pub no_constant : ClassWalk → Identifier → Option Core
no_constant w = words.no_constant (program_of w) (known_of w) w.class.0 (round_of w)

abbrev pub enum_members : ClassWalk → List Identifier → MembersDone
enum_members w = words.enum_members (program_of w) (known_of w) w.class.0 (round_of w)

abbrev pub unwritten : ClassWalk → List Met → Written → Judged MembersDone
unwritten w = words.unwritten (program_of w) (known_of w) w.class.0 (round_of w)
