-- What the grammar gives of trees: above a class and a type parameter, and behind `new`, stands a class without brackets
-- (JLS 4.4, 8.1.4, 8.1.5, 9.1.3, 15.9), and an array that is made has a length, or brackets before its elements
-- (JLS 15.10). It is said of all that is in a tree, classes in bodies too.
use Rattle.std.specs.Prelude.{◌≡◌, ℕ, ◌+◌, ◌<◌, All, IfSome}
use Rattle.je_ast.specs.Trees.{Catches, ConstructorInvocation, Declaration, Expression, Expressions, ForInitializer}
use Rattle.je_ast.specs.Trees.{Groups, Labels, MaybeBlock, MaybeExpression, Member, Members, Statement, Statements}
use Rattle.je_ast.specs.Trees.{Variables}
use Rattle.je_ast.specs.Trees as tree
use Rattle.je_ast.specs.Types.{TypeName, TypeParameter, class_type, primitive}
use Rattle.je_scopes.specs.Headers.{declared_heads, declared_parameters}

-- a class without brackets
abbrev pub IsMade : TypeName → Type 0
IsMade (primitive word dims span) = ⊥
IsMade (class_type q args dims span) = dims ≡ 0

-- what stands above a type parameter, if anything does
abbrev pub BoundIsMade : TypeParameter → Type 0
BoundIsMade q = IfSome q.bound IsMade

abbrev pub HeaderIsWritten : Declaration → Type 0
HeaderIsWritten d = All IsMade (declared_heads d) × All BoundIsMade (declared_parameters d)

abbrev pub count : Expressions → ℕ
count tree.no_expressions = 0
count (tree.more_expressions e es) = count es + 1

abbrev mutual
  pub IsWritten : Expression → Type 0
  IsWritten (tree.literal l span) = Unit {0}
  IsWritten (tree.name id) = Unit {0}
  IsWritten (tree.this span) = Unit {0}
  IsWritten (tree.outer_this q word span) = Unit {0}
  IsWritten (tree.parens e span) = IsWritten e
  IsWritten (tree.select e id span) = IsWritten e
  IsWritten (tree.super_select word id span) = Unit {0}
  IsWritten (tree.call id es span) = AllAreWritten es
  IsWritten (tree.call_on e id es span) = IsWritten e × AllAreWritten es
  IsWritten (tree.super_call word id es span) = AllAreWritten es
  IsWritten (tree.index e i span) = IsWritten e × IsWritten i
  IsWritten (tree.new_object word t es span) = IsMade t × AllAreWritten es
  IsWritten (tree.new_anonymous word t es inner span) = IsMade t × AllAreWritten es × MembersAreWritten inner
  IsWritten (tree.new_array t es dims span) = (0 < count es) × AllAreWritten es
  IsWritten (tree.new_array_of t dims e span) = (0 < dims) × IsWritten e
  IsWritten (tree.array_init es span) = AllAreWritten es
  IsWritten (tree.cast t e span) = IsWritten e
  IsWritten (tree.prefix o at e span) = IsWritten e
  IsWritten (tree.postfix o at e span) = IsWritten e
  IsWritten (tree.binary o at e f span) = IsWritten e × IsWritten f
  IsWritten (tree.instance_of at e t span) = IsWritten e
  IsWritten (tree.conditional at c e f span) = IsWritten c × IsWritten e × IsWritten f
  IsWritten (tree.assign o at e f span) = IsWritten e × IsWritten f

  pub AllAreWritten : Expressions → Type 0
  AllAreWritten tree.no_expressions = Unit {0}
  AllAreWritten (tree.more_expressions e es) = IsWritten e × AllAreWritten es

  pub IsWrittenIf : MaybeExpression → Type 0
  IsWrittenIf tree.no_expression = Unit {0}
  IsWrittenIf (tree.an_expression e) = IsWritten e

  pub VariablesAreWritten : Variables → Type 0
  VariablesAreWritten tree.no_variables = Unit {0}
  VariablesAreWritten (tree.more_variables id dims e vs) = IsWrittenIf e × VariablesAreWritten vs

  pub LabelsAreWritten : Labels → Type 0
  LabelsAreWritten tree.no_labels = Unit {0}
  LabelsAreWritten (tree.case_label e ls) = IsWritten e × LabelsAreWritten ls
  LabelsAreWritten (tree.default_label word ls) = LabelsAreWritten ls

  pub StartIsWritten : ForInitializer → Type 0
  StartIsWritten (tree.locals is_final t vs) = VariablesAreWritten vs
  StartIsWritten (tree.steps es) = AllAreWritten es

  pub StatementIsWritten : Statement → Type 0
  StatementIsWritten (tree.block opening b closing) = BodyIsWritten b
  StatementIsWritten (tree.local start is_final t vs span) = VariablesAreWritten vs
  StatementIsWritten (tree.local_class d) = DeclarationIsWritten d
  StatementIsWritten (tree.empty span) = Unit {0}
  StatementIsWritten (tree.labelled id b span) = StatementIsWritten b
  StatementIsWritten (tree.if_only word c b span) = IsWritten c × StatementIsWritten b
  StatementIsWritten (tree.if_else word c b b' span) =
      IsWritten c × StatementIsWritten b × StatementIsWritten b'
  StatementIsWritten (tree.while word c b span) = IsWritten c × StatementIsWritten b
  StatementIsWritten (tree.do_while word b c span) = StatementIsWritten b × IsWritten c
  StatementIsWritten (tree.for word start c es b span) =
      StartIsWritten start × IsWrittenIf c × AllAreWritten es × StatementIsWritten b
  StatementIsWritten (tree.for_each word is_final t id e b span) = IsWritten e × StatementIsWritten b
  StatementIsWritten (tree.switch word e gs span) = IsWritten e × GroupsAreWritten gs
  StatementIsWritten (tree.break word to span) = Unit {0}
  StatementIsWritten (tree.continue word to span) = Unit {0}
  StatementIsWritten (tree.return word e span) = IsWrittenIf e
  StatementIsWritten (tree.throw word e span) = IsWritten e
  StatementIsWritten (tree.try word opening b closing cs span) = BodyIsWritten b × CatchesAreWritten cs
  StatementIsWritten (tree.try_finally word opening b closing cs at opening' c closing' span) =
      BodyIsWritten b × CatchesAreWritten cs × BodyIsWritten c
  StatementIsWritten (tree.expression_statement start e span) = IsWritten e

  pub BodyIsWritten : Statements → Type 0
  BodyIsWritten tree.no_statements = Unit {0}
  BodyIsWritten (tree.more_statements b bs) = StatementIsWritten b × BodyIsWritten bs

  pub GroupsAreWritten : Groups → Type 0
  GroupsAreWritten tree.no_groups = Unit {0}
  GroupsAreWritten (tree.more_groups ls b gs) = LabelsAreWritten ls × BodyIsWritten b × GroupsAreWritten gs

  pub CatchesAreWritten : Catches → Type 0
  CatchesAreWritten tree.no_catches = Unit {0}
  CatchesAreWritten (tree.more_catches is_final q id opening b closing cs) =
      BodyIsWritten b × CatchesAreWritten cs

  pub MemberIsWritten : Member → Type 0
  MemberIsWritten (tree.member_type d) = DeclarationIsWritten d
  MemberIsWritten (tree.field ms t vs span) = VariablesAreWritten vs
  MemberIsWritten (tree.method ms t id fs ts block span) = BlockIsWritten block
  MemberIsWritten (tree.constructor ms id fs ts call opening b closing span) = CallIsWritten call × BodyIsWritten b
  MemberIsWritten (tree.initializer word opening b closing span) = BodyIsWritten b

  pub MembersAreWritten : Members → Type 0
  MembersAreWritten tree.no_members = Unit {0}
  MembersAreWritten (tree.more_members m ms) = MemberIsWritten m × MembersAreWritten ms

  pub BlockIsWritten : MaybeBlock → Type 0
  BlockIsWritten tree.no_block = Unit {0}
  BlockIsWritten (tree.a_block opening b closing) = BodyIsWritten b

  pub CallIsWritten : ConstructorInvocation → Type 0
  CallIsWritten tree.implicit = Unit {0}
  CallIsWritten (tree.explicit is_super word es) = AllAreWritten es

  pub DeclarationIsWritten : Declaration → Type 0
  DeclarationIsWritten (tree.class_declaration ms id ps above interfaces body span) =
      HeaderIsWritten (tree.class_declaration ms id ps above interfaces body span) × MembersAreWritten body
  DeclarationIsWritten (tree.interface_declaration ms id ps interfaces body span) =
      HeaderIsWritten (tree.interface_declaration ms id ps interfaces body span) × MembersAreWritten body
  DeclarationIsWritten (tree.enum_declaration ms id constants span) = Unit {0}
