-- Each class that the walk over written units finds is written: its header, and its members.
use Rattle.std.proofs.Common.{ℕ, suc, List, [], ◌∷◌}
use Rattle.std.specs.Prelude.{Bool, All, ◌++◌, ◌||◌, false, length, true}
use Rattle.std.proofs.lemmas.List.Elements.{All-head, All-map, All-push, All-tail}
use Rattle.je_core.specs.declared.program.Sort.{Sort}
use Rattle.je_core.specs.declared.program.Sort.TheVariants as sort
use Rattle.je_table.specs.Library.{all_classes}
use Rattle.je_ast.specs.Trees.{Catches, CompilationUnit, ConstructorInvocation, Declaration, Expression, Expressions}
use Rattle.je_ast.specs.Trees.{ForInitializer, Groups, Labels, MaybeBlock, MaybeExpression, Member, Members, Statement}
use Rattle.je_ast.specs.Trees.{Statements, Variables}
use Rattle.je_ast.specs.Trees as tree
use Rattle.je_scopes.specs.Sites.{Site, Spot, Written, at_top, behind, behind_local, behind_new, constructor_arguments}
use Rattle.je_scopes.specs.Sites.{context_of, declared, has_static, in_block, in_body, in_catches, in_declaration}
use Rattle.je_scopes.specs.Sites.{in_declarations, in_expression, in_expressions, in_first, in_groups, in_labels, in_library}
use Rattle.je_scopes.specs.Sites.{in_member, in_members, in_optional, in_start, in_statement, in_units, in_variables}
use Rattle.je_scopes.specs.Sites.{initializer_context, inside, instance, is_static_declaration, library_sites, site, sites}
use Rattle.body_laws.specs.Written.{AllAreWritten, BlockIsWritten, BodyIsWritten, CallIsWritten, CatchesAreWritten}
use Rattle.body_laws.specs.Written.{DeclarationIsWritten, GroupsAreWritten, IsMade, IsWritten, IsWrittenIf, LabelsAreWritten}
use Rattle.body_laws.specs.Written.{MemberIsWritten, MembersAreWritten, StartIsWritten, StatementIsWritten}
use Rattle.body_laws.specs.Written.{VariablesAreWritten}
use Rattle.written_laws.specs.Laws.{UnitIsWritten}

-- of a class, wherever it is written
abbrev pub ClassIsWritten : Written → Type 0
ClassIsWritten in_library = Unit {0}
ClassIsWritten (declared d) = DeclarationIsWritten d
ClassIsWritten (behind_new word t body) = IsMade t × MembersAreWritten body

abbrev pub SiteIsWritten : Site → Type 0
SiteIsWritten s = ClassIsWritten s.written

abbrev pub AllStand : List Site → Type 0
AllStand before = All SiteIsWritten before

further : (before : List Site) (s : Site) → SiteIsWritten s → AllStand before → AllStand (before ++ s ∷ [])
further before s h all = All-push SiteIsWritten before s all h

mutual
  expression : (s : Spot) (e : Expression) (before : List Site) → IsWritten e → AllStand before → AllStand (in_expression s e before)
  expression s (tree.literal l span) before h all = all
  expression s (tree.name id) before h all = all
  expression s (tree.this span) before h all = all
  expression s (tree.outer_this q word span) before h all = all
  expression s (tree.parens e span) before h all = expression s e before h all
  expression s (tree.select e id span) before h all = expression s e before h all
  expression s (tree.super_select word id span) before h all = all
  expression s (tree.call id es span) before h all = expressions s es before h all
  expression s (tree.call_on e id es span) before h all = expressions s es _ h.1 (expression s e before h.0 all)
  expression s (tree.super_call word id es span) before h all = expressions s es before h all
  expression s (tree.index e i span) before h all = expression s i _ h.1 (expression s e before h.0 all)
  expression s (tree.new_object word t es span) before h all = expressions s es before h.1 all
  expression s (tree.new_anonymous word t es body span) before h all = members false (inside (length before) s instance) body _ h.2
      (expressions s es _ h.1 (further before (site (behind_new word t body) sort.Anonymous s) (h.0, h.2) all))
  expression s (tree.new_array t es dims span) before h all = expressions s es before h.1 all
  expression s (tree.new_array_of t dims e span) before h all = expression s e before h.1 all
  expression s (tree.array_init es span) before h all = expressions s es before h all
  expression s (tree.cast t e span) before h all = expression s e before h all
  expression s (tree.prefix o at e span) before h all = expression s e before h all
  expression s (tree.postfix o at e span) before h all = expression s e before h all
  expression s (tree.binary o at e f span) before h all = expression s f _ h.1 (expression s e before h.0 all)
  expression s (tree.instance_of at e t span) before h all = expression s e before h all
  expression s (tree.conditional at e f g span) before h all = expression s g _ h.2 (expression s f _ h.1 (expression s e before h.0 all))
  expression s (tree.assign o at e f span) before h all = expression s f _ h.1 (expression s e before h.0 all)

  expressions : (s : Spot) (es : Expressions) (before : List Site) → AllAreWritten es → AllStand before → AllStand (in_expressions s es before)
  expressions s tree.no_expressions before h all = all
  expressions s (tree.more_expressions e es) before h all = expressions s es _ h.1 (expression s e before h.0 all)

  expression_if : (s : Spot) (e : MaybeExpression) (before : List Site) → IsWrittenIf e → AllStand before → AllStand (in_optional s e before)
  expression_if s tree.no_expression before h all = all
  expression_if s (tree.an_expression e) before h all = expression s e before h all

  variables : (s : Spot) (vs : Variables) (before : List Site) → VariablesAreWritten vs → AllStand before → AllStand (in_variables s vs before)
  variables s tree.no_variables before h all = all
  variables s (tree.more_variables id dims e vs) before h all = variables s vs _ h.1 (expression_if s e before h.0 all)

  labels : (s : Spot) (ls : Labels) (before : List Site) → LabelsAreWritten ls → AllStand before → AllStand (in_labels s ls before)
  labels s tree.no_labels before h all = all
  labels s (tree.case_label e ls) before h all = labels s ls _ h.1 (expression s e before h.0 all)
  labels s (tree.default_label word ls) before h all = labels s ls before h all

  start : (s : Spot) (i : ForInitializer) (before : List Site) → StartIsWritten i → AllStand before → AllStand (in_start s i before)
  start s (tree.locals is_final t vs) before h all = variables s vs before h all
  start s (tree.steps es) before h all = expressions s es before h all

  statement : (s : Spot) (b : Statement) (before : List Site) → StatementIsWritten b → AllStand before → AllStand (in_statement s b before)
  statement s (tree.block opening b closing) before h all = block s b before h all
  statement s (tree.local word is_final t vs span) before h all = variables s vs before h all
  statement s (tree.local_class d) before h all = declaration sort.Local (behind_local (length before) s) d before h all
  statement s (tree.empty span) before h all = all
  statement s (tree.labelled id b span) before h all = statement s b before h all
  statement s (tree.if_only word e b span) before h all = statement s b _ h.1 (expression s e before h.0 all)
  statement s (tree.if_else word e b c span) before h all = statement s c _ h.2 (statement s b _ h.1 (expression s e before h.0 all))
  statement s (tree.while word e b span) before h all = statement s b _ h.1 (expression s e before h.0 all)
  statement s (tree.do_while word b e span) before h all = expression s e _ h.1 (statement s b before h.0 all)
  statement s (tree.for word i e es b span) before h all = statement s b _ h.3 (expressions s es _ h.2 (expression_if s e _ h.1 (start s i before h.0 all)))
  statement s (tree.for_each word is_final t id e b span) before h all = statement s b _ h.1 (expression s e before h.0 all)
  statement s (tree.switch word e gs span) before h all = groups s gs _ h.1 (expression s e before h.0 all)
  statement s (tree.break word label span) before h all = all
  statement s (tree.continue word label span) before h all = all
  statement s (tree.return word e span) before h all = expression_if s e before h all
  statement s (tree.throw word e span) before h all = expression s e before h all
  statement s (tree.try word opening b closing cs span) before h all = catches s cs _ h.1 (block s b before h.0 all)
  statement s (tree.try_finally word opening b closing cs at opening' c closing' span) before h all = block s c _ h.2 (catches s cs _ h.1 (block s b before h.0 all))
  statement s (tree.expression_statement word e span) before h all = expression s e before h all

  block : (s : Spot) (bs : Statements) (before : List Site) → BodyIsWritten bs → AllStand before → AllStand (in_block s bs before)
  block s tree.no_statements before h all = all
  block s (tree.more_statements b bs) before h all = block (behind s b (length before)) bs _ h.1 (statement s b before h.0 all)

  groups : (s : Spot) (gs : Groups) (before : List Site) → GroupsAreWritten gs → AllStand before → AllStand (in_groups s gs before)
  groups s tree.no_groups before h all = all
  groups s (tree.more_groups ls b gs) before h all = groups s gs _ h.2 (block s b _ h.1 (labels s ls before h.0 all))

  catches : (s : Spot) (cs : Catches) (before : List Site) → CatchesAreWritten cs → AllStand before → AllStand (in_catches s cs before)
  catches s tree.no_catches before h all = all
  catches s (tree.more_catches is_final q id opening b closing cs) before h all = catches s cs _ h.1 (block s b before h.0 all)

  members : (in_interface : Bool) (s : Spot) (ms : Members) (before : List Site) → MembersAreWritten ms → AllStand before → AllStand (in_members in_interface s ms before)
  members in_interface s tree.no_members before h all = all
  members in_interface s (tree.more_members m ms) before h all = members in_interface s ms _ h.1 (member in_interface s m before h.0 all)

  member : (in_interface : Bool) (s : Spot) (m : Member) (before : List Site) → MemberIsWritten m → AllStand before → AllStand (in_member in_interface s m before)
  member in_interface s (tree.member_type d) before h all = declaration sort.Class (record s { context = context_of (is_static_declaration in_interface d) }) d before h all
  member in_interface s (tree.field ms t vs span) before h all = variables (record s { context = context_of (in_interface || has_static ms) }) vs before h all
  member in_interface s (tree.method ms t id fs ts b span) before h all = block_if (record s { context = context_of (has_static ms) }) b before h all
  member in_interface s (tree.constructor ms id fs ts call opening b closing span) before h all = block s b _ h.1 (invocation (record s { context = constructor_arguments }) call before h.0 all)
  member in_interface s (tree.initializer word opening b closing span) before h all = block (record s { context = initializer_context word }) b before h all

  block_if : (s : Spot) (b : MaybeBlock) (before : List Site) → BlockIsWritten b → AllStand before → AllStand (in_body s b before)
  block_if s tree.no_block before h all = all
  block_if s (tree.a_block opening b closing) before h all = block s b before h all

  invocation : (s : Spot) (f : ConstructorInvocation) (before : List Site) → CallIsWritten f → AllStand before → AllStand (in_first s f before)
  invocation s tree.implicit before h all = all
  invocation s (tree.explicit is_super word es) before h all = expressions s es before h all

  declaration : (how : Sort) (s : Spot) (d : Declaration) (before : List Site) → DeclarationIsWritten d → AllStand before → AllStand (in_declaration how s d before)
  declaration how s (tree.class_declaration ms id ps above interfaces body span) before h all = members false (inside (length before) s instance) body _ h.1
      (further before (site (declared (tree.class_declaration ms id ps above interfaces body span)) how s) h all)
  declaration how s (tree.interface_declaration ms id ps interfaces body span) before h all = members true (inside (length before) s instance) body _ h.1
      (further before (site (declared (tree.interface_declaration ms id ps interfaces body span)) sort.Interface s) h all)
  declaration how s (tree.enum_declaration ms id constants span) before h all = further before (site (declared (tree.enum_declaration ms id constants span)) sort.Enum s) h all

declarations : (unit : ℕ) (ds : List Declaration) (before : List Site) → All DeclarationIsWritten ds → AllStand before → AllStand (in_declarations unit ds before)
declarations unit [] before h all = all
declarations unit (d ∷ ds) before h all = declarations unit ds _ (All-tail DeclarationIsWritten d ds h) (declaration sort.Class (at_top unit) d before (All-head DeclarationIsWritten d ds h) all)

units-written : (n : ℕ) (us : List CompilationUnit) (before : List Site) → All UnitIsWritten us → AllStand before → AllStand (in_units n us before)
units-written n [] before h all = all
units-written n (u ∷ us) before h all = units-written (suc n) us _ (All-tail UnitIsWritten u us h) (declarations n u.declarations before (All-head UnitIsWritten u us h) all)

-- no class of the library is written
library : AllStand library_sites
library = All-map SiteIsWritten (λ class. site in_library sort.Class (at_top 0)) all_classes (λ k d lt. tt)

pub sites-written : (us : List CompilationUnit) → All UnitIsWritten us → AllStand (sites us)
unfolding sites
sites-written us h = units-written 0 us library_sites h library
