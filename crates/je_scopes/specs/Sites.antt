-- The classes of a program, each where it is written: the library's, and then those of all units in reading order, local
-- and anonymous ones among them (JLS 6.3, 8.1.3, 8.5, 14.3, 15.9.5). A class's number is its place among them.
use Rattle.std.specs.Prelude.{ℕ, suc, Bool, true, false, ◌||◌, List, [], ◌∷◌, ◌++◌, map, length, Option, Some, None, if◌then◌else◌}
use Rattle.std.specs.List.{list_any}
use Rattle.je_base.specs.declared.span.Span.{Span}
use Rattle.je_core.specs.declared.program.Sort.{Sort}
use Rattle.je_core.specs.declared.program.Sort.TheVariants as sort
use Rattle.je_table.specs.Library.{all_classes}
use Rattle.je_ast.specs.declared.decl.Modifier.{Modifier}
use Rattle.je_ast.specs.declared.decl.ModifierKind.{ModifierKind}
use Rattle.je_ast.specs.declared.decl.ModifierKind.TheVariants as modifier
use Rattle.je_ast.specs.Types.{TypeName}
use Rattle.je_ast.specs.Trees.{Expression, Expressions, MaybeExpression, Statement, Statements, ForInitializer, Variables, Groups, Labels, Catches, Member, Members, MaybeBlock, ConstructorInvocation, Declaration, CompilationUnit}
use Rattle.je_ast.specs.Trees as tree

-- where a class is written: nowhere, in a declaration, or as a body behind `new` and its type
pub data Written : Type 0 where
  in_library : Written
  declared : Declaration → Written
  behind_new : Span → TypeName → Members → Written

-- Whether there is a current object there. In the arguments of an explicit constructor call there will be one (JLS 8.8.7.1).
pub data Context : Type 0 where
  instance : Context
  constructor_arguments : Context
  static : Context

-- What a class stands in: its unit, the classes round it, the innermost first, the local classes that are in scope there in
-- the body of that innermost class, the nearest first (a local class itself among them), and whether there is an object.
pub record Spot : Type 0 where
  pub unit : ℕ
  pub round : List ℕ
  pub locals : List ℕ
  pub context : Context

pub record Site : Type 0 where
  pub written : Written
  pub sort : Sort
  pub spot : Spot

-- ---- modifiers

abbrev pub is_static_word : ModifierKind → Bool
is_static_word modifier.Static = true
is_static_word _ = false

abbrev pub is_private_word : ModifierKind → Bool
is_private_word modifier.Private = true
is_private_word _ = false

abbrev pub has_static : List Modifier → Bool
has_static ms = list_any (λ (m : Modifier). is_static_word m.kind) ms

abbrev pub has_private : List Modifier → Bool
has_private ms = list_any (λ (m : Modifier). is_private_word m.kind) ms

-- ---- declarations

-- the sort of a class that is declared, where that of a class is known by its place
abbrev pub sort_of : Sort → Declaration → Sort
sort_of own (tree.class_declaration ms id ps above interfaces body span) = own
sort_of own (tree.interface_declaration ms id ps interfaces body span) = sort.Interface
sort_of own (tree.enum_declaration ms id constants span) = sort.Enum

-- A member class has no enclosing instance where it is static, or an interface's; an interface or enum never has (JLS 8.5.2, 8.9, 9.5).
abbrev pub is_static_declaration : Bool → Declaration → Bool
is_static_declaration in_interface (tree.class_declaration ms id ps above interfaces body span) = in_interface || has_static ms
is_static_declaration in_interface (tree.interface_declaration ms id ps interfaces body span) = true
is_static_declaration in_interface (tree.enum_declaration ms id constants span) = true

abbrev pub context_of : Bool → Context
context_of is_static = if is_static then static else instance

-- ---- spots

abbrev pub at_top : ℕ → Spot
at_top unit = record { unit = unit; round = []; locals = []; context = static }

-- in the body of the class of a number, which stands at a spot
abbrev pub inside : ℕ → Spot → Context → Spot
inside number spot context = record { unit = spot.unit; round = number ∷ spot.round; locals = []; context = context }

-- behind, and in, the local class of a number
abbrev pub behind_local : ℕ → Spot → Spot
behind_local number spot = record spot { locals = number ∷ spot.locals }

abbrev pub site : Written → Sort → Spot → Site
site written sort spot = record { written = written; sort = sort; spot = spot }

abbrev pub initializer_context : Option Span → Context
initializer_context None = instance
initializer_context (Some word) = static

-- what stands behind a statement in its block, whose class, if it declares one, has this number
abbrev pub behind : Spot → Statement → ℕ → Spot
behind s (tree.local_class d) number = behind_local number s
behind s _ number = s

-- ---- the walk: each function puts the classes of its part behind those that stand before

abbrev mutual
  pub in_expression : Spot → Expression → List Site → List Site
  in_expression s (tree.literal l span) before = before
  in_expression s (tree.name id) before = before
  in_expression s (tree.this span) before = before
  in_expression s (tree.outer_this q word span) before = before
  in_expression s (tree.parens e span) before = in_expression s e before
  in_expression s (tree.select e id span) before = in_expression s e before
  in_expression s (tree.super_select word id span) before = before
  in_expression s (tree.call id es span) before = in_expressions s es before
  in_expression s (tree.call_on e id es span) before = in_expressions s es (in_expression s e before)
  in_expression s (tree.super_call word id es span) before = in_expressions s es before
  in_expression s (tree.index e i span) before = in_expression s i (in_expression s e before)
  in_expression s (tree.new_object word t es span) before = in_expressions s es before
  in_expression s (tree.new_anonymous word t es body span) before =
      in_members false (inside (length before) s instance) body (in_expressions s es (before ++ site (behind_new word t body) sort.Anonymous s ∷ []))
  in_expression s (tree.new_array t es dims span) before = in_expressions s es before
  in_expression s (tree.new_array_of t dims e span) before = in_expression s e before
  in_expression s (tree.array_init es span) before = in_expressions s es before
  in_expression s (tree.cast t e span) before = in_expression s e before
  in_expression s (tree.prefix o at e span) before = in_expression s e before
  in_expression s (tree.postfix o at e span) before = in_expression s e before
  in_expression s (tree.binary o at e f span) before = in_expression s f (in_expression s e before)
  in_expression s (tree.instance_of at e t span) before = in_expression s e before
  in_expression s (tree.conditional at e f g span) before = in_expression s g (in_expression s f (in_expression s e before))
  in_expression s (tree.assign o at e f span) before = in_expression s f (in_expression s e before)

  pub in_expressions : Spot → Expressions → List Site → List Site
  in_expressions s tree.no_expressions before = before
  in_expressions s (tree.more_expressions e es) before = in_expressions s es (in_expression s e before)

  pub in_optional : Spot → MaybeExpression → List Site → List Site
  in_optional s tree.no_expression before = before
  in_optional s (tree.an_expression e) before = in_expression s e before

  pub in_statement : Spot → Statement → List Site → List Site
  in_statement s (tree.block opening body closing) before = in_block s body before
  in_statement s (tree.local start is_final t vs span) before = in_variables s vs before
  in_statement s (tree.local_class d) before = in_declaration sort.Local (behind_local (length before) s) d before
  in_statement s (tree.empty span) before = before
  in_statement s (tree.labelled id b span) before = in_statement s b before
  in_statement s (tree.if_only word e b span) before = in_statement s b (in_expression s e before)
  in_statement s (tree.if_else word e b c span) before = in_statement s c (in_statement s b (in_expression s e before))
  in_statement s (tree.while word e b span) before = in_statement s b (in_expression s e before)
  in_statement s (tree.do_while word b e span) before = in_expression s e (in_statement s b before)
  in_statement s (tree.for word start condition steps b span) before =
      in_statement s b (in_expressions s steps (in_optional s condition (in_start s start before)))
  in_statement s (tree.for_each word is_final t id e b span) before = in_statement s b (in_expression s e before)
  in_statement s (tree.switch word e gs span) before = in_groups s gs (in_expression s e before)
  in_statement s (tree.break word label span) before = before
  in_statement s (tree.continue word label span) before = before
  in_statement s (tree.return word e span) before = in_optional s e before
  in_statement s (tree.throw word e span) before = in_expression s e before
  in_statement s (tree.try word opening b closing cs span) before = in_catches s cs (in_block s b before)
  in_statement s (tree.try_finally word opening b closing cs at opening' c closing' span) before = in_block s c (in_catches s cs (in_block s b before))
  in_statement s (tree.expression_statement start e span) before = in_expression s e before

  -- A local class is in scope in the rest of its block (JLS 6.3).
  pub in_block : Spot → Statements → List Site → List Site
  in_block s tree.no_statements before = before
  in_block s (tree.more_statements b bs) before = in_block (behind s b (length before)) bs (in_statement s b before)

  pub in_start : Spot → ForInitializer → List Site → List Site
  in_start s (tree.locals is_final t vs) before = in_variables s vs before
  in_start s (tree.steps es) before = in_expressions s es before

  pub in_variables : Spot → Variables → List Site → List Site
  in_variables s tree.no_variables before = before
  in_variables s (tree.more_variables id dims e vs) before = in_variables s vs (in_optional s e before)

  pub in_groups : Spot → Groups → List Site → List Site
  in_groups s tree.no_groups before = before
  in_groups s (tree.more_groups ls body gs) before = in_groups s gs (in_block s body (in_labels s ls before))

  pub in_labels : Spot → Labels → List Site → List Site
  in_labels s tree.no_labels before = before
  in_labels s (tree.case_label e ls) before = in_labels s ls (in_expression s e before)
  in_labels s (tree.default_label word ls) before = in_labels s ls before

  pub in_catches : Spot → Catches → List Site → List Site
  in_catches s tree.no_catches before = before
  in_catches s (tree.more_catches is_final class id opening b closing cs) before = in_catches s cs (in_block s b before)

  -- the members of a class, whose spot is that of its instance members
  pub in_members : Bool → Spot → Members → List Site → List Site
  in_members in_interface s tree.no_members before = before
  in_members in_interface s (tree.more_members m ms) before = in_members in_interface s ms (in_member in_interface s m before)

  pub in_member : Bool → Spot → Member → List Site → List Site
  in_member in_interface s (tree.member_type d) before = in_declaration sort.Class (record s { context = context_of (is_static_declaration in_interface d) }) d before
  in_member in_interface s (tree.field ms t vs span) before = in_variables (record s { context = context_of (in_interface || has_static ms) }) vs before
  in_member in_interface s (tree.method ms t id fs ts body span) before = in_body (record s { context = context_of (has_static ms) }) body before
  in_member in_interface s (tree.constructor ms id fs ts first opening body closing span) before = in_block s body (in_first (record s { context = constructor_arguments }) first before)
  in_member in_interface s (tree.initializer word opening body closing span) before = in_block (record s { context = initializer_context word }) body before

  pub in_body : Spot → MaybeBlock → List Site → List Site
  in_body s tree.no_block before = before
  in_body s (tree.a_block opening body closing) before = in_block s body before

  pub in_first : Spot → ConstructorInvocation → List Site → List Site
  in_first s tree.implicit before = before
  in_first s (tree.explicit is_super word es) before = in_expressions s es before

  -- a class that is declared at a spot, and the classes in its body
  pub in_declaration : Sort → Spot → Declaration → List Site → List Site
  in_declaration how s (tree.class_declaration ms id ps above interfaces body span) before =
      in_members false (inside (length before) s instance) body (before ++ site (declared (tree.class_declaration ms id ps above interfaces body span)) how s ∷ [])
  in_declaration how s (tree.interface_declaration ms id ps interfaces body span) before =
      in_members true (inside (length before) s instance) body (before ++ site (declared (tree.interface_declaration ms id ps interfaces body span)) sort.Interface s ∷ [])
  in_declaration how s (tree.enum_declaration ms id constants span) before = before ++ site (declared (tree.enum_declaration ms id constants span)) sort.Enum s ∷ []

abbrev pub in_declarations : ℕ → List Declaration → List Site → List Site
in_declarations unit [] before = before
in_declarations unit (d ∷ ds) before = in_declarations unit ds (in_declaration sort.Class (at_top unit) d before)

abbrev pub in_units : ℕ → List CompilationUnit → List Site → List Site
in_units n [] before = before
in_units n (u ∷ us) before = in_units (suc n) us (in_declarations n u.declarations before)

abbrev pub library_sites : List Site
library_sites = map (λ class. site in_library sort.Class (at_top 0)) all_classes

-- all of them
unfoldable pub sites : List CompilationUnit → List Site
sites units = in_units 0 units library_sites
