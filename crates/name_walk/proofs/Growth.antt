-- The walk only adds sites at the end, and no more than a tree is large.
use Rattle.std.proofs.Common.{◌≡◌, ℕ, suc, ◌+◌, ◌≤◌, ◌<◌, Bool, true, false, ◌||◌, List, [], ◌∷◌, ◌++◌, length, Option, Some, None, refl, ◌∙◌, sym, ap, subst, arith, length-append, append_assoc}
use Rattle.std.proofs.lemmas.List.{append-nil}
use Rattle.je_core.specs.declared.program.Sort.{Sort}
use Rattle.je_core.specs.declared.program.Sort.TheVariants as sort
use Rattle.je_ast.specs.Trees.{Expression, Expressions, MaybeExpression, Statement, Statements, ForInitializer, Variables, Groups, Labels, Catches, Member, Members, MaybeBlock, ConstructorInvocation, Declaration, CompilationUnit}
use Rattle.je_ast.specs.Trees as tree
use Rattle.je_ast.specs.Size.{size, sizes, size_if, statement_size, statements_size, for_initializer_size, variables_size, groups_size, labels_size, catches_size, member_size, members_size, block_size_if, constructor_invocation_size, declaration_size, unit_size}
use Rattle.je_scopes.specs.Sites.{Site, Spot, site, at_top, inside, behind, behind_local, instance, constructor_arguments, context_of, has_static, is_static_declaration, initializer_context, declared, behind_new, in_expression, in_expressions, in_optional, in_statement, in_block, in_start, in_variables, in_groups, in_labels, in_catches, in_members, in_member, in_body, in_first, in_declaration, in_declarations, in_units}
use Rattle.name_walk.specs.Sizes.{units_size}

-- so many more sites at most, behind those that stood before
pub record Grew (most : ℕ) (before after : List Site) : Type 0 where
  pub more : List Site
  pub is : after ≡ before ++ more
  pub few : length more ≤ most

grew_none : (most : ℕ) (before : List Site) → Grew most before before
grew_none most before = record { more = []; is = sym (append-nil before); few = omega arith }

grew_one : (before : List Site) (s : Site) → Grew 1 before (before ++ s ∷ [])
grew_one before s = record { more = s ∷ []; is = refl; few = omega arith }

grew_then : (m n most : ℕ) (a b c : List Site) → Grew m a b → Grew n b c → m + n ≤ most → Grew most a c
grew_then m n most a b c f g few = record {
  more = f.more ++ g.more;
  is = g.is ∙ ap (λ x. x ++ g.more) f.is ∙ append_assoc a f.more g.more;
  few = omega (arith, length-append f.more g.more, f.few, g.few);
}

grew_two : (m n : ℕ) (a b c : List Site) → Grew m a b → Grew n b c → Grew (m + n) a c
grew_two m n a b c f g = grew_then m n (m + n) a b c f g (omega arith)

grew_in : (m most : ℕ) (a b : List Site) → Grew m a b → m ≤ most → Grew most a b
grew_in m most a b f few = record { more = f.more; is = f.is; few = omega (arith, f.few) }

mutual
  pub in_expression_grew : (s : Spot) (x : Expression) (before : List Site) → Grew (size x) before (in_expression s x before)
  in_expression_grew s (tree.literal l span) before = grew_none _ before
  in_expression_grew s (tree.name id) before = grew_none _ before
  in_expression_grew s (tree.this span) before = grew_none _ before
  in_expression_grew s (tree.outer_this q word span) before = grew_none _ before
  in_expression_grew s (tree.parens e span) before = grew_in _ _ _ _ (in_expression_grew s e before) (omega arith)
  in_expression_grew s (tree.select e id span) before = grew_in _ _ _ _ (in_expression_grew s e before) (omega arith)
  in_expression_grew s (tree.super_select word id span) before = grew_none _ before
  in_expression_grew s (tree.call id es span) before = grew_in _ _ _ _ (in_expressions_grew s es before) (omega arith)
  in_expression_grew s (tree.call_on e id es span) before = grew_then _ _ _ _ _ _ (in_expression_grew s e before) (in_expressions_grew s es (in_expression s e before)) (omega arith)
  in_expression_grew s (tree.super_call word id es span) before = grew_in _ _ _ _ (in_expressions_grew s es before) (omega arith)
  in_expression_grew s (tree.index e i span) before = grew_then _ _ _ _ _ _ (in_expression_grew s e before) (in_expression_grew s i (in_expression s e before)) (omega arith)
  in_expression_grew s (tree.new_object word t es span) before = grew_in _ _ _ _ (in_expressions_grew s es before) (omega arith)
  in_expression_grew s (tree.new_anonymous word t es body span) before = grew_then _ _ _ _ _ _ (grew_two _ _ _ _ _ (grew_one before (site (behind_new word t body) sort.Anonymous s)) (in_expressions_grew s es (before ++ site (behind_new word t body) sort.Anonymous s ∷ []))) (in_members_grew false (inside (length before) s instance) body (in_expressions s es (before ++ site (behind_new word t body) sort.Anonymous s ∷ []))) (omega arith)
  in_expression_grew s (tree.new_array t es dims span) before = grew_in _ _ _ _ (in_expressions_grew s es before) (omega arith)
  in_expression_grew s (tree.new_array_of t dims e span) before = grew_in _ _ _ _ (in_expression_grew s e before) (omega arith)
  in_expression_grew s (tree.array_init es span) before = grew_in _ _ _ _ (in_expressions_grew s es before) (omega arith)
  in_expression_grew s (tree.cast t e span) before = grew_in _ _ _ _ (in_expression_grew s e before) (omega arith)
  in_expression_grew s (tree.prefix o at e span) before = grew_in _ _ _ _ (in_expression_grew s e before) (omega arith)
  in_expression_grew s (tree.postfix o at e span) before = grew_in _ _ _ _ (in_expression_grew s e before) (omega arith)
  in_expression_grew s (tree.binary o at e f span) before = grew_then _ _ _ _ _ _ (in_expression_grew s e before) (in_expression_grew s f (in_expression s e before)) (omega arith)
  in_expression_grew s (tree.instance_of at e t span) before = grew_in _ _ _ _ (in_expression_grew s e before) (omega arith)
  in_expression_grew s (tree.conditional at e f g span) before = grew_then _ _ _ _ _ _ (grew_two _ _ _ _ _ (in_expression_grew s e before) (in_expression_grew s f (in_expression s e before))) (in_expression_grew s g (in_expression s f (in_expression s e before))) (omega arith)
  in_expression_grew s (tree.assign o at e f span) before = grew_then _ _ _ _ _ _ (in_expression_grew s e before) (in_expression_grew s f (in_expression s e before)) (omega arith)

  pub in_expressions_grew : (s : Spot) (x : Expressions) (before : List Site) → Grew (sizes x) before (in_expressions s x before)
  in_expressions_grew s tree.no_expressions before = grew_none _ before
  in_expressions_grew s (tree.more_expressions e es) before = grew_then _ _ _ _ _ _ (in_expression_grew s e before) (in_expressions_grew s es (in_expression s e before)) (omega arith)

  pub in_optional_grew : (s : Spot) (x : MaybeExpression) (before : List Site) → Grew (size_if x) before (in_optional s x before)
  in_optional_grew s tree.no_expression before = grew_none _ before
  in_optional_grew s (tree.an_expression e) before = grew_in _ _ _ _ (in_expression_grew s e before) (omega arith)

  pub in_statement_grew : (s : Spot) (x : Statement) (before : List Site) → Grew (statement_size x) before (in_statement s x before)
  in_statement_grew s (tree.block opening body closing) before = grew_in _ _ _ _ (in_block_grew s body before) (omega arith)
  in_statement_grew s (tree.local start is_final t vs span) before = grew_in _ _ _ _ (in_variables_grew s vs before) (omega arith)
  in_statement_grew s (tree.local_class d) before = grew_in _ _ _ _ (in_declaration_grew sort.Local (behind_local (length before) s) d before) (omega arith)
  in_statement_grew s (tree.empty span) before = grew_none _ before
  in_statement_grew s (tree.labelled id b span) before = grew_in _ _ _ _ (in_statement_grew s b before) (omega arith)
  in_statement_grew s (tree.if_only word e b span) before = grew_then _ _ _ _ _ _ (in_expression_grew s e before) (in_statement_grew s b (in_expression s e before)) (omega arith)
  in_statement_grew s (tree.if_else word e b c span) before = grew_then _ _ _ _ _ _ (grew_two _ _ _ _ _ (in_expression_grew s e before) (in_statement_grew s b (in_expression s e before))) (in_statement_grew s c (in_statement s b (in_expression s e before))) (omega arith)
  in_statement_grew s (tree.while word e b span) before = grew_then _ _ _ _ _ _ (in_expression_grew s e before) (in_statement_grew s b (in_expression s e before)) (omega arith)
  in_statement_grew s (tree.do_while word b e span) before = grew_then _ _ _ _ _ _ (in_statement_grew s b before) (in_expression_grew s e (in_statement s b before)) (omega arith)
  in_statement_grew s (tree.for word start condition steps b span) before = grew_then _ _ _ _ _ _ (grew_two _ _ _ _ _ (grew_two _ _ _ _ _ (in_start_grew s start before) (in_optional_grew s condition (in_start s start before))) (in_expressions_grew s steps (in_optional s condition (in_start s start before)))) (in_statement_grew s b (in_expressions s steps (in_optional s condition (in_start s start before)))) (omega arith)
  in_statement_grew s (tree.for_each word is_final t id e b span) before = grew_then _ _ _ _ _ _ (in_expression_grew s e before) (in_statement_grew s b (in_expression s e before)) (omega arith)
  in_statement_grew s (tree.switch word e gs span) before = grew_then _ _ _ _ _ _ (in_expression_grew s e before) (in_groups_grew s gs (in_expression s e before)) (omega arith)
  in_statement_grew s (tree.break word label span) before = grew_none _ before
  in_statement_grew s (tree.continue word label span) before = grew_none _ before
  in_statement_grew s (tree.return word e span) before = grew_in _ _ _ _ (in_optional_grew s e before) (omega arith)
  in_statement_grew s (tree.throw word e span) before = grew_in _ _ _ _ (in_expression_grew s e before) (omega arith)
  in_statement_grew s (tree.try word opening b closing cs span) before = grew_then _ _ _ _ _ _ (in_block_grew s b before) (in_catches_grew s cs (in_block s b before)) (omega arith)
  in_statement_grew s (tree.try_finally word opening b closing cs at opening' c closing' span) before = grew_then _ _ _ _ _ _ (grew_two _ _ _ _ _ (in_block_grew s b before) (in_catches_grew s cs (in_block s b before))) (in_block_grew s c (in_catches s cs (in_block s b before))) (omega arith)
  in_statement_grew s (tree.expression_statement start e span) before = grew_in _ _ _ _ (in_expression_grew s e before) (omega arith)

  pub in_block_grew : (s : Spot) (x : Statements) (before : List Site) → Grew (statements_size x) before (in_block s x before)
  in_block_grew s tree.no_statements before = grew_none _ before
  in_block_grew s (tree.more_statements b bs) before = grew_then _ _ _ _ _ _ (in_statement_grew s b before) (in_block_grew (behind s b (length before)) bs (in_statement s b before)) (omega arith)

  pub in_start_grew : (s : Spot) (x : ForInitializer) (before : List Site) → Grew (for_initializer_size x) before (in_start s x before)
  in_start_grew s (tree.locals is_final t vs) before = grew_in _ _ _ _ (in_variables_grew s vs before) (omega arith)
  in_start_grew s (tree.steps es) before = grew_in _ _ _ _ (in_expressions_grew s es before) (omega arith)

  pub in_variables_grew : (s : Spot) (x : Variables) (before : List Site) → Grew (variables_size x) before (in_variables s x before)
  in_variables_grew s tree.no_variables before = grew_none _ before
  in_variables_grew s (tree.more_variables id dims e vs) before = grew_then _ _ _ _ _ _ (in_optional_grew s e before) (in_variables_grew s vs (in_optional s e before)) (omega arith)

  pub in_groups_grew : (s : Spot) (x : Groups) (before : List Site) → Grew (groups_size x) before (in_groups s x before)
  in_groups_grew s tree.no_groups before = grew_none _ before
  in_groups_grew s (tree.more_groups ls body gs) before = grew_then _ _ _ _ _ _ (grew_two _ _ _ _ _ (in_labels_grew s ls before) (in_block_grew s body (in_labels s ls before))) (in_groups_grew s gs (in_block s body (in_labels s ls before))) (omega arith)

  pub in_labels_grew : (s : Spot) (x : Labels) (before : List Site) → Grew (labels_size x) before (in_labels s x before)
  in_labels_grew s tree.no_labels before = grew_none _ before
  in_labels_grew s (tree.case_label e ls) before = grew_then _ _ _ _ _ _ (in_expression_grew s e before) (in_labels_grew s ls (in_expression s e before)) (omega arith)
  in_labels_grew s (tree.default_label word ls) before = grew_in _ _ _ _ (in_labels_grew s ls before) (omega arith)

  pub in_catches_grew : (s : Spot) (x : Catches) (before : List Site) → Grew (catches_size x) before (in_catches s x before)
  in_catches_grew s tree.no_catches before = grew_none _ before
  in_catches_grew s (tree.more_catches is_final class id opening b closing cs) before = grew_then _ _ _ _ _ _ (in_block_grew s b before) (in_catches_grew s cs (in_block s b before)) (omega arith)

  pub in_members_grew : (i : Bool) (s : Spot) (x : Members) (before : List Site) → Grew (members_size x) before (in_members i s x before)
  in_members_grew i s tree.no_members before = grew_none _ before
  in_members_grew i s (tree.more_members m ms) before = grew_then _ _ _ _ _ _ (in_member_grew i s m before) (in_members_grew i s ms (in_member i s m before)) (omega arith)

  pub in_member_grew : (i : Bool) (s : Spot) (x : Member) (before : List Site) → Grew (member_size x) before (in_member i s x before)
  in_member_grew i s (tree.member_type d) before = grew_in _ _ _ _ (in_declaration_grew sort.Class (record s { context = context_of (is_static_declaration i d) }) d before) (omega arith)
  in_member_grew i s (tree.field ms t vs span) before = grew_in _ _ _ _ (in_variables_grew (record s { context = context_of (i || has_static ms) }) vs before) (omega arith)
  in_member_grew i s (tree.method ms t id fs ts body span) before = grew_in _ _ _ _ (in_body_grew (record s { context = context_of (has_static ms) }) body before) (omega arith)
  in_member_grew i s (tree.constructor ms id fs ts first opening body closing span) before = grew_then _ _ _ _ _ _ (in_first_grew (record s { context = constructor_arguments }) first before) (in_block_grew s body (in_first (record s { context = constructor_arguments }) first before)) (omega arith)
  in_member_grew i s (tree.initializer word opening body closing span) before = grew_in _ _ _ _ (in_block_grew (record s { context = initializer_context word }) body before) (omega arith)

  pub in_body_grew : (s : Spot) (x : MaybeBlock) (before : List Site) → Grew (block_size_if x) before (in_body s x before)
  in_body_grew s tree.no_block before = grew_none _ before
  in_body_grew s (tree.a_block opening body closing) before = grew_in _ _ _ _ (in_block_grew s body before) (omega arith)

  pub in_first_grew : (s : Spot) (x : ConstructorInvocation) (before : List Site) → Grew (constructor_invocation_size x) before (in_first s x before)
  in_first_grew s tree.implicit before = grew_none _ before
  in_first_grew s (tree.explicit is_super word es) before = grew_in _ _ _ _ (in_expressions_grew s es before) (omega arith)

  pub in_declaration_grew : (how : Sort) (s : Spot) (x : Declaration) (before : List Site) → Grew (declaration_size x) before (in_declaration how s x before)
  in_declaration_grew how s (tree.class_declaration ms id ps above interfaces body span) before = grew_then _ _ _ _ _ _ (grew_one before (site (declared (tree.class_declaration ms id ps above interfaces body span)) how s)) (in_members_grew false (inside (length before) s instance) body (before ++ site (declared (tree.class_declaration ms id ps above interfaces body span)) how s ∷ [])) (omega arith)
  in_declaration_grew how s (tree.interface_declaration ms id ps interfaces body span) before = grew_then _ _ _ _ _ _ (grew_one before (site (declared (tree.interface_declaration ms id ps interfaces body span)) sort.Interface s)) (in_members_grew true (inside (length before) s instance) body (before ++ site (declared (tree.interface_declaration ms id ps interfaces body span)) sort.Interface s ∷ [])) (omega arith)
  in_declaration_grew how s (tree.enum_declaration ms id constants span) before = grew_in _ _ _ _ (grew_one before (site (declared (tree.enum_declaration ms id constants span)) sort.Enum s)) (omega arith)

pub in_declarations_grew : (unit : ℕ) (ds : List Declaration) (before : List Site) → Grew (unit_size ds) before (in_declarations unit ds before)
in_declarations_grew unit [] before = grew_none _ before
in_declarations_grew unit (d ∷ ds) before =
    grew_then _ _ _ _ _ _ (in_declaration_grew sort.Class (at_top unit) d before) (in_declarations_grew unit ds (in_declaration sort.Class (at_top unit) d before)) (omega arith)

pub in_units_grew : (n : ℕ) (us : List CompilationUnit) (before : List Site) → Grew (units_size us) before (in_units n us before)
in_units_grew n [] before = grew_none _ before
in_units_grew n (u ∷ us) before =
    grew_then _ _ _ _ _ _ (in_declarations_grew n u.declarations before) (in_units_grew (suc n) us (in_declarations n u.declarations before)) (omega arith)
