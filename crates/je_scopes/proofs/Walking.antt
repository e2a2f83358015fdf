-- The walk over units takes no class away.
use Rattle.std.proofs.Common.{◌≡◌, ℕ, suc, ◌+◌, ◌≤◌, List, [], ◌∷◌, ◌++◌, length, arith}
use Rattle.std.specs.Prelude.{Bool, false, true}
use Rattle.std.proofs.lemmas.Grind.{common_steps}
use Rattle.je_core.specs.declared.program.Sort.{Sort}
use Rattle.je_core.specs.declared.program.Sort.TheVariants as sort
use Rattle.je_table.specs.Library.{classes}
use Rattle.je_ast.specs.Trees.{Expression, Expressions, MaybeExpression, Statement, Statements, ForInitializer, Variables, Groups, Labels, Catches, Member, Members, MaybeBlock, ConstructorInvocation, Declaration, CompilationUnit}
use Rattle.je_ast.specs.Trees as tree
use Rattle.je_scopes.specs.Sites.{declared, behind_new, Spot, Site, instance, constructor_arguments, at_top, inside, behind, behind_local, site, in_expression, in_expressions, in_optional, in_statement, in_block, in_start, in_variables, in_groups, in_labels, in_catches, in_members, in_member, in_body, in_first, in_declaration, in_declarations, in_units, library_sites, sites}
use Rattle.je_scopes.specs.Laws.{SourcesHaveLibrary}

record Grows (before after : List Site) : Type 0 where
  no_shorter : length before ≤ length after

same : (b : List Site) → Grows b b
same b = record { no_shorter = omega arith }

then : {a b c : List Site} → Grows a b → Grows b c → Grows a c
then {a = a} {b = b} {c = c} p q = let h : length a ≤ length b = p.no_shorter in let k : length b ≤ length c = q.no_shorter in record { no_shorter = omega (arith, h, k) }

one-more : (b : List Site) (s : Site) → Grows b (b ++ s ∷ [])
one-more b s = let h : length (b ++ s ∷ []) ≡ length b + 1 = grind (arith, common_steps) in record { no_shorter = omega (arith, h) }

mutual
  grows_expression : (s : Spot) (x : Expression) (b : List Site) → Grows b (in_expression s x b)
  grows_expression s (tree.literal l span) b = same b
  grows_expression s (tree.name id) b = same b
  grows_expression s (tree.this span) b = same b
  grows_expression s (tree.outer_this q word span) b = same b
  grows_expression s (tree.parens x span) b = grows_expression s x b
  grows_expression s (tree.select x id span) b = grows_expression s x b
  grows_expression s (tree.super_select word id span) b = same b
  grows_expression s (tree.call id xs span) b = grows_expressions s xs b
  grows_expression s (tree.call_on x id xs span) b = then (grows_expression s x b) (grows_expressions s xs (in_expression s x b))
  grows_expression s (tree.super_call word id xs span) b = grows_expressions s xs b
  grows_expression s (tree.index x y span) b = then (grows_expression s x b) (grows_expression s y (in_expression s x b))
  grows_expression s (tree.new_object word t xs span) b = grows_expressions s xs b
  grows_expression s (tree.new_anonymous word t xs body span) b = then (one-more b (site (behind_new word t body) sort.Anonymous s))
      (then (grows_expressions s xs (b ++ site (behind_new word t body) sort.Anonymous s ∷ []))
      (grows_members false (inside (length b) s instance) body (in_expressions s xs (b ++ site (behind_new word t body) sort.Anonymous s ∷ []))))
  grows_expression s (tree.new_array t xs dims span) b = grows_expressions s xs b
  grows_expression s (tree.new_array_of t dims x span) b = grows_expression s x b
  grows_expression s (tree.array_init xs span) b = grows_expressions s xs b
  grows_expression s (tree.cast t x span) b = grows_expression s x b
  grows_expression s (tree.prefix o at x span) b = grows_expression s x b
  grows_expression s (tree.postfix o at x span) b = grows_expression s x b
  grows_expression s (tree.binary o at x y span) b = then (grows_expression s x b) (grows_expression s y (in_expression s x b))
  grows_expression s (tree.instance_of at x t span) b = grows_expression s x b
  grows_expression s (tree.conditional at x y z span) b = then (grows_expression s x b) (then (grows_expression s y (in_expression s x b)) (grows_expression s z (in_expression s y (in_expression s x b))))
  grows_expression s (tree.assign o at x y span) b = then (grows_expression s x b) (grows_expression s y (in_expression s x b))

  grows_expressions : (s : Spot) (xs : Expressions) (b : List Site) → Grows b (in_expressions s xs b)
  grows_expressions s tree.no_expressions b = same b
  grows_expressions s (tree.more_expressions x xs) b = then (grows_expression s x b) (grows_expressions s xs (in_expression s x b))

  grows_optional : (s : Spot) (x : MaybeExpression) (b : List Site) → Grows b (in_optional s x b)
  grows_optional s tree.no_expression b = same b
  grows_optional s (tree.an_expression x) b = grows_expression s x b

  grows_statement : (s : Spot) (x : Statement) (b : List Site) → Grows b (in_statement s x b)
  grows_statement s (tree.block opening body closing) b = grows_block s body b
  grows_statement s (tree.local start is_final t vs span) b = grows_variables s vs b
  grows_statement s (tree.local_class d) b = grows_declaration sort.Local (behind_local (length b) s) d b
  grows_statement s (tree.empty span) b = same b
  grows_statement s (tree.labelled id x span) b = grows_statement s x b
  grows_statement s (tree.if_only word c x span) b = then (grows_expression s c b) (grows_statement s x (in_expression s c b))
  grows_statement s (tree.if_else word c x y span) b = then (grows_expression s c b) (then (grows_statement s x (in_expression s c b)) (grows_statement s y (in_statement s x (in_expression s c b))))
  grows_statement s (tree.while word c x span) b = then (grows_expression s c b) (grows_statement s x (in_expression s c b))
  grows_statement s (tree.do_while word x c span) b = then (grows_statement s x b) (grows_expression s c (in_statement s x b))
  grows_statement s (tree.for word start c steps x span) b = then (grows_start s start b) (then (grows_optional s c (in_start s start b)) (then (grows_expressions s steps (in_optional s c (in_start s start b)))
      (grows_statement s x (in_expressions s steps (in_optional s c (in_start s start b))))))
  grows_statement s (tree.for_each word is_final t id c x span) b = then (grows_expression s c b) (grows_statement s x (in_expression s c b))
  grows_statement s (tree.switch word c gs span) b = then (grows_expression s c b) (grows_groups s gs (in_expression s c b))
  grows_statement s (tree.break word label span) b = same b
  grows_statement s (tree.continue word label span) b = same b
  grows_statement s (tree.return word c span) b = grows_optional s c b
  grows_statement s (tree.throw word c span) b = grows_expression s c b
  grows_statement s (tree.try word opening x closing cs span) b = then (grows_block s x b) (grows_catches s cs (in_block s x b))
  grows_statement s (tree.try_finally word opening x closing cs at opening' y closing' span) b = then (grows_block s x b) (then (grows_catches s cs (in_block s x b)) (grows_block s y (in_catches s cs (in_block s x b))))
  grows_statement s (tree.expression_statement start c span) b = grows_expression s c b

  grows_block : (s : Spot) (xs : Statements) (b : List Site) → Grows b (in_block s xs b)
  grows_block s tree.no_statements b = same b
  grows_block s (tree.more_statements x xs) b = then (grows_statement s x b) (grows_block (behind s x (length b)) xs (in_statement s x b))

  grows_start : (s : Spot) (x : ForInitializer) (b : List Site) → Grows b (in_start s x b)
  grows_start s (tree.locals is_final t vs) b = grows_variables s vs b
  grows_start s (tree.steps xs) b = grows_expressions s xs b

  grows_variables : (s : Spot) (xs : Variables) (b : List Site) → Grows b (in_variables s xs b)
  grows_variables s tree.no_variables b = same b
  grows_variables s (tree.more_variables id dims x xs) b = then (grows_optional s x b) (grows_variables s xs (in_optional s x b))

  grows_groups : (s : Spot) (xs : Groups) (b : List Site) → Grows b (in_groups s xs b)
  grows_groups s tree.no_groups b = same b
  grows_groups s (tree.more_groups ls body gs) b = then (grows_labels s ls b) (then (grows_block s body (in_labels s ls b)) (grows_groups s gs (in_block s body (in_labels s ls b))))

  grows_labels : (s : Spot) (xs : Labels) (b : List Site) → Grows b (in_labels s xs b)
  grows_labels s tree.no_labels b = same b
  grows_labels s (tree.case_label x ls) b = then (grows_expression s x b) (grows_labels s ls (in_expression s x b))
  grows_labels s (tree.default_label word ls) b = grows_labels s ls b

  grows_catches : (s : Spot) (xs : Catches) (b : List Site) → Grows b (in_catches s xs b)
  grows_catches s tree.no_catches b = same b
  grows_catches s (tree.more_catches is_final class id opening x closing cs) b = then (grows_block s x b) (grows_catches s cs (in_block s x b))

  grows_members : (i : Bool) (s : Spot) (xs : Members) (b : List Site) → Grows b (in_members i s xs b)
  grows_members i s tree.no_members b = same b
  grows_members i s (tree.more_members m xs) b = then (grows_member i s m b) (grows_members i s xs (in_member i s m b))

  grows_member : (i : Bool) (s : Spot) (m : Member) (b : List Site) → Grows b (in_member i s m b)
  grows_member i s (tree.member_type d) b = grows_declaration sort.Class _ d b
  grows_member i s (tree.field mods t vs span) b = grows_variables _ vs b
  grows_member i s (tree.method mods t id fs ts body span) b = grows_body _ body b
  grows_member i s (tree.constructor mods id fs ts first opening body closing span) b = then (grows_first (record s { context = constructor_arguments }) first b) (grows_block s body (in_first (record s { context = constructor_arguments }) first b))
  grows_member i s (tree.initializer word opening body closing span) b = grows_block _ body b

  grows_body : (s : Spot) (x : MaybeBlock) (b : List Site) → Grows b (in_body s x b)
  grows_body s tree.no_block b = same b
  grows_body s (tree.a_block opening body closing) b = grows_block s body b

  grows_first : (s : Spot) (x : ConstructorInvocation) (b : List Site) → Grows b (in_first s x b)
  grows_first s tree.implicit b = same b
  grows_first s (tree.explicit is_super word xs) b = grows_expressions s xs b

  grows_declaration : (how : Sort) (s : Spot) (d : Declaration) (b : List Site) → Grows b (in_declaration how s d b)
  grows_declaration how s (tree.class_declaration mods id ps above interfaces body span) b = then (one-more b (site (declared (tree.class_declaration mods id ps above interfaces body span)) how s))
      (grows_members false (inside (length b) s instance) body (b ++ site (declared (tree.class_declaration mods id ps above interfaces body span)) how s ∷ []))
  grows_declaration how s (tree.interface_declaration mods id ps interfaces body span) b = then (one-more b (site (declared (tree.interface_declaration mods id ps interfaces body span)) sort.Interface s))
      (grows_members true (inside (length b) s instance) body (b ++ site (declared (tree.interface_declaration mods id ps interfaces body span)) sort.Interface s ∷ []))
  grows_declaration how s (tree.enum_declaration mods id constants span) b = one-more b (site (declared (tree.enum_declaration mods id constants span)) sort.Enum s)

all-declarations : (n : ℕ) (ds : List Declaration) (b : List Site) → Grows b (in_declarations n ds b)
all-declarations n [] b = same b
all-declarations n (d ∷ ds) b = then (grows_declaration sort.Class (at_top n) d b) (all-declarations n ds (in_declaration sort.Class (at_top n) d b))

all-units : (n : ℕ) (us : List CompilationUnit) (b : List Site) → Grows b (in_units n us b)
all-units n [] b = same b
all-units n (u ∷ us) b = then (all-declarations n u.declarations b) (all-units (suc n) us (in_declarations n u.declarations b))

pub sources_have_library : SourcesHaveLibrary
unfolding sites
sources_have_library texts units = let h : length classes ≡ length library_sites = grind (arith, common_steps) in let k : length library_sites ≤ length (in_units 0 units library_sites) = (all-units 0 units library_sites).no_shorter in omega (arith, h, k)
