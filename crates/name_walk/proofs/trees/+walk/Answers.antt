use Rattle.std.proofs.Common.{◌≡◌, ◌+◌, ◌≤◌, ◌<◌, Bool, true, false, List, [], ◌∷◌, length, drop, map, refl, ◌∙◌, sym, ap, arith, rules}
use Rattle.std.proofs.lemmas.List.{drop_all}
use Rattle.je_ast.specs.declared.decl.Decl.TheVariants as decl
use Rattle.je_ast.specs.Types.{parameter_view, type_view_of_option, type_views_of}
use Rattle.je_ast.specs.Trees as tree
use Rattle.je_ast.specs.View.{declaration_view, member_views_of, statement_view, statement_views_of, views_of}
use Rattle.je_ast.proofs.Views.{declaration_is}
use Rattle.je_scopes.specs.Sites.{Site, in_block}
use Rattle.name_walk.specs.View.{IsAmong, is_local_class, spot_from}
use Rattle.name_walk.specs.Collected.{collected, spot_of}
use Rattle.name_walk.proofs.Growth.{in_block_grew, in_expressions_grew, in_members_grew}
use Rattle.name_walk.proofs.Standing.{among_stays, behind_is, behind_there, declared_class, declared_interface, round_behind, spot_stays, there_behind}
use Rattle.name_walk.proofs.trees.+walk.Goals as goal

pub block_statement-go_behind-requires : goal.block_statement-go_behind-requires
block_statement-go_behind-requires t c =
    let local : is_local_class (statement_view c.args.stmt.now) ≡ true = sym c.declares_class.ensures ∙ c.if-declares_class.true in
    rw (c.len-number.ensures, c.in_ok-statement.ensures.sites) (behind_there _ _ _ local)

pub block_statement-returns-then-declares_class-clause-spot : goal.block_statement-returns-then-declares_class-clause-spot
block_statement-returns-then-declares_class-clause-spot t c =
    let local : is_local_class (statement_view c.args.stmt.now) ≡ true = sym c.declares_class.ensures ∙ c.if-declares_class.true in
    c.go_behind.ensures.spot ∙ rw (c.in_ok-statement.ensures.stays, c.in_ok-statement.ensures.sites, c.len-number.ensures) (behind_is _ _ _ local)

pub block_statements-go_back-requires : goal.block_statements-go_back-requires
block_statements-go_back-requires t c =
    let e : drop c.loop-stmt.stmt-index c.args.list.now ≡ [] = drop_all c.loop-stmt.stmt-index c.args.list.now (omega arith) in
    let is : collected c.loop-stmt.collector ≡ in_block (spot_of c.args.collector.now) (statement_views_of c.args.list.now) (collected c.args.collector.now) = rw e at c.loop-stmt.invariant in
    rw is (among_stays _ _ _ _ (in_block_grew (spot_of c.args.collector.now) (statement_views_of c.args.list.now) (collected c.args.collector.now)) c.spot-here.ensures.among)

pub block_statements-returns-clause-stays : goal.block_statements-returns-clause-stays
block_statements-returns-clause-stays t c =
    let e : drop c.loop-stmt.stmt-index c.args.list.now ≡ [] = drop_all c.loop-stmt.stmt-index c.args.list.now (omega arith) in
    let is : collected c.loop-stmt.collector ≡ in_block (spot_of c.args.collector.now) (statement_views_of c.args.list.now) (collected c.args.collector.now) = rw e at c.loop-stmt.invariant in
    c.go_back.ensures.spot ∙ ap (λ (x : List Site). spot_from x c.spot-here.result) is ∙ spot_stays _ _ _ _ (in_block_grew (spot_of c.args.collector.now) (statement_views_of c.args.list.now) (collected c.args.collector.now)) c.spot-here.ensures.among ∙ c.spot-here.ensures.is

pub class_body-go_back-requires : goal.class_body-go_back-requires
class_body-go_back-requires t c =
    let among : IsAmong (length (collected c.enter.new.self)) c.spot-here.result = rw c.enter.ensures.sites c.spot-here.ensures.among in
    rw c.in_ok-class_members.ensures.sites (among_stays _ _ _ _ (in_members_grew c.args.in_interface (spot_of c.enter.new.self) (member_views_of c.args.body.now) (collected c.enter.new.self)) among)

pub class_body-returns-clause-stays : goal.class_body-returns-clause-stays
class_body-returns-clause-stays t c =
    let among : IsAmong (length (collected c.enter.new.self)) c.spot-here.result = rw c.enter.ensures.sites c.spot-here.ensures.among in
    c.go_back.ensures.spot
    ∙ ap (λ (x : List Site). spot_from x c.spot-here.result) c.in_ok-class_members.ensures.sites
    ∙ spot_stays _ _ _ _ (in_members_grew c.args.in_interface (spot_of c.enter.new.self) (member_views_of c.args.body.now) (collected c.enter.new.self)) among
    ∙ ap (λ (x : List Site). spot_from x c.spot-here.result) c.enter.ensures.sites
    ∙ c.spot-here.ensures.is

pub declaration-returns-in_ok-class_body-in-Class-clause-sites : goal.declaration-returns-in_ok-class_body-in-Class-clause-sites
declaration-returns-in_ok-class_body-in-Class-clause-sites t c =
    let e : declaration_view c.args.decl.now ≡ tree.class_declaration c.in-Class.modifiers.items c.in-Class.name (map parameter_view c.in-Class.params.items) (type_view_of_option c.in-Class.extends) (type_views_of c.in-Class.implements.items) (member_views_of c.in-Class.body.items) c.in-Class.span = declaration_is c.args.decl.now ∙ rw c.in-Class.is (rw (decl.outs-Class c.in-Class.modifiers c.in-Class.name c.in-Class.params c.in-Class.extends c.in-Class.implements c.in-Class.body c.in-Class.span) refl) in
    c.in_ok-class_body-in-Class.ensures.sites
    ∙ rw (c.in_ok-number-in-Class.ensures.sites, c.in_ok-number-in-Class.ensures.stays, c.in_ok-number-in-Class.ensures.number, c.deref.ensures.value)
    (declared_class c.args.sort (spot_of c.args.collector.now) c.args.is_local (collected c.args.collector.now) (declaration_view c.args.decl.now) c.in-Class.modifiers.items c.in-Class.name (map parameter_view c.in-Class.params.items) (type_view_of_option c.in-Class.extends) (type_views_of c.in-Class.implements.items) (member_views_of c.in-Class.body.items) c.in-Class.span e)

pub declaration-returns-in_ok-class_body-in-Interface-clause-sites : goal.declaration-returns-in_ok-class_body-in-Interface-clause-sites
declaration-returns-in_ok-class_body-in-Interface-clause-sites t c =
    let e : declaration_view c.args.decl.now ≡ tree.interface_declaration c.in-Interface.modifiers.items c.in-Interface.name (map parameter_view c.in-Interface.params.items) (type_views_of c.in-Interface.extends.items) (member_views_of c.in-Interface.body.items) c.in-Interface.span = declaration_is c.args.decl.now ∙ rw c.in-Interface.is (rw (decl.outs-Interface c.in-Interface.modifiers c.in-Interface.name c.in-Interface.params c.in-Interface.extends c.in-Interface.body c.in-Interface.span) refl) in
    c.in_ok-class_body-in-Interface.ensures.sites
    ∙ rw (c.in_ok-number-in-Interface.ensures.sites, c.in_ok-number-in-Interface.ensures.stays, c.in_ok-number-in-Interface.ensures.number, c.deref-in-Interface.ensures.value)
    (declared_interface c.args.sort (spot_of c.args.collector.now) c.args.is_local (collected c.args.collector.now) (declaration_view c.args.decl.now) c.in-Interface.modifiers.items c.in-Interface.name (map parameter_view c.in-Interface.params.items) (type_views_of c.in-Interface.extends.items) (member_views_of c.in-Interface.body.items) c.in-Interface.span e)

pub expression_here-enter-requires-clause-there : goal.expression_here-enter-requires-clause-there
expression_here-enter-requires-clause-there t c =
    rw (c.in_ok-expressions-in-NewAnonymous.ensures.sites, c.in_ok-number-in-NewAnonymous.ensures.sites, c.in_ok-number-in-NewAnonymous.ensures.number)
    (there_behind (spot_of c.push.new.self) (views_of c.deref-in-NewAnonymous-2.result.now) (collected c.args.collector.now) _)

pub expression_here-enter-requires-clause-here : goal.expression_here-enter-requires-clause-here
expression_here-enter-requires-clause-here t c =
    rw (c.in_ok-expressions-in-NewAnonymous.ensures.stays, c.in_ok-number-in-NewAnonymous.ensures.stays, c.in_ok-expressions-in-NewAnonymous.ensures.sites, c.in_ok-number-in-NewAnonymous.ensures.sites, c.in_ok-number-in-NewAnonymous.ensures.number)
    (round_behind (spot_of c.push.new.self) (views_of c.deref-in-NewAnonymous-2.result.now) (collected c.args.collector.now) _ _ (spot_of c.args.collector.now))

pub expression_here-go_back-requires : goal.expression_here-go_back-requires
expression_here-go_back-requires t c =
    let among : IsAmong (length (collected c.enter.new.self)) c.spot-here.result = rw c.enter.ensures.sites c.spot-here.ensures.among in
    rw c.in_ok-class_members-in-NewAnonymous.ensures.sites
    (among_stays _ _ _ _ (in_members_grew false (spot_of c.enter.new.self) (member_views_of c.deref-in-NewAnonymous-3.result.now) (collected c.enter.new.self)) among)

pub expression_here-returns-in_ok-class_members-in-NewAnonymous-clause-stays : goal.expression_here-returns-in_ok-class_members-in-NewAnonymous-clause-stays
expression_here-returns-in_ok-class_members-in-NewAnonymous-clause-stays t c =
    let among : IsAmong (length (collected c.enter.new.self)) c.spot-here.result = rw c.enter.ensures.sites c.spot-here.ensures.among in
    c.go_back.ensures.spot
    ∙ ap (λ (x : List Site). spot_from x c.spot-here.result) c.in_ok-class_members-in-NewAnonymous.ensures.sites
    ∙ spot_stays _ _ _ _ (in_members_grew false (spot_of c.enter.new.self) (member_views_of c.deref-in-NewAnonymous-3.result.now) (collected c.enter.new.self)) among
    ∙ ap (λ (x : List Site). spot_from x c.spot-here.result) c.enter.ensures.sites
    ∙ c.spot-here.ensures.is
    ∙ c.in_ok-expressions-in-NewAnonymous.ensures.stays
    ∙ c.in_ok-number-in-NewAnonymous.ensures.stays
