use Rattle.std.proofs.Common.{rules, ◌≡◌, List, ◌++◌, length, map, Option, sym, ap, ◌∙◌}
use Rattle.std.specs.Prelude.{option_map}
use Rattle.std.specs.Vec.Iter.{into_iter_items, into_iter_len}
use Rattle.std.proofs.lemmas.Iterator.Adapters.{YieldsList-from_vec}
use Rattle.std.proofs.lemmas.Iterator.Consumers.{YieldsList-end}
use Rattle.std.proofs.lemmas.List.{map-id}
use Rattle.je_core.specs.declared.expr.Expr.{Expr}
use Rattle.je_core.specs.View.{field_view, view}
use Rattle.declarations.specs.View.{field_shown}
use Rattle.body_places.specs.View.{program_seen}
use Rattle.core_making.specs.way.Made.{fields_from}
use Rattle.core_making.proofs.Declared.{all_fields, field_further}
use Rattle.core_making.proofs.fields.add_declared.Goals as goal

pub loop-constant-preserved : goal.loop-constant-preserved
loop-constant-preserved c =
    field_further (program_seen c.args.program.now) _ (map field_shown c.args.declared.now) _ _ c.loop-constant.yielded
    c.loop-constant.invariant _ _ c.in-Some.constant c.behind-left.ensures c.in_ok-add_next.ensures

pub returns : goal.returns
returns c =
    let items : into_iter_items c.into_iter-constant-iterator.result ≡ c.args.constants.items = search rules in
    let count : into_iter_len c.into_iter-constant-iterator.result ≡ length c.args.constants.items = search rules in
    let end = YieldsList-end (YieldsList-from_vec c.args.constants.items items count) c.loop-constant.yielded c.loop-constant.constant-iterator c.loop-constant.yielded_by c.next.result c.next.new.self c.in-None.is c.next.ensures.steps in
    let all : c.loop-constant.yielded ≡ c.args.constants.items = sym (map-id c.loop-constant.yielded) ∙ end.0 in
    all_fields (program_seen c.args.program.now) _ (map field_shown c.args.declared.now) _ _ c.loop-constant.yielded c.loop-constant.invariant
    ∙ ap (λ (ks : List (Option Expr)). map field_view c.args.fields.now.items
    ++ fields_from (program_seen c.args.program.now) (map field_shown c.args.declared.now) (map (option_map view) ks)) all
