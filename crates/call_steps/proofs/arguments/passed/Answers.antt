use Rattle.std.proofs.Common.{rules, ◌≡◌, ◌++◌, [], List, length, map, sym, ap, ◌∙◌}
use Rattle.std.proofs.lemmas.List.{nil_from_length}
use Rattle.std.specs.Vec.Iter.{into_iter_items}
use Rattle.je_core.specs.Core.{Core}
use Rattle.je_core.specs.View.{views}
use Rattle.name_types.specs.View.{shown}
use Rattle.typed_nodes.specs.declared.typed.TypedExpr.{TypedExpr}
use Rattle.typed_nodes.specs.Seen.{seen}
use Rattle.call_typing.specs.Calls.{passed}
use Rattle.call_steps.proofs.Passing.{passed_all}
use Rattle.call_steps.proofs.arguments.passed.Goals as goal

pub returns : goal.returns
returns c =
    let none : length (into_iter_items c.loop-argument.argument-iterator) ≡ 0 = sym c.loop-argument.invariant.1 ∙ c.in-None.ensures.steps.0 in
    let start : c.args.arguments.items ≡ into_iter_items c.into_iter-argument-iterator.result = search rules in
    let done : views c.loop-argument.values.items ++ [] ≡ views c.loop-argument.values.items = search rules in
    sym done
    ∙ ap (λ (rest : List Core). views c.loop-argument.values.items ++ rest) (sym (passed_all (map shown c.loop-argument.left.now)))
    ∙ ap (λ (left : List TypedExpr). views c.loop-argument.values.items ++ passed (map shown c.loop-argument.left.now) (map seen left)) (sym (nil_from_length (into_iter_items c.loop-argument.argument-iterator) none))
    ∙ c.loop-argument.invariant.0
    ∙ ap (λ (given : List TypedExpr). passed (map shown c.args.parameters.now) (map seen given)) (sym start)
