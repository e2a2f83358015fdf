-- Each turn reads one file more.
use Rattle.std.proofs.Common.{◌≡◌, ◌+◌, ◌++◌, ◌∷◌, [], map, ap, ◌∙◌, sym, subst, arith}
use Rattle.std.proofs.lemmas.List.{map-append}
use Rattle.std.proofs.lemmas.List.Elements.{All-get_or}
use Rattle.std.proofs.lemmas.Result.{err_from_is_err_and}
use Rattle.je_ast.specs.View.{unit_view}
use Rattle.je_ast.specs.Size.{unit_size}
use Rattle.name_walk.specs.Sizes.{units_size}
use Rattle.source_units.specs.way.Ready.{IsReady}
use Rattle.source_units.proofs.Parsed.{goes_on, fails, units_size_push}
use Rattle.source_units.proofs.parsing.parse_all.Goals as goal

pub loop-tokens-preserved : goal.loop-tokens-preserved
loop-tokens-preserved c =
    let all = c.args.all.now in
    let at = c.loop-tokens.tokens-index in
    let t = c.tokens-item.result in
    let u = c.in_ok-unit.unit in
    let units = c.loop-tokens.units.items in
    let ready : IsReady t = subst IsReady (sym c.tokens-item.is) (All-get_or IsReady all at t (omega arith) c.requires.ready) in
    let whole : map unit_view c.push.new.self.items ≡ map unit_view units ++ unit_view u ∷ [] =
    ap (map unit_view) c.in_ok-push.ensures.items ∙ map-append unit_view units (u ∷ []) in
    let size : units_size (map unit_view c.push.new.self.items) ≡ units_size (map unit_view units) + unit_size (unit_view u).declarations =
    ap units_size whole ∙ units_size_push (map unit_view units) (unit_view u) in (
      rw c.in_ok-push.ensures.items (goes_on all c.args.names c.loop-tokens.names c.parse_file.new.names at t units u (omega arith) c.tokens-item.is
          c.in_ok-unit.ensures.names c.in_ok-unit.ensures.unit c.loop-tokens.invariant.0),
      omega (arith, c.in_ok-unit.ensures.few, ready.few_names, c.loop-tokens.invariant.1),
      omega (arith, size, c.in_ok-unit.ensures.small, ready.few, c.loop-tokens.invariant.2),
    )

pub returns-in_err-unit-clause-err : goal.returns-in_err-unit-clause-err
returns-in_err-unit-clause-err c =
    let p = err_from_is_err_and c.from_residual.result c.from_residual.ensures.1 in
    rw (p.1, p.2) (fails c.args.all.now c.args.names c.loop-tokens.names c.loop-tokens.tokens-index c.tokens-item.result _ _ (omega arith) c.tokens-item.is
    c.in_err-unit.ensures.err c.loop-tokens.invariant.0)
