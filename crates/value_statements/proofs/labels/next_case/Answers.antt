use Rattle.std.proofs.Common.{◌≡◌, Some, rules, w32, to_z, of_z, ap, sym, ◌∙◌}
use Rattle.std.specs.Prelude.{ℤ}
use Rattle.std.specs.List.{list_any}
use Rattle.std.proofs.lemmas.Result.{err_from_is_err_and}
use Rattle.je_arith.specs.Comparison.{is_same}
use Rattle.name_types.specs.View.{shown}
use Rattle.source_subtypes.specs.View.{heads_of}
use Rattle.je_typing.specs.declared.fault.TypeRule.TheVariants.{BadCase}
use Rattle.je_typing.specs.Judged.{gives, need}
use Rattle.typed_nodes.specs.Seen.{seen}
use Rattle.value_statements.proofs.Labelled.{case_gives, case_twice}
use Rattle.value_statements.proofs.labels.next_case.Goals as goal

pub returns-in_err-check-clause-err : goal.returns-in_err-check-clause-err
returns-in_err-check-clause-err c =
    let p = err_from_is_err_and c.from_residual-in_err-check.result c.from_residual-in_err-check.ensures.1 in
    let number = ap (need BadCase c.args.span) (sym c.in_ok-number.ensures) ∙ c.in_ok-number-2.ensures.ok in
    let same : to_z w32 (of_z w32 c.in_ok-number-2.number) ≡ c.in_ok-number-2.number = search rules in
    rw (p.1, p.2) (λ before k. case_twice (heads_of c.args.heads.now) (shown c.args.selector.now) before c.args.span (seen c.args.value.now) c.in_ok-number-2.number c.in_ok-is_met.is_met _ number (c.in_ok-is_met.ensures.before before k ∙ ap (λ (n : ℤ). list_any (is_same n) before.numbers) same) c.in_err-check.ensures.err)

pub returns-clause-ok : goal.returns-clause-ok
returns-clause-ok c =
    let number = ap (need BadCase c.args.span) (sym c.in_ok-number.ensures) ∙ c.in_ok-number-2.ensures.ok in
    let same : to_z w32 (of_z w32 c.in_ok-number-2.number) ≡ c.in_ok-number-2.number = search rules in
    λ before k. case_gives (heads_of c.args.heads.now) (shown c.args.selector.now) before c.args.span (seen c.args.value.now) c.in_ok-number-2.number c.in_ok-is_met.is_met tt number (c.in_ok-is_met.ensures.before before k ∙ ap (λ (n : ℤ). list_any (is_same n) before.numbers) same) c.in_ok-check.ensures.ok
    ∙ (λ i. gives (record { value = Some (sym same i); uses = sym c.in_ok-uses.ensures i; span = c.args.span }))
