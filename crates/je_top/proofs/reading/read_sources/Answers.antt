-- The files are read in their order.
use Rattle.std.proofs.Common.{rules, arith, ◌≡◌, ◌<◌, ◌≤◌, ◌+◌, [], ◌∷◌, ◌++◌, length, map, get_or, sym, subst, ap, ◌∙◌}
use Rattle.std.specs.Prelude.{string_bytes}
use Rattle.std.specs.List.{AllZip}
use Rattle.planned_faults.specs.Plan.{after_one}
use Rattle.je_top.specs.Files.{IsWhole}
use Rattle.je_top.proofs.ReadingLemmas.{after_next, contents, contents_with, stops_behind, whole_at_end, whole_from}
use Rattle.je_top.proofs.reading.read_sources.Goals as goal

pub loop-name-preserved : goal.loop-name-preserved
loop-name-preserved g c =
    let held = g.F.Files.held c.args.files.now in
    let names = c.args.names.now in
    let i = c.loop-name.name-index in
    let name = c.name-item.result in
    let file = c.in_ok-read_whole.field-0 in
    let sources = c.loop-name.sources.items in
    let within : i < length names = c.loop-name-test.true in
    let is : name ≡ get_or names i name = c.name-item.is in
    let there : g.F.Files.held c.loop-name.files ≡ held = c.loop-name.invariant.6 in
    let whole : IsWhole held (string_bytes name) file.items =
    subst (λ n. IsWhole held n file.items) c.deref.ensures (subst (λ h. IsWhole h c.deref.result.now file.items) there c.in_ok-read_whole.ensures.whole) in
    let pushed : c.push.new.self.items ≡ sources ++ file ∷ [] = c.in_ok-push.ensures.items in (
      (λ rest others. subst (λ xs. AllZip (IsWhole held) (map string_bytes names) xs)
          (sym (ap (λ fs. contents fs ++ rest) pushed ∙ contents_with sources file rest))
          (c.loop-name.invariant.0 (file.items ∷ rest) (whole_from held names i name file.items rest within is whole others))),
      (λ o stops. c.loop-name.invariant.1 o (stops_behind held names i name file.items o within is whole stops)),
      search rules,
      search rules,
      c.read_whole.ensures.one_read ∙ ap after_one c.loop-name.invariant.4 ∙ sym (after_next c.loop-name.name-index _),
      c.in_ok-read_whole.ensures.same ∙ c.loop-name.invariant.5,
      c.read_whole.ensures.held ∙ there,
      (λ calm. (c.read_whole.ensures.calm (c.loop-name.invariant.7 calm)).0),
    )

pub returns-in_err-read_whole-clause-reads : goal.returns-in_err-read_whole-clause-reads
returns-in_err-read_whole-clause-reads g c =
    (c.loop-name.name-index + 1, omega (arith, c.loop-name-test.true), c.read_whole.ensures.one_read ∙ ap after_one c.loop-name.invariant.4 ∙ sym (after_next c.loop-name.name-index _))

pub returns-in_err-push-clause-reads : goal.returns-in_err-push-clause-reads
returns-in_err-push-clause-reads g c =
    (c.loop-name.name-index + 1, omega (arith, c.loop-name-test.true), c.read_whole.ensures.one_read ∙ ap after_one c.loop-name.invariant.4 ∙ sym (after_next c.loop-name.name-index _))

pub returns-clause-reads : goal.returns-clause-reads
returns-clause-reads g c = (c.loop-name.name-index, omega arith, c.loop-name.invariant.4)

pub returns-clause-whole : goal.returns-clause-whole
returns-clause-whole g c =
    let past : length c.args.names.now ≤ c.loop-name.name-index = omega (arith, c.loop-name-test.false) in
    whole_at_end (g.F.Files.held c.args.files.now) c.args.names.now c.loop-name.name-index c.loop-name.sources.items past c.loop-name.invariant.0
