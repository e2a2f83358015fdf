use Rattle.std.proofs.Common.{◌≡◌, ◌<◌, ◌+◌, length, map, drop, Some, sym, ap, ◌∙◌, arith}
use Rattle.std.specs.Prelude.{if◌then◌else◌, true, false}
use Rattle.je_core.specs.declared.stmt.Catch.{out-Catch}
use Rattle.je_core.specs.View.{catch_view, program_view}
use Rattle.je_java.specs.Subclasses.{is_subclass as the_is_subclass}
use Rattle.je_java.specs.Meaning.{catch_for as the_catch_for}
use Rattle.machine_statements.proofs.Catching.{catch_step}
use Rattle.machine_statements.proofs.catch.catch_among.Goals as goal

pub returns-then-is_subclass : goal.returns-then-is_subclass
returns-then-is_subclass c =
    let p = program_view c.args.program.now in
    let x = c.taken-item.result in
    let below : c.loop-taken.taken-index < length c.args.catches.now = omega (arith, c.loop-taken-test.true) in
    let step = catch_step p c.args.own c.args.catches.now c.loop-taken.taken-index x below c.taken-item.is in
    let takes : the_is_subclass p c.args.own (out-Catch x).class ≡ true = sym c.is_subclass.ensures ∙ c.if-is_subclass.true in
    sym (sym c.loop-taken.invariant ∙ step ∙ ap (λ b. if b then Some (catch_view x) else the_catch_for p (map catch_view (drop (c.loop-taken.taken-index + 1) c.args.catches.now)) c.args.own) takes)

pub loop-taken-preserved : goal.loop-taken-preserved
loop-taken-preserved c =
    let p = program_view c.args.program.now in
    let x = c.taken-item.result in
    let below : c.loop-taken.taken-index < length c.args.catches.now = omega (arith, c.loop-taken-test.true) in
    let step = catch_step p c.args.own c.args.catches.now c.loop-taken.taken-index x below c.taken-item.is in
    let takes : the_is_subclass p c.args.own (out-Catch x).class ≡ false = sym c.is_subclass.ensures ∙ c.if-is_subclass.false in
    sym (step ∙ ap (λ b. if b then Some (catch_view x) else the_catch_for p (map catch_view (drop (c.loop-taken.taken-index + 1) c.args.catches.now)) c.args.own) takes) ∙ c.loop-taken.invariant
