use Rattle.std.proofs.Common.{◌≡◌, length, refl, ap, sym, subst, ◌∙◌}
use Rattle.std.proofs.lemmas.Result.{err_from_is_err_and}
use Rattle.je_typing.specs.Answers.{IsFault}
use Rattle.body_places.specs.Tables.{constant_at}
use Rattle.class_typing.specs.ConstantFields.{constants_shifted}
use Rattle.type_decl.specs.way.Seen.{bodies_met_seen}
use Rattle.field_values.specs.Values.{count_at}
use Rattle.program_tables.specs.Known.{captured_seen}
use Rattle.type_faults.specs.Program.{source_in}
use Rattle.type_decl.specs.way.Halves.{code_with}
use Rattle.type_decl.proofs.whole.second_half.Goals as goal

pub returns-in_err-classes-clause-err : goal.returns-in_err-classes-clause-err
returns-in_err-classes-clause-err c =
    let p = err_from_is_err_and c.from_residual-in_err-classes.result c.from_residual-in_err-classes.ensures.1 in
    rw (p.1, p.2)
    (subst (λ vs. IsFault (code_with (source_in c.args.ground.now.source) (captured_seen vs) (bodies_met_seen c.args.first.bodies)) c.in_err-classes.field-0.0)
    c.deref-4.ensures.value
    (c.in_err-classes.ensures.err (bodies_met_seen c.args.first.bodies) refl
    (ap (λ f. constants_shifted f (constant_at c.args.first.bodies.constants.items))
    (sym (ap count_at c.deref-3.ensures.value ∙ c.in_ok-captured_counts.ensures
    ∙ (λ i. λ d. length (captured_seen ((c.deref-2.ensures.value ∙ sym c.deref-4.ensures.value) i) d))))
    ∙ sym c.in_ok-constants.ensures ∙ ap constant_at (sym c.deref-6.ensures.value))))

pub returns-clause-ok : goal.returns-clause-ok
returns-clause-ok c =
    sym (ap (λ vs. code_with (source_in c.args.ground.now.source) (captured_seen vs) (bodies_met_seen c.args.first.bodies)) c.deref-4.ensures.value)
    ∙ c.in_ok-classes.ensures.ok (bodies_met_seen c.args.first.bodies) refl
    (ap (λ f. constants_shifted f (constant_at c.args.first.bodies.constants.items))
    (sym (ap count_at c.deref-3.ensures.value ∙ c.in_ok-captured_counts.ensures
    ∙ (λ i. λ d. length (captured_seen ((c.deref-2.ensures.value ∙ sym c.deref-4.ensures.value) i) d))))
    ∙ sym c.in_ok-constants.ensures ∙ ap constant_at (sym c.deref-6.ensures.value))
