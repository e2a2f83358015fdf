use Rattle.std.proofs.Common.{◌≡◌, ℕ, List, [], ◌∷◌, ◌++◌, ap, ◌∙◌, append_assoc, arith}
use Rattle.je_ast.specs.Types.{type_views_of}
use Rattle.je_scopes.specs.SourceTypes.{SourceType, arity_of, count}
use Rattle.name_lookup.specs.View.{look_view}
use Rattle.name_sites.proofs.ImportSteps.{on_ok}
use Rattle.name_types.proofs.Named.{count_of_views}
use Rattle.name_judge.specs.Reading.{source_in, types_in}
use Rattle.name_judge.specs.Spelled.{spelled, all_spelled}
use Rattle.name_judge.proofs.Meant.{other_count, same_count}
use Rattle.name_judge.proofs.spelling.+spelling.Goals as goal

pub spell_named-returns-then-args-arity : goal.spell_named-returns-then-args-arity
spell_named-returns-then-args-arity t c =
    let n = count_of_views c.args.args.now in let a = c.arity.ensures in let d = c.if-args-arity.true in
    on_ok c.spell_plain.result (λ e. e ∙ ap (λ (s : SourceType). c.args.list.now.items ++ spelled s)
    (other_count (source_in c.args.around.now) c.in-Class.class.0 (look_view c.args.look) (count (type_views_of c.args.args.now)) (types_in c.args.around.now (type_views_of c.args.args.now)) c.args.dims (ap look_view c.in-Class.is)
    (λ q. absurd (omega (arith, q, n, a, d))))) c.spell_plain.ensures

pub spell_named-returns-in_ok-extend_from_slice-in-Class : goal.spell_named-returns-in_ok-extend_from_slice-in-Class
spell_named-returns-in_ok-extend_from_slice-in-Class t c =
    let n = count_of_views c.args.args.now in let a = c.arity.ensures in let d = c.if-args-arity.false in
    let h : count (type_views_of c.args.args.now) ≡ arity_of (source_in c.args.around.now) c.in-Class.class.0 = omega (arith, n, a, d) in
    on_ok c.spell_types.result (λ e. e ∙ ap (λ (k : List ℕ). k ++ all_spelled (types_in c.args.around.now (type_views_of c.args.args.now))) c.in_ok-extend_from_slice-in-Class.ensures.items
    ∙ append_assoc c.args.list.now.items (1 ∷ c.in-Class.class.0 ∷ c.args.dims ∷ []) (all_spelled (types_in c.args.around.now (type_views_of c.args.args.now)))
    ∙ ap (λ (s : SourceType). c.args.list.now.items ++ spelled s)
    (same_count (source_in c.args.around.now) c.in-Class.class.0 (look_view c.args.look) (count (type_views_of c.args.args.now)) (types_in c.args.around.now (type_views_of c.args.args.now)) c.args.dims (ap look_view c.in-Class.is) h)) c.spell_types.ensures
