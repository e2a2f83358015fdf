use Rattle.std.proofs.Common.{◌≡◌, List, map, take, drop, ap, subst, ◌∙◌}
use Rattle.std.specs.Prelude.{IfOk}
use Rattle.je_core.specs.declared.program.Field.{Field}
use Rattle.je_core.specs.View.{field_view}
use Rattle.je_fitting.specs.Expressions.{outer_count}
use Rattle.captured_reads.specs.declared.scopes.LocalName.{LocalName}
use Rattle.captured_reads.specs.Scopes.{names_of}
use Rattle.captured_reads.proofs.Fields.{seen}
use Rattle.captured_reads.proofs.scopes.names_at.Goals as goal

pub returns : goal.returns
returns c =
    let class = c.args.class.now in
    let n = outer_count class.enclosing in
    let fields : c.first-captured.result.now ≡ take class.captured (drop n class.fields.items) = cc (c.first-captured.ensures, c.past-behind.ensures, c.outer_count.ensures, c.deref.ensures.value) in
    let same : names_of c.args.locals.now c.args.scope.now c.args.at (map field_view c.first-captured.result.now) ≡ names_of c.args.locals.now c.args.scope.now c.args.at (take class.captured (drop n (map field_view class.fields.items))) =
    ap (λ (fs : List Field). names_of c.args.locals.now c.args.scope.now c.args.at (map field_view fs)) fields ∙ ap (names_of c.args.locals.now c.args.scope.now c.args.at) (seen n class.captured class.fields.items) in
    subst (λ (names : List LocalName). IfOk c.names_of.result (λ v. v.items ≡ names)) same c.names_of.ensures
