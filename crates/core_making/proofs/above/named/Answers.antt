use Rattle.std.proofs.Common.{[], ◌∷◌, ◌++◌, sym, ap, ◌∙◌}
use Rattle.je_core.specs.declared.program.Head.{Head}
use Rattle.je_ast.specs.Types.{type_view}
use Rattle.je_scopes.specs.Headers.{heads_in, site_at}
use Rattle.body_places.specs.View.{program_seen}
use Rattle.core_making.proofs.Heads.{named_classes, named_further, named_types}
use Rattle.core_making.proofs.above.named.Goals as goal

pub returns-in_default : goal.returns-in_default
returns-in_default c =
    named_types (heads_in (site_at (program_seen c.args.program.now).source.sites c.args.class.0).written) c.args.classes.now
    c.loop-at.heads.items _ c.loop-at.at c.loop-at.invariant (sym c.in_default.ensures.lookup)

pub loop-at-preserved : goal.loop-at-preserved
loop-at-preserved c =
    named_further (heads_in (site_at (program_seen c.args.program.now).source.sites c.args.class.0).written) c.args.classes.now
    c.loop-at.heads.items _ c.loop-at.at c.loop-at.invariant c.push.new.self.items (type_view c.in-Some.ty.now) _
    (sym c.in-Some.ensures.lookup) c.loop-at-test.true
    (c.in_ok-push.ensures.items ∙ ap (λ (h : Head). c.loop-at.heads.items ++ h ∷ []) c.named_head.ensures)

pub returns : goal.returns
returns c =
    named_classes (heads_in (site_at (program_seen c.args.program.now).source.sites c.args.class.0).written) c.args.classes.now
    c.loop-at.heads.items _ c.loop-at.at c.loop-at.invariant c.loop-at-test.false
