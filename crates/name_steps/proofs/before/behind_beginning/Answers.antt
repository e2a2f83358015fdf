use Rattle.std.proofs.Common.{List, ◌∷◌, Some, None, sym, ap, ◌∙◌}
use Rattle.je_ast.specs.declared.name.Identifier.{Identifier}
use Rattle.name_sites.specs.Number.{number_in}
use Rattle.body_places.specs.Places.{place_seen}
use Rattle.body_places.specs.View.{program_seen}
use Rattle.name_steps.proofs.FullNames.{one_part_more}
use Rattle.name_steps.proofs.before.behind_beginning.Goals as goal

pub returns-in-Some : goal.returns-in-Some
returns-in-Some c = one_part_more (program_seen c.args.program.now) (place_seen c.args.place) c.args.id c.args.span c.args.first c.args.further.items
    c.push.new.self.items c.deref-2.result.now (Some c.in-Some.class.0) c.in_ok-push.ensures.items
    (c.deref-2.ensures.value ∙ c.in_ok-parts.ensures ∙ ap (λ (ws : List Identifier). c.args.first ∷ ws) c.deref.ensures.value)
    (sym (ap number_in c.in-Some.is) ∙ c.in_ok-class.ensures)

pub returns-in-None : goal.returns-in-None
returns-in-None c = one_part_more (program_seen c.args.program.now) (place_seen c.args.place) c.args.id c.args.span c.args.first c.args.further.items
    c.push.new.self.items c.deref-2.result.now None c.in_ok-push.ensures.items
    (c.deref-2.ensures.value ∙ c.in_ok-parts.ensures ∙ ap (λ (ws : List Identifier). c.args.first ∷ ws) c.deref.ensures.value)
    (sym (ap number_in c.in-None.is) ∙ c.in_ok-class.ensures)
