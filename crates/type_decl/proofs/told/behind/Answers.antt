use Rattle.std.proofs.Common.{◌≡◌, map, ap, sym, ◌∙◌}
use Rattle.std.specs.List.{list_any}
use Rattle.body_places.specs.Tables.{constant_at}
use Rattle.member_forms.specs.Bodies.{met_seen}
use Rattle.name_sites.specs.View.{source_of}
use Rattle.type_decl.specs.way.Telling.{tells}
use Rattle.type_decl.proofs.Telling.{nothing_told}
use Rattle.type_decl.proofs.told.behind.Goals as goal

pub returns-then-not-tells-clause-constants : goal.returns-then-not-tells-clause-constants
returns-then-not-tells-clause-constants c =
    nothing_told (source_of c.args.sites.now) (map met_seen c.args.done.all.met.items) (map met_seen c.args.new.items) (constant_at c.args.done.constants.items)
    (ap (λ ms. list_any tells (map met_seen ms)) (sym c.deref.ensures.value) ∙ sym c.tells.ensures ∙ c.if-not-tells.true)
