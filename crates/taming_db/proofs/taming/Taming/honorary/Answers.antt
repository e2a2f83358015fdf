use Rattle.std.proofs.Common.{◌∙◌, sym, ap}
use Rattle.std.specs.List.{list_any}
use Rattle.taming_db.specs.Taming.{gives_marker}
use Rattle.taming_db.specs.View.{row_view}
use Rattle.taming_db.proofs.Mapped.{any_seen}
use Rattle.taming_db.proofs.taming.Taming.honorary.Goals as goal

pub returns : goal.returns
returns c =
    c.gives.ensures ∙ ap (λ rows. list_any (λ row. gives_marker c.args.class c.args.marker (row_view row)) rows) c.deref.ensures.value
    ∙ sym (any_seen (gives_marker c.args.class c.args.marker) row_view c.args.self.now.rows.items)
