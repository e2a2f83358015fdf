use Rattle.std.proofs.Common.{rules, ◌≡◌, ◌∙◌, sym, ap, Bool, false, ◌||◌}
use Rattle.std.specs.List.{list_any}
use Rattle.taming_db.specs.Taming.{enables, is_object_constructor}
use Rattle.taming_db.specs.View.{row_view, rows}
use Rattle.taming_db.proofs.Mapped.{any_seen}
use Rattle.taming_db.proofs.taming.Taming.enabled.Goals as goal

pub returns-else-is_object_constructor : goal.returns-else-is_object_constructor
returns-else-is_object_constructor c =
    let other : false ≡ is_object_constructor c.args.member = search rules in
    c.enables.ensures ∙ ap (λ rows. list_any (λ row. enables c.args.member (row_view row)) rows) c.deref.ensures.value ∙ sym (any_seen (enables c.args.member) row_view c.args.self.now.rows.items)
    ∙ ap (λ (b : Bool). b || list_any (enables c.args.member) (rows c.args.self.now)) other
