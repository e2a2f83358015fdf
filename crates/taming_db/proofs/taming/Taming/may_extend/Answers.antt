use Rattle.std.proofs.Common.{rules, ◌≡◌, ◌∙◌, sym, ap, Bool, false, ◌||◌}
use Rattle.std.specs.List.{list_any}
use Rattle.taming_db.specs.Taming.{opens, is_always_open}
use Rattle.taming_db.specs.View.{row_view, rows}
use Rattle.taming_db.proofs.Mapped.{any_seen}
use Rattle.taming_db.proofs.taming.Taming.may_extend.Goals as goal

pub returns-else-is_always_open : goal.returns-else-is_always_open
returns-else-is_always_open c =
    let other : false ≡ is_always_open c.args.class = search rules in
    c.opens.ensures ∙ ap (λ rows. list_any (λ row. opens c.args.class (row_view row)) rows) c.deref.ensures.value ∙ sym (any_seen (opens c.args.class) row_view c.args.self.now.rows.items)
    ∙ ap (λ (b : Bool). b || list_any (opens c.args.class) (rows c.args.self.now)) other
