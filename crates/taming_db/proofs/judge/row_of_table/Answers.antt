use Rattle.std.proofs.Common.{◌≡◌, ◌∙◌, sym, ap, map, Option, Some, None, ℕ, string_bytes}
use Rattle.je_table.specs.Library.{class_number}
use Rattle.taming_db.specs.Rows.{with_class}
use Rattle.taming_db.specs.View.{row_view, table_view}
use Rattle.taming_db.proofs.judge.row_of_table.Goals as goal

pub returns-in-None : goal.returns-in-None
returns-in-None c =
    let named : None ≡ class_number (string_bytes c.args.table.name) = c.in-None.ensures ∙ ap class_number c.as_str.ensures.value in
    ap (λ (o : Option ℕ). with_class (map row_view c.args.earlier.now) (table_view c.args.table) o) named

pub returns-in-Some : goal.returns-in-Some
returns-in-Some c =
    let named : Some c.in-Some.class ≡ class_number (string_bytes c.args.table.name) = c.in-Some.ensures ∙ ap class_number c.as_str.ensures.value in
    rw (sym named) c.row_of_class.ensures
