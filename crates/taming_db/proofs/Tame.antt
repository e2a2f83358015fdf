-- What the rows of a text enable is tame.
use Rattle.std.proofs.Common.{◌≡◌, ℕ, ◌+◌, List, [], ◌∷◌, ◌++◌, Option, Some, None, refl, sym, ap, ◌∙◌}
use Rattle.std.proofs.lemmas.List.Folds.{list_all-append}
use Rattle.std.specs.Prelude.{Bool, true, false, not, ◌&&◌, ◌||◌, Result, Ok, Err, if◌then◌else◌}
use Rattle.std.specs.List.{list_all, list_any}
use Rattle.toml.specs.Data.{Data, Items, no_items, item, Members}
use Rattle.je_table.specs.Library.{class_number}
use Rattle.taming_db.specs.declared.fault.TamingRule.{TamingRule}
use Rattle.taming_db.specs.declared.fault.TamingRule.TheVariants.{Wild, FalseHonorary, Twice}
use Rattle.taming_db.specs.Markers.{is_same}
use Rattle.taming_db.specs.Shape.{Table, table_of, tables_of}
use Rattle.taming_db.specs.Rows.{Row, Found, behind, has_twice, is_of, is_true_marker, judged, member_places, row_of, rows_from, rows_of, same_place, with_class, with_members, with_table}
use Rattle.taming_db.specs.Tame.{enables_tame, enable_tame, WhatIsEnabledIsTame}
use Rattle.taming_db.specs.Taming.{document}

abbrev held : {X E : Type 0} → X → Result X E → X
held x (Ok y) = y
held x (Err e) = x

abbrev told : Bool → Bool → Bool → Row → Result Row TamingRule
told tame honest twice row = if not tame then Err Wild else if not honest then Err FalseHonorary else if twice then Err Twice else Ok row

told-tame : (tame honest twice : Bool) (row r : Row) → enables_tame row ≡ tame → told tame honest twice row ≡ Ok r → enables_tame r ≡ true
told-tame true true false row r h e = ap (λ (q : Result Row TamingRule). enables_tame (held row q)) (sym e) ∙ h
told-tame true true true row r h e = absurd cc
told-tame true false twice row r h e = absurd cc
told-tame false honest twice row r h e = absurd cc

module _ (earlier : List Row) (r : Row) where
  judged-tame : (row : Row) → judged earlier row ≡ Ok r → enables_tame r ≡ true
  judged-tame row e = told-tame (enables_tame row) (list_all (is_true_marker row.class) row.honorary) (list_any (is_of row.class) earlier || has_twice is_same row.honorary || has_twice same_place row.enable) row r refl e

  members-tame : (t : Table) (class : ℕ) (o : Option (List ℕ)) → with_members earlier t class o ≡ Ok r → enables_tame r ≡ true
  members-tame t class None e = absurd cc
  members-tame t class (Some places) e = judged-tame (record { class = class; honorary = t.honorary; extend = t.extend; enable = places }) e

  class-tame : (t : Table) (o : Option ℕ) → with_class earlier t o ≡ Ok r → enables_tame r ≡ true
  class-tame t None e = absurd cc
  class-tame t (Some class) e = members-tame t class (member_places t.name t.enable) e

  table-tame : (o : Option Table) → with_table earlier o ≡ Ok r → enables_tame r ≡ true
  table-tame None e = absurd cc
  table-tame (Some t) e = class-tame t (class_number t.name) e

both : (a b : Bool) → a ≡ true → b ≡ true → (a && b) ≡ true
both true b h k = k
both false b h k = h

one-more : (earlier : List Row) (row : Row) → enable_tame earlier ≡ true → enables_tame row ≡ true → enable_tame (earlier ++ row ∷ []) ≡ true
one-more earlier row h k = list_all-append enables_tame earlier (row ∷ []) ∙ both (enable_tame earlier) (enable_tame (row ∷ [])) h (both (enables_tame row) true k refl)

-- the row of a table, before those of the tables behind it
row-tame : (n : ℕ) (earlier : List Row) (d : Data) (rest : Items) (rs : List Row) → enable_tame earlier ≡ true
    → ((more : List Row) → enable_tame more ≡ true → rows_from (n + 1) more rest ≡ Ok rs → enable_tame rs ≡ true)
    → (q : Result Row TamingRule) → row_of earlier d ≡ q → behind n q (λ row. rows_from (n + 1) (earlier ++ row ∷ []) rest) ≡ Ok rs → enable_tame rs ≡ true
row-tame n earlier d rest rs h next (Ok row) k e = next (earlier ++ row ∷ []) (one-more earlier row h (table-tame earlier row (table_of d) k)) e
row-tame n earlier d rest rs h next (Err rule) k e = absurd cc

tables-tame : (n : ℕ) (earlier : List Row) (items : Items) (rs : List Row) → enable_tame earlier ≡ true → rows_from n earlier items ≡ Ok rs → enable_tame rs ≡ true
tables-tame n earlier no_items rs h e = ap (λ (q : Found). enable_tame (held earlier q)) (sym e) ∙ h
tables-tame n earlier (item d rest) rs h e = row-tame n earlier d rest rs h (λ more g f. tables-tame (n + 1) more rest rs g f) (row_of earlier d) refl e

pub rows_tame : (items : Items) (rs : List Row) → rows_from 1 [] items ≡ Ok rs → enable_tame rs ≡ true
rows_tame items rs e = tables-tame 1 [] items rs refl e

document-tame : (o : Option Items) (d : Members) (rs : List Row) → tables_of d ≡ o → rows_of d ≡ Ok rs → enable_tame rs ≡ true
document-tame None d rs t e = absurd cc
document-tame (Some items) d rs t e = rows_tame items rs cc

pub enabled_is_tame : WhatIsEnabledIsTame
enabled_is_tame bytes rs (document {d} u p e) = document-tame (tables_of d) d rs refl e
