-- What the reading of a document says of its text.
use Rattle.std.proofs.Common.{◌≡◌, ℕ, ◌+◌, ◌<◌, List, [], ◌∷◌, ◌++◌, map, length, drop, get_or, Some, sym, ap, ◌∙◌}
use Rattle.std.proofs.lemmas.List.{map-append}
use Rattle.std.specs.Prelude.{Result, Ok, Err, IfOk, IfErr}
use Rattle.std.specs.Str.{IsUtf8}
use Rattle.toml.specs.Data.{Items, Members}
use Rattle.toml.specs.declared.value.Value.{Value}
use Rattle.toml.specs.View.{items_view, view}
use Rattle.toml.proofs.Views.{items_view-drop}
use Rattle.toml.specs.Parse.{parse_document}
use Rattle.taming_db.specs.declared.fault.TamingFault.{TamingFault}
use Rattle.taming_db.specs.declared.fault.TamingFault.TheVariants.{Refused, Memory}
use Rattle.taming_db.specs.declared.fault.TamingRule.{TamingRule}
use Rattle.taming_db.specs.declared.taming.Row.{Row as HeldRow}
use Rattle.taming_db.specs.declared.taming.Taming.{Taming}
use Rattle.taming_db.specs.Rows.{Row, Found, behind, row_of, rows_from, rows_of}
use Rattle.taming_db.specs.Taming.{Says, document, IsFaultOf}
use Rattle.taming_db.specs.View.{row_view, rows}
use Rattle.taming_db.specs.way.Faults.{IsAt}

module _ {bytes : List ℕ} {d : Members} (utf8 : IsUtf8 bytes) (parsed : parse_document bytes ≡ Some d) where
  pub ok_says : (r : Result Taming TamingFault) → IfOk r (λ t. rows_of d ≡ Ok (rows t)) → IfOk r (λ t. Says bytes (Ok (rows t)))
  ok_says (Ok t) e = document utf8 parsed e
  ok_says (Err f) e = tt

  fault_says : (f : TamingFault) → IsAt (rows_of d) f → IsFaultOf bytes f
  fault_says (Refused table rule) e = document utf8 parsed e
  fault_says Memory e = tt

  pub err_says : (r : Result Taming TamingFault) → IfErr r (IsAt (rows_of d)) → IfErr r (IsFaultOf bytes)
  err_says (Ok t) e = tt
  err_says (Err f) e = fault_says f e

-- one table more
pub next_table : (tables : List Value) (i : ℕ) (v : Value) (earlier : List HeldRow) (row : HeldRow) (after : List HeldRow) (whole : Found)
    → i < length tables → v ≡ get_or tables i v → after ≡ earlier ++ row ∷ []
    → Ok (row_view row) ≡ row_of (map row_view earlier) (view v)
    → rows_from (i + 1) (map row_view earlier) (items_view (drop i tables)) ≡ whole
    → rows_from (i + 1 + 1) (map row_view after) (items_view (drop (i + 1) tables)) ≡ whole
next_table tables i v earlier row after whole within here grown judged l =
    ap (λ (rs : List HeldRow). rows_from (i + 1 + 1) (map row_view rs) (items_view (drop (i + 1) tables))) grown
    ∙ ap (λ (rs : List Row). rows_from (i + 1 + 1) rs (items_view (drop (i + 1) tables))) (map-append row_view earlier (row ∷ []))
    ∙ ap (λ (r : Result Row TamingRule). behind (i + 1) r (λ row. rows_from (i + 1 + 1) (map row_view earlier ++ row ∷ []) (items_view (drop (i + 1) tables)))) judged
    ∙ ap (λ (w : Value). behind (i + 1) (row_of (map row_view earlier) (view w)) (λ row. rows_from (i + 1 + 1) (map row_view earlier ++ row ∷ []) (items_view (drop (i + 1) tables)))) here
    ∙ sym (ap (λ (items : Items). rows_from (i + 1) (map row_view earlier) items) (items_view-drop tables i v within))
    ∙ l
