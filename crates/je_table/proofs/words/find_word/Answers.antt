-- The row at the boundary is the word, or no row is.
use Rattle.std.proofs.Common.{arith, sym, ◌≡◌, ℕ, List, Bor}
use Rattle.std.specs.Ordering.{is_eq}
use Rattle.std.specs.Str.{bytes_eq}
use Rattle.std.proofs.lemmas.Cmp.{nat_list_cmp_total}
use Rattle.std.proofs.lemmas.Map.Text.{is_eq-slice_cmp}
use Rattle.je_table.specs.Tables.{text_cmp}
use Rattle.je_table.proofs.Search.{found, absent}
use Rattle.je_table.proofs.words.find_word.Goals as goal
use Rattle.je_table.proofs.words.find_word.Goals.{else-at-rows-via-then-at-rows+else-eq, else-at-rows-via-else-at-rows}

decides : (word row : List ℕ) → bytes_eq row word ≡ is_eq (text_cmp row word)
decides word row = sym (is_eq-slice_cmp row word)

pub returns-then-eq : goal.returns-then-eq
returns-then-eq c =
    found (λ (row : Bor (List ℕ)). row.now) nat_list_cmp_total c.args.word.now (λ row. bytes_eq row c.args.word.now) (decides c.args.word.now) c.args.rows.now c.count_before-at.result c.count_before-at.ensures _
    (omega arith) (sym c.if-eq.ensures)

pub returns-else-at-rows : goal.returns-else-at-rows
returns-else-at-rows c =
    absent (λ (row : Bor (List ℕ)). row.now) nat_list_cmp_total c.args.word.now (λ row. bytes_eq row c.args.word.now) (decides c.args.word.now) c.args.rows.now c.count_before-at.result c.count_before-at.ensures _ c.requires
    (λ lt. elim c.else-at-rows.branch [ else-at-rows-via-then-at-rows+else-eq w ↦ sym w.if-eq.ensures | else-at-rows-via-else-at-rows w ↦ absurd (omega arith) ])
