-- The order of keys is total, and its ties are the equal keys.
use Rattle.std.proofs.Common.{◌≡◌, ℕ, List, ◌&&◌, sym}
use Rattle.std.specs.Cmp.{IsTotalOrder, on_total, both_tied}
use Rattle.std.specs.Ordering.{is_eq}
use Rattle.std.specs.Str.{bytes_eq}
use Rattle.std.proofs.lemmas.Cmp.{nat_list_cmp_total, then_total}
use Rattle.std.proofs.lemmas.Map.Text.{is_eq-slice_cmp}
use Rattle.je_table.specs.Tables.{text_cmp}
use Rattle.je_table.specs.Members.{key_cmp}

pub text_tied : (word text : List ℕ) → bytes_eq text word ≡ is_eq (text_cmp text word)
text_tied word text = sym (is_eq-slice_cmp text word)

pub key_cmp-total : IsTotalOrder key_cmp
key_cmp-total = then_total (on_total (λ (key : List ℕ × List ℕ). key.0) nat_list_cmp_total) (on_total (λ (key : List ℕ × List ℕ). key.1) nat_list_cmp_total)

pub key_tied : (sought key : List ℕ × List ℕ) → (bytes_eq key.0 sought.0 && bytes_eq key.1 sought.1) ≡ is_eq (key_cmp key sought)
key_tied sought key = both_tied _ _ _ _ (text_tied sought.0 key.0) (text_tied sought.1 key.1)
