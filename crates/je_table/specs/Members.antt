-- The order of the library's members: by their class, then by their signature.
use Rattle.std.specs.Prelude.{ℕ, List, ◌&&◌, map, Option}
use Rattle.std.specs.List.{position}
use Rattle.std.specs.Ordering.{ordering_then}
use Rattle.std.specs.declared.cmp.Ordering.{Ordering}
use Rattle.std.specs.Str.{bytes_eq}
use Rattle.je_table.specs.Tables.{text_cmp}
use Rattle.je_table.specs.declared.members.MemberRow.{MemberRow}

-- the order of two keys, each a class and a signature
abbrev pub key_cmp : List ℕ × List ℕ → List ℕ × List ℕ → Ordering
key_cmp x y = ordering_then (text_cmp x.0 y.0) (text_cmp x.1 y.1)

abbrev pub key_of : MemberRow → List ℕ × List ℕ
key_of row = (row.class.now, row.signature.now)

abbrev pub keys : List MemberRow → List (List ℕ × List ℕ)
keys = map key_of

-- the place of the first key that has this class and this signature
abbrev pub place_of_key : List ℕ → List ℕ → List (List ℕ × List ℕ) → Option ℕ
place_of_key class signature = position (λ key. bytes_eq key.0 class && bytes_eq key.1 signature)
