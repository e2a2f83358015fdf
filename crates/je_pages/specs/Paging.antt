-- The pages of a row: each of as many values as one has, but for the last.
use Rattle.std.specs.Prelude.{ℕ, ◌*◌, List, take, drop}

-- how many values a page has
abbrev pub page_length : ℕ
page_length = 4096

-- the values of a row on the page of a number, as many as are there
abbrev pub page_of : {A : Type 0} → List A → ℕ → List A
page_of row at = take page_length (drop (page_length * at) row)
