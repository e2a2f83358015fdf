-- The markers of Joe-E, by their simple names, and sets of them as sums.
use Rattle.std.specs.Prelude.{ℕ, ◌==◌, not, bit_and, Bool, List, Option, Some, None, codes, if◌then◌else◌}
use Rattle.std.specs.Str.{bytes_eq}
use Rattle.taming_db.specs.declared.marker.Marker.{Marker}
use Rattle.taming_db.specs.declared.marker.Marker.TheVariants.{Immutable, Powerless, Selfless, Equatable}

abbrev pub named : List ℕ → Option Marker
named text =
    if bytes_eq text (codes "Immutable") then Some Immutable
    else if bytes_eq text (codes "Powerless") then Some Powerless
    else if bytes_eq text (codes "Selfless") then Some Selfless
    else if bytes_eq text (codes "Equatable") then Some Equatable
    else None

abbrev pub weight : Marker → ℕ
weight Immutable = 1
weight Powerless = 2
weight Selfless = 4
weight Equatable = 8

-- the sum has the marker's weight in it
abbrev pub is_in : ℕ → Marker → Bool
is_in markers m = not (bit_and markers (weight m) == 0)

abbrev pub is_same : Marker → Marker → Bool
is_same m n = weight m == weight n
