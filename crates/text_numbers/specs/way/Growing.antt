-- A number that grows by a digit, up to a greatest one.
use Rattle.std.specs.Prelude.{ℕ, ◌+◌, ◌-◌, ◌*◌, nat_le, Option, Some, None, if◌then◌else◌}
use Rattle.text_numbers.specs.Reading.{is_digit}

-- the number, where it is at most `most`
abbrev pub at_most : ℕ → Option ℕ → Option ℕ
at_most most None = None
at_most most (Some number) = if nat_le number most then Some number else None

abbrev pub with_digit_at_most : ℕ → ℕ → ℕ → Option ℕ
with_digit_at_most most number unit =
    if is_digit unit then at_most most (Some (number * 10 + (unit - 48))) else None
