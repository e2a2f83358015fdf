-- The numbers of variables: the locals of a body have the even ones, the fields of its class the odd ones.
use Rattle.std.specs.Prelude.{ℕ, ◌+◌, ◌*◌}

abbrev pub local_number : ℕ → ℕ
local_number local = local * 2

abbrev pub field_number : ℕ → ℕ
field_number field = field * 2 + 1
