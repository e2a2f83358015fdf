-- Widening of numbers, and numeric promotion (JLS 5.1.2, 5.6).
use Rattle.std.specs.Prelude.{ℕ, zero, Bool, true, false, not, ◌&&◌, Option, Some, None, nat_lt}
use Rattle.je_core.specs.declared.types.Base.{Base}
use Rattle.je_core.specs.declared.types.Base.TheVariants as base
use Rattle.je_scopes.specs.SourceTypes.{SourceType, plain}

-- ---- JLS 5.1.2

-- how wide a number is; 0 of what is none
abbrev pub rank : Base → ℕ
rank base.Byte = 1
rank base.Short = 2
rank base.Char = 2
rank base.Int = 3
rank base.Long = 4
rank _ = 0

abbrev pub is_char_base : Base → Bool
is_char_base base.Char = true
is_char_base _ = false

-- to a wider number; nothing widens to a char
abbrev pub widens : Base → Base → Bool
widens from to = nat_lt 0 (rank from) && nat_lt (rank from) (rank to) && not (is_char_base to)

-- ---- JLS 5.6.1

abbrev pub promoted_base : Base → Option Base
promoted_base base.Byte = Some base.Int
promoted_base base.Short = Some base.Int
promoted_base base.Char = Some base.Int
promoted_base base.Int = Some base.Int
promoted_base base.Long = Some base.Long
promoted_base _ = None

abbrev pub promoted : SourceType → Option Base
promoted (plain b zero) = promoted_base b
promoted _ = None

-- ---- JLS 5.6.2

abbrev pub is_long_base : Base → Bool
is_long_base base.Long = true
is_long_base _ = false

-- of two promoted types
abbrev pub wider : Base → Base → Base
wider base.Long b = base.Long
wider a b = b

abbrev pub wider_if : Option Base → Option Base → Option Base
wider_if (Some a) (Some b) = Some (wider a b)
wider_if _ _ = None

abbrev pub promoted_together : SourceType → SourceType → Option Base
promoted_together s t = wider_if (promoted s) (promoted t)
