-- JLS 3.1, 3.3 and 3.5: the characters of a source file, its Unicode escapes translated, without a control-Z at its end.
use Rattle.std.specs.Prelude.{◌≡◌, ℕ, ◌-◌, Bool, false, ◌==◌, List, [], ◌∷◌, length, take, if◌then◌else◌}
use Rattle.std.specs.Str.{chars, IsUtf8, IsValidUpTo}
use Rattle.je_decode.specs.Escapes.{Translates, Malformed}
use Rattle.je_decode.specs.Places.{placed}
use Rattle.je_decode.specs.declared.character.Character.{Character}
use Rattle.je_decode.specs.declared.fault.DecodeFault.{DecodeFault}
use Rattle.je_decode.specs.declared.fault.DecodeFault.TheVariants as fault

abbrev pub control_z : ℕ
control_z = 26

abbrev pub ends_in_mark : List Character → Bool
ends_in_mark [] = false
ends_in_mark (c ∷ []) = c.code == control_z
ends_in_mark (c ∷ d ∷ cs) = ends_in_mark (d ∷ cs)

abbrev pub without_mark : List Character → List Character
without_mark cs = if ends_in_mark cs then take (length cs - 1) cs else cs

-- The bytes spell these characters.
pub record Decodes (bytes : List ℕ) (all : List Character) : Type 0 where
  pub utf8 : IsUtf8 bytes
  pub text : List Character
  pub translates : Translates false (placed 0 (chars bytes)) text
  pub kept : all ≡ without_mark text

-- The first byte that begins no well-formed sequence of UTF-8 is at this place.
abbrev pub IsNotUtf8 : List ℕ → ℕ → Type 0
IsNotUtf8 = IsValidUpTo

-- The bytes are UTF-8, and this backslash begins the first malformed escape.
pub record HasBadEscape (bytes : List ℕ) (bad : Character) : Type 0 where
  pub utf8 : IsUtf8 bytes
  pub malformed : Malformed false (placed 0 (chars bytes)) bad

-- Why bytes have no characters, unless memory ran out.
abbrev pub IsRefused : List ℕ → DecodeFault → Type 0
IsRefused bytes fault.Memory = Unit {0}
IsRefused bytes (fault.NotUtf8 at) = IsNotUtf8 bytes at
IsRefused bytes (fault.BadEscape bad) = HasBadEscape bytes bad
