-- Bytes have one list of characters at most.
use Rattle.std.proofs.Common.{◌≡◌, ℕ, false, Bool, List, length, refl, arith}
use lib.Seq.{take_all}
use Rattle.std.specs.Str.{chars, IsUtf8}
use Rattle.je_decode.specs.Decoding.{Decodes, IsNotUtf8}
use Rattle.je_decode.specs.Escapes.{piece, turns, Translates, Malformed}
use Rattle.je_decode.specs.Places.{placed}
use Rattle.je_decode.specs.declared.character.Character.{Character}
use Rattle.je_lexer.proofs.Meanings.{same_some}

pub translated_is_well : (odd : Bool) (text ds : List Character) (bad : Character) → Translates odd text ds → Malformed odd text bad → ⊥
translated_is_well odd _ _ bad Translates.done worse = elim worse [ ]
translated_is_well odd _ _ bad (Translates.more {c = c} {cs = cs} {p = p} is rest) (Malformed.here not) = absurd (cc)
translated_is_well odd _ _ bad (Translates.more {c = c} {cs = cs} {p = p} {ds = ds} is rest) (Malformed.later {p = q} is' worse) =
    translated_is_well (turns odd c cs) p.rest ds bad rest (rw (same_some (piece odd c cs) p q is is') worse)

one_translation : (odd : Bool) (text ds es : List Character) → Translates odd text ds → Translates odd text es → ds ≡ es
one_translation odd _ _ _ Translates.done Translates.done = refl
one_translation odd _ _ _ (Translates.more {c = c} {cs = cs} {p = p} {ds = ds} is rest) (Translates.more {p = q} {ds = es} is' rest') =
    let same = same_some (piece odd c cs) p q is is' in
    let other : Translates (turns odd c cs) p.rest es = rw same rest' in
    rw (same, one_translation (turns odd c cs) p.rest ds es rest other) refl

pub one_malformed : (odd : Bool) (text : List Character) (bad bad1 : Character) → Malformed odd text bad → Malformed odd text bad1 → bad ≡ bad1
one_malformed odd _ _ _ (Malformed.here not) (Malformed.here not') = refl
one_malformed odd _ _ _ (Malformed.here not) (Malformed.later is' worse') = absurd (cc)
one_malformed odd _ _ _ (Malformed.later is worse) (Malformed.here not') = absurd (cc)
one_malformed odd _ bad bad1 (Malformed.later {c = c} {cs = cs} {p = p} is worse) (Malformed.later {p = q} is' worse') =
    one_malformed (turns odd c cs) p.rest bad bad1 worse (rw (same_some (piece odd c cs) p q is is') worse')

pub invalid : (bytes : List ℕ) (at : ℕ) → IsNotUtf8 bytes at → IsUtf8 bytes → ⊥
invalid bytes at short utf8 = short.longest (length bytes) short.short (rw (take_all (length bytes) bytes (omega arith)) utf8)

pub one_decoding : (bytes : List ℕ) (characters characters1 : List Character) → Decodes bytes characters → Decodes bytes characters1 → characters ≡ characters1
one_decoding bytes characters characters1 decoded decoded1 =
    let one = one_translation false (placed 0 (chars bytes)) decoded.text decoded1.text decoded.translates decoded1.translates in rw (decoded.kept, decoded1.kept, one) refl
