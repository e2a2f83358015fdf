-- A literal has one meaning, or one first bad backslash, and not both.
use Rattle.std.proofs.Common.{◌≡◌, ℕ, List, Option, Some, refl}
use Rattle.je_decode.specs.declared.character.Character.{Character}
use Rattle.je_lexer.specs.Texts.{text_piece, Means, HasBadBackslash}

pub same_some : {A : Type 0} (o : Option A) (a b : A) → o ≡ Some a → o ≡ Some b → a ≡ b
same_some o a b e f = cc

pub meaning_is_well : (text : List Character) (units : List ℕ) (bad : Character) → Means text units → HasBadBackslash text bad → ⊥
meaning_is_well _ _ bad Means.done worse = elim worse [ ]
meaning_is_well _ _ bad (Means.more {c = c} {cs = cs} is rest) (HasBadBackslash.here not) = absurd (cc)
meaning_is_well _ _ bad (Means.more {c = c} {cs = cs} {p = p} {units = units} is rest) (HasBadBackslash.later {p = q} is' worse) =
    meaning_is_well p.rest units bad rest (rw (same_some (text_piece c cs) p q is is') worse)

pub one_meaning : (text : List Character) (units units1 : List ℕ) → Means text units → Means text units1 → units ≡ units1
one_meaning _ _ _ Means.done Means.done = refl
one_meaning _ _ _ (Means.more {c = c} {cs = cs} {p = p} {units = us} is rest) (Means.more {p = q} {units = vs} is' rest') =
    let same = same_some (text_piece c cs) p q is is' in
    let other : Means p.rest vs = rw same rest' in
    rw (same, one_meaning p.rest us vs rest other) refl

pub one_backslash : (text : List Character) (bad bad1 : Character) → HasBadBackslash text bad → HasBadBackslash text bad1 → bad ≡ bad1
one_backslash _ _ _ (HasBadBackslash.here not) (HasBadBackslash.here not') = refl
one_backslash _ _ _ (HasBadBackslash.here not) (HasBadBackslash.later is' worse') = absurd (cc)
one_backslash _ _ _ (HasBadBackslash.later is worse) (HasBadBackslash.here not') = absurd (cc)
one_backslash _ bad bad1 (HasBadBackslash.later {c = c} {cs = cs} {p = p} is worse) (HasBadBackslash.later {p = q} is' worse') =
    one_backslash p.rest bad bad1 worse (rw (same_some (text_piece c cs) p q is is') worse')
