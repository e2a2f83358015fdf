-- Worked rows of the table of devices, checked as they stand.
use Rattle.std.proofs.Common.{◌≡◌, refl, ℕ, ℤ, pos, negsuc, List, [], ◌∷◌, Some, None, replicate, IsTrue, Bool, true, false}
use Rattle.caps.specs.declared.request.Request.TheVariants.{Print, GetNumber, SetNumber, Now, Next, GetText, PutText}
use Rattle.caps.specs.declared.request.DeviceAnswer.TheVariants.{Void, Number, Text, NoText, Refused}
use Rattle.caps.specs.declared.store.Pair.{Pair}
use Rattle.caps.specs.States.{console, cell, clock, inbox, store}
use Rattle.caps.specs.Table.{answer_in, state_after, refusal}
use Rattle.caps.specs.Forms.{has_form}

-- a console keeps what is printed, an empty text too
printed : state_after (Print []) (console ((65 ∷ []) ∷ [])) ≡ console ((65 ∷ []) ∷ [] ∷ [])
printed = refl

-- a cell gives its number and keeps it, or keeps another one
given : answer_in (cell (pos 7)) GetNumber ≡ Number (pos 7)
given = refl

not_changed : state_after GetNumber (cell (pos 7)) ≡ cell (pos 7)
not_changed = refl

changed : state_after (SetNumber (negsuc 0)) (cell (pos 7)) ≡ cell (negsuc 0)
changed = refl

-- a clock tells its time before it goes on, and wraps
told : answer_in (clock (pos 5) (pos 2)) Now ≡ Number (pos 5)
told = refl

gone_on : state_after Now (clock (pos 5) (pos 2)) ≡ clock (pos 7) (pos 2)
gone_on = refl

wrapped : state_after Now (clock (pos 9223372036854775807) (pos 1)) ≡ clock (negsuc 9223372036854775807) (pos 1)
wrapped = refl

-- an inbox hands out the first text, and refuses where none waits
handed : answer_in (inbox ((65 ∷ []) ∷ (66 ∷ []) ∷ [])) Next ≡ Text (65 ∷ [])
handed = refl

left : state_after Next (inbox ((65 ∷ []) ∷ (66 ∷ []) ∷ [])) ≡ inbox ((66 ∷ []) ∷ [])
left = refl

empty : answer_in (inbox []) Next ≡ Refused (pos 1)
empty = refl

-- a store: a key that is there, and one that isn't
abbrev pair : List ℕ → List ℕ → Pair
pair key text = record { key = key; text = text }

found : answer_in (store (pair (65 ∷ []) (1 ∷ []) ∷ [])) (GetText (65 ∷ [])) ≡ Text (1 ∷ [])
found = refl

not_found : answer_in (store (pair (65 ∷ []) (1 ∷ []) ∷ [])) (GetText (66 ∷ [])) ≡ NoText
not_found = refl

-- a text replaces that of its key in its place, and stands last under a new one
replaced : state_after (PutText (65 ∷ []) (2 ∷ [])) (store (pair (65 ∷ []) (1 ∷ []) ∷ pair [] [] ∷ [])) ≡ store (pair (65 ∷ []) (2 ∷ []) ∷ pair [] [] ∷ [])
replaced = refl

added : state_after (PutText (66 ∷ []) []) (store (pair (65 ∷ []) (1 ∷ []) ∷ [])) ≡ store (pair (65 ∷ []) (1 ∷ []) ∷ pair (66 ∷ []) [] ∷ [])
added = refl

-- the greatest key, and one that is longer; the same of texts
long_key : refusal (replicate 64 65) [] [] ≡ None
long_key = refl

longer_key : refusal (replicate 65 65) (replicate 4097 65) [] ≡ Some (pos 2)
longer_key = refl

long_text : refusal [] (replicate 4096 65) [] ≡ None
long_text = refl

longer_text : refusal [] (replicate 4097 65) [] ≡ Some (pos 3)
longer_text = refl

-- 256 pairs: a new key is refused, one that is there isn't
full : refusal (66 ∷ []) [] (replicate 256 (pair (65 ∷ []) [])) ≡ Some (pos 4)
full = refl

still_kept : refusal (65 ∷ []) [] (replicate 256 (pair (65 ∷ []) [])) ≡ None
still_kept = refl

room : refusal (66 ∷ []) [] (replicate 255 (pair (65 ∷ []) [])) ≡ None
room = refl

-- forms: an inbox may refuse for one reason alone, a store for three others
refuses : has_form Next (Refused (pos 1)) ≡ true
refuses = refl

other_reason : has_form Next (Refused (pos 2)) ≡ false
other_reason = refl

no_text : has_form Next NoText ≡ false
no_text = refl

store_refuses : has_form (PutText [] []) (Refused (pos 4)) ≡ true
store_refuses = refl

store_tells_nothing : has_form (PutText [] []) NoText ≡ false
store_tells_nothing = refl
