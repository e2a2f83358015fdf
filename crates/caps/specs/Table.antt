-- What the devices answer, and their next states: one case for each request to a device of its kind.
use Rattle.std.specs.Prelude.{ℕ, ℤ, pos, List, [], ◌∷◌, ◌++◌, length, Bool, ◌&&◌, nat_lt, nat_le, Option, Some, None, is_none, option_map, if◌then◌else◌}
use Rattle.std.specs.Int.{w64, int_wrapping_add}
use Rattle.std.specs.List.{find}
use Rattle.std.specs.Str.{bytes_eq}
use Rattle.caps.specs.declared.request.Request.{Request}
use Rattle.caps.specs.declared.request.Request.TheVariants.{Print, GetNumber, SetNumber, Now, Next, GetText, PutText}
use Rattle.caps.specs.declared.request.DeviceAnswer.{DeviceAnswer}
use Rattle.caps.specs.declared.request.DeviceAnswer.TheVariants.{Void, Number, Text, NoText, Refused}
use Rattle.caps.specs.declared.store.Pair.{Pair}
use Rattle.caps.specs.States.{State, console, cell, clock, inbox, store}

-- ---- a store

abbrev pub is_under : List ℕ → Pair → Bool
is_under key pair = bytes_eq pair.key key

abbrev pub text_under : List ℕ → List Pair → Option (List ℕ)
text_under key pairs = option_map (λ (pair : Pair). pair.text) (find (is_under key) pairs)

-- the pair with another text in its place, or behind the others where its key is new
abbrev pub with_text : List ℕ → List ℕ → List Pair → List Pair
with_text key text [] = record { key = key; text = text } ∷ []
with_text key text (pair ∷ pairs) =
    if bytes_eq pair.key key then record { key = pair.key; text = text } ∷ pairs else pair ∷ with_text key text pairs

-- why a store doesn't keep a text: a key of more than 64 units, a text of more than 4,096, a new key where there are 256
abbrev pub refusal : List ℕ → List ℕ → List Pair → Option ℤ
refusal key text pairs =
    if nat_lt 64 (length key) then Some (pos 2)
    else if nat_lt 4096 (length text) then Some (pos 3)
    else if is_none (text_under key pairs) && nat_le 256 (length pairs) then Some (pos 4)
    else None

abbrev pub kept_answer : Option ℤ → DeviceAnswer
kept_answer None = Void
kept_answer (Some reason) = Refused reason

abbrev pub found_answer : Option (List ℕ) → DeviceAnswer
found_answer None = NoText
found_answer (Some text) = Text text

abbrev pub kept : List ℕ → List ℕ → List Pair → List Pair
kept key text pairs = if is_none (refusal key text pairs) then with_text key text pairs else pairs

-- ---- an inbox

abbrev pub next_answer : List (List ℕ) → DeviceAnswer
next_answer [] = Refused (pos 1)
next_answer (text ∷ texts) = Text text

abbrev pub without_first : List (List ℕ) → List (List ℕ)
without_first [] = []
without_first (text ∷ texts) = texts

-- ---- all of them; a request of another kind is never made

abbrev pub answer_in : State → Request → DeviceAnswer
answer_in (cell number) GetNumber = Number number
answer_in (clock time step) Now = Number time
answer_in (inbox texts) Next = next_answer texts
answer_in (store pairs) (GetText key) = found_answer (text_under key pairs)
answer_in (store pairs) (PutText key text) = kept_answer (refusal key text pairs)
answer_in _ _ = Void

abbrev pub state_after : Request → State → State
state_after (Print text) (console texts) = console (texts ++ text ∷ [])
state_after (SetNumber number) (cell old) = cell number
state_after Now (clock time step) = clock (int_wrapping_add w64 time step) step
state_after Next (inbox texts) = inbox (without_first texts)
state_after (PutText key text) (store pairs) = store (kept key text pairs)
state_after _ state = state
