-- A store with another text under a key, by the place of the key.
use Rattle.std.proofs.Common.{◌≡◌, refl, sym, ap, arith, ℕ, ◌+◌, ◌<◌, ◌≤◌, Bool, true, false, not, cond, List, [], ◌∷◌, ◌++◌, length, slice_get, slice_index_or, slice_set, Some, None, position, bytes_eq, nat_lt, IsTrue, OnOk, OnErr, Result, Ok, Err}
use Rattle.std.specs.List.{position_or_len, prefix_len}
use Rattle.std.proofs.lemmas.Option.{none-some, slice_get_read}
use Rattle.caps.specs.declared.store.Pair.{Pair}
use Rattle.std.specs.List.{list_all}
use Rattle.je_base.specs.declared.memory.Memory.{Memory}
use Rattle.caps.specs.Forms.{is_kept_text as is_found, is_keeping, is_small}
use Rattle.caps.specs.Small.{is_small_pair}
use Rattle.caps.specs.Table.{found_answer, is_under, kept_answer, refusal, text_under, with_text}

abbrev pub first_place : List ℕ → List Pair → ℕ
first_place key pairs = position_or_len (is_under key) pairs

-- the text is put in the place of that under the key
pub replaced : (key text : List ℕ) (pairs : List Pair) (pair : Pair) → slice_get pairs (first_place key pairs) ≡ Some pair
    → slice_set pairs (first_place key pairs) (record { key = pair.key; text = text }) ≡ with_text key text pairs
replaced key text [] pair e = absurd (none-some pair e)
replaced key text (p ∷ ps) pair e = by (bytes_eq p.key key) refl (replaced key text ps pair)
  where
    by : (b : Bool) → bytes_eq p.key key ≡ b → (slice_get ps (first_place key ps) ≡ Some pair → slice_set ps (first_place key ps) (record { key = pair.key; text = text }) ≡ with_text key text ps) → slice_set (p ∷ ps) (first_place key (p ∷ ps)) (record { key = pair.key; text = text }) ≡ with_text key text (p ∷ ps)
    by true is rest = grind (arith, is, e)
    by false is rest = grind (arith, is, e, rest)

-- or a pair is put behind the others
pub added : (key text : List ℕ) (pairs : List Pair) → length pairs ≤ first_place key pairs
    → pairs ++ record { key = key; text = text } ∷ [] ≡ with_text key text pairs
added key text [] le = refl
added key text (p ∷ ps) le = by (bytes_eq p.key key) refl (added key text ps)
  where
    by : (b : Bool) → bytes_eq p.key key ≡ b → (length ps ≤ first_place key ps → ps ++ record { key = key; text = text } ∷ [] ≡ with_text key text ps) → p ∷ ps ++ record { key = key; text = text } ∷ [] ≡ with_text key text (p ∷ ps)
    by true is rest = grind (arith, is, le)
    by false is rest = grind (arith, is, le, rest)

-- the same by the place that is found
pub kept_at : (key text copy : List ℕ) (pairs : List Pair) (at : ℕ) (pair : Pair) → copy ≡ text → position (is_under key) pairs ≡ Some at
    → pair ≡ slice_index_or pairs at pair → slice_set pairs at (record { key = pair.key; text = copy }) ≡ with_text key text pairs
kept_at key text copy pairs at pair same is got = grind (arith, same, is, got, slice_get_read pairs (length pairs) at pair refl, replaced key text pairs pair)

pub added_where : (key text : List ℕ) (pairs : List Pair) → position (is_under key) pairs ≡ None
    → pairs ++ record { key = key; text = text } ∷ [] ≡ with_text key text pairs
added_where key text pairs is = grind (arith, is, added key text pairs)

-- ---- the texts of a store are small enough to be given

-- the text under a key is one of them
pub found_small : (key : List ℕ) (pairs : List Pair) → IsTrue (list_all is_small_pair pairs) → IsTrue (is_found (found_answer (text_under key pairs)))
found_small key [] small = grind arith
found_small key (p ∷ ps) small = by (bytes_eq p.key key) refl (found_small key ps)
  where
    by : (b : Bool) → bytes_eq p.key key ≡ b → (IsTrue (list_all is_small_pair ps) → IsTrue (is_found (found_answer (text_under key ps)))) → IsTrue (is_found (found_answer (text_under key (p ∷ ps))))
    by true is rest = grind (arith, is, small)
    by false is rest = grind (arith, is, small, rest)

pub copy_small : (key copy : List ℕ) (pairs : List Pair) → Some copy ≡ text_under key pairs → IsTrue (list_all is_small_pair pairs) → IsTrue (is_small copy)
copy_small key copy pairs is small = grind (arith, is, found_small key pairs small)

pub small_with_text : (key text : List ℕ) (pairs : List Pair) → IsTrue (is_small text) → IsTrue (list_all is_small_pair pairs)
    → IsTrue (list_all is_small_pair (with_text key text pairs))
small_with_text key text [] fits small = grind (arith, fits)
small_with_text key text (p ∷ ps) fits small = by (bytes_eq p.key key) refl (small_with_text key text ps fits)
  where
    by : (b : Bool) → bytes_eq p.key key ≡ b → (IsTrue (list_all is_small_pair ps) → IsTrue (list_all is_small_pair (with_text key text ps))) → IsTrue (list_all is_small_pair (with_text key text (p ∷ ps)))
    by true is rest = grind (arith, is, fits, small)
    by false is rest = grind (arith, is, fits, small, rest)

-- a text that is kept isn't refused for its length
pub small_where_kept : (key text : List ℕ) (pairs : List Pair) → refusal key text pairs ≡ None → IsTrue (is_small text)
small_where_kept key text pairs is = grind (arith, is)

pub kept_small : (key text : List ℕ) (old new : List Pair) (result : Result Unit Memory) → IsTrue (list_all is_small_pair old)
    → refusal key text old ≡ None → OnOk result (new ≡ with_text key text old) → OnErr result (new ≡ old)
    → IsTrue (list_all is_small_pair new)
kept_small key text old new (Ok done) small is kept same =
    rw kept (small_with_text key text old (small_where_kept key text old is) small)
kept_small key text old new (Err e) small is kept same = rw same small

-- a refusal is for one of three reasons
pub keeps_or_refuses : (key text : List ℕ) (pairs : List Pair) → IsTrue (is_keeping (kept_answer (refusal key text pairs)))
keeps_or_refuses key text pairs = grind arith
