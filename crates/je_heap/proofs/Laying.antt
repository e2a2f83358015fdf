-- Objects whose slots stand in one row: what is read of them, and what a write and an object more change.
use Rattle.std.proofs.Common.{◌≡◌, ◌<◌, ◌≤◌, ◌+◌, ◌-◌, ℕ, zero, suc, List, [], ◌∷◌, ◌++◌, length, map, take, drop, Some, None, refl, sym, ◌∙◌, ap, subst, true≢false, arith}
use Rattle.std.specs.Prelude.{slice_get, slice_set, slice_index_or, option_map, IsSome}
use Rattle.std.proofs.Math.Seq.{take-length, take-set-lt, drop-append_seam}
use Rattle.std.proofs.Math.ListN.{drop_of_length-le}
use Rattle.std.specs.List.{flat_map}
use Rattle.std.proofs.lemmas.List.{take-append-drop, drop-drop, length-map, length-append, length-set, length-drop, length-take-le, map-append, drop-set-lt, drop-set-add, take-set-le, take-append-le, drop-append-le, get_or_past}
use Rattle.std.proofs.lemmas.Option.{slice_get-map, none-some, same_Some, slice_get_past, slice_get_read}
use Rattle.je_core.specs.declared.value.Value.{Value}
use Rattle.je_java.specs.World.{slots_of, with_slots, slot_in, slot_of, with_slot_in, with_slot}
use Rattle.je_heap.specs.declared.entry.Entry.{Entry}
use Rattle.je_heap.specs.declared.entry.Kind.{Kind}
use Rattle.je_heap.specs.declared.entry.Kind.TheVariants.{Instance, Array, Text, Builder, Row, Cap}
use Rattle.je_heap.specs.way.Laid.{MayHave, object_of, object_in, AreLaid}

-- ---- lists

get-take : {A : Type 0} (xs : List A) (n m : ℕ) → m < n → slice_get (take n xs) m ≡ slice_get xs m
get-take xs zero m lt = absurd (omega arith)
get-take [] (suc n) m lt = refl
get-take (x ∷ xs) (suc n) zero lt = refl
get-take (x ∷ xs) (suc n) (suc m) lt = get-take xs n m (omega arith)

get-drop : {A : Type 0} (xs : List A) (n m k : ℕ) → k ≡ n + m → slice_get (drop n xs) m ≡ slice_get xs k
get-drop xs zero m k e = let at : k ≡ m = omega arith in rw at refl
get-drop [] (suc n) m k e = refl
get-drop (x ∷ xs) (suc n) m zero e = absurd (omega arith)
get-drop (x ∷ xs) (suc n) m (suc k) e = get-drop xs n m k (omega arith)

take-short : {A : Type 0} (xs : List A) (n : ℕ) → length (take n xs) ≤ n
take-short xs zero = omega arith
take-short [] (suc n) = omega arith
take-short (x ∷ xs) (suc n) = let h = take-short xs n in omega arith

pub take-whole : {A : Type 0} (xs : List A) (first len : ℕ) → first + len ≤ length xs → length (take len (drop first xs)) ≡ len
take-whole xs first len le = let left = length-drop first xs in length-take-le len (drop first xs) (omega arith)

-- what stands before a place, or behind it, a write there leaves
part-before : {A : Type 0} (xs : List A) (first len n : ℕ) (v : A) → first + len ≤ n → take len (drop first (slice_set xs n v)) ≡ take len (drop first xs)
part-before xs first len n v le =
    let behind : first + (n - first) ≡ n = omega arith in
    subst (λ m. take len (drop first (slice_set xs m v)) ≡ take len (drop first xs)) behind
    (ap (take len) (drop-set-add first xs (n - first) v) ∙ take-set-le len (drop first xs) (n - first) v (omega arith))

part-round : {A : Type 0} (xs : List A) (first len at n : ℕ) (v : A) → n ≡ first + at → at < len →
    take len (drop first (slice_set xs n v)) ≡ slice_set (take len (drop first xs)) at v
part-round xs first len at n v e lt =
    subst (λ m. take len (drop first (slice_set xs m v)) ≡ slice_set (take len (drop first xs)) at v) (sym e)
    (ap (take len) (drop-set-add first xs at v) ∙ take-set-lt len (drop first xs) at v lt)

part-with : {A : Type 0} (xs ys : List A) (first len : ℕ) → first + len ≤ length xs → take len (drop first (xs ++ ys)) ≡ take len (drop first xs)
part-with xs ys first len le =
    let left = length-drop first xs in
    ap (take len) (drop-append-le first xs ys (omega arith)) ∙ take-append-le len (drop first xs) ys (omega arith)

-- ---- entries

pub entry-read : (es : List Entry) (id : ℕ) (e : Entry) → id < length es → e ≡ slice_index_or es id e → slice_get es id ≡ Some e
entry-read es id e lt is = slice_get_read es (length es) id e refl lt is

pub object-read : (row : List Value) (texts : List (List ℕ)) (es : List Entry) (id : ℕ) (e : Entry) → slice_get es id ≡ Some e →
    slice_get (map (object_in row texts) es) id ≡ Some (object_in row texts e)
object-read row texts es id e is = slice_get-map (object_in row texts) es id ∙ ap (option_map (object_in row texts)) is

slots-of : (k : Kind) (n : ℕ) (vs : List Value) (us : List ℕ) → MayHave k n → slots_of (object_of k (take n vs) us) ≡ take n vs
slots-of (Instance class) n vs us may = refl
slots-of (Array element) n vs us may = refl
slots-of Text n vs us may = rw may refl
slots-of Builder n vs us may = rw may refl
slots-of (Row class) n vs us may = refl
slots-of (Cap device class) n vs us may = rw may refl

with-slots : (k : Kind) (vs ws : List Value) (us : List ℕ) → with_slots (object_of k vs us) ws ≡ object_of k ws us
with-slots (Instance class) vs ws us = refl
with-slots (Array element) vs ws us = refl
with-slots Text vs ws us = refl
with-slots Builder vs ws us = refl
with-slots (Row class) vs ws us = refl
with-slots (Cap device class) vs ws us = refl

slots-in : (row : List Value) (texts : List (List ℕ)) (e : Entry) → MayHave e.kind e.len → slots_of (object_in row texts e) ≡ take e.len (drop e.first row)
slots-in row texts e may = slots-of e.kind e.len (drop e.first row) (slice_index_or texts e.text []) may

-- the end of an entry
pub laid-within : (from end id : ℕ) (es : List Entry) (e : Entry) → AreLaid from es end → slice_get es id ≡ Some e →
    (from ≤ e.first) × (e.first + e.len ≤ end) × MayHave e.kind e.len
laid-within from end id [] e l is = absurd (none-some e is)
laid-within from end zero (f ∷ es) e l is =
    let first = l.0 in
    let rest = laid-from (from + f.len) end es l.2 in
    rw (sym (same_Some f e is)) (omega arith, omega arith, l.1) where
      laid-from : (from end : ℕ) (es : List Entry) → AreLaid from es end → from ≤ end
      laid-from from end [] l = omega arith
      laid-from from end (f ∷ es) l = let h = laid-from (from + f.len) end es l.2 in omega arith
laid-within from end (suc id) (f ∷ es) e l is =
    let h = laid-within (from + f.len) end id es e l.2 is in
    let a = h.0 in (omega arith, h.1, h.2)

-- ---- reading

pub no_object : (row : List Value) (texts : List (List ℕ)) (es : List Entry) (id at : ℕ) → length es ≤ id → None ≡ slot_of (map (object_in row texts) es) id at
no_object row texts es id at past =
    sym (ap (λ o. slot_in o at) (slice_get-map (object_in row texts) es id ∙ ap (option_map (object_in row texts)) (slice_get_past es id past)))

slot-is : (row : List Value) (texts : List (List ℕ)) (es : List Entry) (id at : ℕ) (e : Entry) → slice_get es id ≡ Some e → MayHave e.kind e.len →
    slot_of (map (object_in row texts) es) id at ≡ slice_get (take e.len (drop e.first row)) at
slot-is row texts es id at e is may = ap (λ o. slot_in o at) (object-read row texts es id e is) ∙ ap (λ vs. slice_get vs at) (slots-in row texts e may)

pub slot_of_entry : (row : List Value) (texts : List (List ℕ)) (es : List Entry) (id at : ℕ) {e : Entry} → AreLaid 0 es (length row) → id < length es →
    e ≡ slice_index_or es id e → at < e.len → slice_get row (e.first + at) ≡ slot_of (map (object_in row texts) es) id at
slot_of_entry row texts es id at {e} l lt is short =
    let there = entry-read es id e lt is in
    let may = (laid-within 0 (length row) id es e l there).2 in
    sym (slot-is row texts es id at e there may ∙ (get-take (drop e.first row) e.len at short ∙ get-drop row e.first at (e.first + at) refl))

pub no_slot : (row : List Value) (texts : List (List ℕ)) (es : List Entry) (id at : ℕ) {e : Entry} → AreLaid 0 es (length row) → id < length es →
    e ≡ slice_index_or es id e → e.len ≤ at → None ≡ slot_of (map (object_in row texts) es) id at
no_slot row texts es id at {e} l lt is past =
    let there = entry-read es id e lt is in
    let may = (laid-within 0 (length row) id es e l there).2 in
    let short = take-short (drop e.first row) e.len in
    sym (slot-is row texts es id at e there may ∙ slice_get_past (take e.len (drop e.first row)) at (omega arith))

-- ---- a write

pub there : (row : List Value) (texts : List (List ℕ)) (es : List Entry) (id at : ℕ) → IsSome (slot_of (map (object_in row texts) es) id at) → id < length es
there row texts [] id at some = absurd (true≢false (sym some))
there row texts (e ∷ es) zero at some = omega arith
there row texts (e ∷ es) (suc id) at some = let h = there row texts es id at some in omega arith

some-within : {A : Type 0} (xs : List A) (n : ℕ) → IsSome (slice_get xs n) → n < length xs
some-within [] n some = absurd (true≢false (sym some))
some-within (x ∷ xs) zero some = omega arith
some-within (x ∷ xs) (suc n) some = let h = some-within xs n some in omega arith

slot-there : (row : List Value) (texts : List (List ℕ)) (es : List Entry) (id at : ℕ) (e : Entry) → slice_get es id ≡ Some e → MayHave e.kind e.len →
    IsSome (slot_of (map (object_in row texts) es) id at) → at < e.len
slot-there row texts es id at e is may some =
    let short = take-short (drop e.first row) e.len in
    let lt = some-within (take e.len (drop e.first row)) at (subst (λ o. IsSome o) (slot-is row texts es id at e is may) some) in omega arith

pub within : (row : List Value) (texts : List (List ℕ)) (es : List Entry) (id at : ℕ) {e : Entry} → AreLaid 0 es (length row) →
    IsSome (slot_of (map (object_in row texts) es) id at) → e ≡ slice_index_or es id e → e.first + at < length row
within row texts es id at {e} l some is =
    let is' = entry-read es id e (there row texts es id at some) is in
    let laid = laid-within 0 (length row) id es e l is' in
    let end = laid.1 in
    let lt = slot-there row texts es id at e is' laid.2 some in omega arith

-- objects behind a place
rest-same : (row : List Value) (texts : List (List ℕ)) (from end n : ℕ) (v : Value) (es : List Entry) → AreLaid from es end → n < from →
    map (object_in (slice_set row n v) texts) es ≡ map (object_in row texts) es
rest-same row texts from end n v [] l lt = refl
rest-same row texts from end n v (e ∷ es) l lt =
    let first = l.0 in
    let here : object_in (slice_set row n v) texts e ≡ object_in row texts e =
    ap (λ t. object_of e.kind (take e.len t) (slice_index_or texts e.text [])) (drop-set-lt e.first row n v (omega arith)) in
    let h = rest-same row texts (from + e.len) end n v es l.2 (omega arith) in
    rw here (rw h refl)

write : (row : List Value) (texts : List (List ℕ)) (from end id at n : ℕ) (v : Value) (es : List Entry) (e : Entry) → AreLaid from es end →
    slice_get es id ≡ Some e → at < e.len → n ≡ e.first + at →
    map (object_in (slice_set row n v) texts) es ≡
    slice_set (map (object_in row texts) es) id (object_of e.kind (slice_set (take e.len (drop e.first row)) at v) (slice_index_or texts e.text []))
write row texts from end id at n v [] e l is lt p = absurd (none-some e is)
write row texts from end zero at n v (f ∷ es) e l is lt p =
    let same = same_Some f e is in
    let first = l.0 in
    let firsts : f.first ≡ e.first = ap (λ (x : Entry). x.first) same in
    let lens : f.len ≡ e.len = ap (λ (x : Entry). x.len) same in
    let h = rest-same row texts (from + f.len) end n v es l.2 (omega arith) in
    rw h (rw same (ap (λ t. object_of e.kind t (slice_index_or texts e.text []) ∷ map (object_in row texts) es) (part-round row e.first e.len at n v p lt)))
write row texts from end (suc id) at n v (f ∷ es) e l is lt p =
    let first = l.0 in
    let behind = (laid-within (from + f.len) end id es e l.2 is).0 in
    let here : object_in (slice_set row n v) texts f ≡ object_in row texts f =
    ap (λ t. object_of f.kind t (slice_index_or texts f.text [])) (part-before row f.first f.len n v (omega arith)) in
    rw here (ap (λ t. object_in row texts f ∷ t) (write row texts (from + f.len) end id at n v es e l.2 is lt p))

pub with_slot_of_entry : (row : List Value) (texts : List (List ℕ)) (es : List Entry) (id at : ℕ) (v : Value) {e : Entry} → AreLaid 0 es (length row) →
    IsSome (slot_of (map (object_in row texts) es) id at) → e ≡ slice_index_or es id e →
    map (object_in (slice_set row (e.first + at) v) texts) es ≡ with_slot (map (object_in row texts) es) id at v
with_slot_of_entry row texts es id at v {e} l some is =
    let is' = entry-read es id e (there row texts es id at some) is in
    let may = (laid-within 0 (length row) id es e l is').2 in
    let lt = slot-there row texts es id at e is' may some in
    let own = take e.len (drop e.first row) in
    let units = slice_index_or texts e.text [] in
    write row texts 0 (length row) id at (e.first + at) v es e l is' lt refl ∙
    sym (ap (with_slot_in (map (object_in row texts) es) id at v) (object-read row texts es id e is') ∙
    ap (slice_set (map (object_in row texts) es) id) (ap (λ t. with_slots (object_in row texts e) (slice_set t at v)) (slots-in row texts e may) ∙
    with-slots e.kind own (slice_set own at v) units))

pub same_length : (row : List Value) (es : List Entry) (n : ℕ) (v : Value) → AreLaid 0 es (length row) → AreLaid 0 es (length (slice_set row n v))
same_length row es n v l = subst (AreLaid 0 es) (sym (length-set row n v)) l

-- ---- an object more

pub old-same : (row vs : List Value) (texts : List (List ℕ)) (from end : ℕ) (es : List Entry) → AreLaid from es end → end ≤ length row →
    map (object_in (row ++ vs) texts) es ≡ map (object_in row texts) es
old-same row vs texts from end [] l le = refl
old-same row vs texts from end (e ∷ es) l le =
    let first = l.0 in
    let whole = (laid-within from end 0 (e ∷ es) e l refl).1 in
    let here : object_in (row ++ vs) texts e ≡ object_in row texts e =
    ap (λ t. object_of e.kind t (slice_index_or texts e.text [])) (part-with row vs e.first e.len (omega arith)) in
    rw here (ap (λ t. object_in row texts e ∷ t) (old-same row vs texts (from + e.len) end es l.2 le))

pub with_slots_object : (row vs : List Value) (texts : List (List ℕ)) (es : List Entry) (kind : Kind) → AreLaid 0 es (length row) →
    map (object_in (row ++ vs) texts) (es ++ record { kind = kind; first = length row; len = length vs; text = length texts } ∷ []) ≡
    map (object_in row texts) es ++ object_of kind vs [] ∷ []
with_slots_object row vs texts es kind l =
    let e : Entry = record { kind = kind; first = length row; len = length vs; text = length texts } in
    let last : object_in (row ++ vs) texts e ≡ object_of kind vs [] =
    ap (λ t. object_of kind t (slice_index_or texts (length texts) [])) (ap (take (length vs)) (drop-append_seam row vs) ∙ take-length vs) ∙
    ap (object_of kind vs) (get_or_past texts (length texts) [] (omega arith)) in
    map-append (object_in (row ++ vs) texts) es (e ∷ []) ∙ rw (old-same row vs texts 0 (length row) es l (omega arith)) (rw last refl)

pub laid-on : (from end len text : ℕ) (es : List Entry) (kind : Kind) → AreLaid from es end → MayHave kind len →
    AreLaid from (es ++ record { kind = kind; first = end; len = len; text = text } ∷ []) (end + len)
laid-on from end len text [] kind l may = (sym l, may, ap (λ n. n + len) l)
laid-on from end len text (e ∷ es) kind l may = (l.0, l.1, laid-on (from + e.len) end len text es kind l.2 may)

pub laid_with : (row vs : List Value) (es : List Entry) (kind : Kind) (text : ℕ) → AreLaid 0 es (length row) → MayHave kind (length vs) →
    AreLaid 0 (es ++ record { kind = kind; first = length row; len = length vs; text = text } ∷ []) (length (row ++ vs))
laid_with row vs es kind text l may =
    subst (AreLaid 0 (es ++ record { kind = kind; first = length row; len = length vs; text = text } ∷ [])) (sym (length-append row vs))
    (laid-on 0 (length row) (length vs) text es kind l may)

-- ---- the first objects alone

pub laid-front : (from end n : ℕ) (es : List Entry) (e : Entry) → AreLaid from es end → slice_get es n ≡ Some e → AreLaid from (take n es) e.first
laid-front from end n [] e l is = absurd (none-some e is)
laid-front from end zero (f ∷ es) e l is = sym l.0 ∙ ap (λ (x : Entry). x.first) (same_Some f e is)
laid-front from end (suc n) (f ∷ es) e l is = (l.0, l.1, laid-front (from + f.len) end n es e l.2 is)

pub first_within : (row : List Value) (es : List Entry) (n : ℕ) {e : Entry} → AreLaid 0 es (length row) → n < length es → e ≡ slice_index_or es n e → e.first ≤ length row
first_within row es n {e} l lt is = let end = (laid-within 0 (length row) n es e l (entry-read es n e lt is)).1 in omega arith

pub kept_laid : (row : List Value) (es : List Entry) (n : ℕ) {e : Entry} → AreLaid 0 es (length row) → n < length es → e ≡ slice_index_or es n e →
    AreLaid 0 (take n es) (length (take e.first row))
kept_laid row es n {e} l lt is =
    subst (AreLaid 0 (take n es)) (sym (length-take-le e.first row (first_within row es n l lt is))) (laid-front 0 (length row) n es e l (entry-read es n e lt is))

-- ---- all slots

slots-from : (row : List Value) (texts : List (List ℕ)) (from : ℕ) (es : List Entry) → AreLaid from es (length row) →
    flat_map slots_of (map (object_in row texts) es) ≡ drop from row
slots-from row texts from [] l = sym (drop_of_length-le row (omega arith))
slots-from row texts from (e ∷ es) l =
    let first = l.0 in
    let own : slots_of (object_in row texts e) ≡ take e.len (drop from row) = slots-in row texts e l.1 ∙ ap (λ n. take e.len (drop n row)) first in
    rw own (rw (slots-from row texts (from + e.len) es l.2) (rw (sym (drop-drop e.len from row)) (take-append-drop e.len (drop from row))))

pub whole_row : (row : List Value) (texts : List (List ℕ)) (es : List Entry) → AreLaid 0 es (length row) → row ≡ flat_map slots_of (map (object_in row texts) es)
whole_row row texts es l = sym (slots-from row texts 0 es l)

pub as_many : (row : List Value) (texts : List (List ℕ)) (es : List Entry) → length es ≡ length (map (object_in row texts) es)
as_many row texts es = sym (length-map es (object_in row texts))
